use Rattle.schema_tree.proofs.Groups.{group_parts_stand, groups_stand}
use Rattle.schema_tree.proofs.tree.SchemaTree.linked.Goals as goal

pub returns-clause-stand : goal.returns-clause-stand
returns-clause-stand c = groups_stand

pub returns-clause-parts : goal.returns-clause-parts
returns-clause-parts c = group_parts_stand

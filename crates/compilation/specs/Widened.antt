-- A fault of the tables, and a host that is full, as a fault of loading.
use Rattle.compilation.specs.declared.fault.HostFull.{HostFull}
use Rattle.compilation.specs.declared.fault.LoadFault.{LoadFault}
use Rattle.compilation.specs.declared.fault.LoadFault.TheVariants.{ProgramsFull, RulesFull, TreeFull}
use Rattle.schema_tree.specs.declared.fault.TreeFault.{TreeFault}
use Rattle.schema_tree.specs.declared.fault.TreeFault.TheVariants as tree_fault

abbrev pub widen : TreeFault → LoadFault
widen (tree_fault.TreeFull p) = TreeFull p
widen (tree_fault.RulesFull p) = RulesFull p

abbrev pub host_full : HostFull → LoadFault
host_full h = ProgramsFull h.place

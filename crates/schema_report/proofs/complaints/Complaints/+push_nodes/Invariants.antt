use Rattle.std.proofs.Common.{◌+◌, ◌*◌}
use Rattle.schema_report.proofs.complaints.Complaints.+push_nodes.Given as goal

abbrev pub decreases-push_group : goal.decreases-push_group
decreases-push_group l = 2 * l.levels + 1

abbrev pub decreases-push_node : goal.decreases-push_node
decreases-push_node l = 2 * l.levels

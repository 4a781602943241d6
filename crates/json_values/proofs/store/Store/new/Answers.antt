use Rattle.std.proofs.Common.{arith}
use Rattle.json_values.specs.Zeros.{zeros}
use Rattle.json_values.proofs.store.Store.new.Goals as goal

pub invariant_of-result : goal.invariant_of-result
unfolding zeros
invariant_of-result c = record {
  long = c.in_ok-bytes.ensures.len;
  within = omega arith;
  blank = c.in_ok-bytes.ensures.items_if_clones_equal (λ y e. e);
}

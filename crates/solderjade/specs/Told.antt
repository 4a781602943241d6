-- What a person is told of a failure.
use Rattle.std.specs.Prelude.{ℕ, List, codes}
use Rattle.solderjade.specs.declared.failure.Failure.{Failure}
use Rattle.solderjade.specs.declared.failure.Failure.TheVariants.{Usage, Memory, Io}

-- `usage` tells what the program can do
abbrev pub told : List ℕ → Failure → List ℕ
told usage Usage = usage
told usage Memory = codes "solderjade: out of memory"
told usage Io = codes "solderjade: cannot read or write"

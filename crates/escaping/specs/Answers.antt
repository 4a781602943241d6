-- What the calls answer.
use Rattle.std.specs.Prelude.{ℕ, ◌^◌, cond, Some, None, Ok, Err, Option, Result, nat_le, nat_lt}

-- a number, where 64 bits hold it
abbrev pub counted : ℕ → Option ℕ
counted n = cond (nat_lt n (2 ^ 64)) (Some n) None

-- how many bytes were written, all of them or none
abbrev pub wrote : {E : Type 0} → ℕ → ℕ → E → Result ℕ E
wrote n room short = cond (nat_le n room) (Ok n) (Err short)

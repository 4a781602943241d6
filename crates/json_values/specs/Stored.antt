-- What a store holds.
use Rattle.std.specs.Prelude.{◌≡◌, ◌-◌, ◌≤◌, drop, vec_len}
use Rattle.json_values.specs.declared.store.Store.TheInside.{Inside}
use Rattle.json_values.specs.Zeros.{zeros}

-- the texts stand at the front of the 65,535 bytes, and zeros behind them
pub record Kept (s : Inside) : Type 0 where
  pub long : vec_len s.bytes ≡ 65535
  pub within : s.len ≤ 65535
  pub blank : drop s.len s.bytes.items ≡ zeros (65535 - s.len)

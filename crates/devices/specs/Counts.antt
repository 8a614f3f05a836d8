-- The parts of a counted device.
use Rattle.std.specs.Prelude.{ℕ}
use Rattle.devices.specs.declared.device.Counted.{Counted}

-- the reader or the writer itself
abbrev pub inner_of : {T : Type 0} → Counted T → T
inner_of c = c.inner

-- how many of its reads and writes failed
abbrev pub failures_of : {T : Type 0} → Counted T → ℕ
failures_of c = c.failures

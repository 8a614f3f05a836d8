-- What is written begins with what was written before.
use Rattle.std.proofs.Common.{List, ℕ, Option, arith, subst, sym, length}
use Rattle.std.proofs.KnownBytes.{Appends-nil}
use Rattle.std.proofs.Math.Seq.{take-length}
use Rattle.std.specs.Io.KnownBytes.{Appends}
use Rattle.devices.specs.Devices.{AppendsBeginning}

pub begins_none : (a : Option (List ℕ)) (s : List ℕ) → AppendsBeginning a a s
begins_none a s = (0, omega arith, Appends-nil a)

pub all_begins : (old new : Option (List ℕ)) (bytes : List ℕ) → Appends old new bytes → AppendsBeginning old new bytes
all_begins old new bytes h = (length bytes, omega arith, subst (Appends old new) (sym (take-length bytes)) h)

use Rattle.std.proofs.Common.{◌≡◌, ◌++◌, drop, false, string_bytes, ℕ, List}
use Rattle.std.specs.Prelude.{option_map}
use Rattle.table_pages.specs.Headers.{key}
use Rattle.table_pages.proofs.headers.key.Given as goal

abbrev pub invariant-loop-byte : goal.invariant-loop-byte
invariant-loop-byte l = option_map (λ (k : List ℕ). string_bytes l.key ++ k) (key l.parted (drop l.byte-index l.name))
    ≡ key false l.name

-- Tests of an archive written by hand that ask for what stands at other numbers; those of one record are of
-- record_rules.
use Rattle.std.specs.Prelude.{ℕ, Bool, true, List}
use Rattle.std.specs.List.{list_all}
use Rattle.record_kinds.specs.declared.record.Record.{Record}
use Rattle.record_kinds.specs.declared.record.Record.TheVariants as kind
use Rattle.record_rules.specs.Judged.{all_some, is_apart}
use Rattle.record_rules.specs.Archives.{at}

-- each that stands somewhere
abbrev pub each : {X : Type 0} → (ℕ → X → Bool) → List (ℕ × X) → Bool
each p es = list_all (λ e. all_some (p e.0) (at es e.0)) es

-- an entry has a key of its own
abbrev pub has_own_key : List (ℕ × Record) → ℕ → Record → Bool
has_own_key es n (kind.Entry e) = each (is_apart n e) es
has_own_key es n _ = true

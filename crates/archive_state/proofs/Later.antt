-- Where no record is.
use Rattle.std.proofs.Common.{refl, ◌≡◌, ◌≤◌, ℕ, arith}
use Rattle.std.specs.Prelude.{None, Some, Option}
use Rattle.std.specs.FinMap.{get}
use Rattle.record_kinds.specs.declared.record.Record.{Record}
use Rattle.archive_state.specs.Content.{Content}
use Rattle.archive_state.specs.Sound.{IsSound}

pub none_later : (c : Content) → IsSound c → (n : ℕ) → c.next ≤ n → get c.records n ≡ None
none_later c sound n less = by (get c.records n) refl
  where
    by : (o : Option Record) → get c.records n ≡ o → o ≡ None
    by None q = refl
    by (Some r) q = let number = sound.rules.numbered n r q in absurd (omega (arith, number.1, less))

pub none_where : (o : Option Record) → ((r : Record) → o ≡ Some r → ⊥) → o ≡ None
none_where None h = refl
none_where (Some r) h = absurd (h r refl)

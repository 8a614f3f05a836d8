-- Which archives differ only in what is hidden. Who is living, which entries are open, who owns what and who is in
-- which family are not hidden.
use Rattle.std.specs.Prelude.{ℕ, ◌≡◌, ◌⊎◌, true, Some, IfSome, ℤ}
use Rattle.std.specs.FinMap.{get}
use Rattle.record_kinds.specs.declared.record.Record.{Record}
use Rattle.archive_state.specs.Content.{Content}
use Rattle.masking.specs.Masking.{Judged, Judges, Looks, is_gone, shown_of}

-- nothing stands at the number, or what is gone: an event or a citation of a living person or of a family with a living
-- partner, a citation of such an event, a closed entry, a record of no other kind
abbrev pub IsHiddenAt : Judged → Looks → ℕ → Type 0
IsHiddenAt j look n = IfSome (look n) (λ r. is_gone j look n r ≡ true)

-- two records stand there that differ only in carried lines; of a living person also in names and sex, of an event
-- also in living participants
abbrev pub DifferInHidden : Judged → Looks → Looks → ℕ → Type 0
DifferInHidden j a b n = (r : Record) × (s : Record) × (a n ≡ Some r) × (b n ≡ Some s)
    × (shown_of j n r ≡ shown_of j n s)

-- the same persons are living, the same entries are open, and at each number the archives differ in what is hidden:
-- one may have more numbers than the other, and other receipts and slips
pub record AreAlike (a b : Content) (today : ℤ) : Type 0 where
  pub judged : Judged
  pub first : Judges a.records today judged
  pub second : Judges b.records today judged
  pub alike : (n : ℕ) → (IsHiddenAt judged (get a.records) n × IsHiddenAt judged (get b.records) n)
      ⊎ DifferInHidden judged (get a.records) (get b.records) n

-- Known bytes have one batch of entries.
use Rattle.std.proofs.Common.{
  ◌≡◌,
  ◌∙◌,
  ◌∷◌,
  ◌+◌,
  ℕ,
  List,
  [],
  Option,
  None,
  Some,
  Result,
  Ok,
  Err,
  ap,
  refl,
  sym,
  subst,
}
use Rattle.std.proofs.lemmas.Option.{same_Some}
use Rattle.csv.specs.Machine.{Read, next_record}
use Rattle.csv.specs.Reading.{Reached}
use Rattle.csv.specs.declared.parser.Config.{Config}
use Rattle.csv.specs.declared.parser.State.{State}
use Rattle.record_text.specs.declared.refusal.RefusalKind.{RefusalKind}
use Rattle.commands.specs.declared.entry_row.EntryRow.{EntryRow}
use Rattle.request_csv.specs.Batches.{AreEntries, ReadsBatch, ReadsPlaced, ReadsRow, number_at}
use Rattle.request_csv.specs.Input.{Row}
use Rattle.request_csv.proofs.OnTheWay.{one_entry}

clash : {A G : Type 0} (o : Option A) (a : A) → o ≡ Some a → o ≡ None → G
clash None a e n = absurd cc
clash (Some b) a e n = absurd cc

module _ (cfg : Config) where
  -- all rows of bytes, from a state to where none is left
  same_rows : (more others : List Row) (s sa sb : State) (xs ya yb : List ℕ) → Reached cfg s xs more sa ya
      → next_record cfg sa [] [] ya ≡ None
      → Reached cfg s xs others sb yb → next_record cfg sb [] [] yb ≡ None → more ≡ others
  unfolding Reached
  same_rows [] [] s sa sb xs ya yb h e g f = refl
  same_rows [] (b ∷ others) s sa sb xs ya yb h e g f = clash (next_record cfg s [] [] xs) g.0 g.1 (rw (h.0, h.1) e)
  same_rows (a ∷ more) [] s sa sb xs ya yb h e g f = clash (next_record cfg s [] [] xs) h.0 h.1 (rw (g.0, g.1) f)
  same_rows (a ∷ more) (b ∷ others) s sa sb xs ya yb h e g f =
      let p : g.0 ≡ h.0 = same_Some g.0 h.0 (sym g.1 ∙ h.1) in
      let rest = same_rows more others h.0.1 sa sb h.0.2 ya yb h.3 e
      (subst (λ (q : Read). Reached cfg q.1 q.2 others sb yb) p g.3) f in
      let first : a ≡ b = h.2 ∙ sym (ap (λ (q : Read). q.0) p) ∙ sym g.2 in
      ap (λ (r : Row). r ∷ more) first ∙ ap (λ (rs : List Row). b ∷ rs) rest

-- the entry of an outcome, or another where it has none
abbrev entry_or : EntryRow → Result EntryRow RefusalKind → EntryRow
entry_or other (Ok entry) = entry
entry_or other (Err kind) = other

module _ (numbers : List (Option ℕ)) where
  same_placed : (number : Option ℕ) (row : Row) (a b : EntryRow) → ReadsPlaced number row (Ok a)
      → ReadsPlaced number row (Ok b) → a ≡ b
  same_placed number row a b h g =
      let same : g.0 ≡ h.0 = same_Some g.0 h.0 (sym g.1 ∙ h.1) in
      ap (entry_or a) (one_entry h.0 (Ok a) (Ok b) h.2 (subst (λ (own : Row). ReadsRow own (Ok b)) same g.2))

  same_entries : (at : ℕ) (rows : List Row) (more others : List EntryRow) → AreEntries numbers at rows more
      → AreEntries numbers at rows others → more ≡ others
  same_entries at [] [] [] h g = refl
  same_entries at [] [] (b ∷ others) h g = absurd g
  same_entries at [] (a ∷ more) others h g = absurd h
  same_entries at (row ∷ rows) [] others h g = absurd h
  same_entries at (row ∷ rows) (a ∷ more) [] h g = absurd g
  same_entries at (row ∷ rows) (a ∷ more) (b ∷ others) h g =
      ap (λ (e : EntryRow). e ∷ more) (same_placed (number_at numbers at) row a b h.0 g.0)
      ∙ ap (λ (es : List EntryRow). b ∷ es) (same_entries (at + 1) rows more others h.1 g.1)

  pub one_batch : (bytes : List ℕ) (rows others : List Row) (a b : List EntryRow)
      → ReadsBatch numbers (Some bytes) rows a → ReadsBatch numbers (Some bytes) others b → a ≡ b
  one_batch bytes rows others a b x y =
      let m = x.0 in
      let n = y.0 in
      let same : others ≡ rows = same_rows _ others rows _ n.0 m.0 _ n.1 m.1 n.2 n.3 m.2 m.3 in
      same_entries 0 rows a b x.1 (subst (λ (rs : List Row). AreEntries numbers 0 rs b) same y.1)

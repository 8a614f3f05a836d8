-- What is at each number when what is read anew is written.
use Rattle.std.proofs.Common.{
  ◌≡◌,
  ℕ,
  true,
  false,
  List,
  [],
  ◌∷◌,
  map,
  refl,
  sym,
  ap,
  ◌∙◌,
  cond,
  subst,
}
use Rattle.std.specs.Prelude.{◌==◌, ◌||◌}
use Rattle.std.specs.List.{flat_map, list_any}
use Rattle.stored_lines.specs.Line.{Label}
use Rattle.records.specs.Stored.{stored}
use Rattle.record_shapes.specs.Lists.{EachOf}
use Rattle.older_archives.specs.Anew.{OldChange, anew, change_anew}
use Rattle.older_archives.specs.Old.{OldRecord, WasKeptAs}
use Rattle.store_tables.specs.Rows.{
  Rows,
  lines_in_side,
  lines_of,
  slip_lines_of,
}
use Rattle.store_rows.specs.Meaning.{change_lines}
use Rattle.store_rows.specs.Sides.{SideLine}
use Rattle.store_rows.proofs.Puts.{line_put}
use Rattle.store_rows.proofs.Slips as slips
use Rattle.older_archives.specs.Meaning.{IsOldChange, old_change_lines}
use Rattle.older_archives.specs.Reading.{AreChangesAnewOf}
use Rattle.older_archives.specs.Renewing.{
  IsAnewOf,
  RecordAnew,
  SlipAnew,
  with_lines_anew,
  with_record_anew,
  with_records_anew,
  with_slip_anew,
  with_slips_anew,
}
use Rattle.older_archives.proofs.Rest.{later_lines, later_packs}
use Rattle.list_laws.proofs.Numbers.{it}

-- ---- items of numbers, one after the other: what waits for the first of a number is got by it, and is kept
module _ {A : Type 0} (key : A → ℕ) (E : A → Type 0) (step : A → Rows → Rows) (P Q : Rows → Type 0) (n : ℕ)
    (keeps : (a : A) (now : Rows) → E a → P now → P (step a now))
    (gets : (a : A) (now : Rows) → E a → (key a == n) ≡ true → Q now → P (step a now))
    (waits : (a : A) (now : Rows) → E a → (key a == n) ≡ false → Q now → Q (step a now))
    (all : List A → Rows → Rows) (none : (now : Rows) → all [] now ≡ now)
    (more : (a : A) (as' : List A) (now : Rows) → all (a ∷ as') now ≡ all as' (step a now)) where
  kept_by_all : (as' : List A) (now : Rows) → EachOf E as' → P now → P (all as' now)
  kept_by_all [] now each here = subst P (sym (none now)) here
  kept_by_all (a ∷ as') now each here =
      subst P (sym (more a as' now)) (kept_by_all as' (step a now) each.1 (keeps a now each.0 here))

  pub got_by_all : (as' : List A) (now : Rows) → EachOf E as' → list_any (λ a. key a == n) as' ≡ true → Q now
      → P (all as' now)
  got_by_all [] now each some here = absurd cc
  got_by_all (a ∷ as') now each some here =
      subst P (sym (more a as' now))
      (elim (key a == n) as (λ b. (key a == n) ≡ b → (b || list_any (λ x. key x == n) as') ≡ true
      → P (all as' (step a now))) [
        | true ↦ λ e _. kept_by_all as' (step a now) each.1 (gets a now each.0 e here)
        | false ↦ λ e left. got_by_all as' (step a now) each.1 left (waits a now each.0 e here)
      ] refl some)

-- ---- the lines of a record
module _ (lines : ℕ → List (ℕ × Label)) (n : ℕ) (o : OldRecord) (was : WasKeptAs (lines n) o) where
  abbrev IsRead : RecordAnew → Type 0
  IsRead r = IsAnewOf (lines r.number) r.anew

  at_it : (r : RecordAnew) → IsRead r → (r.number == n) ≡ true → IsAnewOf (lines n) r.anew
  at_it r is e = subst (λ k. IsAnewOf (lines k) r.anew) (it r.number n e) is

  lines_after : (r : RecordAnew) (now : Rows) → lines_of n (with_record_anew r now)
      ≡ cond (r.number == n) r.anew.lines (lines_of n now)
  lines_after r now =
      lines_under (with_record_anew r now) (with_lines_anew r now)
      (later_lines r.number r.anew (with_lines_anew r now)) (later_packs r.number r.anew (with_lines_anew r now))
      ∙ line_put n r.number r.anew.lines now
    where
      lines_under : (a b : Rows) → a.lines ≡ b.lines → a.packs ≡ b.packs → lines_of n a ≡ lines_of n b
      lines_under a b e f i = lines_of n (record b { lines = e i; packs = f i })

  abbrev HasLines : Rows → Type 0
  HasLines now = lines_of n now ≡ stored (anew o)

  abbrev IsAny : Rows → Type 0
  IsAny now = Unit {0}

  lines_kept : (r : RecordAnew) (now : Rows) → IsRead r → HasLines now → HasLines (with_record_anew r now)
  lines_kept r now is here = lines_after r now
      ∙ (elim (r.number == n) as (λ b. (r.number == n) ≡ b → cond b r.anew.lines (lines_of n now) ≡ stored (anew o)) [
        | true ↦ λ e. (at_it r is e).kept o was
        | false ↦ λ e. here
      ] refl)

  lines_got : (r : RecordAnew) (now : Rows) → IsRead r → (r.number == n) ≡ true → IsAny now
      → HasLines (with_record_anew r now)
  lines_got r now is e any = lines_after r now ∙ ap (λ b. cond b r.anew.lines (lines_of n now)) e
      ∙ (at_it r is e).kept o was

  pub lines_written : (rs : List RecordAnew) (now : Rows) → EachOf IsRead rs
      → list_any (λ (r : RecordAnew). r.number == n) rs ≡ true
      → lines_of n (with_records_anew rs now) ≡ stored (anew o)
  lines_written rs now each some =
      got_by_all (λ (r : RecordAnew). r.number) IsRead with_record_anew HasLines IsAny n lines_kept lines_got
      (λ r k is e any. tt) with_records_anew (λ _. refl) (λ _ _ _. refl) rs now each some tt

-- ---- the lines of a slip
module _ (lines : ℕ → List SideLine) (n : ℕ) (cs : List OldChange) (were : EachOf IsOldChange cs)
    (was : lines n ≡ flat_map old_change_lines cs) where
  abbrev IsSlipRead : SlipAnew → Type 0
  IsSlipRead s = AreChangesAnewOf (lines s.number) s.sides

  slip_it : (s : SlipAnew) → IsSlipRead s → (s.number == n) ≡ true → AreChangesAnewOf (lines n) s.sides
  slip_it s is e = subst (λ k. AreChangesAnewOf (lines k) s.sides) (it s.number n e) is

  abbrev HasSlip : Rows → Type 0
  HasSlip now = slip_lines_of n now ≡ flat_map change_lines (map change_anew cs)

  abbrev AnySlip : Rows → Type 0
  AnySlip now = Unit {0}

  slip_kept : (s : SlipAnew) (now : Rows) → IsSlipRead s → HasSlip now → HasSlip (with_slip_anew s now)
  slip_kept s now is here = slips.sides_put n s.number s.sides now
      ∙ (elim (s.number == n) as (λ b. (s.number == n) ≡ b → cond b (flat_map lines_in_side s.sides)
      (slip_lines_of n now) ≡ flat_map change_lines (map change_anew cs)) [
        | true ↦ λ e. slip_it s is e cs were was
        | false ↦ λ e. here
      ] refl)

  slip_got : (s : SlipAnew) (now : Rows) → IsSlipRead s → (s.number == n) ≡ true → AnySlip now
      → HasSlip (with_slip_anew s now)
  slip_got s now is e any = slips.sides_put n s.number s.sides now
      ∙ ap (λ b. cond b (flat_map lines_in_side s.sides) (slip_lines_of n now)) e
      ∙ slip_it s is e cs were was

  pub slip_written : (ss : List SlipAnew) (now : Rows) → EachOf IsSlipRead ss
      → list_any (λ (s : SlipAnew). s.number == n) ss ≡ true
      → slip_lines_of n (with_slips_anew ss now) ≡ flat_map change_lines (map change_anew cs)
  slip_written ss now each some =
      got_by_all (λ (s : SlipAnew). s.number) IsSlipRead with_slip_anew HasSlip AnySlip n slip_kept slip_got
      (λ s k is e any. tt) with_slips_anew (λ _. refl) (λ _ _ _. refl) ss now each some tt

-- One row with a number for its reference.
use Rattle.std.proofs.Common.{
  ◌≡◌,
  ◌∙◌,
  ◌⊎◌,
  ℕ,
  Bool,
  true,
  false,
  Option,
  None,
  Some,
  Result,
  Ok,
  Err,
  inl,
  inr,
  ap,
  sym,
  subst,
}
use Rattle.std.specs.Prelude.{IfErr, IfOk, if◌then◌else◌, option_map}
use Rattle.std.proofs.lemmas.Option.{same_Some}
use Rattle.record_text.specs.declared.refusal.Refusal.{Refusal}
use Rattle.record_text.specs.declared.refusal.RefusalKind.{RefusalKind}
use Rattle.record_text.specs.declared.refusal.RefusalKind.TheVariants.{NoSuch, OutOfMemory}
use Rattle.commands.specs.declared.entry_row.EntryRow.{EntryRow}
use Rattle.row_references.specs.Entries.{has_place_reference, place_field}
use Rattle.row_references.specs.References.{with_number}
use Rattle.request_csv.specs.Batches.{ReadsPlaced, ReadsRow, SettlesRow, in_form, placed_by, placeless}
use Rattle.request_csv.specs.Input.{Row}

module _ (row : Row) (number : Option ℕ) where
  with_reference : has_place_reference row ≡ true
      → placed_by number row ≡ option_map (with_number row place_field) number
  with_reference has =
      ap (λ (b : Bool). if b then option_map (with_number row place_field) number else Some row) has

  without_reference : has_place_reference row ≡ false → placed_by number row ≡ Some row
  without_reference none =
      ap (λ (b : Bool). if b then option_map (with_number row place_field) number else Some row) none

-- a row without a reference is its entry
pub plain : (row : Row) (number : Option ℕ) (place : ℕ) (entry : EntryRow) → has_place_reference row ≡ false
    → ReadsRow row (Ok entry) → SettlesRow number row place (Ok entry)
plain row number place entry none reads = (row, without_reference row number none, reads)

-- one that is refused is refused so too: its number changes nothing
pub as_it_stands : (number : Option ℕ) (row : Row) (outcome : Result EntryRow RefusalKind)
    → has_place_reference row ≡ false
    → (ReadsPlaced number row outcome → ReadsRow row outcome) × (ReadsRow row outcome → ReadsPlaced number row outcome)
as_it_stands number row outcome none = (
  λ placed.
      let same : placed.0 ≡ row = same_Some placed.0 row (sym placed.1 ∙ without_reference row number none) in
      subst (λ (own : Row). ReadsRow own outcome) same placed.2,
  λ reads. (row, without_reference row number none, reads),
)

-- one with a number
pub numbered : (row : Row) (n place : ℕ) (r : Result EntryRow Refusal) → has_place_reference row ≡ true
    → IfOk r (λ entry. ReadsRow (with_number row place_field n) (Ok entry))
    → IfErr r (λ e. (e ≡ placeless OutOfMemory)
    ⊎ (ReadsRow (with_number row place_field n) (Err e.kind) × (e.at ≡ Some place)))
    → SettlesRow (Some n) row place r
numbered row n place (Ok entry) has reads lacks =
    (with_number row place_field n, with_reference row (Some n) has, reads)
numbered row n place (Err e) has reads (inl want) = inl want
numbered row n place (Err e) has reads (inr is) =
    inr (inr (with_number row place_field n, with_reference row (Some n) has, is.0), is.1)

-- one without
pub unnumbered : (row : Row) (place : ℕ) (e : Refusal) → has_place_reference row ≡ true → e.kind ≡ NoSuch
    → e.at ≡ Some place → SettlesRow None row place (Err e)
unnumbered row place e has kind at = inr (inl (with_reference row None has, kind), at)

-- ---- the form of a row
pub form_with : (row : Row) → has_place_reference row ≡ true → with_number row place_field 1 ≡ in_form row
form_with row has = sym (ap (λ (b : Bool). if b then with_number row place_field 1 else row) has)

pub form_plain : (row : Row) → has_place_reference row ≡ false → row ≡ in_form row
form_plain row none = sym (ap (λ (b : Bool). if b then with_number row place_field 1 else row) none)

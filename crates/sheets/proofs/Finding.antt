-- What is found in a list, one after another.
use Rattle.std.proofs.Common.{◌≡◌, ℕ, ◌+◌, ◌<◌, ◌≤◌, List, length, get_or, drop, map, Bool, true, false, ap, sym, ◌∙◌}
use Rattle.std.specs.Prelude.{if◌then◌else◌, Option, Some, None}
use Rattle.std.proofs.Math.ListN.{drop_of_length-le}
use Rattle.record_fields.specs.declared.date.Date.{Date}
use Rattle.record_fields.specs.declared.words.Partnership.{Partnership}
use Rattle.record_kinds.specs.Model as model
use Rattle.record_kinds.specs.declared.record.Record.{Record}
use Rattle.gedcom_export.specs.declared.index_owned.Owned.{Owned}
use Rattle.sheets.specs.Pedigrees.{date_as, first_as, first_date, is_as, or_else}
use Rattle.list_laws.proofs.Lists.{item_here}

module _ (w : Partnership) (ps : List model.Partner) (i : ℕ) where
  here : (p : model.Partner) (b : Bool) → i < length ps → p ≡ get_or ps i p → is_as p.partnership w ≡ b
      → first_as w (drop i ps) ≡ (if b then Some p.person else first_as w (drop (i + 1) ps))
  here p b less at is = ap (first_as w) (item_here ps i p less at)
      ∙ ap (λ (x : Bool). if x then Some p.person else first_as w (drop (i + 1) ps)) is

  -- the partner at that place is the first
  pub found_partner : (p : model.Partner) → i < length ps → p ≡ get_or ps i p → is_as p.partnership w ≡ true
      → first_as w (drop i ps) ≡ first_as w ps → Some p.person ≡ first_as w ps
  found_partner p less at is before = sym (here p true less at is) ∙ before

  -- that one is passed
  pub passed_partner : (p : model.Partner) → i < length ps → p ≡ get_or ps i p → is_as p.partnership w ≡ false
      → first_as w (drop i ps) ≡ first_as w ps → first_as w (drop (i + 1) ps) ≡ first_as w ps
  passed_partner p less at is before = sym (here p false less at is) ∙ before

  -- there is none
  pub no_partner : length ps ≤ i → first_as w (drop i ps) ≡ first_as w ps → None ≡ first_as w ps
  no_partner short before = sym (ap (first_as w) (drop_of_length-le ps short)) ∙ before

abbrev pub number_of : Owned → ℕ
number_of o = o.number

module _ (at_number : ℕ → Option Record) (tag : List ℕ) (os : List Owned) (i : ℕ) where
  -- the first date of these events, from that place on
  abbrev pub from_here : ℕ → Option Date
  from_here k = first_date at_number tag (map number_of (drop k os))

  date_here : (o : Owned) (d : Option Date) → i < length os → o ≡ get_or os i o → d ≡ date_as tag (at_number o.number)
      → from_here i ≡ or_else d (from_here (i + 1))
  date_here o d less at is =
      ap (λ (xs : List Owned). first_date at_number tag (map number_of xs)) (item_here os i o less at)
      ∙ ap (λ (x : Option Date). or_else x (from_here (i + 1))) (sym is)

  pub found_date : (o : Owned) (d : Date) → i < length os → o ≡ get_or os i o
      → Some d ≡ date_as tag (at_number o.number)
      → from_here i ≡ first_date at_number tag (map number_of os)
      → Some d ≡ first_date at_number tag (map number_of os)
  found_date o d less at is before = sym (date_here o (Some d) less at is) ∙ before

  pub passed_date : (o : Owned) → i < length os → o ≡ get_or os i o → None ≡ date_as tag (at_number o.number)
      → from_here i ≡ first_date at_number tag (map number_of os)
      → from_here (i + 1) ≡ first_date at_number tag (map number_of os)
  passed_date o less at is before = sym (date_here o None less at is) ∙ before

  pub no_date : length os ≤ i → from_here i ≡ first_date at_number tag (map number_of os)
      → None ≡ first_date at_number tag (map number_of os)
  no_date short before =
      sym (ap (λ (xs : List Owned). first_date at_number tag (map number_of xs)) (drop_of_length-le os short)) ∙ before

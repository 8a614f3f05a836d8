-- The numbers whose rows show a tag are those whose lines begin with one of that tag.
use Rattle.std.proofs.Common.{
  ◌≡◌,
  ◌<◌,
  ◌==◌,
  ◌&&◌,
  ◌++◌,
  ◌∙◌,
  ℕ,
  Bool,
  true,
  false,
  List,
  [],
  ◌∷◌,
  map,
  filter,
  bytes_eq,
  inl,
  inr,
  refl,
  sym,
  ap,
  subst,
}
use Rattle.std.specs.Prelude.{flat_map}
use Rattle.std.specs.List.{list_any, AllByRecursion}
use Rattle.std.proofs.Math.Bool.{or-false}
use Rattle.sqlite.specs.Tree.{IsAscending}
use Rattle.stored_lines.specs.Line.{Label}
use Rattle.store_tables.specs.Keyed.{AreTagged, begin_with, tagged_by}
use Rattle.store_tables.specs.Reading.{HaveTop, IsTypedPack}
use Rattle.store_tables.specs.Rows.{LineRow, PackRow, Rows, first_tag}
use Rattle.store_tables.proofs.Changing.{at_key}
use Rattle.store_tables.proofs.Coded.{kept_by}
use Rattle.list_laws.proofs.Lists.{any_alike, any_kept, any_mapped}

and_swap : (a b : Bool) → (a && b) ≡ (b && a)
and_swap true true = refl
and_swap true false = refl
and_swap false true = refl
and_swap false false = refl

module _ (tags : List (List ℕ)) where
  abbrev shows : PackRow → Bool
  shows p = list_any (bytes_eq (first_tag p.lines)) tags

  first_of : (ls : List (ℕ × Label)) → HaveTop ls
      → list_any (bytes_eq (first_tag ls)) tags ≡ begin_with tags (ls ++ [])
  first_of [] top = absurd top
  first_of (l ∷ ls) top = refl

  at_number : (n : ℕ) (ps : List PackRow) → AllByRecursion IsTypedPack ps
      → IsAscending (λ (a b : PackRow). a.no < b.no) ps
      → list_any shows (filter (λ (p : PackRow). p.no == n) ps)
      ≡ begin_with tags (flat_map (λ (p : PackRow). p.lines) (filter (λ (p : PackRow). p.no == n) ps))
  at_number n ps typed rise = elim (at_key (λ (p : PackRow). p.no) n ps rise) [
    | inl none ↦ subst (λ (qs : List PackRow). list_any shows qs
        ≡ begin_with tags (flat_map (λ (p : PackRow). p.lines) qs)) (sym none) refl
    | inr one ↦
        let has : AllByRecursion IsTypedPack (one.0 ∷ []) =
        subst (AllByRecursion IsTypedPack) one.1 (kept_by _ _ ps typed) in
        subst (λ (qs : List PackRow). list_any shows qs
        ≡ begin_with tags (flat_map (λ (p : PackRow). p.lines) qs)) (sym one.1)
        (or-false (shows one.0) ∙ first_of one.0.lines has.0.top)
  ]

  pub tagged_is : (rows : Rows) (numbers : List ℕ) → rows.lines ≡ [] → AllByRecursion IsTypedPack rows.packs
      → IsAscending (λ (a b : PackRow). a.no < b.no) rows.packs → numbers ≡ tagged_by tags rows
      → AreTagged tags rows numbers
  tagged_is rows numbers none typed rise is n =
      let packs = filter (λ (p : PackRow). p.no == n) rows.packs in
      ap (list_any (λ k. k == n)) is
      ∙ any_mapped (λ k. k == n) (λ (p : PackRow). p.no) (filter shows rows.packs)
      ∙ sym (any_kept shows (λ (p : PackRow). p.no == n) rows.packs)
      ∙ any_alike (λ (p : PackRow). shows p && (p.no == n)) (λ (p : PackRow). (p.no == n) && shows p)
      (λ p. and_swap (shows p) (p.no == n)) rows.packs
      ∙ any_kept (λ (p : PackRow). p.no == n) shows rows.packs
      ∙ at_number n rows.packs typed rise
      ∙ sym (ap (λ (ls : List LineRow). begin_with tags (map (λ (l : LineRow). l.line)
      (filter (λ (l : LineRow). l.no == n) ls) ++ flat_map (λ (p : PackRow). p.lines) packs)) none)

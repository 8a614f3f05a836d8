-- Lines of which nothing is said, each judged by those before it.
use Rattle.std.specs.Prelude.{
  ℕ,
  ◌≡◌,
  ◌==◌,
  ◌||◌,
  ◌&&◌,
  Bool,
  true,
  false,
  cond,
  List,
  [],
  ◌∷◌,
  ◌++◌,
  map,
  Option,
  Some,
  None,
  refl,
}
use Rattle.std.specs.List.{list_any}
use Rattle.std.proofs.Common.{ap, sym, subst, ◌∙◌}
use Rattle.stored_lines.specs.Tree.{Tree, label}
use Rattle.stored_lines.specs.Line.{Line, Lines}
use Rattle.receipts.specs.declared.report.ReportWord.{ReportWord}
use Rattle.receipts.specs.declared.report.ReportWord.TheVariants as word
use Rattle.record_shapes.specs.Fields.{a_member, a_side, family_field, is_same, person_field}
use Rattle.record_shapes.specs.Forms.{Known, number_of, tag_of, tagged}
use Rattle.record_shapes.specs.Lists.{EachOf, IsOnce}
use Rattle.record_shapes.specs.Picking.{all_of}
use Rattle.import_definitions.specs.Lines.{Lined, unlined}
use Rattle.import_definitions.specs.Report.{
  is_partner,
  is_sided,
  judge_member,
  judge_side,
  judged,
  names_member,
  said_on,
}
use Rattle.import_definitions.specs.Positions.{known}
use Rattle.import_definitions.specs.Sides.{names_family}
use Rattle.round_trip.proofs.Listed.{other_way}
use Rattle.list_laws.proofs.Lists.{any_kept}
use Rattle.record_shapes.proofs.Each.{has}
use Rattle.list_laws.proofs.Booleans.{neither}

abbrev pub NoneJudged : (Lines → Tree Line → Option ReportWord) → Lines → Lines → Type 0
NoneJudged judge before [] = Unit {0}
NoneJudged judge before (t ∷ ts) = (judge before t ≡ None) × NoneJudged judge (t ∷ before) ts

pub none_judged : (judge : Lines → Tree Line → Option ReportWord) (before : Lines) (ts : List (Tree Lined))
    → NoneJudged judge before (map unlined ts) → judged judge before ts ≡ []
none_judged judge before [] h = refl
none_judged judge before (t ∷ ts) h = (λ i. said_on (label t).0 (h.0 i) ++ judged judge (unlined t ∷ before) ts)
    ∙ none_judged judge (unlined t ∷ before) ts h.1

-- ---- lines of families
module _ (k : Known) where
  abbrev pub numbers : Lines → List ℕ
  numbers ts = map number_of (all_of (family_field k) a_member ts)

  abbrev Fresh : Lines → List ℕ → Type 0
  Fresh before ns = EachOf (λ n. list_any (λ t. number_of t == n) (all_of (family_field k) a_member before) ≡ false) ns

  -- no member is named before
  not_doubled : (before : Lines) (t : Tree Line)
      → list_any (λ u. number_of u == number_of t) (all_of (family_field k) a_member before) ≡ false
      → judge_member k before t ≡ None
  not_doubled before t h = by (is_same (family_field k t) a_member)
    where
      by : (b : Bool) → cond (b && list_any (names_member k (number_of t)) before) (Some word.Doubled) None ≡ None
      by false = refl
      by true = ap (λ b. cond b (Some word.Doubled) None)
          (any_kept (λ u. is_same (family_field k u) a_member) (λ u. number_of u == number_of t) before ∙ h)

  fresh_more : (t : Tree Line) (before : Lines) (ns : List ℕ) → is_same (family_field k t) a_member ≡ true
      → has (number_of t) ns ≡ false → Fresh before ns → Fresh (t ∷ before) ns
  fresh_more t before [] m n f = tt
  fresh_more t before (j ∷ ns) m n f =
      let both : ((j == number_of t) ≡ false) × (has (number_of t) ns ≡ false) =
      neither (j == number_of t) (has (number_of t) ns) n in
      let us = all_of (family_field k) a_member before in (
        ap (λ b. list_any (λ u. number_of u == j) (cond b (t ∷ us) us)) m
            ∙ (λ i. other_way j (number_of t) both.0 i || f.0 i),
        fresh_more t before ns m both.1 f.1,
      )

  fresh_same : (t : Tree Line) (before : Lines) (ns : List ℕ) → is_same (family_field k t) a_member ≡ false
      → Fresh before ns → Fresh (t ∷ before) ns
  fresh_same t before [] m f = tt
  fresh_same t before (j ∷ ns) m f =
      let us = all_of (family_field k) a_member before in
      (ap (λ b. list_any (λ u. number_of u == j) (cond b (t ∷ us) us)) m ∙ f.0, fresh_same t before ns m f.1)

  no_member : (before : Lines) (t : Tree Line) → is_same (family_field k t) a_member ≡ false
      → judge_member k before t ≡ None
  no_member before t m = ap (λ b. cond (b && list_any (names_member k (number_of t)) before) (Some word.Doubled) None) m

  members_judged : (before ts : Lines) → IsOnce (numbers ts) → Fresh before (numbers ts)
      → NoneJudged (judge_member k) before ts
  members_judged before [] o f = tt
  members_judged before (t ∷ ts) o f =
      let us = all_of (family_field k) a_member ts in
      elim (is_same (family_field k t) a_member) as (λ b. is_same (family_field k t) a_member ≡ b
      → IsOnce (map number_of (cond b (t ∷ us) us)) → Fresh before (map number_of (cond b (t ∷ us) us))
      → NoneJudged (judge_member k) before (t ∷ ts)) [
        | true ↦ λ m x y. (
          not_doubled before t y.0,
          members_judged (t ∷ before) ts x.1 (fresh_more t before (numbers ts) m x.0 y.1),
        )
        | false ↦ λ m x y. (
          no_member before t m,
          members_judged (t ∷ before) ts x (fresh_same t before (numbers ts) m y),
        )
      ] refl o f

  -- a list whose members are once
  pub family_judged : (ts : Lines) → IsOnce (numbers ts) → NoneJudged (judge_member k) [] ts
  family_judged ts o = members_judged [] ts o (none_before (numbers ts))
    where
      none_before : (ns : List ℕ) → Fresh [] ns
      none_before [] = tt
      none_before (n ∷ ns) = (refl, none_before ns)

-- ---- lines of persons
module _ (rs : Lines) (person : ℕ) where
  abbrev pub sides_in : Lines → Lines
  sides_in ts = all_of (person_field (known rs)) a_side ts

  abbrev named_by : Tree Line → Tree Line → Bool
  named_by t u = tagged (tag_of t) u && number_of u == number_of t

  -- each is for such a person, and none of its tag and family is before it
  abbrev pub AreSided : Lines → Lines → Type 0
  AreSided before [] = Unit {0}
  AreSided before (t ∷ ts) = (is_sided (is_partner rs person (number_of t)) t ≡ true)
      × (list_any (named_by t) before ≡ false) × AreSided (t ∷ before) ts

  side_judged : (before : Lines) (t : Tree Line) → is_sided (is_partner rs person (number_of t)) t ≡ true
      → list_any (named_by t) (sides_in before) ≡ false → judge_side rs person before t ≡ None
  side_judged before t s n = by (is_same (person_field (known rs) t) a_side)
    where
      by : (b : Bool) → cond b
          (cond (is_sided (is_partner rs person (number_of t)) t)
          (cond (list_any (names_family (known rs) (tag_of t) (number_of t)) before) (Some word.Doubled) None)
          (Some word.OneSided)) None ≡ None
      by false = refl
      by true = (λ i. cond (s i)
          (cond ((any_kept (λ u. is_same (person_field (known rs) u) a_side) (named_by t) before ∙ n) i)
          (Some word.Doubled) None) (Some word.OneSided))

  no_side : (before : Lines) (t : Tree Line) → is_same (person_field (known rs) t) a_side ≡ false
      → judge_side rs person before t ≡ None
  no_side before t e =
      ap (λ b. cond b (cond (is_sided (is_partner rs person (number_of t)) t)
      (cond (list_any (names_family (known rs) (tag_of t) (number_of t)) before) (Some word.Doubled) None)
      (Some word.OneSided)) None) e

  pub sides_judged : (before ts : Lines) → AreSided (sides_in before) (sides_in ts)
      → NoneJudged (judge_side rs person) before ts
  sides_judged before [] h = tt
  sides_judged before (t ∷ ts) h =
      elim (is_same (person_field (known rs) t) a_side) as (λ b. is_same (person_field (known rs) t) a_side ≡ b
      → AreSided (sides_in before) (cond b (t ∷ sides_in ts) (sides_in ts))
      → NoneJudged (judge_side rs person) before (t ∷ ts)) [
        | true ↦ λ m x. (
          side_judged before t x.0 x.1,
          sides_judged (t ∷ before) ts
              (subst (λ us. AreSided us (sides_in ts))
              (sym (ap (λ b. cond b (t ∷ sides_in before) (sides_in before)) m))
              x.2),
        )
        | false ↦ λ m x. (
          no_side before t m,
          sides_judged (t ∷ before) ts
              (subst (λ us. AreSided us (sides_in ts))
              (sym (ap (λ b. cond b (t ∷ sides_in before) (sides_in before)) m))
              x),
        )
      ] refl h

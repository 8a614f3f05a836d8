-- Each number of a slip has another record after the merge: the slip holds no more than the numbers that changed.
use Rattle.std.proofs.Common.{
  ◌≡◌,
  ℕ,
  ◌+◌,
  ◌<◌,
  List,
  [],
  ◌∷◌,
  ◌++◌,
  Bool,
  true,
  false,
  refl,
  sym,
  ap,
  ◌∙◌,
  inl,
  inr,
  subst,
  arith,
}
use Rattle.std.specs.Prelude.{Option, Some, None, is_none, map, option_map, not, length, ◌&&◌, ◌||◌, ◌==◌}
use Rattle.std.specs.FinMap.{get}
use Rattle.std.proofs.lemmas.Bool.{and_from}
use Rattle.std.proofs.lemmas.List.{length-map, length-append}
use Rattle.stored_lines.specs.Tree.{relabel}
use Rattle.record_kinds.specs.Model as model
use Rattle.record_fields.specs.declared.words.Sex.{Sex}
use Rattle.record_kinds.specs.declared.record.Record.{Record}
use Rattle.record_kinds.specs.declared.record.Record.TheVariants as kind
use Rattle.archive_state.specs.Links.{Link, links, is_among}
use Rattle.archive_state.specs.Content.{Records}
use Rattle.archive_state.specs.Merging.{
  line_with,
  merged,
  merged_record,
  merged_person,
  joined_person,
  person_with,
  name_with,
  lines_with,
  sex_of_two,
  second_sex,
  renamed,
  record_with,
}
use Rattle.record_shapes.specs.Lists.{EachOf}
use Rattle.merging.specs.Merges.{is_empty, adds_nothing, is_changed}
use Rattle.record_shapes.proofs.Each.{each_mapped, each_all}
use Rattle.archive_state.proofs.RenumberedLinks.{moved, links_moved}
use Rattle.merging.proofs.Once.{join_links, once_into, number_other}
use Rattle.merging.proofs.Merged.{which, renamed_gone, renamed_other, at_gone, at_keep, at_other}

-- ---- no number is gone's then
abbrev IsOther : ℕ → Link → Type 0
IsOther gone l = l.0 ≡ gone → ⊥

not_among : (gone : ℕ) (ls : List Link) → EachOf (IsOther gone) ls → is_among gone ls ≡ false
not_among gone [] h = refl
not_among gone (l ∷ ls) h = ap (λ b. b || is_among gone ls) (number_other l.0 gone h.0) ∙ not_among gone ls h.1

module _ (keep gone : ℕ) (apart : keep ≡ gone → ⊥) where
  abbrev f : ℕ → ℕ
  f = renamed keep gone

  other_moved : (l : Link) → IsOther gone (moved f l)
  other_moved l same = elim (which keep gone l.0) as (λ _. ⊥) [
    | inl h ↦ apart (sym (ap f h ∙ renamed_gone keep gone) ∙ same)
    | inr h ↦
        let no_gone : l.0 ≡ gone → ⊥ = elim h as (λ _. l.0 ≡ gone → ⊥) [ inl x ↦ x.0 | inr x ↦ x.0 ] in
        no_gone (sym (renamed_other keep gone l.0 no_gone) ∙ same)
  ]

  others_with : (r : Record) → EachOf (IsOther gone) (links (record_with f r))
  others_with r = subst (EachOf (IsOther gone)) (sym (links_moved f r))
      (each_mapped (IsOther gone) (moved f) (links r) (each_all (λ l. IsOther gone (moved f l)) other_moved (links r)))

  record_free : (r : Record) → is_among gone (links (merged_record keep gone r)) ≡ false
  record_free r = not_among gone (links (merged_record keep gone r))
      (once_into (IsOther gone) keep (record_with f r) (others_with r))

  two_free : (k g : model.Person)
      → is_among gone (links (kind.Person (joined_person (person_with f k) (person_with f g)))) ≡ false
  two_free k g = not_among gone (links (kind.Person (joined_person (person_with f k) (person_with f g))))
      (join_links (IsOther gone) (person_with f k) (person_with f g) (others_with (kind.Person k))
      (others_with (kind.Person g)))

-- ---- what is added is seen
none_long : {A : Type 0} (xs : List A) → length xs ≡ 0 → is_empty xs ≡ true
none_long [] e = refl
none_long (x ∷ xs) e = absurd (omega arith)

one_long : (n : ℕ) → n ≡ 0 → 0 < n → ⊥
one_long n e h = omega arith

left_no : (a b d x : Bool) → a ≡ false → d ≡ true → x ≡ false → (a || ((b && not d) || x)) ≡ true → ⊥
left_no false true true false e h i t = absurd cc
left_no false false true false e h i t = absurd cc
left_no true b d x e h i t = absurd cc
left_no false b false x e h i t = absurd cc
left_no false b true true e h i t = absurd cc

other_no : (a b d x : Bool) → a ≡ false → b ≡ false → x ≡ false → (a || ((b && not d) || x)) ≡ true → ⊥
other_no false false d false e h i t = absurd cc
other_no true b d x e h i t = absurd cc
other_no false true d x e h i t = absurd cc
other_no false false d true e h i t = absurd cc

no_second_sex : (s t : Option Sex) → sex_of_two s t ≡ s → length (second_sex s t) ≡ 0 → is_none t ≡ true
no_second_sex None None e h = refl
no_second_sex None (Some t) e h = absurd cc
no_second_sex (Some s) None e h = refl
no_second_sex (Some s) (Some t) e h = absurd (one_long (length (second_sex (Some s) (Some t))) h (omega arith))

nothing_seen : (f : ℕ → ℕ) (k g : model.Person) → joined_person (person_with f k) (person_with f g) ≡ k
    → adds_nothing (Some (kind.Person g)) ≡ true
nothing_seen f k g e =
    let names : length (map (name_with f) k.names ++ map (name_with f) g.names) ≡ length k.names = ap
    (λ (p : model.Person). length p.names) e in
    let a : length (map (name_with f) k.names ++ map (name_with f) g.names) ≡ length (map (name_with f) k.names)
    + length (map (name_with f) g.names) = length-append (map (name_with f) k.names) (map (name_with f) g.names) in
    let b : length (map (name_with f) k.names) ≡ length k.names = length-map k.names (name_with f) in
    let d : length (map (name_with f) g.names) ≡ length g.names = length-map g.names (name_with f) in
    let no_names : length g.names ≡ 0 = omega arith in
    let ours : length (lines_with f k.carried ++ (lines_with f g.carried ++ second_sex k.sex g.sex))
    ≡ length k.carried = ap (λ (p : model.Person). length p.carried) e in
    let h : length (lines_with f k.carried ++ (lines_with f g.carried ++ second_sex k.sex g.sex))
    ≡ length (lines_with f k.carried) + length (lines_with f g.carried ++ second_sex k.sex g.sex) =
    length-append (lines_with f k.carried) (lines_with f g.carried ++ second_sex k.sex g.sex) in
    let i : length (lines_with f g.carried ++ second_sex k.sex g.sex) ≡ length (lines_with f g.carried) + length
    (second_sex k.sex g.sex) = length-append (lines_with f g.carried) (second_sex k.sex g.sex) in
    let j : length (lines_with f k.carried) ≡ length k.carried = length-map k.carried (relabel (line_with f)) in
    let l : length (lines_with f g.carried) ≡ length g.carried = length-map g.carried (relabel (line_with f)) in
    let no_lines : length g.carried ≡ 0 = omega arith in
    let no_sex : length (second_sex k.sex g.sex) ≡ 0 = omega arith in
    let sex : sex_of_two k.sex g.sex ≡ k.sex = ap (λ (p : model.Person). p.sex) e in
    and_from (is_empty g.names) (is_none g.sex && is_empty g.carried) (none_long g.names no_names)
    (and_from (is_none g.sex) (is_empty g.carried) (no_second_sex k.sex g.sex sex no_sex)
    (none_long g.carried no_lines))

-- ---- each changed number
pub changed_differs : (keep gone : ℕ) (m : Records) (k g : model.Person) → (keep ≡ gone → ⊥)
    → get m keep ≡ Some (kind.Person k) → get m gone ≡ Some (kind.Person g)
    → (n : ℕ) (r : Record) → get m n ≡ Some r → is_changed keep gone m n r ≡ true
    → merged keep gone (get m) n ≡ Some r → ⊥
changed_differs keep gone m k g apart at_k at_g n r at t e = elim (which keep gone n) as (λ _. ⊥) [
  | inl h ↦ let never : None ≡ Some r = sym (at_gone keep gone (get m)) ∙ ap (merged keep gone (get m)) (sym h)
      ∙ e in absurd cc
  | inr h ↦ elim h as (λ _. ⊥) [
    | inl i ↦
        let both : model.Person = joined_person (person_with (renamed keep gone) k)
        (person_with (renamed keep gone) g) in
        let is : Some (kind.Person both) ≡ Some r = sym
        (at_keep keep gone (get m) apart ∙ ap (λ x. merged_person keep gone x (get m gone)) at_k
        ∙ ap (merged_person keep gone (Some (kind.Person k))) at_g) ∙ ap (merged keep gone (get m)) (sym i.1) ∙ e in
        let was : Some (kind.Person k) ≡ Some r = sym at_k ∙ ap (get m) (sym i.1) ∙ at in
        let one : kind.Person both ≡ r = cc in
        let two : kind.Person both ≡ kind.Person k = cc in
        let same : both ≡ k = cc in
        let nothing : adds_nothing (get m gone) ≡ true = ap adds_nothing at_g ∙ nothing_seen
        (renamed keep gone) k g same in
        let unnamed : is_among gone (links r) ≡ false = ap (λ x. is_among gone (links x)) (sym one)
        ∙ two_free keep gone apart k g in
        left_no (n == gone) (n == keep) (adds_nothing (get m gone)) (is_among gone (links r))
        (number_other n gone i.0) nothing unnamed t
    | inr i ↦
        let is : Some (merged_record keep gone r) ≡ Some r = sym
        (at_other keep gone (get m) n i.0 i.1 ∙ ap (option_map (merged_record keep gone)) at) ∙ e in
        let one : merged_record keep gone r ≡ r = cc in
        let unnamed : is_among gone (links r) ≡ false = ap (λ x. is_among gone (links x)) (sym one)
        ∙ record_free keep gone apart r in
        other_no (n == gone) (n == keep) (adds_nothing (get m gone)) (is_among gone (links r)) (number_other n gone i.0)
        (number_other n keep i.1) unnamed t
  ]
]

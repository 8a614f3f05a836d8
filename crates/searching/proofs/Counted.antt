-- The lines of a walk over the numbers of all records, and the numbers of the others, are those of the records after a
-- number.
use Rattle.std.proofs.Common.{
  ◌≡◌,
  ℕ,
  ◌+◌,
  ◌<◌,
  ◌≤◌,
  ◌⊎◌,
  Bool,
  true,
  false,
  List,
  [],
  ◌∷◌,
  ◌++◌,
  length,
  take,
  drop,
  get_or,
  map,
  cond,
  ap,
  sym,
  subst,
  ◌∙◌,
  inl,
  inr,
  refl,
  append-nil,
  length-append,
  arith,
}
use Rattle.std.specs.Prelude.{None, Option, Some, nat_lt}
use Rattle.std.specs.FinMap.{entries, entries_sorted, find, get, get-entries, keys}
use Rattle.std.specs.List.{filter, flat_map}
use Rattle.std.specs.Ordering.{nat_cmp}
use Rattle.std.proofs.lemmas.Bool.{cases_lt}
use Rattle.std.proofs.lemmas.Grind.{flat_map-append}
use Rattle.std.proofs.lemmas.List.{
  append_assoc,
  drop-append-le,
  drop_all,
  length-take-le,
  map-append,
  take-append-le,
  take_all,
  take_more,
}
use Rattle.record_kinds.specs.declared.record.Record.{Record}
use Rattle.archive_state.specs.Content.{Records}
use Rattle.gedcom_export.proofs.Walked.{Rises, found_there}
use Rattle.list_laws.proofs.Numbers.{is_less, not_less}
use Rattle.searching.specs.Lines.{divided, later, line, line_of, lines_of, page_and_others}
use Rattle.searching.specs.Walking.{counted, line_after, line_at, with_more}
use Rattle.searching.specs.Wanted.{is_wanted}
use Rattle.searching.specs.declared.wanted.Wanted.{Wanted}

abbrev Lines : Type 0
Lines = List (ℕ × List ℕ)

abbrev Divided : Type 0
Divided = Lines × List ℕ

abbrev numbers : Lines → List ℕ
numbers ls = map (λ (l : ℕ × List ℕ). l.0) ls

pair_is : {a b : Lines} {c d : List ℕ} → a ≡ b → c ≡ d → ◌≡◌ {A = Divided} (a, c) (b, d)
pair_is {a} {b} {c} {d} first second = ap (λ (x : Lines). (x, c)) first ∙ ap (λ (x : List ℕ). (b, x)) second

-- ---- one line more, or none
with_one : (limit : ℕ) (xs ys : Lines) → length ys ≤ 1 → with_more limit ys (divided limit xs)
    ≡ divided limit (xs ++ ys)
with_one limit xs ys one = here (cases_lt (length xs) limit)
  where
    test : Bool → Divided
    test b = cond b (take limit xs ++ ys, numbers (drop limit xs))
        (take limit xs, numbers (drop limit xs) ++ numbers ys)

    here : (length xs < limit) ⊎ (limit ≤ length xs) → with_more limit ys (divided limit xs)
        ≡ divided limit (xs ++ ys)
    here (inl less) =
        let whole : take limit xs ≡ xs = take_all limit xs (omega arith) in
        let room : nat_lt (length (take limit xs)) limit ≡ true =
        ap (λ (l : Lines). nat_lt (length l) limit) whole ∙ is_less (length xs) limit less in
        let more : length (xs ++ ys) ≤ limit = grind (arith, length-append) in
        ap test room
        ∙ pair_is (ap (λ (l : Lines). l ++ ys) whole ∙ sym (take_all limit (xs ++ ys) more))
        (ap numbers (drop_all limit xs (omega arith) ∙ sym (drop_all limit (xs ++ ys) more)))
    here (inr le) =
        let none : nat_lt (length (take limit xs)) limit ≡ false =
        ap (λ n. nat_lt n limit) (length-take-le limit xs le) ∙ not_less limit limit (omega arith) in
        ap test none
        ∙ pair_is (sym (take-append-le limit xs ys le))
        (sym (ap numbers (drop-append-le limit xs ys le) ∙ map-append (λ (l : ℕ × List ℕ). l.0) (drop limit xs) ys))

-- ---- one number more
module _ (at : ℕ → Option Record) (w : Wanted) (after : ℕ) where
  abbrev found_at : ℕ → Lines
  found_at n = line_after w after n (at n)

  one_at_most : (n : ℕ) (o : Option Record) → length (line_after w after n o) ≤ 1
  one_at_most n o = here (nat_lt after n) o
    where
      there : (r : Record) (b : Bool) → length {A = ℕ × List ℕ} (cond b ((n, line n r) ∷ []) []) ≤ 1
      there r true = omega arith
      there r false = omega arith

      here : (b : Bool) (o : Option Record) → length {A = ℕ × List ℕ} (cond b (line_at w n o) []) ≤ 1
      here false o = omega arith
      here true None = omega arith
      here true (Some r) = there r (is_wanted w r)

  pub one_more : (limit : ℕ) (ns : List ℕ) (i : ℕ) → i < length ns
      → counted at w after limit (take (i + 1) ns)
      ≡ with_more limit (line_after w after (get_or ns i 0) (at (get_or ns i 0)))
      (counted at w after limit (take i ns))
  one_more limit ns i less =
      let n = get_or ns i 0 in
      ap (λ (ms : List ℕ). divided limit (flat_map found_at ms)) (take_more ns i 0 less)
      ∙ ap (divided limit) (flat_map-append found_at (take i ns) (n ∷ [])
      ∙ ap (λ ls. flat_map found_at (take i ns) ++ ls) (append-nil (found_at n)))
      ∙ sym (with_one limit (flat_map found_at (take i ns)) (found_at n) (one_at_most n (at n)))

  pub all_counted : (limit : ℕ) (ns : List ℕ) (i : ℕ) → length ns ≤ i
      → counted at w after limit (take i ns) ≡ counted at w after limit ns
  all_counted limit ns i all = ap (counted at w after limit) (take_all i ns all)

  -- ---- all records
  abbrev first : ℕ × Record → ℕ
  first e = e.0

  of_one : (e : ℕ × Record) (es : List (ℕ × Record)) → at e.0 ≡ Some e.1
      → found_at e.0 ++ later w after es ≡ later w after (e ∷ es)
  of_one e es here =
      ap (λ o. line_after w after e.0 o ++ later w after es) here
      ∙ (elim (nat_lt after e.0) as (λ b. cond b (line_of w e) [] ++ later w after es
      ≡ lines_of w (cond b (e ∷ filter (λ (x : ℕ × Record). nat_lt after x.0) es)
      (filter (λ (x : ℕ × Record). nat_lt after x.0) es))) [
        | true ↦ refl
        | false ↦ refl
      ])

  collected : (front es : List (ℕ × Record)) → Rises (front ++ es)
      → ((q : ℕ) → at q ≡ find nat_cmp q (front ++ es)) → flat_map found_at (map first es) ≡ later w after es
  collected front [] rises agrees = refl
  collected front (e ∷ es) rises agrees =
      let same : (front ++ e ∷ []) ++ es ≡ front ++ e ∷ es = append_assoc front (e ∷ []) es in
      ap (λ ls. found_at e.0 ++ ls) (collected (front ++ e ∷ []) es (subst Rises (sym same) rises)
      (λ q. agrees q ∙ ap (find nat_cmp q) (sym same)))
      ∙ of_one e es (agrees e.0 ∙ found_there front e es rises)

pub page_is : (m : Records) (w : Wanted) (after limit : ℕ) → counted (get m) w after limit (keys m)
    ≡ page_and_others w after limit (entries m)
page_is m w after limit = ap (divided limit)
    (collected (get m) w after [] (entries m) (entries_sorted m) (get-entries m))

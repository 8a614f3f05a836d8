-- An export is not refused, and its batch has all records.
use Rattle.std.specs.Prelude.{
  ℕ,
  ◌≡◌,
  ◌+◌,
  ◌<◌,
  ◌≤◌,
  ◌==◌,
  ◌||◌,
  nat_lt,
  true,
  false,
  cond,
  List,
  [],
  ◌∷◌,
  map,
  length,
  Option,
  None,
  refl,
  Ok,
  Err,
}
use Rattle.std.specs.List.{AllByRecursion, IsDistinct, list_any}
use Rattle.std.proofs.Common.{ap, sym, ◌∙◌, subst, arith, eqb}
use Rattle.std.proofs.lemmas.Bool.{eqb-true}
use Rattle.std.proofs.lemmas.Bool.Decides.{nat_tests}
use Rattle.std.proofs.lemmas.Map.Steps.{length-le_from_distinct_below}
use Rattle.stored_lines.specs.Line.{Lines}
use Rattle.record_text.specs.declared.refusal.RefusalKind.TheVariants.{Full}
use Rattle.record_shapes.specs.Lists.{EachOf, IsOnce}
use Rattle.archive_state.specs.Changes.{Batch}
use Rattle.archive_state.specs.Content.{Content, Records, nothing}
use Rattle.archive_state.specs.Sound.{IsNumber, IsSound}
use Rattle.import_definitions.specs.Nodes.{FileNode}
use Rattle.import_definitions.specs.Roots.{candidates, kept}
use Rattle.import_definitions.specs.Lines.{roots}
use Rattle.import_definitions.specs.Made.{
  batch,
  drawing,
  lowest_place,
  made,
  made_of,
  places,
  second,
  unless_full,
  unless_second,
}
use Rattle.import_definitions.specs.Numbers.{Places}
use Rattle.gedcom_export.specs.Order.{Numbered, households}
use Rattle.round_trip.specs.Positions.{nodes_by_position, numbers_in}
use Rattle.round_trip.proofs.Found.{nodes_found}
use Rattle.round_trip.proofs.Households.{have_all}
use Rattle.round_trip.proofs.Listed.{other_way}
use Rattle.round_trip.specs.ReadingLaws.{DraftsComeBack}
use Rattle.round_trip.specs.SameLaws.{ImportHasAll}
use Rattle.round_trip.proofs.Carried.{Here, carried_by, here, in_lines, numbers_are}
use Rattle.round_trip.proofs.Keys.{none_second}
use Rattle.round_trip.proofs.Results.{drawn, drawn_is, new_record, results_are}
use Rattle.record_shapes.proofs.Each.{each_more, each_mapped, has}
use Rattle.list_laws.proofs.Booleans.{neither, true_not_false}

-- ---- numbers that are apart
apart_from : (k : ℕ) (ks : List ℕ) → has k ks ≡ false → AllByRecursion (λ j. eqb k j ≡ false) ks
apart_from k [] h = tt
apart_from k (j ∷ ks) h =
    let both : ((j == k) ≡ false) × (has k ks ≡ false) = neither (j == k) (has k ks) h in
    (other_way j k both.0, apart_from k ks both.1)

distinct : (ks : List ℕ) → IsOnce ks → IsDistinct eqb ks
unfolding IsDistinct
distinct [] h = tt
distinct (k ∷ ks) h = (apart_from k ks h.0, distinct ks h.1)

each_below : (n : ℕ) (ks : List ℕ) → EachOf (λ k. k < n) ks → (q : ℕ) → list_any (eqb q) ks ≡ true → q < n
each_below n [] h q e = absurd (true_not_false (sym e))
each_below n (k ∷ ks) h q e =
    elim (eqb q k) as (λ b. eqb q k ≡ b → (b || list_any (eqb q) ks) ≡ true → q < n) [
      | true ↦ λ i g. let same : q ≡ k = eqb-true q k i in let low : k < n = h.0 in omega arith
      | false ↦ λ i g. each_below n ks h.1 q g
    ] refl e

no_zero : (next : ℕ) (ks : List ℕ) → EachOf (IsNumber next) ks → has 0 ks ≡ false
no_zero next [] h = refl
no_zero next (k ∷ ks) h = λ i. (let low : 0 < k = h.0.0 in let e : (k == 0) ≡ false = grind (arith, nat_tests) in e) i
    || no_zero next ks h.1 i

-- ---- as many numbers as records, one less than the next at the most
module _ (c : Content) (is : IsSound c) where
  abbrev m : Records
  m = c.records

  abbrev numbers : List ℕ
  numbers = numbers_in (households m)

  numbers_fit : EachOf (IsNumber c.next) numbers
  numbers_fit = subst (EachOf (IsNumber c.next)) (numbers_are m)
      (each_mapped (IsNumber c.next) (λ (p : ℕ × Numbered). p.1.0) (in_lines m)
      (each_more (Here m) (λ p. IsNumber c.next p.1.0)
      (λ (p : ℕ × Numbered) (h : Here m p). is.rules.numbered p.1.0 p.1.1 h) (in_lines m) (here m)))

  few_numbers : 1 + length numbers ≤ c.next
  few_numbers =
      let all : List ℕ = 0 ∷ numbers in
      let once : IsOnce all = (no_zero c.next numbers numbers_fit, (have_all c is).0) in
      let begun : 0 < c.next = is.begun in
      let low : EachOf (λ k. k < c.next) all =
      (begun, each_more (IsNumber c.next) (λ k. k < c.next) (λ k h. h.1) numbers numbers_fit) in
      let few : length all
      ≤ c.next = length-le_from_distinct_below all c.next (distinct all once) (each_below c.next all low) in
      omega arith

  not_full : nat_lt 4294967296 (1 + length numbers) ≡ false
  not_full =
      let few : 1 + length numbers ≤ c.next = few_numbers in
      let bound : c.next ≤ 4294967296 = is.bounded in
      grind (arith, nat_tests)

  -- ---- the batch
  module _ (drafts_back : DraftsComeBack) (archive : List ℕ → Option ℕ) where
    abbrev rs : Lines
    rs = nodes_by_position m

    abbrev w : Places
    w = places archive rs

    drawing_is : drawing 1 w rs ≡ drawn c is w
    drawing_is = drawn_is c is w drafts_back

    abbrev pub the_batch : Batch
    the_batch = record { records = map (new_record c is w) (in_lines m); next = 1 + length numbers }

    batch_is : unless_full w (drawing 1 w rs) ≡ Ok the_batch
    batch_is =
        ap (unless_full w) drawing_is
        ∙ ap (λ b. cond b (Err (record { kind = Full; at = None })) (Ok (batch w (drawn c is w)))) not_full
        ∙ ap (λ us. Ok (let b : Batch = record { records = us; next = 1 + length numbers } in b)) (results_are c is w)

    pub made_is : (ks : List FileNode) → roots ks ≡ rs → made_of 1 archive ks ≡ Ok the_batch
    made_is ks e =
        ap (λ us. unless_second ks (second us 0 [] us)
        (unless_full (places archive us) (drawing 1 (places archive us) us))) e
        ∙ ap (λ o. unless_second ks o (unless_full w (drawing 1 w rs))) (none_second c is drafts_back)
        ∙ batch_is

pub import_has_all : DraftsComeBack → ImportHasAll
unfolding made
import_has_all drafts_back c society f is e = (
  the_batch c is drafts_back (lowest_place nothing.records),
  made_is c is drafts_back (lowest_place nothing.records) (kept (candidates f)) (nodes_found c society f is e),
  carried_by c.records (have_all c is).0 (have_all c is).1,
)

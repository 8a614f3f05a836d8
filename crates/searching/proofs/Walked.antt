-- The lines of a walk over the numbers of all records are those of the records after a number, so many at most.
use Rattle.std.proofs.Common.{
  ◌≡◌,
  ℕ,
  ◌+◌,
  ◌<◌,
  ◌≤◌,
  ◌⊎◌,
  Bool,
  true,
  false,
  List,
  [],
  ◌∷◌,
  ◌++◌,
  length,
  take,
  get_or,
  map,
  cond,
  ap,
  sym,
  subst,
  ◌∙◌,
  inl,
  inr,
  append-nil,
  length-append,
  arith,
}
use Rattle.record_text.specs.declared.refusal.RefusalKind.{RefusalKind}
use Rattle.archive_state.specs.Looks.{Looked}
use Rattle.std.specs.Prelude.{Option, Some, Result, Ok, Err, nat_lt, fold, if◌then◌else◌}
use Rattle.std.specs.FinMap.{entries, entries_sorted, find, get, get-entries, keys}
use Rattle.std.specs.List.{filter}
use Rattle.std.specs.Ordering.{nat_cmp}
use Rattle.std.proofs.lemmas.Bool.{cases_lt}
use Rattle.std.proofs.lemmas.Grind.{flat_map-append}
use Rattle.std.proofs.lemmas.List.{append_assoc, length-take-le, take-append-le, take_all, take_more}
use Rattle.std.proofs.lemmas.List.Elements.{filter-append}
use Rattle.std.proofs.lemmas.List.Sums.{fold-append}
use Rattle.record_kinds.specs.declared.record.Record.{Record}
use Rattle.archive_state.specs.Content.{Records}
use Rattle.gedcom_export.proofs.Walked.{Rises, found_there}
use Rattle.list_laws.proofs.Numbers.{is_less, not_less}
use Rattle.searching.specs.Lines.{line, line_of, lines_of, page}
use Rattle.searching.specs.Walking.{walked, with_found, with_later}
use Rattle.searching.specs.Wanted.{is_wanted}
use Rattle.searching.specs.declared.wanted.Wanted.{Wanted}

-- one number more
pub one_more : (at : ℕ → Option Record) (w : Wanted) (after limit : ℕ) (ns : List ℕ) (i : ℕ) → i < length ns
    → walked at w after limit (take (i + 1) ns)
    ≡ with_later w after limit (get_or ns i 0) (at (get_or ns i 0)) (walked at w after limit (take i ns))
one_more at w after limit ns i less =
    ap (walked at w after limit) (take_more ns i 0 less)
    ∙ fold-append (λ (ls : List (ℕ × List ℕ)) n. with_later w after limit n (at n) ls) [] (take i ns)
    (get_or ns i 0 ∷ [])

pub all_walked : (at : ℕ → Option Record) (w : Wanted) (after limit : ℕ) (ns : List ℕ) (i : ℕ) → length ns ≤ i
    → walked at w after limit (take i ns) ≡ walked at w after limit ns
all_walked at w after limit ns i all = ap (walked at w after limit) (take_all i ns all)

-- ---- so many at the most
full : {X : Type 0} (xs : List X) (limit : ℕ) → limit ≤ length xs → nat_lt (length (take limit xs)) limit ≡ false
full xs limit le = ap (λ n. nat_lt n limit) (length-take-le limit xs le) ∙ not_less limit limit (omega arith)

with_one : {X : Type 0} (limit : ℕ) (xs ys : List X) → length ys ≤ 1
    → (if nat_lt (length (take limit xs)) limit then take limit xs ++ ys else take limit xs) ≡ take limit (xs ++ ys)
with_one {X} limit xs ys one = here (cases_lt (length xs) limit)
  where
    here : (length xs < limit) ⊎ (limit ≤ length xs)
        → (if nat_lt (length (take limit xs)) limit then take limit xs ++ ys else take limit xs)
        ≡ take limit (xs ++ ys)
    here (inl less) =
        let whole : take limit xs ≡ xs = take_all limit xs (omega arith) in
        let room : nat_lt (length (take limit xs)) limit ≡ true =
        ap (λ (l : List X). nat_lt (length l) limit) whole ∙ is_less (length xs) limit less in
        let more : length (xs ++ ys) ≤ limit = grind (arith, length-append) in
        ap (λ (b : Bool). cond b (take limit xs ++ ys) (take limit xs)) room ∙ ap (λ (l : List X). l ++ ys) whole
        ∙ sym (take_all limit (xs ++ ys) more)
    here (inr le) = ap (λ (b : Bool). cond b (take limit xs ++ ys) (take limit xs)) (full xs limit le)
        ∙ sym (take-append-le limit xs ys le)

-- ---- the records after a number
abbrev later : ℕ → ℕ × Record → Bool
later after e = nat_lt after e.0

module _ (at : ℕ → Option Record) (w : Wanted) (after limit : ℕ) where
  abbrev these : List (ℕ × Record) → List (ℕ × List ℕ)
  these es = lines_of w (filter (later after) es)

  abbrev step : List (ℕ × List ℕ) → ℕ → List (ℕ × List ℕ)
  step ls n = with_later w after limit n (at n) ls

  at_most_one : (e : ℕ × Record) → length (line_of w e) ≤ 1
  at_most_one e = here (is_wanted w e.1)
    where
      here : (b : Bool) → length {A = ℕ × List ℕ} (cond b ((e.0, line e.0 e.1) ∷ []) []) ≤ 1
      here true = omega arith
      here false = omega arith

  these_more : (front : List (ℕ × Record)) (e : ℕ × Record) → these (front ++ e ∷ [])
      ≡ these front ++ these (e ∷ [])
  these_more front e = ap (lines_of w) (filter-append (later after) front (e ∷ []))
      ∙ flat_map-append (line_of w) (filter (later after) front) (filter (later after) (e ∷ []))

  stepped : (front : List (ℕ × Record)) (e : ℕ × Record) → at e.0 ≡ Some e.1
      → step (take limit (these front)) e.0 ≡ take limit (these (front ++ e ∷ []))
  stepped front e here =
      ap (λ o. with_later w after limit e.0 o (take limit (these front))) here
      ∙ (elim (nat_lt after e.0) as (λ b. cond b (with_found w limit e.0 (Some e.1) (take limit (these front)))
      (take limit (these front)) ≡ take limit (these front ++ lines_of w (cond b (e ∷ []) []))) [
        | true ↦ with_one limit (these front) (line_of w e) (at_most_one e)
            ∙ ap (λ ls. take limit (these front ++ ls)) (sym (append-nil (line_of w e)))
        | false ↦ ap (take limit) (sym (append-nil (these front)))
      ])
      ∙ ap (take limit) (sym (these_more front e))

  walked_on : (front es : List (ℕ × Record)) → Rises (front ++ es) → ((q : ℕ) → at q ≡ find nat_cmp q (front ++ es))
      → fold step (take limit (these front)) (map (λ (e : ℕ × Record). e.0) es) ≡ take limit (these (front ++ es))
  walked_on front [] rises agrees = ap (λ l. take limit (these l)) (sym (append-nil front))
  walked_on front (e ∷ es) rises agrees =
      let same : (front ++ e ∷ []) ++ es ≡ front ++ e ∷ es = append_assoc front (e ∷ []) es in
      ap (λ ls. fold step ls (map (λ (x : ℕ × Record). x.0) es))
      (stepped front e (agrees e.0 ∙ found_there front e es rises))
      ∙ walked_on (front ++ e ∷ []) es (subst Rises (sym same) rises)
      (λ q. agrees q ∙ ap (find nat_cmp q) (sym same))
      ∙ ap (λ l. take limit (these l)) same

-- ---- all records
pub page_is : (m : Records) (w : Wanted) (after limit : ℕ) → walked (get m) w after limit (keys m)
    ≡ page w after limit (entries m)
page_is m w after limit =
    ap (λ ls. fold (step (get m) w after limit) ls (keys m)) (sym (take_all limit [] (omega arith)))
    ∙ walked_on (get m) w after limit [] (entries m) (entries_sorted m) (get-entries m)

-- what holds of an answer
pub looked_more : {A : Type 0} (P Q : A → Type 0) → ((a : A) → P a → Q a) → (r : Result A RefusalKind) → Looked r P
    → Looked r Q
looked_more P Q f (Ok a) h = f a h
looked_more P Q f (Err e) h = h

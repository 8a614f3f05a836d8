-- The span of a number in lists of spans, where one is put or removed.
use Rattle.std.proofs.Common.{◌≡◌, ◌≢◌, ℕ, true, false, not, List, [], ◌∷◌, cond, filter, refl, sym, ap, ◌∙◌, arith}
use Rattle.std.specs.Prelude.{◌==◌, Option, Some, None}
use Rattle.std.specs.List.{list_any}
use Rattle.std.specs.Ordering.{nat_cmp, match_ordering}
use Rattle.std.specs.declared.cmp.Ordering.TheVariants.{Less, Equal, Greater}
use Rattle.std.specs.FinMap.{nat_cmp-IsAntisymmetric}
use Rattle.std.proofs.lemmas.Bool.Decides.{nat_tests}
use Rattle.gedcom_date.specs.declared.value.Span.{Span}
use Rattle.store_tables.specs.Rows.{SpanRow, put_by}
use Rattle.store_rows.specs.Spans.{span_at}
use Rattle.list_laws.proofs.Numbers.{it, is_not}
use Rattle.list_laws.proofs.Booleans.{or_first, or_second}

abbrev pub span_in : SpanRow → Option Span
span_in s = Some (record { lo = s.lo; hi = s.hi })

abbrev pub number_in : SpanRow → ℕ
number_in s = s.no

-- a number without a row has no span
pub none_at : (n : ℕ) (ss : List SpanRow) → list_any (λ (s : SpanRow). s.no == n) ss ≡ false → span_at n ss ≡ None
none_at n [] none = refl
none_at n (s ∷ ss) none =
    ap (λ b. cond b (span_in s) (span_at n ss)) (or_first (s.no == n) (list_any (λ (s : SpanRow). s.no == n) ss) none)
    ∙ none_at n ss (or_second (s.no == n) (list_any (λ (s : SpanRow). s.no == n) ss) none)

-- the spans of another number are removed
pub span_kept : (m n : ℕ) → n ≢ m → (ss : List SpanRow)
    → span_at m (filter (λ (s : SpanRow). not (s.no == n)) ss) ≡ span_at m ss
span_kept m n off [] = refl
span_kept m n off (s ∷ ss) =
    let rest = filter (λ (s : SpanRow). not (s.no == n)) ss in
    elim (s.no == n) as (λ b. (s.no == n) ≡ b → span_at m (cond (not b) (s ∷ rest) rest) ≡ span_at m (s ∷ ss)) [
      | true ↦ λ e. span_kept m n off ss ∙ sym (ap (λ b. cond b (span_in s) (span_at m ss))
          (ap (λ k. k == m) (it s.no n e) ∙ is_not n m off))
      | false ↦ λ e. ap (λ o. cond (s.no == m) (span_in s) o) (span_kept m n off ss)
    ] refl

-- the span of another number is put
pub put_elsewhere : (m : ℕ) (x : SpanRow) → x.no ≢ m → (ss : List SpanRow)
    → span_at m (put_by number_in x ss) ≡ span_at m ss
put_elsewhere m x off [] = ap (λ b. cond b (span_in x) None) (is_not x.no m off)
put_elsewhere m x off (s ∷ ss) =
    elim (nat_cmp s.no x.no) as (λ o. nat_cmp s.no x.no ≡ o
    → span_at m (match_ordering o (s ∷ put_by number_in x ss) (x ∷ ss) (x ∷ s ∷ ss)) ≡ span_at m (s ∷ ss)) [
      | Less ↦ λ p. ap (λ o. cond (s.no == m) (span_in s) o) (put_elsewhere m x off ss)
      | Equal ↦ λ p. let same : s.no ≡ x.no = nat_cmp-IsAntisymmetric s.no x.no p in
          ap (λ b. cond b (span_in x) (span_at m ss)) (is_not x.no m off)
          ∙ sym (ap (λ b. cond b (span_in s) (span_at m ss)) (ap (λ k. k == m) same ∙ is_not x.no m off))
      | Greater ↦ λ p. ap (λ b. cond b (span_in x) (span_at m (s ∷ ss))) (is_not x.no m off)
    ] refl

-- the span of a number that had none is put
pub put_here : (x : SpanRow) (ss : List SpanRow) → list_any (λ (s : SpanRow). s.no == x.no) ss ≡ false
    → span_at x.no (put_by number_in x ss) ≡ span_in x
put_here x [] none =
    let itself : (x.no == x.no) ≡ true = grind (arith, nat_tests) in ap (λ b. cond b (span_in x) None) itself
put_here x (s ∷ ss) none =
    let itself : (x.no == x.no) ≡ true = grind (arith, nat_tests) in
    let off = or_first (s.no == x.no) (list_any (λ (s : SpanRow). s.no == x.no) ss) none in
    let more = or_second (s.no == x.no) (list_any (λ (s : SpanRow). s.no == x.no) ss) none in
    elim (nat_cmp s.no x.no) as (λ o. span_at x.no
    (match_ordering o (s ∷ put_by number_in x ss) (x ∷ ss) (x ∷ s ∷ ss)) ≡ span_in x) [
      | Less ↦ ap (λ b. cond b (span_in s) (span_at x.no (put_by number_in x ss))) off ∙ put_here x ss more
      | Equal ↦ ap (λ b. cond b (span_in x) (span_at x.no ss)) itself
      | Greater ↦ ap (λ b. cond b (span_in x) (span_at x.no (s ∷ ss))) itself
    ]

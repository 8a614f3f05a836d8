-- Spans whose numbers ascend, as those of a table do: each number has its own, and one at the most.
use Rattle.std.proofs.Common.{
  ◌≡◌,
  ◌<◌,
  ℕ,
  List,
  [],
  ◌∷◌,
  ◌++◌,
  true,
  false,
  cond,
  refl,
  ap,
  subst,
  arith,
  eqb-true,
  eq-eqb,
}
use Rattle.std.specs.Prelude.{◌==◌, Some, None}
use Rattle.std.specs.List.{AllByRecursion}
use Rattle.sqlite_trees.specs.Tree.{IsAscending}
use Rattle.gedcom_date.specs.declared.value.Span.{Span}
use Rattle.record_shapes.specs.Lists.{Ascends, EachOf}
use Rattle.date_spans.specs.Between.{IsAmong}
use Rattle.date_spans.proofs.Picked.{first_among, rest_among}
use Rattle.store_tables.specs.Calls.{Settled}
use Rattle.store_tables.specs.Rows.{HoldsOwn, Rows, SpanRow}
use Rattle.store_rows.specs.Spans.{span_at}
use Rattle.table_looks.specs.Picking.{days_of, numbers_of}

above_each : (n : ℕ) (ss : List SpanRow) → AllByRecursion (λ (s : SpanRow). n < s.no) ss
    → EachOf (λ m. n < m) (numbers_of ss)
above_each n [] h = tt
above_each n (s ∷ ss) h = (h.0, above_each n ss h.1)

rising : (ss : List SpanRow) → IsAscending (λ (a b : SpanRow). a.no < b.no) ss → Ascends (numbers_of ss)
rising [] h = tt
rising (s ∷ ss) h = (above_each s.no ss h.0, rising ss h.1)

-- those of settled tables ascend
pub spans_rise : (s : _) (rows : Rows) → Settled s rows → rows.has_spans ≡ true → Ascends (numbers_of rows.spans)
spans_rise s rows was has =
    let held = subst (λ b. HoldsOwn b rows.lines rows.packs rows.spans rows.links rows.soughts s.now.trees) has
    was.good.holds.own in
    rising rows.spans held.1.spans_kept.rise

-- a number that has a span is among them
pub among_numbers : (n : ℕ) (ss : List SpanRow) (span : Span) → span_at n ss ≡ Some span → IsAmong n (numbers_of ss)
among_numbers n [] span e = absurd (let no : None ≡ Some span = e in cc)
among_numbers n (s ∷ ss) span e = elim (s.no == n) as (λ b. (s.no == n) ≡ b
    → cond b (Some (days_of s)) (span_at n ss) ≡ Some span → IsAmong n (numbers_of (s ∷ ss))) [
      | true ↦ λ is at. subst (λ k. IsAmong k (numbers_of (s ∷ ss))) (eqb-true s.no n is)
          (first_among s.no (numbers_of ss))
      | false ↦ λ is at. rest_among n s.no (numbers_of ss) (among_numbers n ss span at)
    ] refl e

each_last : (P : ℕ → Type 0) (xs : List SpanRow) (s : SpanRow) (ys : List SpanRow)
    → EachOf P (numbers_of (xs ++ s ∷ ys)) → P s.no
each_last P [] s ys h = h.0
each_last P (x ∷ xs) s ys h = each_last P xs s ys h.1

-- where they ascend, each row has the span of its number
pub own_span : (xs : List SpanRow) (s : SpanRow) (ys : List SpanRow) → Ascends (numbers_of (xs ++ s ∷ ys))
    → span_at s.no (xs ++ s ∷ ys) ≡ Some (days_of s)
own_span [] s ys h = ap (λ b. cond b (Some (days_of s)) (span_at s.no ys)) (eq-eqb s.no s.no refl)
own_span (x ∷ xs) s ys h = elim (x.no == s.no) as (λ b. (x.no == s.no) ≡ b
    → cond b (Some (days_of x)) (span_at s.no (xs ++ s ∷ ys)) ≡ Some (days_of s)) [
      | true ↦ λ is.
          let same : x.no ≡ s.no = eqb-true x.no s.no is in
          let less : x.no < s.no = each_last (λ m. x.no < m) xs s ys h.0 in
          absurd (omega (arith, same, less))
      | false ↦ λ is. own_span xs s ys h.1
    ] refl

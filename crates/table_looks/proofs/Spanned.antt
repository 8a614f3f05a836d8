-- Spans by their numbers, and of which records each has its own.
use Rattle.std.proofs.Common.{◌≡◌, ◌↔◌, ℕ, List, [], ◌∷◌, ◌++◌, Bool, true, false, cond, refl, sym, subst}
use Rattle.std.specs.Prelude.{◌==◌, IsTrue, Option, Some, None, MatchOption, Result, Ok, Err, IfOk}
use Rattle.std.specs.FinMap.{get, keys}
use Rattle.gedcom_date.specs.declared.value.Span.{Span}
use Rattle.record_kinds.specs.declared.record.Record.{Record}
use Rattle.record_shapes.specs.Lists.{EachOf}
use Rattle.archive_state.specs.Content.{Content}
use Rattle.date_spans.specs.Spans.{IsSpanOf, date_in}
use Rattle.date_spans.proofs.KeptSpans.{one_at_most}
use Rattle.archive_state.proofs.MapKeys.{among_keys, each_among}
use Rattle.store_tables.specs.Rows.{SpanRow}
use Rattle.store_rows.specs.Spans.{IsSpanned, span_at}
use Rattle.table_looks.specs.Spanning.{HasOwn, HaveSpans, first_there, spans_in}

-- ---- spans that are gathered row by row
pub more_rows : (n : ℕ) (ss : List SpanRow) (s : SpanRow) → spans_in (ss ++ s ∷ []) n
    ≡ first_there (spans_in ss n) (spans_in (s ∷ []) n)
more_rows n [] s = refl
more_rows n (x ∷ xs) s = elim (x.no == n) as (λ b. cond b (Some (record { lo = x.lo; hi = x.hi }))
    (span_at n (xs ++ s ∷ [])) ≡ first_there (cond b (Some (record { lo = x.lo; hi = x.hi })) (span_at n xs))
    (span_at n (s ∷ []))) [
      | true ↦ refl
      | false ↦ more_rows n xs s
    ]

-- ---- whether a record has its own
pub tested : (r : Record) (own kept : Option Span) (b : Bool) → IsSpanOf (date_in r) own → IsTrue b ↔ (own ≡ kept)
    → IsTrue b ↔ IsSpanOf (date_in r) kept
tested r own kept b is test = (
  λ t. subst (λ (o : Option Span). IsSpanOf (date_in r) o) (test.0 t) is,
  λ other. test.1 (one_at_most (date_in r) own kept is other),
)

-- ---- that each has
own_at : (look : ℕ → Option Span) (n : ℕ) (found : Option Record) → ((r : Record) → found ≡ Some r
    → IsSpanned found (look n)) → IsSpanned found (look n)
own_at look n None h = tt
own_at look n (Some r) h = h r refl

pub all_own : (c : Content) (look : ℕ → Option Span) → EachOf (HasOwn c look) (keys c.records) → (n : ℕ)
    → HasOwn c look n
all_own c look each n = own_at look n (get c.records n)
    (λ r at. each_among (HasOwn c look) (keys c.records) n each (among_keys c.records n r at))

-- what was found of the keys, of spans that are those of the rows
pub first_found : {E : Type 0} (c : Content) (look : ℕ → Option Span) (rows : List SpanRow) (ns : List ℕ)
    (result : Result (Option ℕ) E) → ((n : ℕ) → look n ≡ spans_in rows n) → ns ≡ keys c.records
    → IfOk result (λ o. MatchOption o (EachOf (HasOwn c look) ns) (λ n. ¬ (HasOwn c look n)))
    → IfOk result (λ o. MatchOption o (HaveSpans rows c) (λ n. ¬ (HasOwn c (spans_in rows) n)))
first_found c look rows ns (Ok None) is are each = λ n.
    subst (λ (o : Option Span). IsSpanned (get c.records n) o) (is n)
    (all_own c look (subst (λ (ks : List ℕ). EachOf (HasOwn c look) ks) are each) n)
first_found c look rows ns (Ok (Some k)) is are lacks = λ own.
    lacks (subst (λ (o : Option Span). IsSpanned (get c.records k) o) (sym (is k)) own)
first_found c look rows ns (Err e) is are h = tt

-- The spans of the records of an import, one after the other.
use Rattle.std.proofs.Common.{
  ◌≡◌,
  ℕ,
  ◌+◌,
  ◌<◌,
  List,
  [],
  ◌∷◌,
  ◌++◌,
  Option,
  ap,
  get_or,
  length,
  refl,
  subst,
  sym,
  take,
  ◌∙◌,
}
use Rattle.std.specs.List.{flat_map}
use Rattle.std.proofs.lemmas.Grind.{flat_map-append}
use Rattle.std.proofs.lemmas.List.{append-nil}
use Rattle.gedcom_date.specs.declared.value.Span.{Span}
use Rattle.archive_state.specs.declared.changes.Numbered.{Numbered}
use Rattle.store_rows.specs.Spans.{AreDrawn, Drawn, IsDrawn}
use Rattle.staged_rows.specs.Staging.{StagedRow, span_row}
use Rattle.staging.specs.Opened.{AreDated, DrawsOne}
use Rattle.staging.specs.declared.dated.Dated.{Dated}
use Rattle.staging.proofs.Counting.{taken_next}

drawn_behind : (ps : List Numbered) (ds : Drawn) (p : Numbered) (d : ℕ × Option Span) → AreDrawn ps ds → IsDrawn p d
    → AreDrawn (ps ++ p ∷ []) (ds ++ d ∷ [])
drawn_behind [] [] p d are is = (is, tt)
drawn_behind [] (e ∷ ds) p d are is = absurd are
drawn_behind (q ∷ ps) [] p d are is = absurd are
drawn_behind (q ∷ ps) (e ∷ ds) p d are is = (are.0, drawn_behind ps ds p d are.1 is)

one_more : (ps : List Numbered) (p : Numbered) (old new : List Dated) → AreDated ps old → DrawsOne p old new
    → AreDated (ps ++ p ∷ []) new
one_more ps p old new are one =
    let d : ℕ × Option Span = (p.number, one.0) in (
      are.0 ++ d ∷ [],
      drawn_behind ps are.0 p d are.1 (refl, one.1),
      one.2 ∙ ap (λ (xs : List StagedRow). xs ++ span_row d) are.2
          ∙ sym (flat_map-append span_row are.0 (d ∷ [])
          ∙ ap (λ xs. flat_map span_row are.0 ++ xs) (append-nil (span_row d))),
    )

pub next_dated : (ps : List Numbered) (i : ℕ) (p : Numbered) (old new : List Dated) → i < length ps
    → p ≡ get_or ps i p → AreDated (take i ps) old → DrawsOne p old new → AreDated (take (i + 1) ps) new
next_dated ps i p old new low is are one =
    subst (λ qs. AreDated qs new) (sym (taken_next ps i p low is)) (one_more (take i ps) p old new are one)

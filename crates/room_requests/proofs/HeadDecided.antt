-- What the front of an input decides of the whole.
use Rattle.std.proofs.Common.{
  ◌≡◌,
  ◌≤◌,
  ◌+◌,
  ◌-◌,
  ℕ,
  List,
  ◌++◌,
  length,
  take,
  drop,
  sym,
  ap,
  ◌∙◌,
  arith,
  Option,
  Some,
  None,
  inl,
  inr,
  append_assoc,
  ◌⊎◌,
}
use Rattle.std.proofs.lemmas.List.{length-map, length-take, length-append}
use Rattle.std.proofs.Math.Seq.{take-append-add, take-append_seam}
use Rattle.std.specs.Prelude.{IfSome}
use Rattle.std.specs.Io.KnownBytes.{Consumes}
use Rattle.httparse.proofs.GrammarLemmas.{ReadsRequest-append}
use Rattle.httparse.specs.Spans.{IsRequestWithin}
use Rattle.httparse.specs.declared.spans.HeaderSpan.{HeaderSpan}
use Rattle.httparse.specs.declared.spans.RequestSpans.{RequestSpans}
use Rattle.room_requests.specs.Heads.{Begins, HasManyLines, IsLong}
use Rattle.room_requests.specs.Parts.{Head}
use Rattle.room_requests.specs.Reading.{IsCopied, IsOverfull}
use Rattle.room_requests.specs.declared.head.HeadRead.TheVariants as read

-- what a list begins with, a longer front of it begins with
pub front_begins : (f x p y : List ℕ) → f ++ x ≡ p ++ y → length p ≤ length f → (z : List ℕ) × (f ≡ p ++ z)
front_begins f x p y e h =
    let size : length p + (length f - length p) ≡ length f = omega arith in (
      take (length f - length p) y,
      sym (take-append_seam f x) ∙ ap (take (length f)) e ∙ ap (λ m. take m (p ++ y)) (sym size)
          ∙ take-append-add p y (length f - length p),
    )

pub overfull : (front rest : List ℕ) → IsOverfull front → HasManyLines (front ++ rest) ⊎ IsLong (front ++ rest)
overfull front rest (inl (exceeds, overflows)) = inl (record {
  exceeds = (
    exceeds.0,
    exceeds.1 ++ rest,
    ap (λ z. z ++ rest) exceeds.2 ∙ append_assoc exceeds.0 exceeds.1 rest,
    exceeds.3,
    exceeds.4,
    exceeds.5,
  );
  all = λ h after reads. overflows rest h after reads;
})
overfull front rest (inr (full, none)) = inr (record {
  size = omega (arith, length-append front rest);
  none = rw (← full, take-append_seam front rest) none;
})

pub too_large_begins : (old new : Option (List ℕ)) (front : List ℕ) → Consumes old new front
    → IsOverfull front → IfSome old (λ input. Begins input read.TooLarge)
too_large_begins None new front taken shows = tt
too_large_begins (Some input) None front taken shows = absurd taken
too_large_begins (Some input) (Some rest) front taken shows = rw taken (overfull front rest shows)

pub whole : (front rest : List ℕ) (lines : List HeaderSpan) (spans : RequestSpans) (head : Head)
    → length front ≤ 8192 → length lines ≡ 64 → IsRequestWithin front lines spans
    → IsCopied front lines spans head → Begins (front ++ rest) (read.Whole head)
whole front rest lines spans head size room within (h, at, same) =
    let count = simp (length-map, length-take) at (ap length at.fields) in (
      h,
      record {
        rest = drop spans.len front ++ rest;
        reads = ReadsRequest-append front h (drop spans.len front) rest at.reads;
        size = omega (arith, at.len, within.section.len_fits);
        lines = omega (arith, count);
      },
      same,
    )

pub whole_begins : (old new : Option (List ℕ)) (front : List ℕ) (lines : List HeaderSpan) (spans : RequestSpans)
    (head : Head) → Consumes old new front → length front ≤ 8192 → length lines ≡ 64
    → IsRequestWithin front lines spans → IsCopied front lines spans head
    → IfSome old (λ input. Begins input (read.Whole head))
whole_begins None new front lines spans head taken size room within copied = tt
whole_begins (Some input) None front lines spans head taken size room within copied = absurd taken
whole_begins (Some input) (Some rest) front lines spans head taken size room within copied =
    rw taken (whole front rest lines spans head size room within copied)

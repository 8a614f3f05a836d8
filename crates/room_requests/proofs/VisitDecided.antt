-- What answers alike to what bytes begin with, answers the same bytes alike.
use Rattle.std.proofs.Common.{◌≡◌, ◌⊎◌, ℕ, List, ap, sym, ◌∙◌, inl, inr}
use Rattle.room_requests.specs.Heads.{Begins, IsRefused}
use Rattle.room_requests.specs.declared.head.HeadRead.{HeadRead}
use Rattle.room_requests.specs.Visits.{Answering, AnswersBy, IsEitherBy}

-- that only the bytes decide what they begin with
abbrev pub BytesDecide : Type 0
BytesDecide = (input : List ℕ) (a b : HeadRead) → Begins input a → Begins input b
    → (a ≡ b) ⊎ (IsRefused a × IsRefused b)

either : (answer : Answering) (shown : HeadRead) (output : List ℕ) → IsRefused shown → output ≡ answer shown
    → IsEitherBy answer output
either answer shown output (inl malformed) e = inl (e ∙ ap answer malformed)
either answer shown output (inr too_large) e = inr (e ∙ ap answer too_large)

pub decided : BytesDecide → (answer other : Answering) (input one two : List ℕ) → answer ≡ other
    → AnswersBy answer input one → AnswersBy other input two
    → (one ≡ two) ⊎ (IsEitherBy answer one × IsEitherBy other two)
decided law answer other input one two same (a, x, e) (b, y, f) = elim (law input a b x y) [
  | inl s ↦ inl (e ∙ ap answer s ∙ ap (λ (g : Answering). g b) same ∙ sym f)
  | inr r ↦ inr (either answer a one r.0 e, either other b two r.1 f)
]

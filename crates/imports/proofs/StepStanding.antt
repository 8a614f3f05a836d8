-- Where the records of a batch stand, whose numbers count up.
use Rattle.std.proofs.Common.{◌≡◌, ℕ, ◌+◌, ◌<◌, ◌≤◌, List, [], ◌∷◌, sym, ap, ◌∙◌, inl, inr, arith}
use Rattle.std.specs.Prelude.{◌≢◌, Some, None}
use Rattle.std.proofs.Math.Nat.{eq-or-lt_of_le}
use Rattle.std.specs.FinMap.{get, insert}
use Rattle.record_shapes.specs.Lists.{Ascends, EachOf}
use Rattle.archive_state.specs.Applied.{with_puts}
use Rattle.archive_state.specs.Content.{Records}
use Rattle.archive_state.specs.declared.changes.Numbered.{Numbered}
use Rattle.archive_state.proofs.Putting.{put_here}
use Rattle.imports.specs.Imported.{CountUp}
use Rattle.imports.proofs.SoundStanding.{numbers_of, below_stays}

-- from the first up to the end each number has a record
pub all_taken : (ps : List Numbered) (m : Records) (first end n : ℕ) → CountUp first end (numbers_of ps) → first ≤ n
    → n < end → get (with_puts m ps) n ≢ None
all_taken [] m first end n h low high none = let same : first ≡ end = h in absurd (omega arith)
all_taken (p ∷ ps) m first end n h low high none =
    let here : p.number ≡ first = h.0 in
    elim (eq-or-lt_of_le low) as (λ _. ⊥) [
      | inr less ↦ all_taken ps (insert m p.number p.«record») (first + 1) end n h.1 (omega arith) high none
      | inl same ↦
          let at : get (with_puts (insert m p.number p.«record») ps) p.number ≡ Some p.«record» =
          below_stays ps (insert m p.number p.«record») (first + 1) end p.number h.1 (omega arith)
          ∙ put_here m p.number p.«record» in
          let number : p.number ≡ n = here ∙ same in
          let both : Some p.«record» ≡ None = sym at
          ∙ ap (get (with_puts (insert m p.number p.«record») ps)) number ∙ none in
          absurd cc
    ]

-- numbers that count up ascend
pub from_first : (ns : List ℕ) (first end low : ℕ) → low < first → CountUp first end ns → EachOf (λ n. low < n) ns
from_first [] first end low less h = tt
from_first (n ∷ ns) first end low less h =
    let here : n ≡ first = h.0 in (omega arith, from_first ns (first + 1) end low (omega arith) h.1)

pub ascend : (ns : List ℕ) (first end : ℕ) → CountUp first end ns → Ascends ns
ascend [] first end h = tt
ascend (n ∷ ns) first end h =
    let here : n ≡ first = h.0 in
    (from_first ns (first + 1) end n (omega arith) h.1, ascend ns (first + 1) end h.1)

-- where none stands from a number on, none stands where one is put
pub free_from : (m : Records) (next : ℕ) → ((n : ℕ) → next ≤ n → get m n ≡ None) → (ps : List Numbered)
    (first end : ℕ) → next ≤ first → CountUp first end (numbers_of ps)
    → EachOf (λ (p : Numbered). get m p.number ≡ None) ps
free_from m next none [] first end low h = tt
free_from m next none (p ∷ ps) first end low h =
    let here : p.number ≡ first = h.0 in
    (none p.number (omega arith), free_from m next none ps (first + 1) end (omega arith) h.1)

-- so each that is put there is new
pub none_before : (m : Records) (next : ℕ) → ((n : ℕ) → next ≤ n → get m n ≡ None) → (ps : List Numbered)
    (first end : ℕ) → next ≤ first → CountUp first end (numbers_of ps)
    → EachOf (λ (p : Numbered). get m p.number ≢ Some p.«record») ps
none_before m next none [] first end low h = tt
none_before m next none (p ∷ ps) first end low h =
    let here : p.number ≡ first = h.0 in (
      (λ at. let both : None ≡ Some p.«record» = sym (none p.number (omega arith)) ∙ at in absurd cc),
      none_before m next none ps (first + 1) end (omega arith) h.1,
    )

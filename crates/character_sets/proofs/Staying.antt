-- What stays of lines, where units go to the next one.
use Rattle.std.proofs.Common.{
  ◌≡◌,
  ◌∙◌,
  ◌-◌,
  ◌++◌,
  ◌∷◌,
  [],
  List,
  Option,
  Some,
  None,
  ap,
  arith,
  drop,
  if◌then◌else◌,
  length,
  map,
  refl,
  take,
  true,
  false,
  ℕ,
}
use Rattle.std.proofs.Math.Seq.{take-length}
use Rattle.std.proofs.lemmas.List.{drop_all}
use Rattle.character_sets.specs.declared.set.CharacterSet.{CharacterSet}
use Rattle.character_sets.specs.Cuts.{cut_units}
use Rattle.character_sets.specs.declared.heads.LineHead.{LineHead}
use Rattle.character_sets.specs.Lines.{Line, is_blank}
use Rattle.character_sets.specs.Heads.{head_of}
use Rattle.character_sets.specs.Moves.{cut_at, cut_between, goes_on, joined, kept, last, moved, next_body}
use Rattle.character_sets.specs.Kept.{HaveSameEnds}

pub ends : (set : CharacterSet) (carry : List ℕ) (ls : List Line) → HaveSameEnds (moved set carry ls) ls
ends set carry [] = refl
ends set carry (l ∷ ls) =
    let n = cut_at set carry l.body (next_body ls) in
    let whole = joined carry l.body in
    elim (is_blank l.body) as (λ b. map (λ (k : Line). k.ending) (if b then l ∷ moved set carry ls
    else record { body = kept n whole; ending = l.ending } ∷ moved set (last n whole) ls)
    ≡ map (λ (k : Line). k.ending) (l ∷ ls)) [
      | true ↦ ap (λ r. l.ending ∷ r) (ends set carry ls)
      | false ↦ ap (λ r. l.ending ∷ r) (ends set (last n whole) ls)
    ]

-- a set of which no unit goes to the next line
abbrev NeverCut : CharacterSet → Type 0
NeverCut set = (value after : List ℕ) → cut_units set value after ≡ 0

no_cut : (set : CharacterSet) → NeverCut set → (carry body next : List ℕ) (h k : Option LineHead)
    → cut_between set carry body next h k ≡ 0
no_cut set f carry body next None k = refl
no_cut set f carry body next (Some h) None = refl
no_cut set f carry body next (Some h) (Some k) =
    elim (goes_on h k) as (λ b. (if b then cut_units set (carry ++ drop h.value_at body) (drop k.value_at next) else 0)
    ≡ 0) [
      | true ↦ f (carry ++ drop h.value_at body) (drop k.value_at next)
      | false ↦ refl
    ]

uncut : (set : CharacterSet) → NeverCut set → (carry body next : List ℕ) → cut_at set carry body next ≡ 0
unfolding cut_at
uncut set f carry body next = no_cut set f carry body next (head_of body) (head_of next)

no_less : (n : ℕ) → n - 0 ≡ n
no_less n = omega arith

all_kept : (body : List ℕ) → kept 0 body ≡ body
all_kept body = ap (λ n. take n body) (no_less (length body)) ∙ take-length body

none_last : (body : List ℕ) → last 0 body ≡ []
none_last body = drop_all (length body - 0) body (omega arith)

pub stay : (set : CharacterSet) → NeverCut set → (ls : List Line) → moved set [] ls ≡ ls
stay set f [] = refl
stay set f (l ∷ ls) =
    let n = cut_at set [] l.body (next_body ls) in
    let off : n ≡ 0 = uncut set f [] l.body (next_body ls) in
    elim (is_blank l.body) as (λ b. (if b then l ∷ moved set [] ls
    else record { body = kept n l.body; ending = l.ending } ∷ moved set (last n l.body) ls) ≡ l ∷ ls) [
      | true ↦ ap (λ r. l ∷ r) (stay set f ls)
      | false ↦
          ap (λ m. record { body = kept m l.body; ending = l.ending } ∷ moved set (last m l.body) ls) off
          ∙ (ap (λ body. record { body = body; ending = l.ending } ∷ moved set (last 0 l.body) ls) (all_kept l.body)
          ∙ (ap (λ carry. l ∷ moved set carry ls) (none_last l.body) ∙ ap (λ r. l ∷ r) (stay set f ls)))
    ]

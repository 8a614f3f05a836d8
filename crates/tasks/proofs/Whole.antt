-- Bytes that were read up to a limit: all of them, or more than that.
use Rattle.std.proofs.Common.{
  ◌≡◌,
  ◌∙◌,
  ◌<◌,
  ◌≤◌,
  ◌+◌,
  ℕ,
  List,
  Option,
  Some,
  None,
  IfSome,
  ap,
  arith,
  length,
  length-take,
  min,
  take,
  take_all,
}
use Rattle.character_sets.specs.declared.set.CharacterSet.{CharacterSet}
use Rattle.page_texts.specs.Texts.{page_text}
use Rattle.tasks.specs.Checking.{AreRead, IsText}

all_there : (most : ℕ) (known all : List ℕ) → all ≡ take (most + 1) known → length all ≤ most
    → (all ≡ known) × (length known ≤ most)
all_there most known all e few =
    let measured : length all ≡ min (most + 1) (length known) = ap length e ∙ length-take (most + 1) known in
    let short : length known ≤ most = omega (arith, measured, few) in
    let less : length known ≤ most + 1 = omega (arith, short) in
    (e ∙ take_all (most + 1) known less, short)

pub whole : (most : ℕ) (known : Option (List ℕ)) (all : List ℕ) → IfSome known (λ k. all ≡ take (most + 1) k)
    → length all ≤ most → IfSome known (λ k. (all ≡ k) × (length k ≤ most))
whole most None all e few = tt
whole most (Some k) all e few = all_there most k all e few

pub more : (most : ℕ) (known : Option (List ℕ)) (all : List ℕ) → IfSome known (λ k. all ≡ take (most + 1) k)
    → most < length all → IfSome known (λ k. most < length k)
more most None all e many = tt
more most (Some k) all e many =
    let measured : length all ≡ min (most + 1) (length k) = ap length e ∙ length-take (most + 1) k in
    omega (arith, measured, many)

-- the text of bytes that were read
pub is_text : (set : Option CharacterSet) (known : Option (List ℕ)) (bytes text : List ℕ) → AreRead known bytes
    → text ≡ page_text set bytes → IsText set known text
is_text set None bytes text read is = tt
is_text set (Some all) bytes text read is = (is ∙ ap (page_text set) read.0, read.1)

-- One more mention of a register entry.
use Rattle.std.proofs.Common.{
  ◌≡◌,
  ◌<◌,
  ◌+◌,
  ◌∙◌,
  ◌++◌,
  ◌∷◌,
  ℕ,
  List,
  length,
  drop,
  get_or,
  ap,
  sym,
  append_assoc,
}
use Rattle.std.proofs.lemmas.List.{at_drop_more}
use Rattle.record_kinds.specs.Model.{Mention}
use Rattle.doubts.specs.Doubts.{Doubt, link_doubts, linked, twice_doubts}

-- what is found so far and what the mentions that are left give stays all
pub next_mention : (n : ℕ) (xs : List Mention) (i : ℕ) (x : Mention) (before more : List ℕ) (old new all : List Doubt)
    → i < length xs → x ≡ get_or xs i x → new ≡ old ++ link_doubts n before x.link → more ≡ before ++ linked x.link
    → old ++ twice_doubts n before (drop i xs) ≡ all → new ++ twice_doubts n more (drop (i + 1) xs) ≡ all
next_mention n xs i x before more old new all less at is gets was =
    let rest = drop (i + 1) xs in
    ap (λ (l : List Doubt). l ++ twice_doubts n more rest) is
    ∙ ap (λ (ks : List ℕ). (old ++ link_doubts n before x.link) ++ twice_doubts n ks rest) gets
    ∙ append_assoc old (link_doubts n before x.link) (twice_doubts n (before ++ linked x.link) rest)
    ∙ ap (λ (y : Mention). old ++ twice_doubts n before (y ∷ rest)) at
    ∙ sym (ap (λ (l : List Doubt). old ++ l) (at_drop_more (twice_doubts n before) xs i x less))
    ∙ was

-- A text that grows by one piece in each turn of a loop.
use Rattle.std.proofs.Common.{
  ◌≡◌,
  ℕ,
  ◌+◌,
  ◌<◌,
  List,
  [],
  ◌∷◌,
  ◌++◌,
  length,
  take,
  get_or,
  flat_map,
  encode_utf8_all,
  add-one,
  append-nil,
  sym,
  ap,
  ◌∙◌,
}
use Rattle.std.proofs.lemmas.Grind.{flat_map-append}
use Rattle.std.proofs.lemmas.List.{append_assoc}
use Rattle.std.proofs.lemmas.Str.{encodes-append}
use Rattle.std.proofs.Math.Seq.{take-suc}

-- one more item
pieces_pushed : {X A : Type 0} (f : X → List A) (xs : List X) (x : X)
    → flat_map f (xs ++ x ∷ []) ≡ flat_map f xs ++ f x
pieces_pushed f xs x = flat_map-append f xs (x ∷ []) ∙ ap (λ l. flat_map f xs ++ l) (append-nil (f x))

-- one more item of a list, whose piece was put after the text
pub grown : {X : Type 0} (f : X → List ℕ) (old out new : List ℕ) (xs : List X) (i : ℕ) (x : X) → i < length xs
    → x ≡ get_or xs i x → out ≡ old ++ flat_map f (take i xs) → new ≡ out ++ f x
    → new ≡ old ++ flat_map f (take (i + 1) xs)
grown f old out new xs i x less at was is = is ∙ ap (λ l. l ++ f x) was
    ∙ append_assoc old (flat_map f (take i xs)) (f x) ∙ ap (λ l. old ++ l)
    (sym (pieces_pushed f (take i xs) x)
    ∙ ap (flat_map f) (sym (take-suc xs i x less ∙ ap (λ y. take i xs ++ y ∷ []) (sym at))
    ∙ ap (λ k. take k xs) (sym (add-one i))))

-- one more character, each of which is spelt as others
pub spelt : (f : ℕ → List ℕ) (old out new cs : List ℕ) (c : ℕ) → out ≡ old ++ encode_utf8_all (flat_map f cs)
    → new ≡ out ++ encode_utf8_all (f c) → new ≡ old ++ encode_utf8_all (flat_map f (cs ++ c ∷ []))
spelt f old out new cs c was is = is ∙ ap (λ l. l ++ encode_utf8_all (f c)) was
    ∙ append_assoc old (encode_utf8_all (flat_map f cs)) (encode_utf8_all (f c)) ∙ ap (λ l. old ++ l)
    (sym (encodes-append (flat_map f cs) (f c)) ∙ ap encode_utf8_all (sym (pieces_pushed f cs c)))

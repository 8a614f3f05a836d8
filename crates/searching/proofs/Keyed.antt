-- The words of a search as one text.
use Rattle.std.proofs.Common.{◌≡◌, ◌++◌, ◌∷◌, [], ℕ, List, ap, map, refl}
use Rattle.std.specs.Prelude.{encode_utf8_all}
use Rattle.std.specs.Global.{Vec}
use Rattle.std.specs.List.{flat_map}
use Rattle.searching.specs.Scans.{items}
use Rattle.searching.specs.Words.{key_text}

pub key_is : (words : List (Vec ℕ)) → flat_map (λ w. encode_utf8_all (items w) ++ 32 ∷ []) words
    ≡ key_text (map items words)
key_is [] = refl
key_is (word ∷ words) = ap (λ (l : List ℕ). (encode_utf8_all word.items ++ 32 ∷ []) ++ l) (key_is words)

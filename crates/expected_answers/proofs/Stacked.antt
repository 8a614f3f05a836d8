-- Texts of which the next one is the last.
use Rattle.std.proofs.Common.{◌≡◌, ◌∙◌, ◌++◌, ◌∷◌, [], ℕ, List, ap, map, reverse, sym}
use Rattle.std.proofs.lemmas.List.{reverse-append}
use Rattle.std.specs.Global.{Vec}
use Rattle.expected_answers.specs.Expected.{rest, texts_in, turned}

abbrev items_of : Vec ℕ → List ℕ
items_of v = v.items

pub put_first : (old new : Vec (Vec ℕ)) (text : Vec ℕ) → new.items ≡ old.items ++ text ∷ []
    → texts_in new ≡ text.items ∷ texts_in old
put_first old new text is =
    ap turned is ∙ ap (map items_of) (reverse-append old.items (text ∷ []))

pub without_first : (old new : Vec (Vec ℕ)) (text : Vec ℕ) → old.items ≡ new.items ++ text ∷ []
    → texts_in new ≡ rest (texts_in old)
without_first old new text is = sym (ap rest (put_first new old text is))

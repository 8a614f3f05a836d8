-- What tasks print of what they have done. Rules of our own.
use Rattle.std.specs.Prelude.{◌++◌, ◌∷◌, [], ℕ, List, codes}
use Rattle.std.specs.Fmt.{decimal}
use Rattle.receipts.specs.declared.answer.Answer.{Answer}

-- how many entries a batch has made, and the number of the first
abbrev pub made_text : Answer → List ℕ
made_text answer = codes "made "
    ++ (decimal answer.count ++ (codes " entries, first " ++ (decimal answer.first ++ 10 ∷ [])))

-- how many records a sound archive has
abbrev pub sound_text : ℕ → List ℕ
sound_text n = codes "sound: " ++ (decimal n ++ (codes " records" ++ 10 ∷ []))

-- The line of a row that was refused: a rule of our own.
use Rattle.std.specs.Prelude.{◌≡◌, ◌++◌, ◌∷◌, [], ℕ, List, codes}
use Rattle.std.specs.Fmt.{decimal}
use Rattle.record_text.specs.Refusals.{name_of, number_of}
use Rattle.record_text.specs.declared.refusal.RefusalKind.{RefusalKind}

-- `row <n>: <no.> <Name>: <what is wrong>` and LF
abbrev pub line_text : ℕ → ℕ → List ℕ → List ℕ → List ℕ
line_text row refusal name what = codes "row " ++ (decimal row ++ (codes ": " ++ (decimal refusal
    ++ (codes " " ++ (name ++ (codes ": " ++ (what ++ 10 ∷ [])))))))

abbrev pub fault_text : ℕ → RefusalKind → List ℕ → List ℕ
fault_text row kind what = line_text row (number_of kind) (name_of kind) what

-- what is wrong is said in words of our own
abbrev pub IsFault : ℕ → RefusalKind → List ℕ → Type 0
IsFault row kind line = (what : List ℕ) × (line ≡ fault_text row kind what)

-- The value of a field is that whose word its text is.
use Rattle.std.specs.Prelude.{◌≡◌, ℕ, List, Option, Some}
use Rattle.std.proofs.Common.{ap, sym, ◌∙◌}
use Rattle.records.specs.Reading.{read_by}

pub read_text : {A : Type 0} (of_text : List ℕ → Option A) (words text : List ℕ) (o : Option (List ℕ)) (r : Option A)
    → r ≡ of_text words → words ≡ text → o ≡ Some text → r ≡ read_by of_text o
read_text of_text words text o r e same is = e ∙ ap of_text same ∙ ap (read_by of_text) (sym is)

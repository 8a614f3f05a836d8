-- Rows are read back.
use Rattle.std.specs.Prelude.{map}
use Rattle.std.proofs.Common.{◌≡◌, ◌∷◌, [], ℕ, List, refl, ap, length}
use Rattle.csv.specs.Reading.{default_config, records_from}
use Rattle.csv.specs.Writing.{read_back}
use Rattle.csv.specs.declared.parser.State.TheVariants as st
use Rattle.csv.proofs.RoundTrip.{read-write}
use Rattle.list_rows.specs.Cells.{cell, rows}

pub read_again : (found : List (List (List ℕ)))
    → records_from default_config (length found) st.StartRecord (rows found)
    ≡ map (λ texts. read_back (map cell texts)) found
unfolding records_from
read_again [] = refl
read_again (texts ∷ found) = rw (read-write (map cell texts) (rows found))
    (ap (λ (t : List (List (List ℕ))). read_back (map cell texts) ∷ t) (read_again found))

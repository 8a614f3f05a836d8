use Rattle.std.proofs.Common.{Bor, List, ap, map, ℕ, ◌∙◌}
use Rattle.csv.specs.Records.{fields_of}
use Rattle.request_csv.proofs.Added.{of_texts}
use Rattle.request_csv.proofs.reading.entry_of.Goals as goal

pub returns-in-Some : goal.returns-in-Some
returns-in-Some c =
    let found = rw c.in-Some.is at c.in_ok-fields.ensures in
    let now : Bor (List ℕ) → List ℕ = λ f. f.now in of_texts (fields_of c.args.row.now)
    (map now c.as_slice.result.now) c.of_row.result found.0 (ap (map now) c.as_slice.ensures.value ∙ found.1)
    c.of_row.ensures

use Rattle.std.proofs.Common.{Bor, List, ap, map, ℕ, ◌∙◌}
use Rattle.csv.specs.Records.{fields_of}
use Rattle.archive_input.proofs.Firsts.{asks_by_first}
use Rattle.archive_input.proofs.request.read_request.Goals as goal

pub returns-in-Some : goal.returns-in-Some
returns-in-Some c =
    let found = rw c.in-Some.is at c.in_ok-fields.ensures in
    let now : Bor (List ℕ) → List ℕ = λ f. f.now in asks_by_first (fields_of c.args.row.now)
    (map now c.as_slice.result.now) c.request_of.result found.0 (ap (map now) c.as_slice.ensures.value ∙ found.1)
    c.request_of.ensures

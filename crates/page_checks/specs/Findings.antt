-- What is found in a row of a page.
use Rattle.std.specs.Prelude.{ℕ, Bool, true, false, not, List, [], ◌∷◌, Option, Some, None}
use Rattle.std.specs.List.{list_any}
use Rattle.page_checks.specs.declared.findings.CheckedRow.{CheckedRow}
use Rattle.page_checks.specs.declared.findings.Finding.{Finding}
use Rattle.page_checks.specs.declared.findings.What.{What}
use Rattle.page_checks.specs.declared.findings.What.TheVariants.{Doubtful}

abbrev pub found : What → List ℕ → List ℕ → List Finding
found what column cell = record { what = what; column = column; cell = cell } ∷ []

abbrev pub maybe : Option What → List ℕ → List ℕ → List Finding
maybe None column cell = []
maybe (Some what) column cell = found what column cell

abbrev pub is_doubt : What → Bool
is_doubt (Doubtful doubt) = true
is_doubt _ = false

abbrev pub has_wrong : List Finding → Bool
has_wrong findings = list_any (λ (f : Finding). not (is_doubt f.what)) findings

abbrev pub has_doubt : List Finding → Bool
has_doubt findings = list_any (λ (f : Finding). is_doubt f.what) findings

-- a row is wrong where something would be refused
abbrev pub is_wrong : CheckedRow → Bool
is_wrong row = has_wrong row.findings

abbrev pub is_doubtful : CheckedRow → Bool
is_doubtful row = has_doubt row.findings

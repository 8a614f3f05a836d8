-- What the first fields of a row ask for, the row asks for.
use Rattle.std.proofs.Common.{◌≡◌, ◌∷◌, ℕ, List, [], take, Ok, Err, inl, inr, subst}
use Rattle.csv.specs.Records.{AllText}
use Rattle.request_csv.specs.Input.{Row, first_fields}
use Rattle.request_csv.proofs.Wide.{reads_command}
use Rattle.archive_input.specs.Requests.{Asked, Asks, AsksText, AsksUnder, OrWants}

under_first : (token word : List ℕ) (fields : Row) (asked : Asked) → AsksUnder token (word ∷ take 208 fields) asked
    → AsksUnder token (word ∷ fields) asked
under_first token word fields asked h = (h.0, reads_command word fields h.0 h.1, h.2)

asked_first : (row : Row) (asked : Asked) → AsksText (first_fields row) asked → AsksText row asked
asked_first [] asked h = h
asked_first (token ∷ []) asked h = h
asked_first (token ∷ word ∷ fields) asked (inl h) = inl (h.0, under_first token word fields asked h.1)
asked_first (token ∷ word ∷ fields) asked (inr h) = inr h

-- the fields that are kept of a row are texts, as all are
pub asks_by_first : (row fields : Row) (asked : Asked) → AllText row → fields ≡ first_fields row
    → OrWants asked (AsksText fields) → OrWants asked (Asks row)
asks_by_first row fields (Ok request) all same h = inl (
  all,
  asked_first row (Ok request) (subst (λ (fs : Row). AsksText fs (Ok request)) same h),
)
asks_by_first row fields (Err bad) all same h = λ w. inl (
  all,
  asked_first row (Err bad) (subst (λ (fs : Row). AsksText fs (Err bad)) same (h w)),
)

-- References: `@` and a token in a field that names a record or a slip, for the first number of the answer that is kept
-- for that token. Rules of our own.
use Rattle.std.specs.Prelude.{
  ℕ,
  ◌≡◌,
  ◌==◌,
  ◌&&◌,
  nat_le,
  Bool,
  List,
  [],
  ◌∷◌,
  length,
  get_or,
  set,
  fold,
  Option,
  None,
  Some,
  option_map,
  is_some,
  decimal,
  if◌then◌else◌,
}
use Rattle.std.specs.FinMap.{get}
use Rattle.std.specs.List.{list_all, list_any}
use Rattle.archive_state.specs.Content.{Content}
use Rattle.receipts.specs.Tokens.{is_printable}
use Rattle.receipts.specs.declared.answer.Answer.{Answer}
use Rattle.receipts.specs.declared.answer.Receipt.{Receipt}
use Rattle.row_references.specs.Naming.{naming_of}

-- ---- references
-- 1 to 64 characters from `!` to `~`
abbrev pub is_token : List ℕ → Bool
is_token bytes = nat_le 1 (length bytes) && nat_le (length bytes) 64 && list_all is_printable bytes

-- the token after `@` (64); none: the field is no reference
abbrev pub token_in : List ℕ → Option (List ℕ)
token_in [] = None
token_in (b ∷ token) = if b == 64 && is_token token then Some token else None

-- one of the fields that name a record or a slip is a reference
abbrev pub has_references : List (List ℕ) → Bool
has_references row = list_any (λ at. is_some (token_in (get_or row at []))) (naming_of row)

-- ---- numbers in place of references
-- the row with a number in that place
abbrev pub with_number : List (List ℕ) → ℕ → ℕ → List (List ℕ)
with_number row at number = set row at (decimal number)

-- the row with its number in place of the reference that stands there; none: the token has no number
abbrev pub by_token : (List ℕ → Option ℕ) → List (List ℕ) → ℕ → Option (List ℕ) → Option (List (List ℕ))
by_token known row at None = Some row
by_token known row at (Some token) = option_map (with_number row at) (known token)

abbrev pub numbered_at : (List ℕ → Option ℕ) → Option (List (List ℕ)) → ℕ → Option (List (List ℕ))
numbered_at known None at = None
numbered_at known (Some row) at = by_token known row at (token_in (get_or row at []))

-- the row with the numbers of their tokens in place of all its references; none: a token has no number
abbrev pub numbered : (List ℕ → Option ℕ) → List (List ℕ) → Option (List (List ℕ))
numbered known row = fold (numbered_at known) (Some row) (naming_of row)

-- every token has the number 1
abbrev pub any_number : List ℕ → Option ℕ
any_number token = Some 1

-- ---- some numbers in place of references
-- the reference at a place has some number, or none; a row without numbers stays so
abbrev pub FillsOne : ℕ → Option (List (List ℕ)) → Option (List (List ℕ)) → Type 0
FillsOne at None after = after ≡ None
FillsOne at (Some row) after =
    (number : Option ℕ) × (after ≡ by_token (λ token. number) row at (token_in (get_or row at [])))

-- each of these places, one after the other
abbrev pub Fills : List ℕ → Option (List (List ℕ)) → Option (List (List ℕ)) → Type 0
Fills [] before after = after ≡ before
Fills (at ∷ places) before after =
    (middle : Option (List (List ℕ))) × FillsOne at before middle × Fills places middle after

-- the row with some numbers in place of its references; none: one of them has no number
abbrev pub IsNumbered : List (List ℕ) → Option (List (List ℕ)) → Type 0
IsNumbered row own = Fills (naming_of row) (Some row) own

-- ---- the numbers that an archive knows
-- the first number of an answer; none: it made nothing
abbrev pub first_of : Answer → Option ℕ
first_of answer = if answer.count == 0 then None else Some answer.first

abbrev pub first_in : Option Receipt → Option ℕ
first_in None = None
first_in (Some kept) = first_of kept.answer

-- the first number of the answer that is kept for a token
abbrev pub kept_number : Content → List ℕ → Option ℕ
kept_number c token = first_in (get c.receipts token)

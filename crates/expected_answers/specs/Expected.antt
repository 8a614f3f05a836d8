-- Answers that are expected of rows: those of a file, of which each has its token first. Rules of our own.
use Rattle.std.specs.Prelude.{
  ◌≡◌,
  ℕ,
  Bool,
  true,
  List,
  [],
  ◌∷◌,
  IsUtf8,
  bytes_eq,
  get_or,
  if◌then◌else◌,
  map,
  reverse,
}
use Rattle.std.specs.BTreeMap.{BTreeMap, get_by_text}
use Rattle.std.specs.Global.{Global, Vec}
use Rattle.std.specs.Option.{option_map, unwrap_or}
use Rattle.std.specs.declared.string.String.{String}
use Rattle.csv.specs.Writing.{default_writer, row_text}
use Rattle.request_csv.specs.Input.{Row}
use Rattle.expected_answers.specs.declared.expected.Expected.{Expected}

-- the token of an answer
abbrev pub token_of : Row → List ℕ
token_of row = get_or row 0 []

-- the answers of a token in their order, as `apply` writes them: that of its k-th row is the k-th of them
abbrev pub texts_for : List Row → List ℕ → List (List ℕ)
texts_for [] token = []
texts_for (row ∷ rows) token =
    if bytes_eq (token_of row) token then row_text default_writer row ∷ texts_for rows token
    else texts_for rows token

-- it is the next of these; or there is none
abbrev pub is_next : List (List ℕ) → List ℕ → Bool
is_next [] text = true
is_next (next ∷ more) text = bytes_eq next text

-- those after the next
abbrev pub rest : List (List ℕ) → List (List ℕ)
rest [] = []
rest (next ∷ more) = more

-- ---- as they are held
-- the next one is the last
abbrev pub turned : List (Vec ℕ) → List (List ℕ)
turned stack = map (λ (text : Vec ℕ). text.items) (reverse stack)

abbrev pub texts_in : Vec (Vec ℕ) → List (List ℕ)
texts_in stack = turned stack.items

-- the texts under a token; none where it is not there
abbrev pub under : BTreeMap (String Global) (Vec (Vec ℕ)) → List ℕ → List (List ℕ)
under texts token = unwrap_or (option_map texts_in (get_by_text texts token)) []

-- what is still expected of a token
abbrev pub left : Expected → List ℕ → List (List ℕ)
left e token = under e.texts token

-- of each token that is a text the answers among these rows
abbrev pub IsLeft : Expected → List Row → Type 0
IsLeft e rows = (token : List ℕ) → IsUtf8 token → left e token ≡ texts_for rows token

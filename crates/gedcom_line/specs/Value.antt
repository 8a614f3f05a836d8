-- What the value of a line stands for: a cross reference, spaces at its ends apart, or a text.
use Rattle.std.specs.Prelude.{
  ◌≡◌,
  ℕ,
  ◌+◌,
  true,
  ◌&&◌,
  nat_lt,
  if◌then◌else◌,
  List,
  [],
  ◌∷◌,
  ◌++◌,
  length,
  take,
  Option,
  Some,
  None,
}
use Rattle.std.specs.List.{list_all, position_or_len, before_first, after_first}
use Rattle.std.specs.Option.{option_map_or}
use Rattle.gedcom_line.specs.Words.{is_space, is_at}
use Rattle.gedcom_line.specs.Past.{past_char}
use Rattle.gedcom_line.specs.Reading.{Parts, is_continuation, skip, is_name, ◌>>=◌}
use Rattle.gedcom_line.specs.Line.{IsName}
use Rattle.gedcom_line.specs.declared.values.Value.{Value}
use Rattle.gedcom_line.specs.declared.values.Value.TheVariants as value

-- a text as it is written, or a cross reference with its two @
pub data Meaning : Type 0 where
  Text : List ℕ → Meaning
  Pointer : List ℕ → Meaning

-- spaces, a cross reference, spaces
pub record IsPointer (raw name : List ℕ) : Type 0 where
  pub front : List ℕ
  pub inner : List ℕ
  pub back : List ℕ
  pub before : list_all is_space front ≡ true
  pub named : IsName inner
  pub marked : name ≡ 64 ∷ inner ++ 64 ∷ []
  pub behind : list_all is_space back ≡ true
  pub parts : raw ≡ front ++ (64 ∷ inner ++ 64 ∷ back)

-- t begins with an @, and inner is what follows it
abbrev pub pointer_at : List ℕ → List ℕ → Option (List ℕ)
pointer_at t inner =
    if nat_lt (position_or_len is_at inner) (length inner) && is_name (before_first is_at inner) && list_all is_space
    (after_first is_at inner)
    then Some (take (length (before_first is_at inner) + 2) t) else None

abbrev pub pointer_from : List ℕ → Option (List ℕ)
pointer_from t = past_char 64 t >>= λ inner. pointer_at t inner

unfoldable pub pointer_in : List ℕ → Option (List ℕ)
pointer_in raw = pointer_from (skip is_space raw)

-- what a text after a tag stands for, where it goes on with no value
abbrev pub meaning : List ℕ → Meaning
meaning raw = option_map_or Pointer (pointer_in raw) (Text raw)

-- what the value of a line stands for: what goes on with a value is always a text
abbrev pub value_of : Parts → Meaning
value_of l = if is_continuation l.tag then Text l.raw else meaning l.raw

-- what a value of the code says
abbrev pub meant : Value → Meaning
meant (value.Text t) = Text t.now
meant (value.Pointer p) = Pointer p.now

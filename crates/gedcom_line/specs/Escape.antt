-- Values on a line: what is written of a text, and what is read of it (The GEDCOM Standard Release 5.5.1, chapter 1:
-- line_item, any_char, escape; that a space has to follow an escape is the project's own, docs/FORMATS.md).
use Rattle.std.specs.Prelude.{
  ◌≡◌,
  ◌≢◌,
  ◌<◌,
  ℕ,
  Bool,
  true,
  false,
  ◌&&◌,
  ◌==◌,
  nat_lt,
  if◌then◌else◌,
  List,
  [],
  ◌∷◌,
  ◌++◌,
  length,
  slice_index,
  is_some,
  unwrap_or,
}
use Rattle.std.specs.Option.{option_map_or}
use Rattle.gedcom_line.specs.Past.{past_char}
use Rattle.std.specs.List.{position_or_len, after_first, flat_map}
use Rattle.gedcom_line.specs.Words.{is_at}

-- no character is an @
abbrev pub NoAt : List ℕ → Type 0
NoAt xs = (i : ℕ) → i < length xs → slice_index xs i ≢ 64

-- an escape at the front of a text: @#, one or more characters that are not @, then @ and a space; rest is what follows
pub record HasEscape (t body rest : List ℕ) : Type 0 where
  pub spelled : t ≡ 64 ∷ 35 ∷ body ++ 64 ∷ 32 ∷ rest
  pub some : 0 < length body
  pub plain : NoAt body

-- what a text is made of: escapes, by what stands between their @# and their second @, and bytes that belong to none
pub data Element : Type 0 where
  Escape : List ℕ → Element
  Byte : ℕ → Element

-- the text is these elements, from left to right: an escape wherever one begins, and else one byte
abbrev pub Elements : List ℕ → List Element → Type 0
Elements t [] = t ≡ []
Elements t (Escape body ∷ es) = (rest : List ℕ) × (HasEscape t body rest × Elements rest es)
Elements t (Byte c ∷ es) = ((body rest : List ℕ) → ¬ (HasEscape t body rest))
    × ((rest : List ℕ) × ((t ≡ c ∷ rest) × Elements rest es))

-- an escape is written as it stands, an @ that belongs to none as two, and each other byte as itself
abbrev pub element_text : Element → List ℕ
element_text (Escape body) = 64 ∷ 35 ∷ body ++ 64 ∷ 32 ∷ []
element_text (Byte c) = if c == 64 then 64 ∷ 64 ∷ [] else c ∷ []

-- what is written of a text
pub record IsEscaped (t written : List ℕ) : Type 0 where
  pub elements : List Element
  pub cut : Elements t elements
  pub each : written ≡ flat_map element_text elements

-- the value with each pair of @ read as one, from left to right
abbrev pub unescaped : List ℕ → List ℕ
unescaped [] = []
unescaped (c ∷ []) = c ∷ []
unescaped (c ∷ d ∷ cs) = if c == 64 && d == 64 then 64 ∷ unescaped cs else c ∷ unescaped (d ∷ cs)

-- The same by computing.

-- the characters before the next @ are some, and a space stands after it
abbrev pub ends_escape : List ℕ → Bool
ends_escape cs = nat_lt 0 (position_or_len is_at cs) && nat_lt (position_or_len is_at cs) (length cs) && is_some
    (past_char 32 (after_first is_at cs))

-- what follows an @ makes it the start of an escape
abbrev pub begins_escape : List ℕ → Bool
begins_escape cs = option_map_or ends_escape (past_char 35 cs) false

-- the text with each @ doubled but those of escapes; inside: the next @ ends an escape
abbrev pub escaped_from : Bool → List ℕ → List ℕ
escaped_from inside [] = []
escaped_from inside (c ∷ cs) =
    if c == 64
    then (if inside then 64 ∷ escaped_from false cs
    else (if begins_escape cs then 64 ∷ escaped_from true cs else 64 ∷ 64 ∷ escaped_from false cs))
    else c ∷ escaped_from inside cs

-- a text as it is written
abbrev pub escaped : List ℕ → List ℕ
escaped t = escaped_from false t

-- what follows the second @ of a pair, or all where there is none
abbrev pub past_pair : List ℕ → List ℕ
past_pair cs = unwrap_or (past_char 64 cs) cs

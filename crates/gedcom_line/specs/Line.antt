-- A line of a GEDCOM file, by its parts: white space, a level, spaces, a cross reference and spaces or neither, a tag,
-- and a space and a value or neither (The GEDCOM Standard Release 5.5.1, chapter 1).
use Rattle.std.specs.Prelude.{
  ◌≡◌,
  ◌⊎◌,
  ℕ,
  ◌+◌,
  ◌*◌,
  ◌<◌,
  ◌≤◌,
  Bool,
  true,
  false,
  not,
  ◌==◌,
  List,
  [],
  ◌∷◌,
  ◌++◌,
  length,
  Option,
  Some,
  None,
  codes,
}
use Rattle.std.specs.List.{list_all, list_any}
use Rattle.std.specs.Str.{IsUtf8}
use Rattle.gedcom_line.specs.Words.{is_white, is_digit, is_space, is_word, is_at, is_end}
use Rattle.gedcom_line.specs.Reading.{Parts}
use Rattle.gedcom_line.specs.declared.fault.LineKind.{LineKind}
use Rattle.gedcom_line.specs.declared.fault.LineKind.TheVariants.{NotUtf8, BadLevel, BadXref, BadTag, Nul}

-- the text does not begin with a character that passes
abbrev pub Stops : (ℕ → Bool) → List ℕ → Type 0
Stops p [] = Unit {0}
Stops p (b ∷ bs) = p b ≡ false

-- the text is front, of characters that pass, and then rest, which begins otherwise
pub record Spans (p : ℕ → Bool) (text front rest : List ℕ) : Type 0 where
  pub parts : text ≡ front ++ rest
  pub passes : list_all p front ≡ true
  pub stops : Stops p rest

-- one or two digits spell the number; the digit d has the code 48 + d, and 528 is 10 * 48 + 48
abbrev pub IsNumber : List ℕ → ℕ → Type 0
IsNumber [] n = ⊥
IsNumber (a ∷ []) n = n + 48 ≡ a
IsNumber (a ∷ b ∷ []) n = n + 528 ≡ 10 * a + b
IsNumber (a ∷ b ∷ c ∷ ds) n = ⊥

-- white space, a level, and one space or more; rest is what follows
pub record HasLevel (text : List ℕ) (n : ℕ) (rest : List ℕ) : Type 0 where
  pub white : List ℕ
  pub from : List ℕ
  pub digits : List ℕ
  pub after : List ℕ
  pub gap : List ℕ
  pub indented : Spans is_white text white from
  pub spelled : Spans is_digit from digits after
  pub number : IsNumber digits n
  pub spaced : Spans is_space after gap rest
  pub some : 0 < length gap

-- a letter, digit or underscore and then no @; with the two @ at most 64 bytes
abbrev pub IsName : List ℕ → Type 0
IsName [] = ⊥
IsName (c ∷ cs) = (is_word c ≡ true) × (list_all (λ b. not (is_at b)) (c ∷ cs) ≡ true) × (length (c ∷ cs) ≤ 62)

-- a cross reference of that name, and one space or more
pub record HasName (text xref rest : List ℕ) : Type 0 where
  pub name : List ℕ
  pub after : List ℕ
  pub gap : List ℕ
  pub named : IsName name
  pub marked : xref ≡ 64 ∷ name ++ 64 ∷ []
  pub parts : text ≡ 64 ∷ name ++ 64 ∷ after
  pub spaced : Spans is_space after gap rest
  pub some : 0 < length gap

-- a cross reference, or none where the text begins otherwise
abbrev pub HasXref : List ℕ → Option (List ℕ) → List ℕ → Type 0
HasXref text None rest = Stops is_at text × (rest ≡ text)
HasXref text (Some xref) rest = HasName text xref rest

-- a tag, and one space and a value or nothing
pub record HasTag (text tag raw : List ℕ) : Type 0 where
  pub after : List ℕ
  pub spelled : Spans is_word text tag after
  pub some : 0 < length tag
  pub short : length tag ≤ 31
  pub value : ((after ≡ []) × (raw ≡ [])) ⊎ (after ≡ 32 ∷ raw)

-- CONC or CONT
abbrev pub IsContinuation : List ℕ → Type 0
IsContinuation tag = (tag ≡ codes "CONC") ⊎ (tag ≡ codes "CONT")

-- what stands between two line ends
abbrev pub IsPiece : List ℕ → Type 0
IsPiece b = list_any is_end b ≡ false

-- UTF-8 without U+0000, LF and CR
pub record IsText (b : List ℕ) : Type 0 where
  pub utf8 : IsUtf8 b
  pub no_nul : list_any (λ x. x == 0) b ≡ false
  pub piece : IsPiece b

-- only spaces and tabs
abbrev pub IsBlank : List ℕ → Type 0
IsBlank b = list_all is_white b ≡ true

-- the bytes are the parts of a line, whose level may be too high for its tag
pub record Spelled (b : List ℕ) (l : Parts) : Type 0 where
  pub text : IsText b
  pub some : ¬ (IsBlank b)
  pub rest : List ℕ
  pub last : List ℕ
  pub level : HasLevel b l.level rest
  pub xref : HasXref rest l.xref last
  pub tag : HasTag last l.tag l.raw

-- the bytes spell the line; level 99 is only for CONC and CONT
pub record Line (b : List ℕ) (l : Parts) : Type 0 where
  pub spelled : Spelled b l
  pub high : l.level ≡ 99 → IsContinuation l.tag

-- the bytes do not begin with a level
abbrev pub LacksLevel : List ℕ → Type 0
LacksLevel b = (n : ℕ) (rest : List ℕ) → ¬ (HasLevel b n rest)

-- the bytes are parts of a line, at level 99 with another tag than CONC and CONT
pub record IsTooHigh (b : List ℕ) : Type 0 where
  pub line : Parts
  pub spelled : Spelled b line
  pub highest : line.level ≡ 99
  pub other : ¬ (IsContinuation line.tag)

-- after the level stands an @ that begins no cross reference
pub record LacksXref (b : List ℕ) : Type 0 where
  pub level : ℕ
  pub rest : List ℕ
  pub has_level : HasLevel b level rest
  pub none : (x : Option (List ℕ)) (last : List ℕ) → ¬ (HasXref rest x last)

-- after the level, and a cross reference or none, stands no tag
pub record LacksTag (b : List ℕ) : Type 0 where
  pub level : ℕ
  pub rest : List ℕ
  pub xref : Option (List ℕ)
  pub last : List ℕ
  pub has_level : HasLevel b level rest
  pub has_xref : HasXref rest xref last
  pub none : (tag raw : List ℕ) → ¬ (HasTag last tag raw)

-- what is wrong with a piece that is no line: the first of these that holds
abbrev pub Fault : List ℕ → LineKind → Type 0
Fault b Nul = list_any (λ x. x == 0) b ≡ true
Fault b NotUtf8 = (list_any (λ x. x == 0) b ≡ false) × (¬ (IsUtf8 b))
Fault b BadLevel = IsText b × (¬ (IsBlank b)) × (LacksLevel b ⊎ IsTooHigh b)
Fault b BadXref = IsText b × LacksXref b
Fault b BadTag = IsText b × LacksTag b

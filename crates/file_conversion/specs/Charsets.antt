-- The set that the first HEAD names, and its line CHAR (GEDCOM 5.5.1, chapter 1).
use Rattle.std.specs.Prelude.{
  ◌≡◌,
  ℕ,
  ◌+◌,
  ◌-◌,
  ◌==◌,
  ◌&&◌,
  ◌||◌,
  Bool,
  true,
  false,
  List,
  [],
  ◌∷◌,
  ◌++◌,
  Option,
  Some,
  None,
  codes,
  drop,
  length,
  map,
  nat_lt,
  take,
  if◌then◌else◌,
}
use Rattle.std.specs.Char.{to_ascii_uppercase}
use Rattle.std.specs.List.{prefix_len, suffix_len}
use Rattle.std.specs.Str.{bytes_eq}
use Rattle.character_sets.specs.declared.set.CharacterSet.{CharacterSet}
use Rattle.character_sets.specs.declared.set.CharacterSet.TheVariants as set
use Rattle.character_sets.specs.declared.heads.KnownTag.{KnownTag}
use Rattle.character_sets.specs.declared.heads.KnownTag.TheVariants.{Head, Char}
use Rattle.character_sets.specs.declared.heads.LineHead.{LineHead}
use Rattle.file_conversion.specs.declared.charsets.NamedSet.{NamedSet}
use Rattle.file_conversion.specs.declared.charsets.Place.{Place}
use Rattle.file_conversion.specs.declared.charsets.Reading.{Reading}
use Rattle.file_conversion.specs.declared.charsets.Place.TheVariants.{Start, Below, Beyond}
use Rattle.character_sets.specs.Lines.{Line, is_blank, is_white, units_of}
use Rattle.character_sets.specs.Heads.{head_of}

abbrev pub is_head_tag : KnownTag → Bool
is_head_tag Head = true
is_head_tag _ = false

abbrev pub is_char_tag : KnownTag → Bool
is_char_tag Char = true
is_char_tag _ = false

-- a line of level 0, which begins another record
abbrev pub is_top : Option LineHead → Bool
is_top None = false
is_top (Some h) = h.level == 0

abbrev pub is_head : Option LineHead → Bool
is_head None = false
is_head (Some h) = h.level == 0 && is_head_tag h.tag

abbrev pub is_char : Option LineHead → Bool
is_char None = false
is_char (Some h) = h.level == 1 && is_char_tag h.tag

-- ---- the set
-- the words of CHAR
abbrev pub set_words : List (List ℕ × CharacterSet)
set_words = (codes "ANSEL", set.Ansel)
    ∷ (codes "ANSI", set.Windows1252)
    ∷ (codes "WINDOWS", set.Windows1252)
    ∷ (codes "IBM WINDOWS", set.Windows1252)
    ∷ (codes "CP1252", set.Windows1252)
    ∷ (codes "WINDOWS-1252", set.Windows1252)
    ∷ (codes "LATIN1", set.Windows1252)
    ∷ (codes "ISO-8859-1", set.Windows1252)
    ∷ (codes "ISO8859-1", set.Windows1252)
    ∷ (codes "IBMPC", set.CodePage437)
    ∷ (codes "IBM", set.CodePage437)
    ∷ (codes "IBM DOS", set.CodePage437)
    ∷ (codes "DOS", set.CodePage437)
    ∷ (codes "MSDOS", set.CodePage437)
    ∷ (codes "MS-DOS", set.CodePage437)
    ∷ (codes "OEM", set.CodePage437)
    ∷ (codes "CP437", set.CodePage437)
    ∷ (codes "CP850", set.CodePage850)
    ∷ (codes "IBM850", set.CodePage850)
    ∷ (codes "MACINTOSH", set.Macintosh)
    ∷ (codes "MAC", set.Macintosh)
    ∷ (codes "UTF-8", set.Utf8)
    ∷ (codes "UTF8", set.Utf8)
    ∷ (codes "UNICODE", set.Utf8)
    ∷ (codes "ASCII", set.Utf8)
    ∷ []

abbrev pub found : List ℕ → List (List ℕ × CharacterSet) → Option CharacterSet
found word [] = None
found word (w ∷ ws) = if bytes_eq word w.0 then Some w.1 else found word ws

-- the set of a word of CHAR in upper case
unfoldable pub set_of : List ℕ → Option CharacterSet
set_of word = found word set_words

-- units as upper case; 0 stands for what is not ASCII, which no word has
abbrev pub upper : ℕ → ℕ
upper unit = if nat_lt unit 128 then to_ascii_uppercase unit else 0

-- without spaces and tabs at the ends
abbrev pub without_end : List ℕ → List ℕ
without_end units = take (length units - suffix_len is_white units) units

abbrev pub trimmed : List ℕ → List ℕ
trimmed units = without_end (drop (prefix_len is_white units) units)

abbrev pub word_at : List ℕ → Option LineHead → List ℕ
word_at body None = []
word_at body (Some h) = map upper (trimmed (drop h.value_at body))

-- the set that a line CHAR names
unfoldable pub set_in : List ℕ → Option CharacterSet
set_in body = set_of (word_at body (head_of body))

abbrev pub set_number : CharacterSet → ℕ
set_number set.Utf8 = 0
set_number set.Utf16Le = 1
set_number set.Utf16Be = 2
set_number set.Windows1252 = 3
set_number set.CodePage437 = 4
set_number set.CodePage850 = 5
set_number set.Macintosh = 6
set_number set.Ansel = 7

-- the set of two that are the same
abbrev pub agreed : Option CharacterSet → Option CharacterSet → Option CharacterSet
agreed None t = None
agreed (Some s) None = None
agreed (Some s) (Some t) = if set_number s == set_number t then Some s else None

-- one more line CHAR, with its number and its set
abbrev pub with_line : Option NamedSet → ℕ → Option CharacterSet → NamedSet
with_line None n set = record { line = n; set = set }
with_line (Some named) n set = record { line = named.line; set = agreed named.set set }

-- ---- the first HEAD
-- where a line stands after the lines before it: the first line may be a HEAD, and a line of level 0 ends it
abbrev pub next_place : Place → Option LineHead → Place
next_place Start head = if is_head head then Below else Beyond
next_place Below head = if is_top head then Beyond else Below
next_place Beyond head = Beyond

-- the first HEAD has ended, or there is none
abbrev pub is_beyond : Place → Bool
is_beyond Beyond = true
is_beyond _ = false

-- a line CHAR of the first HEAD
abbrev pub is_told : Place → Option LineHead → Bool
is_told Start head = false
is_told Below head = is_char head
is_told Beyond head = false

-- what is named with one more line of this number
abbrev pub named_with : Place → Option NamedSet → ℕ → List ℕ → Option NamedSet
named_with place named n body = if is_told place (head_of body) then Some (with_line named n (set_in body)) else named

-- what the lines CHAR of the first HEAD name, where the first line stands here and has this number
abbrev pub named_in : Place → Option NamedSet → ℕ → List Line → Option NamedSet
named_in place named n [] = named
named_in place named n (l ∷ ls) = if is_blank l.body then named_in place named n ls
    else named_in (next_place place (head_of l.body)) (named_with place named n l.body) (n + 1) ls

-- what is known after a line is what is known of the file before it
pub record Reads (place : Place) (named : Option NamedSet) (n : ℕ) (body : List ℕ) (now : Reading) : Type 0 where
  pub at : (ending : List ℕ) (ls : List Line) → named_in place named n (record { body = body; ending = ending } ∷ ls)
      ≡ named_in now.place now.named now.line ls

abbrev pub named_by : List Line → Option NamedSet
named_by ls = named_in Start None 1 ls

-- ---- the line
-- what ends a line: the first line end of the units after it, LF where there is none
abbrev pub line_end : List ℕ → List ℕ
line_end [] = 10 ∷ []
line_end (a ∷ []) = a ∷ []
line_end (a ∷ b ∷ more) = if (a == 13 && b == 10) || (a == 10 && b == 13) then a ∷ b ∷ [] else a ∷ []

-- a line CHAR after the HEAD's own line, where there is none in the file
abbrev pub added : Option NamedSet → List ℕ → List ℕ
added None more = line_end more ++ codes "1 CHAR UTF-8"
added (Some named) more = []

-- a line CHAR up to its tag, which says UTF-8 whatever it said
abbrev pub told : List ℕ → Option LineHead → List ℕ
told body None = body
told body (Some h) = take h.tag_at body ++ codes "CHAR UTF-8"

-- a line and the units after it, in a file whose first HEAD says UTF-8
abbrev pub said_line : Option NamedSet → Place → List ℕ → List ℕ → List ℕ
said_line named Start body more = if is_head (head_of body) then body ++ added named more else body
said_line named Below body more = if is_char (head_of body) then told body (head_of body) else body
said_line named Beyond body more = body

-- the units of lines, the first HEAD of which says UTF-8, where the first line stands here
abbrev pub said_in : Option NamedSet → Place → List Line → List ℕ
said_in named place [] = []
said_in named place (l ∷ ls) = if is_blank l.body then l.body ++ (l.ending ++ said_in named place ls)
    else said_line named place l.body (l.ending ++ units_of ls)
    ++ (l.ending ++ said_in named (next_place place (head_of l.body)) ls)

-- after a line the units are these, and the next one stands here
pub record Says (named : Option NamedSet) (place : Place) (body ending more all : List ℕ) (next : Place)
    (all_now : List ℕ) : Type 0 where
  pub at : (ls : List Line) → more ≡ ending ++ units_of ls → all_now ++ said_in named next ls
      ≡ all ++ said_in named place (record { body = body; ending = ending } ∷ ls)

abbrev pub said : List Line → List ℕ
said ls = said_in (named_by ls) Start ls

-- What standard error says of a file that was converted: rules of our own.
use Rattle.std.specs.Prelude.{
  ℕ,
  ◌-◌,
  ◌/◌,
  ◌==◌,
  ◌&&◌,
  ◌||◌,
  Bool,
  true,
  false,
  not,
  List,
  [],
  ◌∷◌,
  ◌++◌,
  Option,
  Some,
  None,
  codes,
  length,
  nat_le,
  nat_lt,
  take,
  if◌then◌else◌,
}
use Rattle.std.specs.Fmt.{decimal}
use Rattle.std.specs.List.{filter, flat_map}
use Rattle.character_sets.specs.declared.set.CharacterSet.{CharacterSet}
use Rattle.character_sets.specs.declared.set.CharacterSet.TheVariants as set
use Rattle.character_sets.specs.Counts.{one_if}
use Rattle.character_sets.specs.Lines.{lines}
use Rattle.file_conversion.specs.declared.charsets.NamedSet.{NamedSet}
use Rattle.file_conversion.specs.declared.deciding.Reason.{Reason}
use Rattle.file_conversion.specs.declared.deciding.Reason.TheVariants.{Mark, Nul, Asked, Ascii, Whole, Named}
use Rattle.file_conversion.specs.declared.units.LeftOut.{LeftOut}
use Rattle.file_conversion.specs.CharLines.{numbers_of, words_of}
use Rattle.file_conversion.specs.Charsets.{named_by, said, set_number}
use Rattle.file_conversion.specs.Conversion.{file_units, left_out, reason}
use Rattle.conversion_reports.specs.declared.kinds.Kind.{Kind}
use Rattle.conversion_reports.specs.declared.kinds.Kind.TheVariants.{Other, Joined, Stray, Replaced, Marked}
use Rattle.conversion_reports.specs.Lines.{LineRead, count, first_places, has_others, line_text, lines_read, marks}

-- ---- texts of a file
-- the first byte of a character
abbrev pub is_first : ℕ → Bool
is_first b = not (nat_le 0x80 b && nat_lt b 0xC0)

-- a control character of one byte
abbrev pub is_control_byte : ℕ → Bool
is_control_byte b = nat_lt b 32 || b == 127

-- a byte of a text after this one: a space for a control character, and a no-break space for U+0080 to U+009F
abbrev pub shown_byte : ℕ → ℕ → ℕ
shown_byte before b = if is_control_byte b then 32 else if before == 0xC2 && nat_lt b 0xA0 then 0xA0 else b

abbrev pub left_after : ℕ → ℕ → ℕ
left_after left b = if is_first b then left - 1 else left

-- the first so many characters of a text in UTF-8 that comes after a byte
abbrev pub shown_from : ℕ → ℕ → List ℕ → List ℕ
shown_from before left [] = []
shown_from before left (b ∷ bs) =
    if is_first b && left == 0 then [] else shown_byte before b ∷ shown_from b (left_after left b) bs

-- the first so many characters of a text in UTF-8, with spaces for control characters
abbrev pub shown : ℕ → List ℕ → List ℕ
shown left text = shown_from 0 left text

abbrev pub max_shown : ℕ
max_shown = 60

-- ---- the set
abbrev pub set_name : CharacterSet → List ℕ
set_name set.Utf8 = codes "UTF-8"
set_name set.Utf16Le = codes "UTF-16, low byte first"
set_name set.Utf16Be = codes "UTF-16, high byte first"
set_name set.Windows1252 = codes "Windows-1252"
set_name set.CodePage437 = codes "code page 437"
set_name set.CodePage850 = codes "code page 850"
set_name set.Macintosh = codes "MacRoman"
set_name set.Ansel = codes "ANSEL"

abbrev pub reason_text : Reason → List ℕ
reason_text Mark = codes "the mark at its beginning says so"
reason_text Nul = codes "a NUL is one of its first two bytes"
reason_text Asked = codes "--from says so"
reason_text Ascii = codes "no byte is above 7F"
reason_text Whole = codes "all of it is UTF-8"
reason_text Named = codes "CHAR says so"

abbrev pub set_line : CharacterSet → Reason → List ℕ
set_line s why = codes "read as " ++ (set_name s ++ (codes ": " ++ (reason_text why ++ 10 ∷ [])))

-- the set by whose words CHAR names it: UTF-16 has none of its own
abbrev pub set_said : CharacterSet → CharacterSet
set_said set.Utf16Le = set.Utf8
set_said set.Utf16Be = set.Utf8
set_said s = s

abbrev pub is_set : CharacterSet → Option CharacterSet → Bool
is_set s None = false
is_set s (Some t) = set_number (set_said s) == set_number t

-- what the lines CHAR say, where it is another set than this, or none that is known
abbrev pub char_line : CharacterSet → Option NamedSet → List ℕ → List ℕ
char_line s None words = []
char_line s (Some named) words =
    if is_set s named.set then [] else codes "CHAR says" ++ (shown max_shown words ++ 10 ∷ [])

-- ---- counts
abbrev pub place_text : ℕ → List ℕ
place_text n = codes ", line " ++ decimal n

-- how often something is in a file, and in which lines first; nothing where it is not there
abbrev pub count_line : List ℕ → ℕ → List ℕ → List ℕ
count_line label often first = if often == 0 then []
    else label ++ (codes ": " ++ (decimal often ++ (flat_map place_text first ++ 10 ∷ [])))

abbrev pub kind_line : List ℕ → List (ℕ × ℕ) → List ℕ
kind_line label ms = count_line label (count ms) (first_places ms)

abbrev pub label_of : Kind → List ℕ
label_of Other = codes "lines with other characters than ASCII"
label_of Joined = codes "values cut within a character, which their CONC now has whole"
label_of Stray = codes "bytes that are no UTF-8, read as Windows-1252"
label_of Replaced = codes "U+FFFD, for what could not be read"
label_of Marked = codes "marks of ANSEL before what is no letter"

-- what was counted of a kind
abbrev pub tally_line : Kind → ℕ → List ℕ → List ℕ
tally_line kind often first = count_line (label_of kind) often first

abbrev pub line_of_kind : CharacterSet → List LineRead → Kind → List ℕ
line_of_kind s ls kind = kind_line (label_of kind) (marks kind s ls)

-- a line as it was read
abbrev pub read_text : CharacterSet → ℕ → List ℕ → List ℕ
read_text s n units = codes "  " ++ (decimal n ++ (codes ": " ++ (shown max_shown (line_text s units) ++ 10 ∷ [])))

abbrev pub read_line : CharacterSet → LineRead → List ℕ
read_line s l = read_text s l.number l.units

-- by whether a line is reported: its text, and how many are left to report after it
abbrev pub text_if : Bool → List ℕ → List ℕ
text_if true text = text
text_if false text = []

abbrev pub left_if : Bool → ℕ → ℕ
left_if true left = left - 1
left_if false left = left

-- the first five lines with other characters than those of ASCII, so far as so many of them are left to report
abbrev pub read_lines : CharacterSet → ℕ → List LineRead → List ℕ
read_lines s left ls = flat_map (read_line s) (take left (filter (λ (l : LineRead). has_others s l.units) ls))

abbrev pub changes : CharacterSet → List LineRead → List ℕ
changes s ls = line_of_kind s ls Joined ++ (line_of_kind s ls Stray ++ (line_of_kind s ls Replaced
    ++ line_of_kind s ls Marked))

-- how many lines have other characters than those of ASCII, and the first of them as they were read
abbrev pub others : CharacterSet → List LineRead → List ℕ
others s ls = count_line (label_of Other) (count (marks Other s ls)) [] ++ read_lines s 5 ls

abbrev pub of_lines : CharacterSet → List LineRead → List ℕ
of_lines s ls = others s ls ++ changes s ls

-- ---- the file
-- a mark of UTF-8 has three bytes
abbrev pub mark_count : CharacterSet → ℕ → ℕ
mark_count set.Utf16Le units = units
mark_count set.Utf16Be units = units
mark_count _ units = units / 3

abbrev pub left_lines : CharacterSet → LeftOut → List ℕ
left_lines s out = count_line (codes "marks at the beginning, left out") (mark_count s out.marks) []
    ++ count_line (codes "NUL and Ctrl-Z at the end, left out") out.filling []

-- a line CHAR was added: there was none, and there is more
abbrev pub is_added : Option NamedSet → List ℕ → List ℕ → Bool
is_added None units told = nat_lt (length units) (length told)
is_added (Some named) units told = false

abbrev pub said_lines : List ℕ → Bool → List ℕ
said_lines changed added = count_line (codes "lines CHAR that now say UTF-8") (length changed) (take 5 changed)
    ++ count_line (codes "lines CHAR added") (one_if added) []

-- ---- the report
abbrev pub first_number : Bool → ℕ
first_number true = 0
first_number false = 1

-- of the lines that are written, where the first HEAD says UTF-8
abbrev pub of_written : CharacterSet → Bool → List ℕ → List ℕ
of_written s added told = of_lines s (lines_read s (first_number added) [] (lines told))

abbrev pub of_said : CharacterSet → Option NamedSet → List ℕ → List ℕ → List ℕ → List ℕ
of_said s named changed units told =
    said_lines changed (is_added named units told) ++ of_written s (is_added named units told) told

abbrev pub of_units : CharacterSet → LeftOut → List ℕ → List ℕ
of_units s out units = char_line s (named_by (lines units)) (words_of (lines units))
    ++ (left_lines s out ++ of_said s (named_by (lines units)) (numbers_of (lines units)) units (said (lines units)))

-- the report of a file that was read in a set for a reason
abbrev pub report_by : Reason → CharacterSet → List ℕ → List ℕ
report_by why s bytes = set_line s why ++ of_units s (left_out s bytes) (file_units s bytes)

-- the report of a file that was read in a set, where one may be asked for
unfoldable pub report_text : Option CharacterSet → CharacterSet → List ℕ → List ℕ
report_text asked s bytes = report_by (reason asked bytes) s bytes

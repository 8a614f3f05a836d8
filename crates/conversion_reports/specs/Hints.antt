-- What is said of a file whose set is not known: rules of our own.
use Rattle.std.specs.Prelude.{ℕ, ◌-◌, List, [], ◌∷◌, ◌++◌, Option, Some, None, codes, drop, if◌then◌else◌}
use Rattle.std.specs.List.{list_all, prefix_len}
use Rattle.character_sets.specs.declared.set.CharacterSet.{CharacterSet}
use Rattle.character_sets.specs.declared.set.CharacterSet.TheVariants.{Utf8, CodePage437, CodePage850}
use Rattle.character_sets.specs.CodePages.{is_alike}
use Rattle.character_sets.specs.Lines.{Line, lines}
use Rattle.file_conversion.specs.declared.charsets.NamedSet.{NamedSet}
use Rattle.file_conversion.specs.declared.fault.ConversionError.{ConversionError}
use Rattle.file_conversion.specs.declared.fault.ConversionError.TheVariants.{UnknownSet}
use Rattle.file_conversion.specs.CharLines.{words_of}
use Rattle.file_conversion.specs.Charsets.{named_by}
use Rattle.file_conversion.specs.Conversion.{file_units}
use Rattle.conversion_reports.specs.Lines.{line_text}
use Rattle.conversion_reports.specs.Report.{max_shown, shown}

-- the first line in which code pages 437 and 850 differ
abbrev pub unlike_line : List Line → List ℕ
unlike_line [] = []
unlike_line (l ∷ ls) = if list_all is_alike l.body then unlike_line ls else l.body

-- of a line what begins at most 30 units before the first in which they differ
abbrev pub near_unlike : List ℕ → List ℕ
near_unlike body = drop (prefix_len is_alike body - 30) body

-- a line as one of them reads it
abbrev pub reading : List ℕ → CharacterSet → List ℕ → List ℕ
reading label set units = label ++ (shown max_shown (line_text set units) ++ 10 ∷ [])

abbrev pub both_readings : List ℕ → List ℕ
both_readings units = reading (codes "  --from 437 reads: ") CodePage437 units
    ++ reading (codes "  --from 850 reads: ") CodePage850 units

abbrev pub say_from : List ℕ
say_from = codes "  say which set it is: --from 1252, 437, 850, macintosh, ansel or utf-8" ++ 10 ∷ []

abbrev pub no_char : List ℕ
no_char = codes "  no line CHAR of its HEAD says the set, and it is not UTF-8" ++ (10 ∷ [])

abbrev pub unknown_char : List ℕ → List ℕ
unknown_char words = codes "  CHAR says" ++ (shown max_shown words ++ 10 ∷ [])

abbrev pub of_named : Option NamedSet → List Line → List ℕ
of_named None ls = no_char ++ say_from
of_named (Some named) ls = elim named.set [
  | None ↦ unknown_char (words_of ls) ++ say_from
  | Some set ↦ both_readings (near_unlike (unlike_line ls))
]

-- the hint of a file whose set is not known
unfoldable pub hint_text : List ℕ → List ℕ
hint_text bytes =
    of_named (named_by (lines (file_units Utf8 bytes))) (lines (file_units Utf8 bytes))

-- the hint of a refusal; only a set that is not known has one
abbrev pub hint_of : ConversionError → List ℕ → List ℕ
hint_of (UnknownSet n) bytes = hint_text bytes
hint_of _ bytes = []

-- ---- a file that is read as it is, in UTF-8, and names another set
-- what its first bytes say of its set, and what to do
abbrev pub char_hint : List ℕ → List ℕ
char_hint bytes = codes "  CHAR is" ++ (shown max_shown (words_of (lines (file_units Utf8 bytes)))
    ++ (codes ": parish convert makes the file UTF-8" ++ 10 ∷ []))

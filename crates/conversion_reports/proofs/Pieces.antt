-- The report, one piece after the other.
use Rattle.std.proofs.Common.{
  ◌≡◌,
  ◌∙◌,
  ◌++◌,
  [],
  Bool,
  List,
  Option,
  ap,
  append_assoc,
  codes,
  ℕ,
}
use Rattle.character_sets.specs.declared.set.CharacterSet.{CharacterSet}
use Rattle.character_sets.specs.Lines.{lines}
use Rattle.file_conversion.specs.declared.charsets.NamedSet.{NamedSet}
use Rattle.file_conversion.specs.declared.deciding.Reason.{Reason}
use Rattle.file_conversion.specs.declared.units.LeftOut.{LeftOut}
use Rattle.file_conversion.specs.CharLines.{numbers_of, words_of}
use Rattle.file_conversion.specs.Charsets.{named_by, said}
use Rattle.file_conversion.specs.Conversion.{file_units, left_out, reason}
use Rattle.conversion_reports.specs.declared.kinds.Kind.{Kind}
use Rattle.conversion_reports.specs.declared.kinds.Kind.TheVariants.{Other, Joined, Stray, Replaced, Marked}
use Rattle.conversion_reports.specs.Lines.{IsTally, LineRead, count, lines_read, marks}
use Rattle.conversion_reports.specs.Report.{
  changes,
  char_line,
  count_line,
  first_number,
  is_added,
  left_lines,
  line_of_kind,
  mark_count,
  of_lines,
  of_said,
  of_units,
  of_written,
  others,
  read_lines,
  report_by,
  report_text,
  said_lines,
  set_line,
  tally_line,
}

two : (old a b mid new : List ℕ) → mid ≡ old ++ a → new ≡ mid ++ b → new ≡ old ++ (a ++ b)
two old a b mid new d n = n ∙ (ap (λ t. t ++ b) d ∙ append_assoc old a b)

pub left_is : (s : CharacterSet) (out : LeftOut) (m : ℕ) (old mid new : List ℕ) → m ≡ mark_count s out.marks
    → mid ≡ old ++ count_line (codes "marks at the beginning, left out") m []
    → new ≡ mid ++ count_line (codes "NUL and Ctrl-Z at the end, left out") out.filling []
    → new ≡ old ++ left_lines s out
left_is s out m old mid new e d n =
    let last : List ℕ = count_line (codes "NUL and Ctrl-Z at the end, left out") out.filling [] in
    two old (count_line (codes "marks at the beginning, left out") m []) last mid new d n
    ∙ ap (λ k. old ++ (count_line (codes "marks at the beginning, left out") k [] ++ last)) e

-- what was counted of a kind is reported as that kind
counted : (s : CharacterSet) (ls : List LineRead) (kind : Kind) (often : ℕ) (first : List ℕ)
    → IsTally kind s ls often first → tally_line kind often first ≡ line_of_kind s ls kind
counted s ls kind often first t = ap (λ n. tally_line kind n first) t.0
    ∙ ap (λ ns. tally_line kind (count (marks kind s ls)) ns) t.1

pub others_are : (s : CharacterSet) (ls : List LineRead) (often : ℕ) (first old new : List ℕ)
    → IsTally Other s ls often first → new ≡ old ++ (tally_line Other often [] ++ read_lines s 5 ls)
    → new ≡ old ++ others s ls
others_are s ls often first old new t n = n ∙ ap (λ k. old ++ (tally_line Other k [] ++ read_lines s 5 ls)) t.0

pub changes_are : (s : CharacterSet) (ls : List LineRead) (j t r m : ℕ) (js ts rs ms old new : List ℕ)
    → IsTally Joined s ls j js → IsTally Stray s ls t ts → IsTally Replaced s ls r rs → IsTally Marked s ls m ms
    → new ≡ old ++ (tally_line Joined j js ++ (tally_line Stray t ts ++ (tally_line Replaced r rs
    ++ tally_line Marked m ms))) → new ≡ old ++ changes s ls
changes_are s ls j t r m js ts rs ms old new ej et er em n = n
    ∙ (ap (λ x. old ++ (x ++ (tally_line Stray t ts ++ (tally_line Replaced r rs ++ tally_line Marked m ms))))
    (counted s ls Joined j js ej)
    ∙ (ap (λ x. old ++ (line_of_kind s ls Joined ++ (x ++ (tally_line Replaced r rs ++ tally_line Marked m ms))))
    (counted s ls Stray t ts et)
    ∙ (ap (λ x. old ++ (line_of_kind s ls Joined ++ (line_of_kind s ls Stray ++ (x ++ tally_line Marked m ms))))
    (counted s ls Replaced r rs er)
    ∙ ap (λ x. old ++ (line_of_kind s ls Joined ++ (line_of_kind s ls Stray ++ (line_of_kind s ls Replaced ++ x))))
    (counted s ls Marked m ms em))))

pub written_is : (s : CharacterSet) (added : Bool) (first : ℕ) (told : List ℕ) (old mid new : List ℕ)
    → first ≡ first_number added → mid ≡ old ++ others s (lines_read s first [] (lines told))
    → new ≡ mid ++ changes s (lines_read s first [] (lines told)) → new ≡ old ++ of_written s added told
written_is s added first told old mid new e d n =
    two old (others s (lines_read s first [] (lines told))) (changes s (lines_read s first [] (lines told))) mid new d n
    ∙ ap (λ f. old ++ of_lines s (lines_read s f [] (lines told))) e

pub said_is : (s : CharacterSet) (named : Option NamedSet) (added : Bool) (changed units told old mid new : List ℕ)
    → added ≡ is_added named units told → mid ≡ old ++ said_lines changed added → new ≡ mid ++ of_written s added told
    → new ≡ old ++ of_said s named changed units told
said_is s named added changed units told old mid new e d n =
    two old (said_lines changed added) (of_written s added told) mid new d n
    ∙ ap (λ a. old ++ (said_lines changed a ++ of_written s a told)) e

pub units_is : (s : CharacterSet) (out : LeftOut) (named : Option NamedSet)
    (units words changed told old first mid new : List ℕ) → named ≡ named_by (lines units)
    → words ≡ words_of (lines units) → changed ≡ numbers_of (lines units) → told ≡ said (lines units)
    → first ≡ old ++ char_line s named words → mid ≡ first ++ left_lines s out
    → new ≡ mid ++ of_said s named changed units told → new ≡ old ++ of_units s out units
units_is s out named units words changed told old first mid new en ew ec et f m n =
    let at : Option NamedSet = named_by (lines units) in
    two old (char_line s named words) (left_lines s out ++ of_said s named changed units told) first new f
    (two first (left_lines s out) (of_said s named changed units told) mid new m n)
    ∙ (ap (λ x. old ++ (char_line s x words ++ (left_lines s out ++ of_said s x changed units told))) en
    ∙ (ap (λ x. old ++ (char_line s at x ++ (left_lines s out ++ of_said s at changed units told))) ew
    ∙ (ap (λ x. old ++ (char_line s at (words_of (lines units)) ++ (left_lines s out ++ of_said s at x units told))) ec
    ∙ ap (λ x. old ++ (char_line s at (words_of (lines units))
    ++ (left_lines s out ++ of_said s at (numbers_of (lines units)) units x))) et)))

pub report_is : (s : CharacterSet) (why : Reason) (out : LeftOut) (bytes units none set new : List ℕ)
    → out ≡ left_out s bytes → units ≡ file_units s bytes → none ≡ [] → set ≡ none ++ set_line s why
    → new ≡ set ++ of_units s out units → new ≡ report_by why s bytes
report_is s why out bytes units none set new eo eu en f n =
    two none (set_line s why) (of_units s out units) set new f n
    ∙ (ap (λ x. x ++ (set_line s why ++ of_units s out units)) en
    ∙ (ap (λ x. set_line s why ++ of_units s x units) eo
    ∙ ap (λ x. set_line s why ++ of_units s (left_out s bytes) x) eu))

pub report_for : (asked : Option CharacterSet) (s : CharacterSet) (why : Reason) (bytes new : List ℕ)
    → why ≡ reason asked bytes → new ≡ report_by why s bytes → new ≡ report_text asked s bytes
unfolding report_text
report_for asked s why bytes new e n = n ∙ ap (λ w. report_by w s bytes) e

-- A record as it is shown to whoever keeps the archive: rules of our own.
use Rattle.std.specs.Prelude.{
  ℕ,
  ◌==◌,
  if◌then◌else◌,
  List,
  ◌++◌,
  codes,
  map,
  chars,
  encode_utf8_all,
  Option,
  Some,
  None,
  option_map,
}
use Rattle.std.specs.List.{flat_map}
use Rattle.std.specs.FinMap.{get}
use Rattle.record_kinds.specs.declared.record.Record.{Record}
use Rattle.archive_state.specs.Content.{Content, Records}
use Rattle.archive_state.specs.Referrers.{referrers}
use Rattle.archive_state.specs.Slips.{Slip}
use Rattle.searching.specs.Printing.{shown_character}
use Rattle.showing.specs.Details.{at_number, line_at, details}
use Rattle.showing.specs.Fields.{fields}
use Rattle.showing.specs.Heads.{head}
use Rattle.showing.specs.Named.{named}
use Rattle.showing.specs.Slips.{slip_fields}

-- each control character but LF, and each that turns the direction of a text, is a space
abbrev pub shown_in_page : ℕ → ℕ
shown_in_page c = if c == 10 then 10 else shown_character c

abbrev pub shown_page : List ℕ → List ℕ
shown_page text = encode_utf8_all (map shown_in_page (chars text))

abbrev pub names_word : List ℕ
names_word = codes "names: "

abbrev pub named_by_word : List ℕ
named_by_word = codes "named by: "

-- the line of a record that names another, and of an event or a citation of that one more than its line
abbrev pub naming : Records → ℕ → ℕ → List ℕ
naming m n by = named_by_word ++ (at_number by (get m by) ++ details m n (get m by))

-- its line, its fields, what they name by a line each, and what names it
abbrev pub whole : Content → ℕ → Record → List ℕ
whole c n r = head n r ++ (fields r ++ (flat_map (line_at names_word c.records) (named r)
    ++ flat_map (naming c.records n) (referrers c n)))

-- what is kept of a merge: who was merged into whom, whether it was undone, the records that it changed as they were
-- before, and the person that stays
abbrev pub whole_slip : Content → ℕ → Slip → List ℕ
whole_slip c n s = slip_fields n s ++ line_at names_word c.records s.keep

-- the record of a number, or else the slip
abbrev pub shown_of : Content → ℕ → Option Record → Option Slip → Option (List ℕ)
shown_of c n (Some r) slip = Some (shown_page (whole c n r))
shown_of c n None slip = option_map (λ s. shown_page (whole_slip c n s)) slip

-- what stands at a number, where something does
abbrev pub shown_at : Content → ℕ → Option (List ℕ)
shown_at c n = shown_of c n (get c.records n) (get c.slips n)

use Rattle.std.proofs.Common.{◌≡◌, ◌++◌, string_bytes}
use Rattle.sheets.specs.Indexed.{indexed}
use Rattle.sheets.specs.Known.{AreKnown}
use Rattle.sheets.specs.Pedigrees as pedigrees
use Rattle.sheets.proofs.Standing.{Stand}
use Rattle.sheets.proofs.pedigrees.push_lines.Given as goal

abbrev pub invariant-numbers : goal.invariant-numbers
invariant-numbers l = record {
  known : AreKnown (indexed l.state.records l.index) l.known.entries;
  stand : Stand (indexed l.state.records l.index) l.subject l.people.items l.before;
  text : string_bytes l.out ≡ string_bytes l.fn.out
      ++ pedigrees.lines_to (pedigrees.line_at (indexed l.state.records l.index) l.subject) l.before;
}

use Rattle.std.proofs.Common.{◌≡◌, ◌++◌, drop, string_bytes, take}
use Rattle.std.specs.List.{AllByRecursion}
use Rattle.packed_rows.specs.Packed.{IsTypedLine, lines_text}
use Rattle.packed_rows.proofs.writing.push_lines.Given as goal

abbrev pub invariant-lines : goal.invariant-lines
invariant-lines l = record {
  written : string_bytes l.out ++ lines_text (drop l.line-index l.lines) ≡ string_bytes l.fn.out ++ lines_text l.lines;
  typed : AllByRecursion IsTypedLine (take l.line-index l.lines);
}

use Rattle.std.proofs.Common.{◌≡◌, ◌+◌, ◌≤◌, length, drop}
use Rattle.gedcom_line.specs.Escape.{unescaped}
use Rattle.gedcom_rules.proofs.Sizes.{left}
use Rattle.gedcom_rules.proofs.standing.text_len.Given as goal

abbrev pub invariant-loop-byte : goal.invariant-loop-byte
invariant-loop-byte l = record {
  value : l.len + length (left l.is_second (drop l.byte-index l.raw)) ≡ length (unescaped l.raw);
  bound : l.len ≤ l.byte-index;
}

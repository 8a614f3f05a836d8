use Rattle.std.proofs.Common.{◌≡◌, ◌++◌, map, drop, string_bytes}
use Rattle.std.specs.List.{flat_map}
use Rattle.gedcom_line.specs.Split.{part}
use Rattle.gedcom_tree.specs.Forest.{part_line}
use Rattle.gedcom_tree.specs.Text.{line_text}
use Rattle.gedcom_tree.proofs.writing.push_more.Given as goal

abbrev pub invariant-loop-piece : goal.invariant-loop-piece
invariant-loop-piece l =
    string_bytes l.out ++ flat_map line_text (map (part_line l.level) (map part (drop l.piece-index l.more)))
    ≡ string_bytes l.fn.out ++ flat_map line_text (map (part_line l.level) (map part l.more))

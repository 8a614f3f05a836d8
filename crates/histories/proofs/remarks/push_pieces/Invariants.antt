use Rattle.std.proofs.Common.{◌≡◌, ◌++◌, take, string_bytes}
use Rattle.std.specs.List.{flat_map}
use Rattle.histories.specs.Remarks.{piece_if}
use Rattle.histories.proofs.remarks.push_pieces.Given as goal

abbrev pub invariant-each : goal.invariant-each
invariant-each l = string_bytes l.out
    ≡ string_bytes l.fn.out ++ flat_map (piece_if l.wanted l.others) (take l.number-index l.numbers)

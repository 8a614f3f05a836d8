use Rattle.std.proofs.Common.{◌≡◌, ◌+◌, ◌≤◌, length}
use Rattle.gedcom_rules.specs.Pieces.{pieces}
use Rattle.gedcom_rules.specs.Views.{progress}
use Rattle.gedcom_tree.specs.Reading.{trace_run, grown}
use Rattle.gedcom_tree.specs.Lines.{IsSound, trace_view, nodes_so_far}
use Rattle.gedcom_tree.proofs.ended.Lines.add_all.Given as goal

abbrev pub invariant-loop-piece : goal.invariant-loop-piece
invariant-loop-piece l = record {
  trace : trace_run (trace_view l.self) (pieces l.rest).ended ≡ trace_run (trace_view l.fn.self) (pieces l.bytes).ended;
  nodes : grown (nodes_so_far l.self) (pieces l.rest).ended ≡ grown (nodes_so_far l.fn.self) (pieces l.bytes).ended;
  open_ : (pieces l.rest).open_ ≡ (pieces l.bytes).open_;
  count : (progress l.self.seen).count + length l.rest ≤ (progress l.fn.self.seen).count + length l.bytes;
  sound : IsSound l.self;
}

abbrev pub decreases-loop-piece : goal.decreases-loop-piece
decreases-loop-piece l = length l.rest

use Rattle.std.proofs.Common.{◌∙◌, ◌∷◌, [], sym, ap, arith}
use Rattle.gedcom_rules.specs.Pieces.{pieces}
use Rattle.gedcom_rules.specs.Views.{fault_view}
use Rattle.gedcom_rules.proofs.Walks.{or_err}
use Rattle.gedcom_tree.specs.Reading.{Nodes, trace_run, grown}
use Rattle.gedcom_tree.specs.Lines.{trace_view, nodes_so_far}
use Rattle.gedcom_tree.proofs.Led.{run_on, run_bad, run_none}
use Rattle.gedcom_tree.proofs.Gathered.{grown-append, grown_nil}
use Rattle.gedcom_tree.proofs.ended.Lines.add_all.Goals as goal

pub returns-in-Err-clause-fault : goal.returns-in-Err-clause-fault
returns-in-Err-clause-fault c =
    let t = trace_view c.loop-piece.self in
    or_err (λ h. sym c.loop-piece.invariant.trace ∙ ap (trace_run t) c.in-Some.ensures.ended
    ∙ run_bad t (fault_view c.in-Err.fault) (c.in-Some.piece.now ∷ []) (pieces c.in-Some.after.now).ended h)
    c.in-Err.ensures.fault

pub loop-piece-preserved : goal.loop-piece-preserved
loop-piece-preserved c =
    let t = trace_view c.loop-piece.self in
    let g = nodes_so_far c.loop-piece.self in
    let ps = (pieces c.in-Some.after.now).ended in
    record {
      trace = sym (ap (trace_run t) c.in-Some.ensures.ended ∙ run_on t (trace_view c.add.new.self)
          (c.in-Some.piece.now ∷ []) ps c.in-Ok.ensures.led.trace) ∙ c.loop-piece.invariant.trace;
      nodes = ap (λ (x : Nodes). grown x ps) c.in-Ok.ensures.led.nodes
          ∙ sym (grown-append g (c.in-Some.piece.now ∷ []) ps) ∙ ap (grown g) (sym c.in-Some.ensures.ended)
          ∙ c.loop-piece.invariant.nodes;
      open_ = sym c.in-Some.ensures.open_ ∙ c.loop-piece.invariant.open_;
      count = omega (arith, c.in-Some.ensures.shorter, c.in-Ok.ensures.count, c.loop-piece.invariant.count);
      sound = c.in-Ok.ensures.led.sound;
    }

pub returns-clause-led : goal.returns-clause-led
returns-clause-led c =
    let t = trace_view c.loop-piece.self in
    let g = nodes_so_far c.loop-piece.self in
    record {
      trace = sym c.loop-piece.invariant.trace ∙ ap (trace_run t) c.in_default.ensures.ended ∙ run_none t;
      nodes = sym (sym c.loop-piece.invariant.nodes ∙ ap (grown g) c.in_default.ensures.ended ∙ grown_nil g);
      sound = c.loop-piece.invariant.sound;
    }

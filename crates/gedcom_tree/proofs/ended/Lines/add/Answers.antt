use Rattle.std.proofs.Common.{◌∙◌}
use Rattle.gedcom_rules.proofs.Walks.{or_err}
use Rattle.gedcom_tree.proofs.Led.{led_one, refused_one}
use Rattle.gedcom_tree.proofs.Finished.{grown_one}
use Rattle.gedcom_tree.proofs.ended.Lines.add.Goals as goal

pub returns-in-Ok-clause-led : goal.returns-in-Ok-clause-led
returns-in-Ok-clause-led c =
    let s = led_one _ _ _ _ c.args.piece.now c.requires.sound.traced c.in-Ok.ensures.seen c.in-Ok.ensures.named in
    record {
      trace = s.0;
      nodes = c.in-Ok.ensures.grown ∙ grown_one _ c.args.piece.now;
      sound = record {
        traced = s.1;
        stacked = c.in-Ok.ensures.stacked;
        deep = c.in-Ok.ensures.deep;
        plain = c.in-Ok.ensures.plain;
      };
    }

pub returns-in-Err-clause-fault : goal.returns-in-Err-clause-fault
returns-in-Err-clause-fault c = or_err (refused_one _ _ c.args.piece.now _ c.requires.sound.traced)
    c.in-Err.ensures.seen

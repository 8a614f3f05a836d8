use Rattle.std.proofs.Common.{◌∙◌, ap, sym, refl}
use Rattle.gedcom_rules.specs.Views.{progress}
use Rattle.gedcom_tree.specs.Depth.{node_depth}
use Rattle.gedcom_tree.proofs.Led.{begun, begun_traced, names_none}
use Rattle.gedcom_tree.proofs.ended.Lines.new.Goals as goal

pub returns-clause-empty : goal.returns-clause-empty
returns-clause-empty c = begun (progress c.new.result) _ _ c.new.ensures.value (names_none _ c.new-2.ensures.none)
    c.new-2.ensures.none

pub returns-clause-sound : goal.returns-clause-sound
returns-clause-sound c = record {
  traced = begun_traced (progress c.new.result) _ c.new.ensures.value (names_none _ c.new-2.ensures.none);
  stacked = c.new.ensures.stacked;
  deep = λ d. c.new-2.ensures.depth ∙ sym (ap node_depth c.new.ensures.value);
  plain = λ d. refl;
}

use Rattle.std.proofs.Common.{◌++◌, ◌∙◌, refl}
use Rattle.gedcom_rules.specs.Views.{fault_view}
use Rattle.gedcom_rules.proofs.Walks.{or_err}
use Rattle.gedcom_rules.proofs.Decided.{decided_is, undecided}
use Rattle.gedcom_tree.proofs.Fed.{failed_holds, plain_holds, plain_view}
use Rattle.gedcom_tree.proofs.reader.TreeReader.feed.Goals as goal

pub returns-in-Some-clause-fed : goal.returns-in-Some-clause-fed
returns-in-Some-clause-fed c =
    λ b h. absurd (failed_holds c.self.inside.lines c.self.inside.rest.items b c.self.inside.total c.self.inside.fault
    c.in-Some.fault c.in-Some.is (c.self.view_is ∙ h))

pub returns-in-Ok-clause-fed : goal.returns-in-Ok-clause-fed
returns-in-Ok-clause-fed c = λ b h.
    let k = c.in-Ok.ensures.ok b (plain_holds c.self.inside.lines c.self.inside.rest.items b c.self.inside.total
    c.self.inside.fault c.in_default.is (c.self.view_is ∙ h)) in (
      plain_view c.add.new.lines c.add.new.rest.items c.add.new.total c.self.inside.fault c.in_default.is ∙ k.0,
      undecided (b ++ c.args.piece.now) k.1,
    )

pub returns-in-Err-clause-fed : goal.returns-in-Err-clause-fed
returns-in-Err-clause-fed c =
    λ b h. (
      refl,
      or_err (λ k. decided_is (b ++ c.args.piece.now) (fault_view c.in-Err.fault)
          (k b (plain_holds c.self.inside.lines c.self.inside.rest.items b c.self.inside.total c.self.inside.fault
          c.in_default.is (c.self.view_is ∙ h)))) c.in-Err.ensures.fault,
    )

use Rattle.std.proofs.Common.{◌∙◌, ap}
use Rattle.conversion_reports.specs.declared.kinds.Counts.{Counts}
use Rattle.conversion_reports.specs.declared.kinds.Kind.TheVariants.{Other, Joined, Stray, Replaced, Marked}
use Rattle.conversion_reports.specs.Lines.{counts_of}
use Rattle.conversion_reports.proofs.Counting.{next_leads}
use Rattle.conversion_reports.proofs.tallies.add_moved.Goals as goal

pub returns-clause-other : goal.returns-clause-other
returns-clause-other c all h = next_leads Other c.args.set _ _ _ _ _ _ _ _ all c.in_ok-shown.ensures.line
    (ap (λ (n : Counts). n.other) (c.in_ok-often.ensures
    ∙ ap (λ us. counts_of c.args.set c.in_ok-shown.field-0.joins us) c.deref.ensures.value))
    c.in_ok-add.ensures.other.0 c.in_ok-add.ensures.other.1 h

pub returns-clause-joined : goal.returns-clause-joined
returns-clause-joined c all h = next_leads Joined c.args.set _ _ _ _ _ _ _ _ all c.in_ok-shown.ensures.line
    (ap (λ (n : Counts). n.joined) (c.in_ok-often.ensures
    ∙ ap (λ us. counts_of c.args.set c.in_ok-shown.field-0.joins us) c.deref.ensures.value))
    c.in_ok-add.ensures.joined.0 c.in_ok-add.ensures.joined.1 h

pub returns-clause-stray : goal.returns-clause-stray
returns-clause-stray c all h = next_leads Stray c.args.set _ _ _ _ _ _ _ _ all c.in_ok-shown.ensures.line
    (ap (λ (n : Counts). n.stray) (c.in_ok-often.ensures
    ∙ ap (λ us. counts_of c.args.set c.in_ok-shown.field-0.joins us) c.deref.ensures.value))
    c.in_ok-add.ensures.stray.0 c.in_ok-add.ensures.stray.1 h

pub returns-clause-replaced : goal.returns-clause-replaced
returns-clause-replaced c all h = next_leads Replaced c.args.set _ _ _ _ _ _ _ _ all c.in_ok-shown.ensures.line
    (ap (λ (n : Counts). n.replaced) (c.in_ok-often.ensures
    ∙ ap (λ us. counts_of c.args.set c.in_ok-shown.field-0.joins us) c.deref.ensures.value))
    c.in_ok-add.ensures.replaced.0 c.in_ok-add.ensures.replaced.1 h

pub returns-clause-marked : goal.returns-clause-marked
returns-clause-marked c all h = next_leads Marked c.args.set _ _ _ _ _ _ _ _ all c.in_ok-shown.ensures.line
    (ap (λ (n : Counts). n.marked) (c.in_ok-often.ensures
    ∙ ap (λ us. counts_of c.args.set c.in_ok-shown.field-0.joins us) c.deref.ensures.value))
    c.in_ok-add.ensures.marked.0 c.in_ok-add.ensures.marked.1 h

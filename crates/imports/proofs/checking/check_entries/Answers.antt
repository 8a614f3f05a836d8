use Rattle.std.proofs.Common.{◌∙◌, ap, sym}
use Rattle.std.specs.Prelude.{Err}
use Rattle.record_text.specs.declared.refusal.RefusalKind.TheVariants as refusal
use Rattle.imports.specs.Seconds.{refused_second}
use Rattle.imports.proofs.Among.{position_is, small_drafts}
use Rattle.imports.proofs.checking.check_entries.Goals as goal

pub second_entry-requires : goal.second_entry-requires
second_entry-requires c = small_drafts c.args.roots.now c.args.drafts.now c.requires.few c.requires.read

pub returns-in-None-clause-decides : goal.returns-in-None-clause-decides
returns-in-None-clause-decides c =
    ap (refused_second c.args.roots.now) (sym (sym c.in-None.is ∙ c.in_ok-second_entry.ensures
    ∙ position_is c.args.roots.now c.args.drafts.now c.requires.read))

pub returns-in-Some-clause-decides : goal.returns-in-Some-clause-decides
returns-in-Some-clause-decides c = λ other.
    ap (refused_second c.args.roots.now) (sym (sym c.in-Some.is ∙ c.in_ok-second_entry.ensures
    ∙ position_is c.args.roots.now c.args.drafts.now c.requires.read))
    ∙ ap (λ at. Err (record { kind = refusal.DuplicateEntry; at = at })) (sym c.line_at.ensures)

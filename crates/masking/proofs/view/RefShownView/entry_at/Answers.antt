use Rattle.std.proofs.Common.{subst, sym, ◌∙◌}
use Rattle.archive_state.specs.Content.{Content}
use Rattle.archive_state.specs.Entries.{IsEntryAt}
use Rattle.archive_state.specs.Paths.{IsLowest}
use Rattle.masking.proofs.view.RefShownView.entry_at.Goals as goal

pub returns-clause-shows : goal.returns-clause-shows
returns-clause-shows c = λ _. (
  tt,
  λ held shown. (
    shown,
    subst (λ (s : Content). IsLowest (λ n. IsEntryAt s.records c.args.source c.args.kind c.args.page.now c.args.item n)
        c.entry_at.result)
        (c.as_state.ensures ∙ sym shown) c.entry_at.ensures,
  ),
)

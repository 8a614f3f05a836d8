use Rattle.std.proofs.Common.{subst, sym}
use Rattle.archive_state.specs.Content.{Content}
use Rattle.archive_state.specs.Paths.{HasPath, IsLowest}
use Rattle.archive_state.proofs.view.RefStateView.place_at.Goals as goal

pub returns-clause-shows : goal.returns-clause-shows
returns-clause-shows c = λ _. (
  tt,
  λ held shown. (
    shown,
    subst (λ (s : Content). IsLowest (λ n. HasPath s.records n c.args.path.now) c.place_at.result)
        (sym shown) c.place_at.ensures,
  ),
)

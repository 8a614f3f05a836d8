use Rattle.std.proofs.Common.{◌∙◌, ap, sym}
use Rattle.staged_rows.specs.Staging.{with_target}
use Rattle.staging.specs.Opened.{pairs_as_links}
use Rattle.staging.proofs.Linking.{put_as}
use Rattle.staging.proofs.linked.add_target.Goals as goal

pub returns-in_ok-insert : goal.returns-in_ok-insert
returns-in_ok-insert c =
    ap pairs_as_links c.in_ok-insert.ensures.keys
    ∙ put_as (c.in-Some.target, c.args.number) c.args.pairs.now.keys
    ∙ ap (λ t. with_target c.args.number t (pairs_as_links c.args.pairs.now.keys)) (sym c.in-Some.is)

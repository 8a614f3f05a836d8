use Rattle.std.proofs.Common.{sym, ap, ◌∙◌}
use Rattle.std.specs.FinMap as map
use Rattle.archive_state.specs.Content.{receipts_of}
use Rattle.archive_state.proofs.Maps.{get_text}
use Rattle.archive_state.proofs.state.State.receipt.Goals as goal

pub returns : goal.returns
returns c =
    c.get.ensures.value ∙ sym (get_text c.self.inside.receipts.entries c.as_str.result.now)
    ∙ ap (map.get (receipts_of c.self.inside.receipts.entries)) c.as_str.ensures.same
    ∙ ap (λ s. map.get s.receipts c.args.token.now) c.self.view_is

use Rattle.std.proofs.Common.{◌∙◌}
use Rattle.file_faults.proofs.Listed.{finished}
use Rattle.file_faults.proofs.listing.Listing.finish.Goals as goal

pub returns : goal.returns
returns c = λ fs h. finished c.args.self.text.items _ c.as_bytes.result.now c.args.self.total fs
    c.in_ok-push_bytes.ensures (c.as_bytes.ensures.value ∙ c.in_ok-more.ensures) h.text h.total

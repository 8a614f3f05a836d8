use Rattle.std.proofs.Common.{refl, sym, ◌∙◌}
use Rattle.file_faults.proofs.Listed.{none_listed}
use Rattle.file_faults.proofs.listing.Listing.new.Goals as goal

pub returns : goal.returns
returns c = record { text = c.new.ensures.items ∙ sym none_listed; total = refl }

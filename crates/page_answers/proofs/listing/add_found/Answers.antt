use Rattle.std.proofs.Common.{ap}
use Rattle.std.specs.Prelude.{option_map, string_bytes}
use Rattle.page_answers.proofs.Listed.{none_more}
use Rattle.page_answers.proofs.listing.add_found.Goals as goal

pub returns-in-None : goal.returns-in-None
returns-in-None c = none_more c.args.index.now.paths (option_map (λ s. string_bytes s) c.args.found.now)
    (ap (option_map (λ s. string_bytes s)) c.in-None.is)

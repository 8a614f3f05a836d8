use Rattle.std.proofs.Common.{◌≡◌, ◌∙◌, sym, true, false, map}
use Rattle.name_index.specs.Entries.{entry_of}
use Rattle.name_index.proofs.Found.{by_some}
use Rattle.name_index.proofs.index.found_in.Goals as goal

pub returns : goal.returns
returns c = rw (by_some c.args.words.now (map entry_of c.args.entries.now)
    (λ e. let both : true ≡ false = sym (c.is_empty.ensures.1 e) ∙ c.if-is_empty.false in absurd cc))
    at c.found_among.ensures

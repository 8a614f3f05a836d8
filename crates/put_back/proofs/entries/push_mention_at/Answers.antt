use Rattle.std.proofs.Common.{◌∙◌, ◌+◌, ◌++◌, ap, sym}
use Rattle.std.proofs.lemmas.List.{append-nil}
use Rattle.std.proofs.lemmas.Option.{slice_get_past}
use Rattle.put_back.specs.Entries.{mention_at}
use Rattle.put_back.proofs.entries.push_mention_at.Goals as goal

pub returns-in-None : goal.returns-in-None
returns-in-None c =
    let out = c.args.out.now.items in
    sym (append-nil out) ∙ ap (λ o. out ++ mention_at c.args.number (c.args.place + 1) c.args.old.now o)
    (sym (slice_get_past c.args.now.now c.args.place c.in-None.ensures.lookup.3))

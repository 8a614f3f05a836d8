use Rattle.std.proofs.Common.{sym}
use Rattle.std.proofs.lemmas.List.{take_all}
use Rattle.html_lists.proofs.paging.first_of.Goals as goal

pub returns-then-items-le-PER_PAGE : goal.returns-then-items-le-PER_PAGE
returns-then-items-le-PER_PAGE c = sym (take_all 50 c.args.items.now c.if-items-le-PER_PAGE.true)

use Rattle.sheets.specs.Gathered.{Gathered}
use Rattle.list_laws.proofs.Outcomes.{ok_more}
use Rattle.html_pages.proofs.Belonging.{answered, owned_by}
use Rattle.html_pages.proofs.library.HtmlLibrary.events_of.Goals as goal

pub returns : goal.returns
returns c = ok_more _ _ (λ found e. answered (λ (g : Gathered). g.events c.args.owner) c.args.self.now
    c.self.inside.shown c.self.inside.index _ c.self.view_is c.self.invariant.1
    (owned_by c.args.owner c.events_of.result.now c.self.inside.index.events _
    (c.events_of.ensures c.self.invariant.0) e)) c.numbers_of.result c.numbers_of.ensures

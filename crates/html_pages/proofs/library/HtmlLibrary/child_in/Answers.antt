use Rattle.sheets.specs.Gathered.{Gathered}
use Rattle.list_laws.proofs.Outcomes.{ok_more}
use Rattle.html_pages.proofs.Belonging.{answered, families_by}
use Rattle.html_pages.proofs.library.HtmlLibrary.child_in.Goals as goal

pub returns : goal.returns
returns c = ok_more _ _ (λ found e. answered (λ (g : Gathered). g.child_in c.args.person) c.args.self.now
    c.self.inside.shown c.self.inside.index _ c.self.view_is c.self.invariant.1
    (families_by c.args.person c.child_in.result.now c.self.inside.index.child_in _
    (c.child_in.ensures c.self.invariant.0) e)) c.families_of.result c.families_of.ensures

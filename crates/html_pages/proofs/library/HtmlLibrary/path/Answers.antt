use Rattle.sheets.specs.Gathered.{Gathered}
use Rattle.list_laws.proofs.Outcomes.{ok_more}
use Rattle.html_pages.proofs.Belonging.{answered}
use Rattle.html_pages.proofs.library.HtmlLibrary.path.Goals as goal

pub returns : goal.returns
returns c = ok_more _ _ (λ found e. answered (λ (g : Gathered). g.path c.args.place) c.args.self.now
    c.self.inside.shown c.self.inside.index _ c.self.view_is c.self.invariant.1 e) c.path.result c.path.ensures

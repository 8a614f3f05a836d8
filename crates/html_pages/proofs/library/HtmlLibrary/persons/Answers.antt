use Rattle.sheets.specs.Gathered.{Gathered}
use Rattle.html_pages.proofs.Belonging.{answered}
use Rattle.html_pages.proofs.library.HtmlLibrary.persons.Goals as goal

pub returns : goal.returns
returns c = answered (λ (g : Gathered). g.persons) c.args.self.now c.self.inside.shown c.self.inside.index _
    c.self.view_is c.self.invariant.1 c.numbers.ensures

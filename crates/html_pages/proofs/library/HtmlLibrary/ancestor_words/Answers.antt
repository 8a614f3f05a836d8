use Rattle.std.proofs.Common.{ap, ◌∙◌}
use Rattle.archive_state.specs.Content.{Content}
use Rattle.list_laws.proofs.Outcomes.{ok_more}
use Rattle.sheets.specs.Gathered.{Gathered}
use Rattle.sheets.specs.Indexed.{indexed}
use Rattle.sheets.specs.Pedigrees.{words_of}
use Rattle.html_pages.proofs.Belonging.{answered}
use Rattle.html_pages.proofs.library.HtmlLibrary.ancestor_words.Goals as goal

pub returns : goal.returns
returns c =
    let of = λ (g : Gathered). words_of g c.args.person in
    ok_more _ _ (λ found e. answered of c.args.self.now c.self.inside.shown c.self.inside.index _ c.self.view_is
    c.self.invariant.1 (e ∙ ap (λ (x : Content). of (indexed x.records c.self.inside.index)) c.as_state.ensures))
    c.ancestor_words.result c.ancestor_words.ensures

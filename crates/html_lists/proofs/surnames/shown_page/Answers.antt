use Rattle.std.proofs.Common.{length}
use Rattle.list_laws.proofs.Outcomes.{ok_more}
use Rattle.sheets.specs.Gathered.{gathered}
use Rattle.html_pages.proofs.Framed.{framed_is}
use Rattle.html_lists.specs.Surnames.{surname_parts, titled}
use Rattle.html_lists.proofs.surnames.shown_page.Goals as goal

pub returns : goal.returns
returns c = ok_more _ _ (λ page e. framed_is c.args.society.now c.titled.result.now (titled c.args.of.now)
    c.new-main.result c.push_surname.new.out (surname_parts (gathered c.args.library.now.records) c.args.of.now
    c.args.page (length c.args.numbers.now) c.args.shown.now) page c.titled.ensures c.new-main.ensures
    c.in_ok-push_surname.ensures e)
    c.page_with.result c.page_with.ensures

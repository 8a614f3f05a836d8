use Rattle.std.proofs.Common.{length, List, ℕ}
use Rattle.list_laws.proofs.Outcomes.{ok_more}
use Rattle.sheet_lines.specs.Lines.{title_words}
use Rattle.sheets.specs.Gathered.{gathered}
use Rattle.html_parts.specs.Frame.{frame_parts}
use Rattle.html_lists.specs.Paging.{page_of}
use Rattle.html_lists.specs.Registers.{register_parts}
use Rattle.html_lists.proofs.Places.{no_page, that_page}
use Rattle.html_lists.proofs.registers.entries_page.Goals as goal

pub returns-in-None : goal.returns-in-None
returns-in-None c =
    let title = title_words c.args.source.now.title in
    no_page (λ (shown : List ℕ). frame_parts c.args.society.now title (register_parts
    (gathered c.args.library.now.records) title c.args.number c.args.page (length c.args.entries.now) shown))
    (page_of c.args.page c.args.entries.now) c.in-None.ensures

pub returns-in-Some : goal.returns-in-Some
returns-in-Some c =
    let title = title_words c.args.source.now.title in
    ok_more _ _ (λ page e. that_page (λ (shown : List ℕ). frame_parts c.args.society.now title (register_parts
    (gathered c.args.library.now.records) title c.args.number c.args.page (length c.args.entries.now) shown))
    (page_of c.args.page c.args.entries.now) c.in-Some.shown.now page c.in-Some.ensures e)
    c.shown_page.result c.shown_page.ensures

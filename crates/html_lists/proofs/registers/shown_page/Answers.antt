use Rattle.std.proofs.Common.{◌∙◌, ◌++◌, ap, length, List, ℕ}
use Rattle.list_laws.proofs.Outcomes.{ok_more}
use Rattle.record_kinds.specs.Model as model
use Rattle.sheet_lines.specs.Lines.{title_words}
use Rattle.sheets.specs.Gathered.{gathered}
use Rattle.html_pages.proofs.Framed.{framed_is}
use Rattle.html_lists.specs.Registers.{register_parts}
use Rattle.html_lists.proofs.registers.shown_page.Goals as goal

pub returns : goal.returns
returns c =
    let g = gathered c.args.library.now.records in
    let title = title_words c.args.source.now.title in
    let is = c.in_ok-title.ensures ∙ ap (λ (s : model.Source). title_words s.title) c.source.view_is in
    let count = length c.args.entries.now in
    ok_more _ _ (λ page e. framed_is c.args.society.now c.as_str-2.result.now title c.new-main.result
    c.push_register.new.out (register_parts g title c.args.number c.args.page count c.args.shown.now) page
    (c.as_str-2.ensures.value ∙ is) c.new-main.ensures
    (c.in_ok-push_register.ensures
    ∙ ap (λ (t : List ℕ). c.new-main.result ++ register_parts g t c.args.number c.args.page count c.args.shown.now)
    (c.as_str.ensures.value ∙ is)) e)
    c.page_with.result c.page_with.ensures

use Rattle.std.proofs.Common.{◌∙◌, ap, length, List, ℕ}
use Rattle.list_laws.proofs.Outcomes.{ok_more}
use Rattle.sheets.specs.Gathered.{gathered}
use Rattle.html_parts.specs.Frame.{frame_parts}
use Rattle.html_parts.specs.Parts.{page_bytes}
use Rattle.html_lists.specs.Paging.{page_of}
use Rattle.html_lists.specs.Surnames.{surname_in, surname_parts, titled}
use Rattle.std.specs.Prelude.{option_map}
use Rattle.html_lists.proofs.Places.{no_page, that_page}
use Rattle.html_lists.proofs.surnames.surname.Goals as goal

pub returns-in-None : goal.returns-in-None
returns-in-None c =
    let g = gathered c.args.library.now.records in
    let of = c.args.of.now in
    no_page (λ (shown : List ℕ). frame_parts c.args.society.now (titled of)
    (surname_parts g of c.args.page (length c.in_ok-numbers.numbers.now) shown))
    (page_of c.args.page c.in_ok-numbers.numbers.now) c.in-None.ensures
    ∙ ap (λ (all : List ℕ). option_map page_bytes (surname_in c.args.society.now g of c.args.page all))
    c.in_ok-numbers.ensures

pub returns-in-Some : goal.returns-in-Some
returns-in-Some c =
    let g = gathered c.args.library.now.records in
    let of = c.args.of.now in
    ok_more _ _ (λ page e. that_page (λ (shown : List ℕ). frame_parts c.args.society.now (titled of)
    (surname_parts g of c.args.page (length c.in_ok-numbers.numbers.now) shown))
    (page_of c.args.page c.in_ok-numbers.numbers.now) c.in-Some.shown.now page c.in-Some.ensures e
    ∙ ap (λ (all : List ℕ). option_map page_bytes (surname_in c.args.society.now g of c.args.page all))
    c.in_ok-numbers.ensures)
    c.shown_page.result c.shown_page.ensures

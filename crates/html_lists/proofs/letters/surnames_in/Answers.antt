use Rattle.std.proofs.Common.{◌∙◌, ◌+◌, ℕ, List, ap, drop, get_or, sym}
use Rattle.std.specs.Prelude.{fold, map}
use Rattle.std.specs.FinMap.{get}
use Rattle.std.specs.Global.{Global}
use Rattle.std.specs.List.{flat_map}
use Rattle.std.specs.declared.string.String.{String}
use Rattle.list_laws.proofs.Lists.{from_here, none_left}
use Rattle.html_lists.specs.Letters.{arranged, surnames_of, text_entry, texts, with_surname}
use Rattle.html_lists.proofs.Arranging.{person_added}
use Rattle.html_lists.proofs.letters.surnames_in.Goals as goal

pub each-init : goal.each-init
each-init c =
    ap (λ (es : List (String Global × String Global)). fold with_surname (map text_entry es)
    (flat_map (λ n. surnames_of (get c.args.library.now.records n)) c.persons-numbers.result.now))
    c.new-found.ensures.empty

pub each-preserved : goal.each-preserved
each-preserved c =
    let numbers = c.persons-numbers.result.now in
    let i = c.each.number-index in
    person_added (get_or numbers i 0) (drop (i + 1) numbers) (drop i numbers) (texts c.each.found)
    (texts c.add_person.new.found) _ (λ n. surnames_of (get c.args.library.now.records n))
    (from_here numbers i 0 c.each-test.true) c.in_ok-add_person.ensures c.each.invariant

pub returns : goal.returns
returns c =
    ap (λ (l : List ℕ). fold with_surname (texts c.each.found)
    (flat_map (λ n. surnames_of (get c.args.library.now.records n)) l))
    (sym (none_left c.persons-numbers.result.now c.each.number-index c.each-test.false))
    ∙ (c.each.invariant
    ∙ ap (λ (l : List ℕ). arranged (flat_map (λ n. surnames_of (get c.args.library.now.records n)) l))
    c.persons-numbers.ensures)

use Rattle.std.proofs.Common.{◌≡◌, ◌∷◌, ℕ, List, codes, ap, sym, ◌∙◌}
use Rattle.stored_lines.specs.Line.{Lines}
use Rattle.record_kinds.specs.Model as model
use Rattle.record_shapes.specs.Entries.{around}
use Rattle.record_shapes.specs.Shapes.{text_line}
use Rattle.entry_reading.specs.Guess.{are, from_item}
use Rattle.entry_reading.proofs.comparing.are_from_page.Goals as goal

pub returns-in-Some : goal.returns-in-Some
returns-in-Some g c =
    let page : c.as_str.result.now ≡ c.args.entry.now.page = c.as_str.ensures.same
    ∙ ap (λ (e : model.Entry). e.page) c.entry.view_is in
    let ks : Lines = from_item (around (g.K.Known.known c.args.known.now)) c.args.entry.now c.args.item.now in
    c.are_from_item.ensures ∙ sym (c.in-Some.ensures ks)
    ∙ ap (λ (p : List ℕ). are c.args.lines.now (text_line (codes "PAGE") p ∷ ks)) page

pub returns-in-None : goal.returns-in-None
returns-in-None g c =
    let page : c.as_str.result.now ≡ c.args.entry.now.page = c.as_str.ensures.same
    ∙ ap (λ (e : model.Entry). e.page) c.entry.view_is in
    let ks : Lines = from_item (around (g.K.Known.known c.args.known.now)) c.args.entry.now c.args.item.now in
    sym (c.in-None.ensures ks) ∙ ap (λ (p : List ℕ). are c.args.lines.now (text_line (codes "PAGE") p ∷ ks)) page

use Rattle.std.proofs.Common.{◌∷◌, [], codes, ap, sym, ◌∙◌}
use Rattle.stored_lines.specs.Line.{Lines}
use Rattle.record_kinds.specs.Model as model
use Rattle.record_shapes.specs.Entries.{around}
use Rattle.record_shapes.specs.Shapes.{pointer_line}
use Rattle.entry_reading.specs.Guess.{are, from_page}
use Rattle.entry_reading.proofs.comparing.are_entry_lines.Goals as goal

pub returns-in-Some : goal.returns-in-Some
returns-in-Some g c =
    let ks : Lines = from_page (around (g.K.Known.known c.args.known.now)) c.args.entry.now c.args.item.now in
    c.are_from_page.ensures ∙ sym (c.in-Some.ensures ks)
    ∙ ap (λ (e : model.Entry). are c.args.lines.now (pointer_line (codes "SOUR") e.source [] ∷ ks)) c.entry.view_is

pub returns-in-None : goal.returns-in-None
returns-in-None g c =
    let ks : Lines = from_page (around (g.K.Known.known c.args.known.now)) c.args.entry.now c.args.item.now in
    sym (c.in-None.ensures ks)
    ∙ ap (λ (e : model.Entry). are c.args.lines.now (pointer_line (codes "SOUR") e.source [] ∷ ks)) c.entry.view_is

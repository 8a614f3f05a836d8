use Rattle.std.proofs.Common.{◌∙◌, ◌++◌, ◌∷◌, [], ℕ, List, ap, codes, string_bytes}
use Rattle.record_shapes.specs.Shapes.{text_line}
use Rattle.node_writing.specs.Pages.{page}
use Rattle.node_writing.proofs.Appending.{then_below}
use Rattle.node_writing.proofs.events.push_place_line.Goals as goal
use Rattle.list_laws.proofs.Outcomes.{ok_then}

pub returns : goal.returns
returns g c =
    let names = g.N.Named.names c.args.index.now in
    let first = c.in_ok-push_words.ensures
    ∙ ap (λ (p : List ℕ). string_bytes c.args.out.now ++ page names c.args.level (text_line (codes "PLAC") p ∷ []))
    (c.as_str.ensures.value ∙ c.in_ok-path.ensures) in
    ok_then c.push_pointer.result (λ e. e ∙ then_below names c.args.level _ _ _ _ _ first) c.push_pointer.ensures

use Rattle.std.proofs.Common.{rules, ◌≡◌, ◌∙◌, ◌<◌, ℕ, map, Err, ap, subst}
use Rattle.std.specs.Global.{Vec}
use Rattle.import_definitions.specs.Numbers.{Drawing}
use Rattle.import_numbers.specs.Views.{places_of}
use Rattle.node_reading.specs.Trees.{draft_tree}
use Rattle.imports.specs.Drafts.{draw_each}
use Rattle.imports.proofs.numbers.drawn_roots.Goals as goal

pub returns-in_err-draw_drafts-clause-makes : goal.returns-in_err-draw_drafts-clause-makes
returns-in_err-draw_drafts-clause-makes g c = λ honest.
    let call = c.in_err-draw_drafts.ensures.draws honest in
    let ts = map draft_tree c.args.drafts.items in
    let same : c.from_residual.result ≡ Err c.in_err-draw_drafts.field-0.0 = search rules in (
      call.0,
      λ held shows.
          let at = call.1 held shows in
          let x = g.V.View.content held in (
            at.0,
            rw same (λ own.
                let p = (at.1 (c.new-looks.ensures x)).0 own in (
                  p.0,
                  subst (λ (d : Drawing). 4294967296 < d.next)
                      (ap (λ (d : Drawing). draw_each (places_of x c.args.file.now) 0 d ts) c.new-drawing.ensures) p.1,
                )),
          ),
    )

pub returns-clause-makes : goal.returns-clause-makes
returns-clause-makes g c = λ honest.
    let call = c.in_ok-draw_drafts.ensures.draws honest in
    let ts = map draft_tree c.args.drafts.items in (
      call.0,
      λ held shows.
          let at = call.1 held shows in
          let x = g.V.View.content held in (
            at.0,
            ap (λ (v : Vec ℕ). v.items) c.replace-found.ensures.value
                ∙ ap (λ (d : Drawing). d.roots)
                ((at.1 (c.new-looks.ensures x)).0
                ∙ ap (λ (d : Drawing). draw_each (places_of x c.args.file.now) 0 d ts) c.new-drawing.ensures),
          ),
    )

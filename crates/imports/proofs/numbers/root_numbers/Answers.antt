use Rattle.std.proofs.Common.{rules, ◌≡◌, ◌∙◌, map, Ok, Err, None, ap, sym}
use Rattle.node_reading.specs.Trees.{draft_tree}
use Rattle.record_text.specs.declared.refusal.Refusal.{Refusal}
use Rattle.record_text.specs.declared.refusal.RefusalKind.{RefusalKind}
use Rattle.record_text.specs.declared.refusal.RefusalKind.TheVariants.{Full}
use Rattle.import_definitions.specs.Numbers.{begun}
use Rattle.import_numbers.specs.Views.{places_of}
use Rattle.imports.specs.Drafts.{draw_each}
use Rattle.imports.proofs.Batches.{made_refused, made_whole}
use Rattle.imports.proofs.RootNumbers.{is_full, numbers_same}
use Rattle.imports.proofs.numbers.root_numbers.Goals as goal

pub returns-in_err-drafts-clause-makes : goal.returns-in_err-drafts-clause-makes
returns-in_err-drafts-clause-makes c = λ k hon.
    let n = k.next.ensures.shows hon in
    let same : k.from_residual-in_err-drafts.result ≡ Err k.in_err-drafts.field-0.0 = search rules in (
      n.0,
      λ held s. (
        (n.1 held s).0,
        rw same (λ own.
            made_refused (c.V.View.content held) k.args.forest.now k.in_err-drafts.field-0.0
            (k.in_err-drafts.ensures.second own)),
      ),
    )

pub returns-in_err-found-clause-makes : goal.returns-in_err-found-clause-makes
returns-in_err-found-clause-makes c = λ k hon.
    let b = k.in_err-found.ensures.makes hon in
    let law = k.the_batch_of_drafts_is_that_of_nodes.ensures in
    let n = k.in_ok-next.ensures.shows b.0 in
    let refused : Refusal = record { kind = k.in_err-found.field-0.0; at = None } in
    let same : k.from_residual-in_err-found.result ≡ Err refused = search rules in (
      n.0,
      λ held s.
          let at = n.1 held s in
          let done = b.1 held at.0 in
          let x = c.V.View.content held in
          let file = k.in_ok-drafts.field-0.places in
          let ds = map draft_tree k.in_ok-drafts.field-0.drafts.items in (
            done.0,
            rw same (λ own.
                let is = done.1 own in
                made_whole x k.args.forest.now file k.in_ok-next.next ds (Err k.in_err-found.field-0.0) law
                k.in_ok-drafts.ensures.apart k.in_ok-drafts.ensures.places at.1 k.in_ok-drafts.ensures.drafts
                (is_full (places_of x file) (draw_each (places_of x file) 0 (begun k.in_ok-next.next) ds) is.1
                ∙ ap (λ (e : RefusalKind). Err e) (sym is.0))),
          ),
    )

pub returns-clause-makes : goal.returns-clause-makes
returns-clause-makes c = λ k hon.
    let b = k.in_ok-found.ensures.makes hon in
    let n = k.in_ok-next.ensures.shows b.0 in (
      n.0,
      λ held s.
          let at = n.1 held s in
          let done = b.1 held at.0 in (
            done.0,
            done.1 ∙ numbers_same (c.V.View.content held) k.args.forest.now k.in_ok-drafts.field-0.places
                k.in_ok-next.next (map draft_tree k.in_ok-drafts.field-0.drafts.items) k.in_ok-drafts.ensures.places
                at.1 k.in_ok-drafts.ensures.drafts,
          ),
    )

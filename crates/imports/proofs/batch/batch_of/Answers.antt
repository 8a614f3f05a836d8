use Rattle.std.proofs.Common.{rules, ◌≡◌, map, Ok, Err, None}
use Rattle.node_reading.specs.Trees.{draft_tree}
use Rattle.record_text.specs.declared.refusal.Refusal.{Refusal}
use Rattle.imports.proofs.Batches.{made_refused, made_whole}
use Rattle.imports.proofs.batch.batch_of.Goals as goal

pub returns-in_err-drafts-clause-makes : goal.returns-in_err-drafts-clause-makes
returns-in_err-drafts-clause-makes c = λ k hon.
    let n = k.next.ensures.shows hon in
    let same : k.from_residual-in_err-drafts.result ≡ Err k.in_err-drafts.field-0.0 = search rules in (
      n.0,
      λ held s. (
        (n.1 held s).0,
        rw same (λ own.
            made_refused (c.V.View.content held) k.args.forest.now k.in_err-drafts.field-0.0
            (k.in_err-drafts.ensures.second own)),
      ),
    )

pub returns-in_err-batch-clause-makes : goal.returns-in_err-batch-clause-makes
returns-in_err-batch-clause-makes c = λ k hon.
    let b = k.in_err-batch.ensures.makes hon in
    let law = k.the_batch_of_drafts_is_that_of_nodes.ensures in
    let n = k.in_ok-next.ensures.shows b.0 in
    let refused : Refusal = record { kind = k.in_err-batch.field-0.0; at = None } in
    let same : k.from_residual-in_err-batch.result ≡ Err refused = search rules in (
      n.0,
      λ held s.
          let at = n.1 held s in
          let done = b.1 held at.0 in (
            done.0,
            rw same (λ own. made_whole (c.V.View.content held) k.args.forest.now
                k.in_ok-drafts.field-0.places k.in_ok-next.next (map draft_tree k.in_ok-drafts.field-0.drafts.items)
                (Err k.in_err-batch.field-0.0) law
                k.in_ok-drafts.ensures.apart k.in_ok-drafts.ensures.places at.1 k.in_ok-drafts.ensures.drafts
                (done.1 own)),
          ),
    )

pub returns-clause-makes : goal.returns-clause-makes
returns-clause-makes c = λ k hon.
    let b = k.in_ok-batch.ensures.makes hon in
    let n = k.in_ok-next.ensures.shows b.0 in (
      n.0,
      λ held s.
          let at = n.1 held s in
          let done = b.1 held at.0 in (
            done.0,
            made_whole (c.V.View.content held) k.args.forest.now
                k.in_ok-drafts.field-0.places k.in_ok-next.next (map draft_tree k.in_ok-drafts.field-0.drafts.items)
                (Ok k.in_ok-batch.batch) k.the_batch_of_drafts_is_that_of_nodes.ensures k.in_ok-drafts.ensures.apart
                k.in_ok-drafts.ensures.places at.1 k.in_ok-drafts.ensures.drafts done.1,
          ),
    )

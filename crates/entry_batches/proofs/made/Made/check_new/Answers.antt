use Rattle.std.proofs.Common.{◌≡◌, ◌∙◌, subst}
use Rattle.std.specs.Prelude.{Err, Ok}
use Rattle.record_text.specs.declared.refusal.RefusalKind.TheVariants.{DuplicateEntry}
use Rattle.entry_batches.specs.Batches.{key_is_new}
use Rattle.entry_batches.proofs.Keyed.{is_free, is_taken}
use Rattle.entry_batches.proofs.made.Made.check_new.Goals as goal

pub returns-then-contains-clause-decides : goal.returns-then-contains-clause-decides
returns-then-contains-clause-decides c = λ u.
    subst (λ made. key_is_new made c.args.entry.now ≡ Err DuplicateEntry) c.self.view_is
    (is_taken c.args.entry.now c.self.inside.puts.items c.as_str.result.now c.contains.result
    (c.as_str.ensures.value ∙ c.in_ok-words.ensures)
    (c.contains.ensures ∙ c.self.invariant.0 c.as_str.result.now) c.if-contains.true)

pub returns-clause-decides : goal.returns-clause-decides
returns-clause-decides c =
    subst (λ made. key_is_new made c.args.entry.now ≡ Ok tt) c.self.view_is
    (is_free c.args.entry.now c.self.inside.puts.items c.as_str.result.now c.contains.result
    (c.as_str.ensures.value ∙ c.in_ok-words.ensures)
    (c.contains.ensures ∙ c.self.invariant.0 c.as_str.result.now) c.if-contains.false)

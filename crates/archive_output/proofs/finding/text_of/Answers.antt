use Rattle.std.proofs.Common.{◌≡◌, string_bytes, subst, sym, w32}
use Rattle.std.proofs.lemmas.Int.{to_z-of_z}
use Rattle.std.specs.Prelude.{Bool, false, true, IfOk}
use Rattle.sqlite.specs.Held.{state}
use Rattle.archive_output.specs.Reading.{OnOpen}
use Rattle.archive_output.specs.Ends.{OnFound}
use Rattle.archive_output.proofs.Finds.{in_days}
use Rattle.archive_output.proofs.finding.text_of.Goals as goal

pub returns-then-words-clause-found : goal.returns-then-words-clause-found
returns-then-words-clause-found g c =
    let old = state g.S.Store c.args.archive.now.conn in
    let new = state g.S.Store c.told_of.new.archive.conn in
    subst
    (λ (w : Bool). IfOk c.told_of.result (λ s. OnOpen old new
    (λ _ of. OnFound w c.args.first c.args.last (λ text. string_bytes s ≡ text) of)))
    (sym c.if-words.true)
    (in_days
    (λ f l. IfOk c.told_of.result (λ s. OnOpen old new (λ _ of. OnFound true f l (λ text. string_bytes s ≡ text) of)))
    _ c.args.first _ c.args.last (to_z-of_z w32 c.args.first c.ranges.first)
    (to_z-of_z w32 c.args.last c.ranges.last) c.told_of.ensures.found)

pub returns-else-words-clause-found : goal.returns-else-words-clause-found
returns-else-words-clause-found g c =
    let old = state g.S.Store c.args.archive.now.conn in
    let new = state g.S.Store c.numbers_of.new.archive.conn in
    subst
    (λ (w : Bool). IfOk c.numbers_of.result (λ s. OnOpen old new
    (λ _ of. OnFound w c.args.first c.args.last (λ text. string_bytes s ≡ text) of)))
    (sym c.if-words.false)
    (in_days
    (λ f l. IfOk c.numbers_of.result
    (λ s. OnOpen old new (λ _ of. OnFound false f l (λ text. string_bytes s ≡ text) of)))
    _ c.args.first _ c.args.last (to_z-of_z w32 c.args.first c.ranges.first)
    (to_z-of_z w32 c.args.last c.ranges.last) c.numbers_of.ensures.found)

use Rattle.std.proofs.Common.{◌≡◌, ◌∙◌, sym, ap, ℕ, length, take}
use Rattle.std.proofs.lemmas.List.{length-take-le}
use Rattle.gedcom_line.specs.Reading.{Parts, parts}
use Rattle.gedcom_rules.specs.Views.{standings}
use Rattle.gedcom_rules.proofs.Standings.{stands, kept_above}
use Rattle.gedcom_rules.proofs.seen.stand.Goals as goal
use Rattle.gedcom_rules.proofs.seen.stand.Goals.{then-is_continuation, else-is_continuation}

pub returns-clause-value : goal.returns-clause-value
returns-clause-value c =
    let l : Parts = parts c.args.line.now in
    let stack = c.args.stack.now.items in
    let front = c.truncate.new.self.items in
    let kept = c.if-is_continuation.stack.items in
    let cut : front ≡ take l.level stack = c.truncate.ensures.items ∙ ap (λ (k : ℕ). take k stack) c.from.ensures in
    let size : length front ≡ l.level = ap length cut ∙ length-take-le l.level stack c.requires in
    elim c.if-is_continuation.branch [
      | then-is_continuation w ↦ stands l stack front kept c.push.new.self.items c.of_line.result c.requires cut
          (ap (λ s. length s.items) w.stack-is ∙ w.join_last.ensures.same ∙ size)
          (λ n. ap (λ s. standings s.items n) w.stack-is ∙ w.join_last.ensures.value n) c.in_ok-push.ensures.items
          c.of_line.ensures
      | else-is_continuation w ↦ stands l stack front kept c.push.new.self.items c.of_line.result c.requires cut
          (ap (λ s. length s.items) w.stack-is ∙ size)
          (λ n. ap (λ s. standings s.items n) w.stack-is ∙ kept_above l front n
          (sym c.is_continuation.ensures ∙ w.if-is_continuation.false)) c.in_ok-push.ensures.items c.of_line.ensures
    ]

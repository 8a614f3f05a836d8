use Rattle.std.proofs.Common.{refl, rules}
use Rattle.command_checks.proofs.PartByPart.{goes_on, spaces_at_ends, no_space_behind, last_part}
use Rattle.command_checks.proofs.normal.is_normal.Goals as goal
use Rattle.list_laws.proofs.Booleans.{never}

pub returns-then-not-is_trimmed : goal.returns-then-not-is_trimmed
returns-then-not-is_trimmed c = (
  λ t. absurd (never t),
  λ n. absurd (spaces_at_ends c.loop-part.rest.now c.in-Some.part.now c.in-Some.after.now c.in-Some.ensures.0
      c.in-Some.ensures.1
      (λ same. never (c.if-not-is_trimmed.ensures.1 same)) (c.loop-part.invariant.1.0 n)),
)

pub loop-part-preserved : goal.loop-part-preserved
loop-part-preserved c =
    let on = goes_on c.loop-part.rest.now c.in-Some.part.now c.in-Some.after.now c.in-Some-behind_space.next.now
    c.in-Some.ensures.0 c.in-Some.ensures.1 (c.if-not-is_trimmed.ensures.0 refl) c.in-Some-behind_space.ensures in
    (search rules, (λ n. on.0 (c.loop-part.invariant.1.0 n), λ n. c.loop-part.invariant.1.1 (on.1 n)))

pub returns-in-None : goal.returns-in-None
returns-in-None c = (
  λ t. absurd (never t),
  λ n. absurd (no_space_behind c.loop-part.rest.now c.in-Some.part.now c.in-Some.after.now c.in-Some.ensures.0
      c.in-Some.ensures.1
      (c.if-not-is_trimmed.ensures.0 refl) c.in-None.ensures (c.loop-part.invariant.1.0 n)),
)

pub returns : goal.returns
returns c =
    let last = last_part c.loop-part.rest.now c.in_default.ensures in (
      λ t. c.loop-part.invariant.1.1 (last.1 (c.is_trimmed-2.ensures.0 t)),
      λ n. c.is_trimmed-2.ensures.1 (last.0 (c.loop-part.invariant.1.0 n)),
    )

use Rattle.std.proofs.Common.{◌≡◌, take, map}
use Rattle.std.specs.Prelude.{not}
use Rattle.std.specs.List.{filter}
use Rattle.std.specs.Ordering.{nat_cmp}
use Rattle.std.specs.BTreeSet as set
use Rattle.record_kinds.specs.Model as model
use Rattle.masking.specs.Masking as masking
use Rattle.masking.proofs.event_parts.shown_participants.Given as goal

abbrev pub invariant-participants : goal.invariant-participants
invariant-participants l = l.made.items ≡ map masking.shown_participant
    (filter (λ (p : model.Participant). not (set.contains nat_cmp l.living p.person))
    (take l.participant-index l.participants))

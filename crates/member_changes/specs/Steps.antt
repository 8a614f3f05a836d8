-- What each command on members and participants makes of an archive, or the refusal that it gets: each number is looked
-- at in the order of its field, and then what is the command's own. Rules of our own.
use Rattle.std.specs.Prelude.{ℕ, Result, Ok}
use Rattle.record_text.specs.declared.refusal.RefusalKind.{RefusalKind}
use Rattle.record_fields.specs.declared.words.Partnership.{Partnership}
use Rattle.record_kinds.specs.Model as model
use Rattle.record_kinds.specs.declared.record.Record.TheVariants as kind
use Rattle.archive_state.specs.Content.{Content}
use Rattle.commands.specs.Rows.{and_then}
use Rattle.command_checks.specs.Checks.{event_at, family_at, passed, person_at}
use Rattle.memberships.specs.Members.{with_partner, without_child, without_participant, without_partner}
use Rattle.record_changes.specs.Steps.{Step, replaced}

-- ---- families
abbrev pub person_passes : Content → ℕ → Result (Unit {0}) RefusalKind
person_passes c n = passed (person_at c n)

-- the family of a number, where the other number is that of a person
abbrev pub family_for : Content → ℕ → ℕ → Result model.Family RefusalKind
family_for c n person =
    and_then (family_at c n) (λ f.
    and_then (person_passes c person) (λ _.
    Ok f))

abbrev pub family_put : Content → ℕ → Result model.Family RefusalKind → Step
family_put c n changed = and_then changed (λ f. Ok (replaced c n (kind.Family f)))

abbrev pub partner : Content → ℕ → Partnership → ℕ → Step
partner c n as_what person = and_then (family_for c n person) (λ f. family_put c n (with_partner as_what person f))

abbrev pub unpartner : Content → ℕ → ℕ → Step
unpartner c n person = and_then (family_for c n person) (λ f. family_put c n (without_partner person f))

abbrev pub unchild : Content → ℕ → ℕ → Step
unchild c n person = and_then (family_for c n person) (λ f. family_put c n (without_child person f))

-- ---- events
abbrev pub event_put : Content → ℕ → Result model.Event RefusalKind → Step
event_put c n changed = and_then changed (λ e. Ok (replaced c n (kind.Event e)))

-- the participant of that place in the list, from 1
abbrev pub unparticipant : Content → ℕ → ℕ → Step
unparticipant c n place = and_then (event_at c n) (λ e. event_put c n (without_participant place e))

-- What each command on members and participants leaves.
use Rattle.std.proofs.Common.{◌≡◌, ℕ, ◌-◌, List, [], ◌∷◌, ◌++◌, Bool, true, false, ◌||◌, refl, ap}
use Rattle.std.specs.Prelude.{Option, Some, Result, Ok, Err, IfOk}
use Rattle.std.specs.FinMap.{get}
use Rattle.std.specs.List.{remove}
use Rattle.record_text.specs.declared.refusal.RefusalKind.{RefusalKind}
use Rattle.record_text.specs.declared.refusal.RefusalKind.TheVariants.{AlreadyInFamily, NoSuchField, NotMember}
use Rattle.receipts.specs.declared.answer.Answer.{Answer}
use Rattle.record_fields.specs.declared.words.Partnership.{Partnership}
use Rattle.record_kinds.specs.Model as model
use Rattle.record_kinds.specs.declared.record.Record.{Record}
use Rattle.record_kinds.specs.declared.record.Record.TheVariants as kind
use Rattle.archive_state.specs.Content.{Content}
use Rattle.archive_state.specs.Links.{a_person}
use Rattle.archive_state.specs.Sound.{IsSound, Stands}
use Rattle.commands.specs.Rows.{and_then}
use Rattle.command_checks.specs.Checks.{event_at, family_at, passed, person_at}
use Rattle.command_checks.proofs.Found.{event_found, family_found, passes, person_stands}
use Rattle.memberships.specs.Members.{
  has_participant,
  is_child,
  is_partner,
  other_children,
  other_partners,
  plain_partner,
  with_partner,
  without_child,
  without_participant,
  without_partner,
}
use Rattle.record_changes.specs.Laws.{ChangesOnly}
use Rattle.record_changes.specs.Steps.{Step, replaced}
use Rattle.record_changes.proofs.Following.{leaves_all_else as else_left, replaced_sound}
use Rattle.member_changes.specs.Laws.{KeepsSound, LeavesAllElse}
use Rattle.member_changes.specs.Steps.{event_put, family_for, family_put, person_passes}
use Rattle.member_changes.proofs.FamilyFits.{other_children_fit, other_partners_fit, partner_fits}
use Rattle.member_changes.proofs.Members.{by_test, family_looked, unless_test}
use Rattle.member_changes.proofs.EventFits.{participant_removed_fits}

-- what holds of a step if it is accepted
abbrev Holds : (Content × Answer → Type 0) → Step → Type 0
Holds P step = IfOk step P

-- after a look
then_holds : {A : Type 0} (P : Content × Answer → Type 0) (r : Result A RefusalKind) (f : A → Step)
    → ((a : A) → r ≡ Ok a → Holds P (f a)) → Holds P (and_then r f)
then_holds P (Ok a) f h = h a refl
then_holds P (Err e) f h = tt

-- what is put in place of the family, of the event
family_holds : (P : Content × Answer → Type 0) (c : Content) (n : ℕ) (r : Result model.Family RefusalKind)
    → IfOk r (λ g. P (replaced c n (kind.Family g))) → Holds P (family_put c n r)
family_holds P c n (Ok g) h = h
family_holds P c n (Err e) h = tt

event_holds : (P : Content × Answer → Type 0) (c : Content) (n : ℕ) (r : Result model.Event RefusalKind)
    → IfOk r (λ g. P (replaced c n (kind.Event g))) → Holds P (event_put c n r)
event_holds P c n (Ok g) h = h
event_holds P c n (Err e) h = tt

-- a family that stands there, and the person
abbrev HasBoth : Content → ℕ → ℕ → model.Family → Type 0
HasBoth c n person f = (get c.records n ≡ Some (kind.Family f)) × Stands c.records (person, a_person)

both_found : (c : Content) (n person : ℕ) (f : model.Family) → family_for c n person ≡ Ok f → HasBoth c n person f
both_found c n person f e =
    let found = family_looked (family_at c n) (person_passes c person) f e in
    let who = passes (person_at c person) tt found.1 in
    (family_found (get c.records n) f found.0, person_stands (get c.records person) who.0 who.1)

pub keeps_sound : KeepsSound
keeps_sound c n = (
  (λ as_what person. then_holds (λ done. IsSound c → IsSound done.0) (family_for c n person)
      (λ f. family_put c n (with_partner as_what person f)) (λ f e.
      let both = both_found c n person f e in
      family_holds (λ done. IsSound c → IsSound done.0) c n (with_partner as_what person f)
      (unless_test (record f { partners = f.partners ++ plain_partner as_what person ∷ [] }) AlreadyInFamily
      (λ g. IsSound c → IsSound (replaced c n (kind.Family g)).0) (is_partner person f || is_child person f)
      (λ other sound. replaced_sound c n (kind.Family f)
      (kind.Family (record f { partners = f.partners ++ plain_partner as_what person ∷ [] })) sound both.0
      (partner_fits c n f as_what person sound both.0 both.1 other))))),
  (λ person. then_holds (λ done. IsSound c → IsSound done.0) (family_for c n person)
      (λ f. family_put c n (without_partner person f)) (λ f e.
      let both = both_found c n person f e in
      family_holds (λ done. IsSound c → IsSound done.0) c n (without_partner person f)
      (by_test (record f { partners = other_partners person f.partners }) NotMember
      (λ g. IsSound c → IsSound (replaced c n (kind.Family g)).0) (is_partner person f)
      (λ _ sound. replaced_sound c n (kind.Family f)
      (kind.Family (record f { partners = other_partners person f.partners })) sound both.0
      (other_partners_fit c n f person sound both.0))))),
  (λ person. then_holds (λ done. IsSound c → IsSound done.0) (family_for c n person)
      (λ f. family_put c n (without_child person f)) (λ f e.
      let both = both_found c n person f e in
      family_holds (λ done. IsSound c → IsSound done.0) c n (without_child person f)
      (by_test (record f { children = other_children person f.children }) NotMember
      (λ g. IsSound c → IsSound (replaced c n (kind.Family g)).0) (is_child person f)
      (λ _ sound. replaced_sound c n (kind.Family f)
      (kind.Family (record f { children = other_children person f.children })) sound both.0
      (other_children_fit c n f person sound both.0))))),
  (λ place. then_holds (λ done. IsSound c → IsSound done.0) (event_at c n)
      (λ e. event_put c n (without_participant place e)) (λ e found.
      let at : get c.records n ≡ Some (kind.Event e) = event_found (get c.records n) e found in
      event_holds (λ done. IsSound c → IsSound done.0) c n (without_participant place e)
      (by_test (record e { participants = remove e.participants (place - 1) }) NoSuchField
      (λ g. IsSound c → IsSound (replaced c n (kind.Event g)).0) (has_participant place e)
      (λ _ sound. replaced_sound c n (kind.Event e)
      (kind.Event (record e { participants = remove e.participants (place - 1) })) sound at
      (participant_removed_fits c n e (place - 1) sound at))))),
)

-- an outcome, whatever it is
if_any : {A E : Type 0} (P : A → Type 0) (r : Result A E) → ((a : A) → P a) → IfOk r P
if_any P (Ok a) h = h a
if_any P (Err e) h = tt

family_stays : (c : Content) (n : ℕ) (person : ℕ) (make : model.Family → Result model.Family RefusalKind)
    → Holds (ChangesOnly c n) (and_then (family_for c n person) (λ f. family_put c n (make f)))
family_stays c n person make = then_holds (ChangesOnly c n) (family_for c n person) (λ f. family_put c n (make f))
    (λ f e.
    let both = both_found c n person f e in
    family_holds (ChangesOnly c n) c n (make f)
    (if_any (λ g. ChangesOnly c n (replaced c n (kind.Family g))) (make f)
    (λ g. else_left c n (kind.Family f) (kind.Family g) both.0)))

pub leaves_all_else : LeavesAllElse
leaves_all_else c n = (
  (λ as_what person. family_stays c n person (λ f. with_partner as_what person f)),
  (λ person. family_stays c n person (λ f. without_partner person f)),
  (λ person. family_stays c n person (λ f. without_child person f)),
  (λ place. then_holds (ChangesOnly c n) (event_at c n) (λ e. event_put c n (without_participant place e)) (λ e found.
      event_holds (ChangesOnly c n) c n (without_participant place e)
      (if_any (λ g. ChangesOnly c n (replaced c n (kind.Event g))) (without_participant place e)
      (λ g. else_left c n (kind.Event e) (kind.Event g) (event_found (get c.records n) e found))))),
)

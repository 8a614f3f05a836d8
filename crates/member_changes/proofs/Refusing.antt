-- What a family or an event itself refuses is no failure of a look.
use Rattle.std.proofs.Common.{◌≡◌, ℕ, ◌≤◌, ◌-◌, ◌++◌, [], ◌∷◌, ◌||◌, Bool, true, false, refl, sym, subst, arith, ◌∙◌}
use Rattle.std.specs.Prelude.{Result, Ok, Err, IfErr, if◌then◌else◌}
use Rattle.std.specs.List.{remove}
use Rattle.record_text.specs.declared.refusal.RefusalKind.{RefusalKind}
use Rattle.record_text.specs.declared.refusal.RefusalKind.TheVariants.{AlreadyInFamily, NoSuchField, NotMember}
use Rattle.record_fields.specs.declared.words.Partnership.{Partnership}
use Rattle.record_kinds.specs.Model as model
use Rattle.archive_state.specs.Changes.{Changes}
use Rattle.archive_state.specs.Looks.{CountsFailures, is_failure}
use Rattle.memberships.specs.Members.{
  has_participant,
  is_child,
  is_partner,
  other_children,
  other_partners,
  plain_partner,
  with_partner,
  without_child,
  without_participant,
  without_partner,
}

abbrev NoFailure : {A : Type 0} → Result A RefusalKind → Type 0
NoFailure r = IfErr r (λ e. is_failure e ≡ false)

unless : {A : Type 0} (a : A) (k : RefusalKind) → is_failure k ≡ false → (b : Bool) → NoFailure (if b then Ok a
    else Err k)
unless a k none true = tt
unless a k none false = none

where_not : {A : Type 0} (a : A) (k : RefusalKind) → is_failure k ≡ false → (b : Bool) → NoFailure (if b then Err k
    else Ok a)
where_not a k none true = none
where_not a k none false = tt

pub partner_refuses : (as_what : Partnership) (n : ℕ) (f : model.Family) (r : Result model.Family RefusalKind)
    → r ≡ with_partner as_what n f → IfErr r (λ e. is_failure e ≡ false)
partner_refuses as_what n f r same =
    subst (λ x. NoFailure x) (sym same)
    (where_not (record f { partners = f.partners ++ plain_partner as_what n ∷ [] }) AlreadyInFamily refl
    (is_partner n f || is_child n f))

pub unpartner_refuses : (n : ℕ) (f : model.Family) (r : Result model.Family RefusalKind) → r ≡ without_partner n f
    → IfErr r (λ e. is_failure e ≡ false)
unpartner_refuses n f r same =
    subst (λ x. NoFailure x) (sym same)
    (unless (record f { partners = other_partners n f.partners }) NotMember refl (is_partner n f))

pub unchild_refuses : (n : ℕ) (f : model.Family) (r : Result model.Family RefusalKind) → r ≡ without_child n f
    → IfErr r (λ e. is_failure e ≡ false)
unchild_refuses n f r same =
    subst (λ x. NoFailure x) (sym same)
    (unless (record f { children = other_children n f.children }) NotMember refl (is_child n f))

pub unparticipant_refuses : (k : ℕ) (e : model.Event) (r : Result model.Event RefusalKind)
    → r ≡ without_participant k e → IfErr r (λ x. is_failure x ≡ false)
unparticipant_refuses k e r same =
    subst (λ x. NoFailure x) (sym same)
    (unless (record e { participants = remove e.participants (k - 1) }) NoSuchField refl (has_participant k e))

-- so where it is answered the count may stay
pub own_counts : {A : Type 0} (r : Result A RefusalKind) (e : RefusalKind) (n : ℕ)
    → IfErr r (λ k. is_failure k ≡ false) → r ≡ Err e → CountsFailures {A = Changes} n n (Err e)
own_counts r e n own is =
    let none : is_failure e ≡ false = subst (λ x. NoFailure x) is own in (
      omega arith,
      λ fails. let both : true ≡ false = sym fails ∙ none in absurd cc,
    )

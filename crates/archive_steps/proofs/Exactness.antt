-- What is put differs from what is there.
use Rattle.std.proofs.Common.{◌≡◌, ℕ, ◌+◌, List, [], ◌∷◌, ◌++◌, refl, sym, ap, ◌∙◌, subst}
use Rattle.std.specs.Prelude.{◌≢◌, Option, Some, None, Result, Ok, Err, IfOk}
use Rattle.std.specs.FinMap.{get, insert}
use Rattle.record_fields.specs.Dated.{date_from}
use Rattle.record_fields.specs.declared.date.Date.{Date}
use Rattle.record_fields.specs.declared.words.Sex.{Sex}
use Rattle.record_fields.proofs.Dated.{date_back}
use Rattle.record_kinds.specs.Model as model
use Rattle.record_kinds.specs.declared.record.Record.{Record}
use Rattle.record_kinds.specs.declared.record.Record.TheVariants as kind
use Rattle.archive_state.specs.Changes.{Changes}
use Rattle.archive_state.specs.Content.{Content}
use Rattle.archive_state.specs.declared.changes.Kept.{Kept}
use Rattle.receipts.specs.declared.answer.Answer.{Answer}
use Rattle.command_checks.specs.Checks.{person_in, family_in, event_in}
use Rattle.command_checks.specs.Exact.{IsExact}
use Rattle.archive_steps.specs.Steps.{
  or_kept_date,
  plain_name,
  plain_child,
  plain_participant,
  with_name,
  with_child,
  with_participant,
}
use Rattle.archive_steps.proofs.Fitting.{none_at_next}
use Rattle.command_checks.proofs.Found.{person_found, family_found, event_found}
use Rattle.archive_steps.proofs.Same.{put_same}

longer : {A : Type 0} (xs : List A) (x : A) → xs ++ (x ∷ []) ≢ xs
longer [] x e = absurd cc
longer (y ∷ xs) x e = let rest : xs ++ (x ∷ []) ≡ xs = cc in longer xs x rest

-- another record than the one that is there
pub name_differs : (o : Option Record) (p : model.Person) (t : List ℕ) → person_in o ≡ Ok p
    → o ≢ Some (kind.Person (with_name t p))
name_differs o p t found e =
    let both : Some (kind.Person p) ≡ Some (kind.Person (with_name t p)) = sym (person_found o p found) ∙ e in
    let same : p ≡ with_name t p = cc in
    longer p.names (plain_name t) (sym (ap (λ (x : model.Person). x.names) same))

pub sex_differs : (o : Option Record) (p : model.Person) (sex : Sex) → person_in o ≡ Ok p
    → record p { sex = Some sex } ≢ p → o ≢ Some (kind.Person (record p { sex = Some sex }))
sex_differs o p sex found other e =
    let both : Some (kind.Person p) ≡ Some (kind.Person (record p { sex = Some sex })) =
    sym (person_found o p found) ∙ e in
    let same : p ≡ record p { sex = Some sex } = cc in
    other (sym same)

pub child_differs : (o : Option Record) (f : model.Family) (n : ℕ) → family_in o ≡ Ok f
    → o ≢ Some (kind.Family (with_child n f))
child_differs o f n found e =
    let both : Some (kind.Family f) ≡ Some (kind.Family (with_child n f)) = sym (family_found o f found) ∙ e in
    let same : f ≡ with_child n f = cc in
    longer f.children (plain_child n) (sym (ap (λ (x : model.Family). x.children) same))

pub fields_differ : (o : Option Record) (x y : model.Event) → event_in o ≡ Ok x → y ≢ x → o ≢ Some (kind.Event y)
fields_differ o x y found other e =
    let both : Some (kind.Event x) ≡ Some (kind.Event y) = sym (event_found o x found) ∙ e in
    let same : x ≡ y = cc in
    other (sym same)

pub participant_differs : (o : Option Record) (x : model.Event) (n : ℕ) (role : List ℕ) → event_in o ≡ Ok x
    → o ≢ Some (kind.Event (with_participant n role x))
participant_differs o x n role found =
    fields_differ o x (with_participant n role x) found
    (λ e. longer x.participants (plain_participant n role) (ap (λ (y : model.Event). y.participants) e))

-- what is there already is put to no effect
pub same_person : (c : Content) (n : ℕ) (p q : model.Person) → person_in (get c.records n) ≡ Ok p → q ≡ p
    → record c { records = insert c.records n (kind.Person q) } ≡ c
same_person c n p q found e = ap (λ x. record c { records = x })
    (put_same c.records n (kind.Person q)
    (person_found (get c.records n) p found ∙ ap (λ y. Some (kind.Person y)) (sym e)))

pub same_event : (c : Content) (n : ℕ) (x y : model.Event) → event_in (get c.records n) ≡ Ok x → y ≡ x
    → record c { records = insert c.records n (kind.Event y) } ≡ c
same_event c n x y found e = ap (λ z. record c { records = z })
    (put_same c.records n (kind.Event y)
    (event_found (get c.records n) x found ∙ ap (λ z. Some (kind.Event z)) (sym e)))

-- ---- changes
-- one record is put, and it is not what is there
pub one_is_exact : (c : Content) (n next : ℕ) (r : Record) (a : Answer) (changes : Changes)
    → changes ≡ record {
      puts = record { number = n; «record» = r } ∷ [];
      removals = [];
      next = next;
      answer = a;
      kept = None;
      slip = None;
    }
    → get c.records n ≢ Some r → IsExact c changes
one_is_exact c n next r a changes e other =
    subst (IsExact c) (sym e)
    (record { puts = λ _. (tt, tt); removals = tt; apart = tt; new = λ _. (other, tt); there = tt; slip = λ _. tt })

-- a new record, where a sound archive has none
pub new_is_exact : (c : Content) (r : Record) (changes : Changes)
    → changes ≡ record {
      puts = record { number = c.next; «record» = r } ∷ [];
      removals = [];
      next = c.next + 1;
      answer = record { first = c.next; count = 1 };
      kept = None;
      slip = None;
    }
    → IsExact c changes
new_is_exact c r changes e =
    subst (IsExact c) (sym e)
    (record {
      puts = λ _. (tt, tt);
      removals = tt;
      apart = tt;
      new = λ sound. ((λ at. none_at_next c sound r at), tt);
      there = tt;
      slip = λ _. tt;
    })

-- one record is removed, where one is
pub removal_is_exact : (c : Content) (n next : ℕ) (a : Answer) (changes : Changes)
    → changes ≡ record { puts = []; removals = n ∷ []; next = next; answer = a; kept = None; slip = None }
    → get c.records n ≢ None → IsExact c changes
removal_is_exact c n next a changes e there =
    subst (IsExact c) (sym e)
    (record {
      puts = λ _. tt;
      removals = (tt, tt);
      apart = (refl, tt);
      new = λ _. tt;
      there = (there, tt);
      slip = λ _. tt;
    })

-- nothing is put
pub none_is_exact : (c : Content) (next : ℕ) (a : Answer) (changes : Changes)
    → changes ≡ record { puts = []; removals = []; next = next; answer = a; kept = None; slip = None }
    → IsExact c changes
none_is_exact c next a changes e =
    subst (IsExact c) (sym e)
    (record { puts = λ _. tt; removals = tt; apart = tt; new = λ _. tt; there = tt; slip = λ _. tt })

-- what is kept does not matter
pub kept_is_exact : (c : Content) (changes : Changes) (kept : Option Kept) → IsExact c changes
    → IsExact c (record changes { kept = kept })
kept_is_exact c changes kept h = record {
  puts = h.puts;
  removals = h.removals;
  apart = h.apart;
  new = h.new;
  there = h.there;
  slip = h.slip;
}

-- what is answered where another record is put
pub exact_if : {E : Type 0} (r : Result Changes E) (c x : Content) (n : ℕ) (v : Record) → x ≡ c
    → IfOk r (λ changes. get x.records n ≢ Some v → IsExact x changes) → get c.records n ≢ Some v → IfOk r (IsExact c)
exact_if (Ok a) c x n v e h other = subst (λ (y : Content). IsExact y a) e
    (h (λ f. other (ap (λ (y : Content). get y.records n) (sym e) ∙ f)))
exact_if (Err k) c x n v e h other = tt

-- ---- dates: they are the same where their texts are
pub same_date : (o p : Option Date) (a b : Date) → o ≡ Some a → p ≡ Some b → a.text ≡ b.text → or_kept_date o p ≡ p
same_date o p a b at_a at_b e = ap (λ x. or_kept_date x p) at_a ∙ sym (date_back (Some a))
    ∙ ap (λ t. date_from (Some t)) e ∙ date_back (Some b) ∙ sym at_b

pub date_same : (o p : Option Date) (a b : Date) → o ≡ Some a → p ≡ Some b → or_kept_date o p ≡ p → a.text ≡ b.text
date_same o p a b at_a at_b e =
    let both : Some a ≡ Some b = ap (λ x. or_kept_date x p) (sym at_a) ∙ e ∙ at_b in
    let same : a ≡ b = cc in
    ap (λ (d : Date). d.text) same

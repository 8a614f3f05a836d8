-- A family or an event whose members changed is another one than before.
use Rattle.std.proofs.Common.{
  ◌≡◌,
  ℕ,
  ◌<◌,
  ◌+◌,
  ◌-◌,
  List,
  [],
  ◌∷◌,
  ◌++◌,
  length,
  Bool,
  true,
  false,
  not,
  cond,
  refl,
  sym,
  ap,
  ◌∙◌,
  subst,
  arith,
  ◌||◌,
  ◌&&◌,
  nat_le,
}
use Rattle.std.specs.Prelude.{◌≢◌, ◌==◌, Option, Some, Result, Ok, Err, IfOk, if◌then◌else◌}
use Rattle.std.specs.List.{filter, list_any, remove}
use Rattle.std.proofs.lemmas.Bool.Decides.{nat_tests}
use Rattle.std.proofs.lemmas.List.Edits.{length-remove}
use Rattle.std.specs.FinMap.{get}
use Rattle.record_text.specs.declared.refusal.RefusalKind.{RefusalKind}
use Rattle.record_text.specs.declared.refusal.RefusalKind.TheVariants.{AlreadyInFamily, NoSuchField, NotMember}
use Rattle.commands.specs.Rows.{and_then}
use Rattle.archive_state.specs.Content.{Content}
use Rattle.member_changes.specs.Steps.{family_for, person_passes}
use Rattle.record_fields.specs.declared.words.Partnership.{Partnership}
use Rattle.record_kinds.specs.Model as model
use Rattle.record_kinds.specs.declared.record.Record.{Record}
use Rattle.record_kinds.specs.declared.record.Record.TheVariants as kind
use Rattle.memberships.specs.Members.{
  has_participant,
  is_child,
  is_partner,
  other_children,
  other_partners,
  plain_partner,
  with_partner,
  without_child,
  without_participant,
  without_partner,
}
use Rattle.command_checks.specs.Checks.{event_in, family_at, family_in}
use Rattle.command_checks.proofs.Found.{event_found, family_found}

-- ---- what a change that is made says
-- an outcome under a test
pub by_test : {A : Type 0} (a : A) (e : RefusalKind) (P : A → Type 0) (b : Bool) → (b ≡ true → P a)
    → IfOk (if b then Ok a else Err e) P
by_test a e P true h = h refl
by_test a e P false h = tt

pub unless_test : {A : Type 0} (a : A) (e : RefusalKind) (P : A → Type 0) (b : Bool) → (b ≡ false → P a)
    → IfOk (if b then Err e else Ok a) P
unless_test a e P true h = tt
unless_test a e P false h = h refl

-- ---- lists
longer : {A : Type 0} (xs : List A) (x : A) → xs ++ (x ∷ []) ≢ xs
longer [] x e = absurd cc
longer (y ∷ xs) x e = let rest : xs ++ (x ∷ []) ≡ xs = cc in longer xs x rest

-- none of those that a test leaves out is left
none_left : {A : Type 0} (test : A → Bool) (xs : List A) → list_any test (filter (λ x. not (test x)) xs) ≡ false
none_left test [] = refl
none_left test (x ∷ xs) =
    elim (test x) as (λ b. test x ≡ b → list_any test (cond (not b) (x ∷ filter (λ y. not (test y)) xs)
    (filter (λ y. not (test y)) xs)) ≡ false) [
      | true ↦ λ e. none_left test xs
      | false ↦ λ e. rw e (none_left test xs)
    ] refl

-- so they are others than before, where one was there
fewer : {A : Type 0} (test : A → Bool) (xs : List A) → list_any test xs ≡ true → filter (λ x. not (test x)) xs ≢ xs
fewer test xs there e =
    let both : true ≡ false = sym there ∙ ap (list_any test) (sym e) ∙ none_left test xs in absurd cc

shorter : {A : Type 0} (xs : List A) (k : ℕ) → (nat_le 1 k && nat_le k (length xs)) ≡ true → remove xs (k - 1) ≢ xs
shorter xs k there e =
    let less : k - 1 < length xs = grind (arith, nat_tests) in
    let fewer : length (remove xs (k - 1)) + 1 ≡ length xs = length-remove xs (k - 1) less in
    let same : length (remove xs (k - 1)) ≡ length xs = ap length e in
    absurd (omega arith)

-- ---- families
family_differs : (o : Option Record) (f g : model.Family) → family_in o ≡ Ok f → g ≢ f → o ≢ Some (kind.Family g)
family_differs o f g found other e =
    let both : Some (kind.Family f) ≡ Some (kind.Family g) = sym (family_found o f found) ∙ e in
    let same : f ≡ g = cc in
    other (sym same)

pub partner_differs : (o : Option Record) (as_what : Partnership) (n : ℕ) (f : model.Family) → family_in o ≡ Ok f
    → IfOk (with_partner as_what n f) (λ g. o ≢ Some (kind.Family g))
partner_differs o as_what n f found =
    unless_test (record f { partners = f.partners ++ plain_partner as_what n ∷ [] }) AlreadyInFamily
    (λ g. o ≢ Some (kind.Family g)) (is_partner n f || is_child n f)
    (λ _. family_differs o f (record f { partners = f.partners ++ plain_partner as_what n ∷ [] }) found
    (λ e. longer f.partners (plain_partner as_what n) (ap (λ (x : model.Family). x.partners) e)))

pub other_partners_differ : (o : Option Record) (n : ℕ) (f : model.Family) → family_in o ≡ Ok f
    → IfOk (without_partner n f) (λ g. o ≢ Some (kind.Family g))
other_partners_differ o n f found =
    by_test (record f { partners = other_partners n f.partners }) NotMember
    (λ g. o ≢ Some (kind.Family g)) (is_partner n f)
    (λ there. family_differs o f (record f { partners = other_partners n f.partners }) found
    (λ e. fewer (λ (p : model.Partner). p.person == n) f.partners there (ap (λ (x : model.Family). x.partners) e)))

pub other_children_differ : (o : Option Record) (n : ℕ) (f : model.Family) → family_in o ≡ Ok f
    → IfOk (without_child n f) (λ g. o ≢ Some (kind.Family g))
other_children_differ o n f found =
    by_test (record f { children = other_children n f.children }) NotMember
    (λ g. o ≢ Some (kind.Family g)) (is_child n f)
    (λ there. family_differs o f (record f { children = other_children n f.children }) found
    (λ e. fewer (λ (p : model.Child). p.person == n) f.children there (ap (λ (x : model.Family). x.children) e)))

-- ---- events
event_differs : (o : Option Record) (x y : model.Event) → event_in o ≡ Ok x → y ≢ x → o ≢ Some (kind.Event y)
event_differs o x y found other e =
    let both : Some (kind.Event x) ≡ Some (kind.Event y) = sym (event_found o x found) ∙ e in
    let same : x ≡ y = cc in
    other (sym same)

pub participants_differ : (o : Option Record) (k : ℕ) (x : model.Event) → event_in o ≡ Ok x
    → IfOk (without_participant k x) (λ y. o ≢ Some (kind.Event y))
participants_differ o k x found =
    by_test (record x { participants = remove x.participants (k - 1) }) NoSuchField
    (λ y. o ≢ Some (kind.Event y)) (has_participant k x)
    (λ there. event_differs o x (record x { participants = remove x.participants (k - 1) }) found
    (λ e. shorter x.participants k there (ap (λ (y : model.Event). y.participants) e)))

-- ---- what is answered
-- the family of two looks
pub family_looked : (r : Result model.Family RefusalKind) (s : Result (Unit {0}) RefusalKind) (g : model.Family)
    → and_then r (λ f. and_then s (λ _. Ok f)) ≡ Ok g → (r ≡ Ok g) × (s ≡ Ok tt)
family_looked (Ok f) (Ok u) g e = let same : f ≡ g = cc in (ap Ok same, refl)
family_looked (Ok f) (Err k) g e = absurd cc
family_looked (Err k) s g e = absurd cc

-- what is answered where another record is put
pub used : {A E : Type 0} (P : Type 0) (Q : A → Type 0) (r : Result A E) → IfOk r (λ a. P → Q a) → P → IfOk r Q
used P Q (Ok a) h p = h p
used P Q (Err e) h p = tt

-- a family that is put is another than that of before
abbrev pub IsOther : Content → ℕ → model.Family → Type 0
IsOther c n f = get c.records n ≢ Some (kind.Family f)

found_first : (c : Content) (n person : ℕ) (f : model.Family) → family_for c n person ≡ Ok f
    → family_in (get c.records n) ≡ Ok f
found_first c n person f e = (family_looked (family_at c n) (person_passes c person) f e).0

pub partner_other : (c : Content) (n : ℕ) (as_what : Partnership) (person : ℕ) (f : model.Family)
    (r : Result model.Family RefusalKind) → r ≡ with_partner as_what person f → family_for c n person ≡ Ok f
    → IfOk r (IsOther c n)
partner_other c n as_what person f r same e =
    subst (λ x. IfOk x (IsOther c n)) (sym same)
    (partner_differs (get c.records n) as_what person f (found_first c n person f e))

pub unpartner_other : (c : Content) (n person : ℕ) (f : model.Family) (r : Result model.Family RefusalKind)
    → r ≡ without_partner person f → family_for c n person ≡ Ok f → IfOk r (IsOther c n)
unpartner_other c n person f r same e =
    subst (λ x. IfOk x (IsOther c n)) (sym same)
    (other_partners_differ (get c.records n) person f (found_first c n person f e))

pub unchild_other : (c : Content) (n person : ℕ) (f : model.Family) (r : Result model.Family RefusalKind)
    → r ≡ without_child person f → family_for c n person ≡ Ok f → IfOk r (IsOther c n)
unchild_other c n person f r same e =
    subst (λ x. IfOk x (IsOther c n)) (sym same)
    (other_children_differ (get c.records n) person f (found_first c n person f e))

pub event_other : (c : Content) (n place : ℕ) (x : model.Event) (r : Result model.Event RefusalKind)
    → r ≡ without_participant place x → event_in (get c.records n) ≡ Ok x
    → IfOk r (λ y. get c.records n ≢ Some (kind.Event y))
event_other c n place x r same e =
    subst (λ o. IfOk o (λ z. get c.records n ≢ Some (kind.Event z))) (sym same)
    (participants_differ (get c.records n) place x e)

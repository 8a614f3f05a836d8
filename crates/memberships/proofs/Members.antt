-- What is left of a list after members were removed.
use Rattle.std.specs.Prelude.{
  ◌≡◌,
  ℕ,
  ◌==◌,
  ◌||◌,
  ◌++◌,
  not,
  Bool,
  true,
  false,
  List,
  [],
  ◌∷◌,
  Ok,
  Err,
  IfOk,
  refl,
  if◌then◌else◌,
  cond,
}
use Rattle.std.specs.List.{filter, list_any}
use Rattle.std.proofs.Common.{ap, arith, ◌∙◌}
use Rattle.std.proofs.lemmas.Bool.Decides.{nat_tests}
use Rattle.record_text.specs.declared.refusal.RefusalKind.{RefusalKind}
use Rattle.record_text.specs.declared.refusal.RefusalKind.TheVariants.{AlreadyInFamily, NotMember}
use Rattle.record_fields.specs.declared.words.Partnership.{Partnership}
use Rattle.record_kinds.specs.Model as model
use Rattle.memberships.specs.Laws.{PutsBack, TakesOut}
use Rattle.memberships.specs.Members.{
  is_child,
  is_partner,
  other_children,
  other_partners,
  plain_partner,
  without_partner,
}

-- none of those that a test leaves out is left
none_left : {A : Type 0} (test : A → Bool) (xs : List A) → list_any test (filter (λ x. not (test x)) xs) ≡ false
none_left test [] = refl
none_left test (x ∷ xs) =
    elim (test x) as (λ b. test x ≡ b → list_any test (cond (not b) (x ∷ filter (λ y. not (test y)) xs)
    (filter (λ y. not (test y)) xs)) ≡ false) [
      | true ↦ λ e. none_left test xs
      | false ↦ λ e. rw e (none_left test xs)
    ] refl

-- all are left where the test fits none, and one that it fits, at the end, goes
all_left : {A : Type 0} (test : A → Bool) (xs : List A) (z : A) → test z ≡ true → list_any test xs ≡ false
    → filter (λ x. not (test x)) (xs ++ z ∷ []) ≡ xs
all_left test [] z e h = rw e refl
all_left test (x ∷ xs) z e h =
    elim (test x) as (λ b. test x ≡ b → (b || list_any test xs) ≡ false → cond (not b)
    (x ∷ filter (λ y. not (test y)) (xs ++ z ∷ [])) (filter (λ y. not (test y)) (xs ++ z ∷ [])) ≡ x ∷ xs) [
      | true ↦ λ f g. absurd cc
      | false ↦ λ f g. ap (λ ys. x ∷ ys) (all_left test xs z e g)
    ] refl h

-- one at the end that the test fits is found
found_last : {A : Type 0} (test : A → Bool) (xs : List A) (z : A) → test z ≡ true → list_any test (xs ++ z ∷ [])
    ≡ true
found_last test [] z e = rw e refl
found_last test (x ∷ xs) z e =
    elim (test x) as (λ b. (b || list_any test (xs ++ z ∷ [])) ≡ true) [
      | true ↦ refl
      | false ↦ found_last test xs z e
    ]

if_ok : {A : Type 0} (a : A) (e : RefusalKind) (P : A → Type 0) → P a → (b : Bool)
    → IfOk (if b then Ok a else Err e) P
if_ok a e P h true = h
if_ok a e P h false = tt

pub takes_out : TakesOut
takes_out n f = (
  if_ok (record f { partners = other_partners n f.partners }) NotMember
      (λ g. (is_partner n g ≡ false) × (g.children ≡ f.children) × (g.carried ≡ f.carried))
      (none_left (λ (p : model.Partner). p.person == n) f.partners, refl, refl) (is_partner n f),
  if_ok (record f { children = other_children n f.children }) NotMember
      (λ g. (is_child n g ≡ false) × (g.partners ≡ f.partners) × (g.carried ≡ f.carried))
      (none_left (λ (c : model.Child). c.person == n) f.children, refl, refl) (is_child n f),
)

itself : (n : ℕ) → (n == n) ≡ true
itself n = grind (arith, nat_tests)

added : (as_what : Partnership) (n : ℕ) (f : model.Family) → is_partner n f ≡ false
    → without_partner n (record f { partners = f.partners ++ plain_partner as_what n ∷ [] }) ≡ Ok f
added as_what n f lacks =
    let test : model.Partner → Bool = λ p. p.person == n in
    ap (λ b. if b then Ok (record f { partners = other_partners n (f.partners ++ plain_partner as_what n ∷ []) })
    else Err NotMember) (found_last test f.partners (plain_partner as_what n) (itself n))
    ∙ ap (λ ps. Ok (record f { partners = ps })) (all_left test f.partners (plain_partner as_what n) (itself n) lacks)

by_member : (as_what : Partnership) (n : ℕ) (f : model.Family) (b c : Bool) → is_partner n f ≡ b
    → IfOk (if b || c then Err AlreadyInFamily
    else Ok (record f { partners = f.partners ++ plain_partner as_what n ∷ [] })) (λ g. without_partner n g ≡ Ok f)
by_member as_what n f true c e = tt
by_member as_what n f false true e = tt
by_member as_what n f false false e = added as_what n f e

pub puts_back : PutsBack
puts_back as_what n f = by_member as_what n f (is_partner n f) (is_child n f) refl

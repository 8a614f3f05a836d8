-- Places looked at one above the other: as many steps as the number of the first says are enough.
use Rattle.std.proofs.Common.{
  ◌≡◌,
  ℕ,
  zero,
  suc,
  ◌<◌,
  ◌≤◌,
  refl,
  sym,
  ap,
  ◌∙◌,
  arith,
  Bool,
  true,
  false,
  ◌||◌,
  ◌&&◌,
  nat_lt,
}
use Rattle.std.specs.Prelude.{Option, Some, None, Ok, Err}
use Rattle.std.specs.FinMap.{get}
use Rattle.record_text.specs.declared.refusal.RefusalKind.{RefusalKind}
use Rattle.record_kinds.specs.Model as model
use Rattle.record_kinds.specs.declared.record.Record.{Record}
use Rattle.record_kinds.specs.declared.record.Record.TheVariants as kind
use Rattle.archive_state.specs.Content.{Records}
use Rattle.command_checks.specs.Checks.{says_something, is_place_with, is_within_with, is_said, place_in}
use Rattle.list_laws.proofs.Numbers.{is_less, not_less, below_is}
use Rattle.list_laws.proofs.Booleans.{or_nothing}

-- nothing stands above number 0
none_above : (m : Records) (f : ℕ → model.Place → Bool) (n : ℕ) (parent : Option ℕ) → n ≤ 0
    → is_within_with m n f parent ≡ false
none_above m f n None h = refl
none_above m f n (Some q) h = let e : nat_lt q n ≡ false = not_less q n (omega arith) in
    ap (λ b. b && is_place_with (f q) (get m q)) e

-- places are looked at alike where f and g agree on them
alike_at : (f g : model.Place → Bool) (o : Option Record) → ((p : model.Place) → f p ≡ g p)
    → is_place_with f o ≡ is_place_with g o
alike_at f g None h = refl
alike_at f g (Some (kind.Place p)) h = h p
alike_at f g (Some (kind.Repo p)) h = refl
alike_at f g (Some (kind.Source p)) h = refl
alike_at f g (Some (kind.Person p)) h = refl
alike_at f g (Some (kind.Family p)) h = refl
alike_at f g (Some (kind.Citation p)) h = refl
alike_at f g (Some (kind.Event p)) h = refl
alike_at f g (Some (kind.Entry p)) h = refl
alike_at f g (Some (kind.Other p)) h = refl

alike : (m : Records) (n : ℕ) (f g : ℕ → model.Place → Bool) (parent : Option ℕ)
    → ((q : ℕ) (p : model.Place) → q < n → f q p ≡ g q p) → is_within_with m n f parent ≡ is_within_with m n g parent
alike m n f g None h = refl
alike m n f g (Some q) h =
    elim (nat_lt q n) as (λ b. nat_lt q n ≡ b → (b && is_place_with (f q) (get m q))
    ≡ (b && is_place_with (g q) (get m q))) [
      | true ↦ λ e. alike_at (f q) (g q) (get m q) (λ p. h q p (below_is q n e))
      | false ↦ λ e. refl
    ] refl

pub enough : (k j : ℕ) (m : Records) (n : ℕ) (p : model.Place) → n ≤ k → n ≤ j → is_said k m n p ≡ is_said j m n p
enough zero zero m n p h i = refl
enough zero (suc j) m n p h i = sym (or_nothing (says_something p.name)) ∙ ap (λ b. says_something p.name || b)
    (sym (none_above m (λ q r. is_said j m q r) n p.parent h))
enough (suc k) zero m n p h i = ap (λ b. says_something p.name || b)
    (none_above m (λ q r. is_said k m q r) n p.parent i) ∙ or_nothing (says_something p.name)
enough (suc k) (suc j) m n p h i =
    ap (λ b. says_something p.name || b) (alike m n (λ q r. is_said k m q r) (λ q r. is_said j m q r) p.parent
    (λ q r less. enough k j m q r (omega arith) (omega arith)))

-- ---- case by case
pub said_here : (k : ℕ) (m : Records) (n : ℕ) (p : model.Place) → says_something p.name ≡ true → is_said k m n p ≡ true
said_here zero m n p e = e
said_here (suc k) m n p e = ap (λ b. b || is_within_with m n (λ q r. is_said k m q r) p.parent) e

-- what is looked at above, where the name itself has no such part
pub said_within : (k : ℕ) (m : Records) (n : ℕ) (p : model.Place) (b : Bool) → says_something p.name ≡ false → n ≤ k
    → ((f : ℕ → model.Place → Bool) → ((q : ℕ) (r : model.Place) → q < n → f q r ≡ is_said q m q r)
    → is_within_with m n f p.parent ≡ b) → is_said k m n p ≡ b
said_within zero m n p b e h w = e ∙ sym (none_above m (λ q r. is_said q m q r) n p.parent h)
    ∙ w (λ q r. is_said q m q r) (λ q r less. refl)
said_within (suc k) m n p b e h w =
    ap (λ c. c || is_within_with m n (λ q r. is_said k m q r) p.parent) e ∙ w (λ q r. is_said k m q r)
    (λ q r less. enough k q m q r (omega arith) (omega arith))

pub said_alone : (m : Records) (n : ℕ) (p : model.Place) → says_something p.name ≡ false → p.parent ≡ None
    → is_said n m n p ≡ false
said_alone m n p e none = said_within n m n p false e (omega arith) (λ f h. ap (is_within_with m n f) none)

pub said_not_below : (m : Records) (n q : ℕ) (p : model.Place) → says_something p.name ≡ false → p.parent ≡ Some q
    → n ≤ q → is_said n m n p ≡ false
said_not_below m n q p e is above = said_within n m n p false e (omega arith)
    (λ f h. ap (is_within_with m n f) is ∙ ap (λ b. b && is_place_with (f q) (get m q)) (not_less q n above))

-- what is found is a place, or is none
is_place_found : (o : Option Record) (f : model.Place → Bool) (r : model.Place) → place_in o ≡ Ok r
    → is_place_with f o ≡ f r
is_place_found None f r e = absurd cc
is_place_found (Some (kind.Place p)) f r e = let same : p ≡ r = cc in ap f same
is_place_found (Some (kind.Repo p)) f r e = absurd cc
is_place_found (Some (kind.Source p)) f r e = absurd cc
is_place_found (Some (kind.Person p)) f r e = absurd cc
is_place_found (Some (kind.Family p)) f r e = absurd cc
is_place_found (Some (kind.Citation p)) f r e = absurd cc
is_place_found (Some (kind.Event p)) f r e = absurd cc
is_place_found (Some (kind.Entry p)) f r e = absurd cc
is_place_found (Some (kind.Other p)) f r e = absurd cc

no_place_found : (o : Option Record) (f : model.Place → Bool) (k : RefusalKind) → place_in o ≡ Err k
    → is_place_with f o ≡ false
no_place_found None f k e = refl
no_place_found (Some (kind.Place p)) f k e = absurd cc
no_place_found (Some (kind.Repo p)) f k e = refl
no_place_found (Some (kind.Source p)) f k e = refl
no_place_found (Some (kind.Person p)) f k e = refl
no_place_found (Some (kind.Family p)) f k e = refl
no_place_found (Some (kind.Citation p)) f k e = refl
no_place_found (Some (kind.Event p)) f k e = refl
no_place_found (Some (kind.Entry p)) f k e = refl
no_place_found (Some (kind.Other p)) f k e = refl

pub said_above : (m : Records) (n q : ℕ) (p r : model.Place) → says_something p.name ≡ false → p.parent ≡ Some q → q < n
    → place_in (get m q) ≡ Ok r → is_said n m n p ≡ is_said q m q r
said_above m n q p r e is less at = said_within n m n p (is_said q m q r) e (omega arith) (λ f h.
    ap (is_within_with m n f) is ∙ ap (λ b. b && is_place_with (f q) (get m q)) (is_less q n less)
    ∙ is_place_found (get m q) (f q) r at ∙ h q r less)

pub said_of_none : (m : Records) (n q : ℕ) (p : model.Place) (k : RefusalKind) → says_something p.name ≡ false
    → p.parent ≡ Some q → q < n → place_in (get m q) ≡ Err k → is_said n m n p ≡ false
said_of_none m n q p k e is less at = said_within n m n p false e (omega arith) (λ f h.
    ap (is_within_with m n f) is ∙ ap (λ b. b && is_place_with (f q) (get m q)) (is_less q n less)
    ∙ no_place_found (get m q) (f q) k at)

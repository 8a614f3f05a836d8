-- What is shown of records of each kind.
use Rattle.std.proofs.Common.{◌≡◌, ℕ, List, [], ◌∷◌, ◌++◌, Bool, true, false, refl, sym, ap, ◌∙◌, eqb-true}
use Rattle.std.specs.Prelude.{IsTrue, Option, Some, None, option_map, map, not, ℤ, ◌||◌, ◌==◌}
use Rattle.std.specs.List.{list_any, filter, flat_map}
use Rattle.std.specs.FinMap.{get}
use Rattle.record_kinds.specs.Model as model
use Rattle.record_kinds.specs.declared.record.Record.{Record}
use Rattle.record_kinds.specs.declared.record.Record.TheVariants as kind
use Rattle.archive_state.specs.Carried.{carried, place_line_carried}
use Rattle.stored_lines.specs.Line.{Lines}
use Rattle.archive_state.specs.Content.{Content}
use Rattle.archive_state.specs.Sound.{EachIn}
use Rattle.masking.specs.Life.{IsDead, IsLiving, is_partner}
use Rattle.masking.specs.Closing.{IsOpen}
use Rattle.masking.specs.Masking.{
  Judged,
  Looks,
  IsMasked,
  shown_at,
  shown_of,
  shown_name,
  shown_person,
  shown_holding,
  shown_partner,
  shown_child,
  shown_participant,
  shown_event_place,
  is_gone,
  is_silent,
  a_living_person,
  unless,
}

not_true : (b : Bool) → (IsTrue b → ⊥) → b ≡ false
not_true true h = absurd (h refl)
not_true false h = refl

-- what is shown where a record stands
pub shown_where : (c : Content) (today : ℤ) (s : Content) (n : ℕ) (r : Record) (h : IsMasked c today s)
    → get c.records n ≡ Some r → get s.records n
    ≡ unless (is_gone h.judged (get c.records) n r) (shown_of h.judged n r)
shown_where c today s n r h at = h.records n ∙ ap (shown_at h.judged (get c.records) n) at

-- what stands there comes of what stood there and is not gone
pub came_from : (j : Judged) (look : Looks) (n : ℕ) (o : Option Record) (r : Record) → shown_at j look n o ≡ Some r
    → (old : Record) × (o ≡ Some old) × (is_gone j look n old ≡ false) × (r ≡ shown_of j n old)
came_from j look n None r e = absurd cc
came_from j look n (Some old) r e = by (is_gone j look n old) refl
  where
    by : (b : Bool) → is_gone j look n old ≡ b
        → (was : Record) × (Some old ≡ Some was) × (is_gone j look n was ≡ false) × (r ≡ shown_of j n was)
    by true gone =
        let none : None ≡ Some r = sym (ap (λ x. unless x (shown_of j n old)) gone) ∙ e in absurd cc
    by false stays =
        let same : Some (shown_of j n old) ≡ Some r = sym (ap (λ x. unless x (shown_of j n old)) stays) ∙ e in
        let is : shown_of j n old ≡ r = cc in
        (old, refl, stays, sym is)

-- ---- persons
pub of_living : (c : Content) (today : ℤ) (s : Content) (n : ℕ) → IsMasked c today s → IsLiving c.records today n
    → get s.records n ≡ Some (kind.Person a_living_person)
of_living c today s n h l = shown_where c today s n (kind.Person l.0.0) h l.0.1
    ∙ ap (λ b. Some (kind.Person (shown_person b l.0.0))) ((h.judges.living n).1 l)

pub of_dead : (c : Content) (today : ℤ) (s : Content) (n : ℕ) (p : model.Person) → IsMasked c today s
    → get c.records n ≡ Some (kind.Person p) → IsDead c.records today n
    → get s.records n ≡ Some (kind.Person (record p { names = map shown_name p.names; carried = [] }))
of_dead c today s n p h at dead = shown_where c today s n (kind.Person p) h at
    ∙ ap (λ b. Some (kind.Person (shown_person b p)))
    (not_true (h.judged.living n) (λ t. ((h.judges.living n).0 t).1 dead))

-- ---- events
pub own_event : (c : Content) (today : ℤ) (s : Content) (n : ℕ) (e : model.Event) → IsMasked c today s
    → get c.records n ≡ Some (kind.Event e) → IsLiving c.records today e.owner → get s.records n ≡ None
own_event c today s n e h at l =
    let silent : is_silent h.judged.living e.owner (get c.records e.owner) ≡ true = ap
    (is_silent h.judged.living e.owner) l.0.1 ∙ (h.judges.living e.owner).1 l in
    shown_where c today s n (kind.Event e) h at ∙ ap (λ b. unless b (shown_of h.judged n (kind.Event e))) silent

-- a partner who is living makes a family silent
or_more : (a b x y : Bool) → (a ≡ true → x ≡ true) → (b ≡ true → y ≡ true) → (a || b) ≡ true → (x || y) ≡ true
or_more true b x y f g e = ap (λ z. z || y) (f refl)
or_more false b true y f g e = refl
or_more false b false y f g e = g e

any_more : {A : Type 0} (p q : A → Bool) → ((a : A) → p a ≡ true → q a ≡ true) → (xs : List A)
    → list_any p xs ≡ true → list_any q xs ≡ true
any_more p q f [] e = e
any_more p q f (x ∷ xs) e = or_more (p x) (list_any p xs) (q x) (list_any q xs) (f x) (any_more p q f xs) e

living_partner : (living : ℕ → Bool) (k : ℕ) (x : model.Family) → is_partner k x ≡ true → living k ≡ true
    → list_any (λ (p : model.Partner). living p.person) x.partners ≡ true
living_partner living k x is l = any_more (λ (p : model.Partner). p.person == k)
    (λ (p : model.Partner). living p.person) (λ p e. ap living (eqb-true p.person k e) ∙ l) x.partners is

pub family_event : (c : Content) (today : ℤ) (s : Content) (n k : ℕ) (e : model.Event) (x : model.Family)
    → IsMasked c today s → get c.records n ≡ Some (kind.Event e) → get c.records e.owner ≡ Some (kind.Family x)
    → is_partner k x ≡ true → IsLiving c.records today k → get s.records n ≡ None
family_event c today s n k e x h at owner partner l =
    let silent : is_silent h.judged.living e.owner (get c.records e.owner) ≡ true = ap
    (is_silent h.judged.living e.owner) owner
    ∙ living_partner h.judged.living k x partner ((h.judges.living k).1 l) in
    shown_where c today s n (kind.Event e) h at ∙ ap (λ b. unless b (shown_of h.judged n (kind.Event e))) silent

-- ---- entries
pub open_entry : (c : Content) (today : ℤ) (s : Content) (n : ℕ) (e : model.Entry) → IsMasked c today s
    → get c.records n ≡ Some (kind.Entry e) → IsOpen c.records today e → get s.records n ≡ Some (kind.Entry e)
open_entry c today s n e h at is = shown_where c today s n (kind.Entry e) h at
    ∙ ap (λ b. unless (not b) (kind.Entry e)) ((h.judges.opens n e at).1 is)

pub closed_entry : (c : Content) (today : ℤ) (s : Content) (n : ℕ) (e : model.Entry) → IsMasked c today s
    → get c.records n ≡ Some (kind.Entry e) → ¬ (IsOpen c.records today e) → get s.records n ≡ None
closed_entry c today s n e h at isnt = shown_where c today s n (kind.Entry e) h at
    ∙ ap (λ b. unless (not b) (kind.Entry e))
    (not_true (h.judged.is_open n) (λ t. isnt ((h.judges.opens n e at).0 t)))

-- ---- no carried lines
none_carried : {A : Type 0} (f : A → A) (carried_by : A → Lines) → ((a : A) → carried_by (f a) ≡ []) → (xs : List A)
    → flat_map carried_by (map f xs) ≡ []
none_carried f carried_by h [] = refl
none_carried f carried_by h (x ∷ xs) = ap (λ l. l ++ flat_map carried_by (map f xs)) (h x)
    ∙ none_carried f carried_by h xs

-- lists of none, joined
no_lines : (a b : Lines) → a ≡ [] → b ≡ [] → a ++ b ≡ []
no_lines a b e g = ap (λ l. l ++ b) e ∙ g

person_carried : (b : Bool) (p : model.Person) → carried (kind.Person (shown_person b p)) ≡ []
person_carried true p = refl
person_carried false p =
    no_lines (flat_map (λ (n : model.Name). n.carried) (map shown_name p.names)) []
    (none_carried shown_name (λ (n : model.Name). n.carried) (λ x. refl) p.names) refl

place_carried : (o : Option model.EventPlace) → place_line_carried (option_map shown_event_place o) ≡ []
place_carried None = refl
place_carried (Some p) = refl

pub bare_carried : (j : Judged) (look : Looks) (n : ℕ) (r : Record) → is_gone j look n r ≡ false
    → carried (shown_of j n r) ≡ []
bare_carried j look n (kind.Place p) h = refl
bare_carried j look n (kind.Repo r) h = refl
bare_carried j look n (kind.Source s) h =
    no_lines (flat_map (λ (x : model.Holding). x.carried) (map shown_holding s.holdings)) []
    (none_carried shown_holding (λ (x : model.Holding). x.carried) (λ x. refl) s.holdings) refl
bare_carried j look n (kind.Person p) h = person_carried (j.living n) p
bare_carried j look n (kind.Family x) h =
    no_lines (flat_map (λ (p : model.Partner). p.carried ++ p.carried_by_person) (map shown_partner x.partners))
    (flat_map (λ (c : model.Child). c.carried ++ c.carried_by_person) (map shown_child x.children) ++ [])
    (none_carried shown_partner (λ (p : model.Partner). p.carried ++ p.carried_by_person) (λ y. refl) x.partners)
    (no_lines (flat_map (λ (c : model.Child). c.carried ++ c.carried_by_person) (map shown_child x.children)) []
    (none_carried shown_child (λ (c : model.Child). c.carried ++ c.carried_by_person) (λ y. refl) x.children) refl)
bare_carried j look n (kind.Citation c) h = refl
bare_carried j look n (kind.Event e) h =
    let kept : List model.Participant = filter (λ (p : model.Participant). not (j.living p.person)) e.participants in
    no_lines (place_line_carried (option_map shown_event_place e.place))
    (flat_map (λ (p : model.Participant). p.carried) (map shown_participant kept) ++ [])
    (place_carried e.place)
    (no_lines (flat_map (λ (p : model.Participant). p.carried) (map shown_participant kept)) []
    (none_carried shown_participant (λ (p : model.Participant). p.carried) (λ y. refl) kept) refl)
bare_carried j look n (kind.Entry e) h = refl
bare_carried j look n (kind.Other o) h = absurd cc

pub none_shown : (c : Content) (today : ℤ) (s : Content) → IsMasked c today s
    → EachIn s.records (λ n r. carried r ≡ [])
none_shown c today s h = λ n r at.
    let was = came_from h.judged (get c.records) n (get c.records n) r (sym (h.records n) ∙ at) in
    ap carried was.3 ∙ bare_carried h.judged (get c.records) n was.0 was.2

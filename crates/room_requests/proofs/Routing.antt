-- The page of the route that a path takes is the page that the path names.
use Rattle.std.proofs.Common.{
  ◌≡◌,
  ◌≢◌,
  ℕ,
  List,
  [],
  ◌∷◌,
  ◌++◌,
  drop,
  length,
  codes,
  false,
  Option,
  Some,
  None,
  refl,
  ap,
  sym,
  ◌∙◌,
  true≢false,
}
use Rattle.std.specs.Prelude.{nat_eq, bytes_eq, unwrap_or, is_some}
use Rattle.std.specs.List.{starts_with}
use Rattle.std.proofs.Math.Dec.{eqb}
use Rattle.std.proofs.lemmas.Bool.{eqb-false, false_from_ne_true}
use Rattle.std.proofs.lemmas.Slice.Eq.{bytes_eq-Decides}
use Rattle.matchit.specs.Rows.{param_token}
use Rattle.room_requests.specs.Matched.{numbered, room_routes, route_at, page_at}
use Rattle.room_requests.specs.Pages.{number_behind, number_in, page_of, or_else}
use Rattle.room_requests.specs.declared.page.Page.{Page}
use Rattle.room_requests.specs.declared.page.Route.{Route}
use Rattle.room_requests.specs.declared.page.Route.TheVariants as route
use Rattle.room_requests.proofs.Fronts.{behind_is}
use Rattle.room_requests.proofs.Literals.{code, index_at, only_index, only_surname, surname_at, value_of}
use Rattle.room_requests.proofs.Parts.{kept, number_is_part}
use Rattle.room_requests.proofs.Seeks.{seek-numbered, steps}

-- ---- which route a number takes
front_of_number : (front path : List ℕ) (n : ℕ) → number_behind front path ≡ Some n
    → (path ≡ front ++ drop (length front) path) × (number_in 10 (drop (length front) path) ≡ Some n)
front_of_number front path n e =
    let k = kept (starts_with nat_eq path front) (number_in 10 (drop (length front) path)) n e in
    (behind_is front path k.0, k.1)

takes : (front : List ℕ) (r : Route) (path : List ℕ) (n : ℕ)
    → steps front room_routes ≡ (param_token ∷ [], (numbered front r).1) ∷ []
    → number_behind front path ≡ Some n → route_at path ≡ Some r
takes front r path n e h =
    let begins = front_of_number front path n h in
    let (b, rest, text, byte, slash) = number_is_part (drop (length front) path) n begins.1 in
    ap route_at (begins.0 ∙ ap (λ z. front ++ z) text)
    ∙ ap value_of (seek-numbered front room_routes (numbered front r).1 b rest e byte slash)

-- ---- what a path is not, by the route that it takes
no_index : (path : List ℕ) (o : Option Route) → route_at path ≡ o → o ≢ Some route.Index
    → bytes_eq path (codes "/") ≡ false
no_index path o e other = false_from_ne_true _
    (λ t. other (sym e ∙ ap route_at ((bytes_eq-Decides path (codes "/")).0 t) ∙ index_at))

no_surname : (path : List ℕ) (o : Option Route) → route_at path ≡ o → o ≢ Some route.Surname
    → bytes_eq path (codes "/surname") ≡ false
no_surname path o e other = false_from_ne_true _
    (λ t. other (sym e ∙ ap route_at ((bytes_eq-Decides path (codes "/surname")).0 t) ∙ surname_at))

none_of : (o : Option ℕ) → ((n : ℕ) → o ≢ Some n) → o ≡ None
none_of None h = refl
none_of (Some n) h = absurd (h n refl)

no_front : (front : List ℕ) (r : Route) (path : List ℕ) (o : Option Route)
    → steps front room_routes ≡ (param_token ∷ [], (numbered front r).1) ∷ [] → route_at path ≡ o → o ≢ Some r
    → number_behind front path ≡ None
no_front front r path o rows e other =
    none_of (number_behind front path) (λ n h. other (sym e ∙ takes front r path n rows h))

differ : (a b : Route) → eqb (code a) (code b) ≡ false → Some a ≢ Some b
differ a b h e = eqb-false (code a) (code b) h (ap code (ap (λ o. unwrap_or o a) e))

absent : (r : Route) → None ≢ Some r
absent r e = true≢false (sym (ap is_some e))

-- a path that takes this route, or none, has no page of another route
no_person : (path : List ℕ) (o : Option Route) → route_at path ≡ o → o ≢ Some route.Person
    → number_behind (codes "/person/") path ≡ None
no_person path o e other = no_front (codes "/person/") route.Person path o refl e other

no_family : (path : List ℕ) (o : Option Route) → route_at path ≡ o → o ≢ Some route.Family
    → number_behind (codes "/family/") path ≡ None
no_family path o e other = no_front (codes "/family/") route.Family path o refl e other

no_pedigree : (path : List ℕ) (o : Option Route) → route_at path ≡ o → o ≢ Some route.Pedigree
    → number_behind (codes "/pedigree/") path ≡ None
no_pedigree path o e other = no_front (codes "/pedigree/") route.Pedigree path o refl e other

no_register : (path : List ℕ) (o : Option Route) → route_at path ≡ o → o ≢ Some route.Register
    → number_behind (codes "/register/") path ≡ None
no_register path o e other = no_front (codes "/register/") route.Register path o refl e other

-- ---- the page
last : (o : Option Page) → o ≡ or_else o None
last None = refl
last (Some found) = refl

pub no_page : (path : List ℕ) → route_at path ≡ None → None ≡ page_of path
no_page path e =
    rw (
      no_index path None e (absent route.Index),
      no_surname path None e (absent route.Surname),
      no_person path None e (absent route.Person),
      no_family path None e (absent route.Family),
      no_pedigree path None e (absent route.Pedigree),
      no_register path None e (absent route.Register),
    ) refl

pub page_found : (path : List ℕ) (r : Route) → route_at path ≡ Some r → page_at r path ≡ page_of path
page_found path route.Index e = rw (only_index path e) refl
page_found path route.Surname e = rw (only_surname path e) refl
page_found path route.Person e =
    let index = no_index path _ e (differ route.Person route.Index refl) in
    let surname = no_surname path _ e (differ route.Person route.Surname refl) in
    let family = no_family path _ e (differ route.Person route.Family refl) in
    let pedigree = no_pedigree path _ e (differ route.Person route.Pedigree refl) in
    let register = no_register path _ e (differ route.Person route.Register refl) in
    rw (index, surname, family, pedigree, register) (last _)
page_found path route.Family e =
    let index = no_index path _ e (differ route.Family route.Index refl) in
    let surname = no_surname path _ e (differ route.Family route.Surname refl) in
    let person = no_person path _ e (differ route.Family route.Person refl) in
    let pedigree = no_pedigree path _ e (differ route.Family route.Pedigree refl) in
    let register = no_register path _ e (differ route.Family route.Register refl) in
    rw (index, surname, person, pedigree, register) (last _)
page_found path route.Pedigree e =
    let index = no_index path _ e (differ route.Pedigree route.Index refl) in
    let surname = no_surname path _ e (differ route.Pedigree route.Surname refl) in
    let person = no_person path _ e (differ route.Pedigree route.Person refl) in
    let family = no_family path _ e (differ route.Pedigree route.Family refl) in
    let register = no_register path _ e (differ route.Pedigree route.Register refl) in
    rw (index, surname, person, family, register) (last _)
page_found path route.Register e =
    let index = no_index path _ e (differ route.Register route.Index refl) in
    let surname = no_surname path _ e (differ route.Register route.Surname refl) in
    let person = no_person path _ e (differ route.Register route.Person refl) in
    let family = no_family path _ e (differ route.Register route.Family refl) in
    let pedigree = no_pedigree path _ e (differ route.Register route.Pedigree refl) in
    rw (index, surname, person, family, pedigree) refl

-- The routes without a number: one path takes each.
use Rattle.std.proofs.Common.{◌≡◌, ℕ, List, codes, Option, Some, None, refl, ap, sym, ◌∙◌, inl, inr, false, true≢false}
use Rattle.std.specs.Prelude.{option_map, unwrap_or, is_some}
use Rattle.std.proofs.Math.Dec.{eqb}
use Rattle.std.proofs.lemmas.Bool.{eqb-false}
use Rattle.matchit.proofs.OnLiterals.{matchit_on_literals}
use Rattle.matchit.specs.Router.{RouteOf}
use Rattle.matchit.specs.Seek.{first}
use Rattle.room_requests.specs.Matched.{room_routes, route_at}
use Rattle.room_requests.specs.declared.page.Route.{Route}
use Rattle.room_requests.specs.declared.page.Route.TheVariants as route
use Rattle.room_requests.proofs.Rows.{Has, fits_text, row_of}

pub index_at : route_at (codes "/") ≡ Some route.Index
unfolding matchit_on_literals
index_at = refl

pub surname_at : route_at (codes "/surname") ≡ Some route.Surname
unfolding matchit_on_literals
surname_at = refl

-- routes are distinguished by numbers
abbrev pub code : Route → ℕ
code route.Index = 0
code route.Person = 1
code route.Family = 2
code route.Pedigree = 3
code route.Register = 4
code route.Surname = 5

abbrev pub value_of : Option (RouteOf Route) → Option Route
value_of found = option_map (λ r. r.value) found

some_route : (o : Option (RouteOf Route)) (r : Route) → value_of o ≡ Some r
    → (key : RouteOf Route) × (o ≡ Some key) × (key.value ≡ r)
some_route None r e = absurd (true≢false (sym (ap is_some e)))
some_route (Some key) r e = (key, refl, ap (λ o. unwrap_or o r) e)

-- a row of another route
other : (a b : Route) (row key : RouteOf Route) → eqb (code a) (code b) ≡ false → row.value ≡ a → row ≡ key
    → key.value ≡ b → ⊥
other a b row key differ is e v = eqb-false (code a) (code b) differ (ap code (sym is ∙ ap (λ x. x.value) e ∙ v))

index_row : (tokens : List ℕ) (key : RouteOf Route) → Has room_routes tokens key → key.value ≡ route.Index
    → tokens ≡ codes "/"
index_row tokens key (inl h) v =
    absurd (other route.Family route.Index _ key refl refl h.1 v)
index_row tokens key (inr (inl h)) v =
    absurd (other route.Pedigree route.Index _ key refl refl h.1 v)
index_row tokens key (inr (inr (inl h))) v =
    absurd (other route.Person route.Index _ key refl refl h.1 v)
index_row tokens key (inr (inr (inr (inl h)))) v =
    absurd (other route.Register route.Index _ key refl refl h.1 v)
index_row tokens key (inr (inr (inr (inr (inl h))))) v =
    absurd (other route.Surname route.Index _ key refl refl h.1 v)
index_row tokens key (inr (inr (inr (inr (inr (inl h)))))) v = sym h.0
index_row tokens key (inr (inr (inr (inr (inr (inr h)))))) v = absurd h

surname_row : (tokens : List ℕ) (key : RouteOf Route) → Has room_routes tokens key → key.value ≡ route.Surname
    → tokens ≡ codes "/surname"
surname_row tokens key (inl h) v =
    absurd (other route.Family route.Surname _ key refl refl h.1 v)
surname_row tokens key (inr (inl h)) v =
    absurd (other route.Pedigree route.Surname _ key refl refl h.1 v)
surname_row tokens key (inr (inr (inl h))) v =
    absurd (other route.Person route.Surname _ key refl refl h.1 v)
surname_row tokens key (inr (inr (inr (inl h)))) v =
    absurd (other route.Register route.Surname _ key refl refl h.1 v)
surname_row tokens key (inr (inr (inr (inr (inl h))))) v = sym h.0
surname_row tokens key (inr (inr (inr (inr (inr (inl h)))))) v =
    absurd (other route.Index route.Surname _ key refl refl h.1 v)
surname_row tokens key (inr (inr (inr (inr (inr (inr h)))))) v = absurd h

pub only_index : (path : List ℕ) → route_at path ≡ Some route.Index → path ≡ codes "/"
only_index path e =
    let (key, found, value) = some_route (first room_routes path) route.Index e in
    let (tokens, row, fits) = row_of room_routes path key found in
    fits_text (codes "/") path refl (rw (index_row tokens key row value) at fits)

pub only_surname : (path : List ℕ) → route_at path ≡ Some route.Surname → path ≡ codes "/surname"
only_surname path e =
    let (key, found, value) = some_route (first room_routes path) route.Surname e in
    let (tokens, row, fits) = row_of room_routes path key found in
    fits_text (codes "/surname") path refl (rw (surname_row tokens key row value) at fits)

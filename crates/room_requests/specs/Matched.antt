-- The routes as `matchit` keeps them, and the page of a path that takes one: as the code finds it.
use Rattle.std.specs.Prelude.{ℕ, ◌+◌, List, [], ◌∷◌, ◌++◌, length, codes, Option, Some, option_map}
use Rattle.matchit.specs.Rows.{RowsOf, param_token}
use Rattle.matchit.specs.Router.{RouteOf}
use Rattle.matchit.specs.Seek.{first}
use Rattle.room_requests.specs.Pages.{number_behind}
use Rattle.room_requests.specs.declared.page.Page.{Page}
use Rattle.room_requests.specs.declared.page.Page.TheVariants as page
use Rattle.room_requests.specs.declared.page.Route.{Route}
use Rattle.room_requests.specs.declared.page.Route.TheVariants as route

-- a route of only these bytes
abbrev pub literal : List ℕ → Route → List ℕ × RouteOf Route
literal text r = (text, record { pattern = text; text = text; names = []; value = r })

-- a route of these bytes and then a number
abbrev pub numbered : List ℕ → Route → List ℕ × RouteOf Route
numbered front r = (
  front ++ param_token ∷ [],
  record {
    pattern = front ++ param_token ∷ [];
    text = front ++ codes "{number}";
    names = (length front + 1, length front + 7) ∷ [];
    value = r;
  },
)

-- all routes, in the order in which `matchit` keeps them
abbrev pub room_routes : RowsOf (RouteOf Route)
room_routes =
    numbered (codes "/family/") route.Family
    ∷ numbered (codes "/pedigree/") route.Pedigree
    ∷ numbered (codes "/person/") route.Person
    ∷ numbered (codes "/register/") route.Register
    ∷ literal (codes "/surname") route.Surname
    ∷ literal (codes "/") route.Index
    ∷ []

-- the route that a path takes
abbrev pub route_at : List ℕ → Option Route
route_at path = option_map (λ r. r.value) (first room_routes path)

-- the page of a path that takes that route
abbrev pub page_at : Route → List ℕ → Option Page
page_at route.Index path = Some page.Index
page_at route.Person path = option_map page.Person (number_behind (codes "/person/") path)
page_at route.Family path = option_map page.Family (number_behind (codes "/family/") path)
page_at route.Pedigree path = option_map page.Pedigree (number_behind (codes "/pedigree/") path)
page_at route.Register path = option_map page.Register (number_behind (codes "/register/") path)
page_at route.Surname path = Some page.Surname

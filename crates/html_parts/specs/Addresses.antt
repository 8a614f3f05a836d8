-- The addresses of pages (RFC 3986, section 3; a query as the URL Standard, section 5.2, writes it).
use Rattle.std.specs.Prelude.{ℕ, List, [], ◌++◌, codes, decimal}
use Rattle.form_urlencoded.specs.Form.{append_pair}
use Rattle.html_parts.specs.declared.route.Route.{Route}
use Rattle.html_parts.specs.declared.route.Route.TheVariants as route

abbrev pub surname_address : List ℕ → List ℕ
surname_address surname = codes "/surname?" ++ append_pair [] (codes "name") surname

abbrev pub search_address : List ℕ → List ℕ
search_address words = codes "/search?" ++ append_pair [] (codes "q") words

abbrev pub address_of : Route → List ℕ
address_of route.Home = codes "/"
address_of (route.Person n) = codes "/person/" ++ decimal n
address_of (route.Family n) = codes "/family/" ++ decimal n
address_of (route.Pedigree n) = codes "/pedigree/" ++ decimal n
address_of (route.Register n) = codes "/register/" ++ decimal n
address_of (route.RegisterPage n page) = (codes "/register/" ++ decimal n) ++ (codes "?page=" ++ decimal page)
address_of (route.Surname surname) = surname_address surname
address_of (route.SurnamePage surname page) = surname_address surname ++ (codes "&page=" ++ decimal page)
address_of (route.Search words) = search_address words
address_of (route.SearchPage words page) = search_address words ++ (codes "&page=" ++ decimal page)

-- Whether numbers are given out: from 1, and below the next one.
use Rattle.std.specs.Prelude.{ℕ, nat_lt, ◌&&◌, Bool, List}
use Rattle.std.specs.List.{list_all}
use Rattle.archive_state.specs.Links.{Link}

abbrev pub is_number : ℕ → ℕ → Bool
is_number next n = nat_lt 0 n && nat_lt n next

abbrev pub are_below : ℕ → List Link → Bool
are_below next links = list_all (λ (l : Link). is_number next l.0) links

-- Whether numbers of lists that were put together are given out.
use Rattle.std.proofs.Common.{◌≡◌, ℕ, List, [], ◌∷◌, ◌++◌, Bool, nat_lt, ◌&&◌, refl, map}
use Rattle.std.specs.Bool.{Decides}
use Rattle.std.proofs.lemmas.Bool.Decides.{Decides-and, Decides-at, Decides-ltb}
use Rattle.std.proofs.lemmas.List.Folds.{list_all-append}
use Rattle.record_kinds.specs.declared.record.Record.{Record}
use Rattle.archive_state.specs.Links.{Link, links, names}
use Rattle.record_shapes.specs.Lists.{EachOf}
use Rattle.archive_state.specs.Sound.{IsNumber}
use Rattle.audit.specs.Below.{are_below, is_number}

pub both_below : (next : ℕ) (ls ks : List Link) → are_below next (ls ++ ks) ≡ (are_below next ls && are_below next ks)
both_below next ls ks = list_all-append (λ (l : Link). is_number next l.0) ls ks

pub number_is : (next n : ℕ) → Decides (is_number next n) (IsNumber next n)
number_is next n = Decides-and (nat_lt 0 n) (nat_lt n next) (Decides-ltb 0 n) (Decides-ltb n next)

each_below : (next : ℕ) (ls : List Link) → Decides (are_below next ls)
    (EachOf (IsNumber next) (map (λ (l : Link). l.0) ls))
each_below next [] = (λ _. tt, λ _. refl)
each_below next (l ∷ ls) = Decides-and (is_number next l.0) (are_below next ls) (number_is next l.0)
    (each_below next ls)

pub names_below : (next : ℕ) (r : Record) (b : Bool) → b ≡ are_below next (links r)
    → Decides b (EachOf (IsNumber next) (names r))
names_below next r b e = Decides-at b (are_below next (links r)) e (each_below next (links r))

-- What stands after a front.
use Rattle.std.proofs.Common.{◌≡◌, ◌≢◌, ℕ, List, ◌++◌, drop, length, false, true, None, refl}
use Rattle.std.specs.Prelude.{nat_eq}
use Rattle.std.specs.List.{starts_with}
use Rattle.std.proofs.lemmas.Bool.{false_from_ne_true}
use Rattle.std.proofs.lemmas.Bool.Decides.{Decides-eqb}
use Rattle.std.proofs.lemmas.Slice.Eq.{starts_is}
use Rattle.room_requests.specs.Pages.{number_behind, number_in}

pub behind_is : (front path : List ℕ) → starts_with nat_eq path front ≡ true
    → path ≡ front ++ drop (length front) path
behind_is front path e = (starts_is Decides-eqb path front _ refl).0 e

pub behind_none : (front path : List ℕ) → ((rest : List ℕ) → path ≢ front ++ rest)
    → starts_with nat_eq path front ≡ false
behind_none front path h = false_from_ne_true _ (λ e. h _ (behind_is front path e))

pub behind_some : (front path rest : List ℕ) → path ≡ front ++ rest → starts_with nat_eq path front ≡ true
behind_some front path rest e = (starts_is Decides-eqb path front _ refl).1 rest e

-- the number after a front, by what is left of the path
pub behind_number : (front path rest : List ℕ) (n : ℕ) → n ≡ length front → path ≡ front ++ drop n path
    → rest ≡ drop n path → number_in 10 rest ≡ number_behind front path
behind_number front path rest n size begins left = rw (behind_some front path _ begins, left, size) refl

pub no_number : (front path : List ℕ) → ((rest : List ℕ) → path ≢ front ++ rest) → None ≡ number_behind front path
no_number front path h = rw (behind_none front path h) refl

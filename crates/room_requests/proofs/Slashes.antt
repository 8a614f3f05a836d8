-- The first slash of a text.
use Rattle.std.proofs.Common.{◌≡◌, ◌≢◌, ◌<◌, ℕ, List, [], ◌∷◌, length, get_or, drop, codes, refl, arith, suc, zero}
use Rattle.std.proofs.lemmas.Bool.{ne_eqb, eq-eqb}
use Rattle.room_requests.specs.Targets.{from_slash}

pub no_slash : (rest : List ℕ) → ((i : ℕ) → i < length rest → get_or rest i 0 ≢ 47) → from_slash rest ≡ codes "/"
no_slash [] h = refl
no_slash (b ∷ rest) h =
    rw (ne_eqb b 47 (h 0 (omega arith)), no_slash rest (λ i l. h (suc i) (omega (arith, l)))) refl

pub first_slash : (rest : List ℕ) (k : ℕ) → k < length rest → get_or rest k 0 ≡ 47
    → ((i : ℕ) → i < k → get_or rest i 0 ≢ 47) → from_slash rest ≡ drop k rest
first_slash [] k l e h = absurd (omega (arith, l))
first_slash (b ∷ rest) zero l e h = rw (eq-eqb b 47 e) refl
first_slash (b ∷ rest) (suc k) l e h =
    let later = first_slash rest k (omega (arith, l)) e (λ i j. h (suc i) (omega (arith, j))) in
    rw (ne_eqb b 47 (h 0 (omega arith)), later) refl

-- What is said of both cases of a test.
use Rattle.std.proofs.Common.{◌≡◌, Bool, true, false, MatchBool, refl}

pub by_bool : {A B G : Type 0} (b : Bool) → MatchBool b A B → (b ≡ true → A → G) → (b ≡ false → B → G) → G
by_bool true h f g = f refl h
by_bool false h f g = g refl h

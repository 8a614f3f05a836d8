-- Small facts on options that several proofs use.
use Rattle.std.proofs.Common.{◌≡◌, true, false, Option, Some, None, IfSome}

-- none is not some
pub none_some : {A : Type 0} → false ≡ true → A
none_some h = absurd cc

pub some_weaker : {A : Type 0} (o : Option A) (P Q : A → Type 0) → ((a : A) → P a → Q a) → IfSome o P → IfSome o Q
some_weaker None P Q f h = tt
some_weaker (Some a) P Q f h = f a h

-- What is said of memory beside a fact.
use Rattle.std.proofs.Common.{inl, inr, ◌⊎◌}

-- out of memory, or what follows from the other
pub or_err : {M A B : Type 0} → (A → B) → M ⊎ A → M ⊎ B
or_err f (inl m) = inl m
or_err f (inr a) = inr (f a)

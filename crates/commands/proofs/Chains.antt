-- Steps in a chain: where the chain answers, each of its steps has answered.
use Rattle.std.proofs.Common.{◌≡◌, refl}
use Rattle.std.specs.Prelude.{Result, Ok, Err}
use Rattle.record_text.specs.declared.refusal.RefusalKind.{RefusalKind}
use Rattle.commands.specs.Rows.{and_then}

pub both_answered : {A B : Type 0} (r : Result A RefusalKind) (f : A → Result B RefusalKind) (b : B)
    → and_then r f ≡ Ok b → (a : A) × (r ≡ Ok a) × (f a ≡ Ok b)
both_answered (Ok a) f b e = (a, refl, e)
both_answered (Err k) f b e = absurd cc

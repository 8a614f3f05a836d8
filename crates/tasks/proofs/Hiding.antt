-- What the same text, or the same refusal, says of two writers.
use Rattle.std.proofs.Common.{◌≡◌, ◌⊎◌, ◌∙◌, ℕ, List, inl, inr, sym, Ok, Err}
use Rattle.std.specs.Prelude.{Option, Result}
use Rattle.record_text.specs.declared.refusal.RefusalKind.{RefusalKind}
use Rattle.archive_output.specs.Writing.{GotNoText, GotText}
use Rattle.tasks.specs.Hiding.{GotTheSame, HasFailed}

pub both_got : (o : Result (List ℕ) RefusalKind) (x y v w : Option (List ℕ)) → GotText x y o → GotText v w o
    → GotTheSame x y v w
both_got (Ok text) x y v w first second = (text, first, second)
both_got (Err e) x y v w first second = absurd first

pub one_got : (o : Result (List ℕ) RefusalKind) (x y v w : Option (List ℕ)) (kind : RefusalKind) → GotText x y o
    → GotNoText kind v w o → HasFailed kind
one_got (Ok text) x y v w kind got none = inr none.0
one_got (Err e) x y v w kind got none = absurd got

pub none_got : (o : Result (List ℕ) RefusalKind) (x y v w : Option (List ℕ)) (kind other : RefusalKind)
    → GotNoText kind x y o → GotNoText other v w o → (kind ≡ other) ⊎ (HasFailed kind ⊎ HasFailed other)
none_got (Ok text) x y v w kind other first second = inr (inl (inr first.0))
none_got (Err e) x y v w kind other first second = inl (first.0 ∙ sym second.0)

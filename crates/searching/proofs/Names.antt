-- A name of a list in which all words occur.
use Rattle.std.proofs.Common.{◌≡◌, ℕ, ◌<◌, Bool, true, List, length, get_or, map, ap, sym, ◌∙◌}
use Rattle.std.specs.List.{list_any}
use Rattle.std.proofs.lemmas.List.Folds.{list_any_at}
use Rattle.list_laws.proofs.Lists.{any_mapped}

pub one_occurs : {X : Type 0} (p : List ℕ → Bool) (f : X → List ℕ) (xs : List X) (i : ℕ) (x : X) → i < length xs
    → x ≡ get_or xs i x → p (f x) ≡ true → true ≡ list_any p (map f xs)
one_occurs {X} p f xs i x less at e = sym (any_mapped p f xs
    ∙ list_any_at (λ (y : X). p (f y)) xs i x less (ap (λ (y : X). p (f y)) (sym at) ∙ e))

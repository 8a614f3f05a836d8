-- A path that is made.
use Rattle.std.proofs.Common.{
  ◌≡◌,
  ◌∙◌,
  ◌||◌,
  [],
  ◌∷◌,
  Bool,
  List,
  ap,
  false,
  refl,
  true,
  ℕ,
}
use Rattle.std.specs.Prelude.{bytes_eq}
use Rattle.std.specs.List.{list_any}

none_more : (b : Bool) → b ≡ (b || false)
none_more true = refl
none_more false = refl

pub one_is : (x path : List ℕ) (was now : Bool) → now ≡ (was || bytes_eq x path)
    → now ≡ (was || list_any (λ other. bytes_eq x other) (path ∷ []))
one_is x path was now e = e ∙ ap (λ (b : Bool). was || b) (none_more (bytes_eq x path))

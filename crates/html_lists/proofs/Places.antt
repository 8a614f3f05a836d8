-- Pages of lists, and pieces of a page.
use Rattle.std.proofs.Common.{◌≡◌, ◌∙◌, ◌++◌, ℕ, List, ap}
use Rattle.std.proofs.lemmas.List.{append_assoc}
use Rattle.std.specs.Prelude.{option_map, Option, Some, None}
use Rattle.html_parts.specs.declared.part.Part.{Part}
use Rattle.html_parts.specs.Parts.{page_bytes}

module _ {A : Type 0} (f : List A → List Part) (o : Option (List A)) where
  -- there is no such page
  pub no_page : None ≡ o → None ≡ option_map page_bytes (option_map f o)
  no_page is = ap (λ (x : Option (List A)). option_map page_bytes (option_map f x)) is

  -- the page of these items
  pub that_page : (shown : List A) (page : Option (List ℕ)) → Some shown ≡ o → page ≡ Some (page_bytes (f shown))
      → page ≡ option_map page_bytes (option_map f o)
  that_page shown page is e = e ∙ ap (λ (x : Option (List A)). option_map page_bytes (option_map f x)) is

-- four pieces that are appended one after another
pub four_after : (old a b c d p q r s : List Part) → a ≡ old ++ p → b ≡ a ++ q → c ≡ b ++ r → d ≡ c ++ s
    → d ≡ old ++ (p ++ (q ++ (r ++ s)))
four_after old a b c d p q r s x y z w =
    w ∙ ap (λ (l : List Part). l ++ s) (z ∙ ap (λ (l : List Part). l ++ r) (y ∙ ap (λ (l : List Part). l ++ q) x))
    ∙ (append_assoc ((old ++ p) ++ q) r s ∙ append_assoc (old ++ p) q (r ++ s) ∙ append_assoc old p (q ++ (r ++ s)))

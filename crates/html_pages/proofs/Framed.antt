-- A page by its title and its parts.
use Rattle.std.proofs.Common.{◌≡◌, ◌∙◌, ap, ℕ, List, [], ◌++◌}
use Rattle.std.specs.Prelude.{Option, Some}
use Rattle.html_parts.specs.declared.part.Part.{Part}
use Rattle.html_parts.specs.Frame.{frame_parts}
use Rattle.html_parts.specs.Parts.{page_bytes}

-- a page of parts that were appended to none
pub framed_is : (society t title : List ℕ) (out main parts : List Part) (page : Option (List ℕ)) → t ≡ title → out ≡ []
    → main ≡ out ++ parts → page ≡ Some (page_bytes (frame_parts society t main))
    → page ≡ Some (page_bytes (frame_parts society title parts))
framed_is society t title out main parts page same none made e =
    e ∙ ap (λ (x : List ℕ). Some (page_bytes (frame_parts society x main))) same
    ∙ ap (λ (m : List Part). Some (page_bytes (frame_parts society title m)))
    (made ∙ ap (λ (l : List Part). l ++ parts) none)

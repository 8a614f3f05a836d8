-- A line without lines below it.
use Rattle.std.specs.Prelude.{◌≡◌, ◌==◌, List, [], ◌∷◌, Bool, length, refl}
use Rattle.std.proofs.Common.{ap, sym, ◌∙◌, arith}
use Rattle.std.proofs.lemmas.Bool.Decides.{nat_tests}
use Rattle.stored_lines.specs.Tree.{Tree, node, forest_of, list_of}
use Rattle.stored_lines.specs.Line.{Line}
use Rattle.record_shapes.specs.Forms.{below, is_childless}

childless : (l : Line) (ts : List (Tree Line)) → is_childless (node l (forest_of ts)) ≡ (length ts == 0)
childless l [] = refl
childless l (t ∷ ts) = grind (arith, nat_tests)

pub childless_is : (t : Tree Line) (l : Line) (ts : List (Tree Line)) (b : Bool) → node l (forest_of ts) ≡ t
    → b ≡ (length ts == 0) → b ≡ is_childless t
childless_is t l ts b e is = is ∙ sym (childless l ts) ∙ ap is_childless e

listed : (ts : List (Tree Line)) → list_of (forest_of ts) ≡ ts
listed [] = refl
listed (t ∷ ts) = ap (λ us. t ∷ us) (listed ts)

pub below_is : (t : Tree Line) (l : Line) (ts : List (Tree Line)) → node l (forest_of ts) ≡ t → ts ≡ below t
below_is t l ts e = sym (listed ts) ∙ ap below e

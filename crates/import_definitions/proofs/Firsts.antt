-- The first of three options, and lists of one length.
use Rattle.std.proofs.Common.{refl, ◌≡◌, List, ℕ, ◌∷◌, ◌+◌, ◌++◌, length, arith, []}
use Rattle.std.specs.Prelude.{None, Some, Option}
use Rattle.std.proofs.lemmas.List.{length-append}
use Rattle.import_definitions.specs.Numbers.{or_else}
use Rattle.stored_lines.specs.Tree.{more}
use Rattle.import_definitions.specs.Positions.{path_behind, paths_behind, paths}
use Rattle.stored_lines.specs.Line.{Lines}

pub or_else-assoc : {A : Type 0} (a b c : Option A) → or_else (or_else a b) c ≡ or_else a (or_else b c)
or_else-assoc None b c = refl
or_else-assoc (Some a) b c = refl

pub or_else-none : {A : Type 0} (a : Option A) → or_else a None ≡ a
or_else-none None = refl
or_else-none (Some a) = refl

behind_length : (rs : Lines) (ps : List (Option (List ℕ))) (ts : Lines)
    → length (paths_behind rs ps ts) ≡ length ps + length ts
behind_length rs ps [] = omega arith
behind_length rs ps (t ∷ ts) =
    let more = behind_length rs (ps ++ path_behind rs ps t ∷ []) ts in
    let one = length-append ps (path_behind rs ps t ∷ []) in
    omega (arith, more, one)

pub paths_length : (rs : Lines) → length (paths rs) ≡ length rs
unfolding paths
paths_length rs = let e = behind_length rs [] rs in omega (arith, e)

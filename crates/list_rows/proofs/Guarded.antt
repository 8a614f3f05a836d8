-- No cell begins a formula.
use Rattle.std.specs.Prelude.{if◌then◌else◌}
use Rattle.std.proofs.Common.{◌≡◌, ◌∷◌, ℕ, List, Bool, refl, false, true}
use Rattle.list_rows.specs.Cells.{begins_formula, cell, is_formula_mark}

guarded : (text : List ℕ) (b : Bool) → begins_formula text ≡ b → begins_formula (if b then 39 ∷ text else text) ≡ false
unfolding is_formula_mark
guarded text true is = refl
guarded text false is = is

pub no_formula : (text : List ℕ) → begins_formula (cell text) ≡ false
no_formula text = guarded text (begins_formula text) refl

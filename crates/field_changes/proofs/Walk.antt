-- Whether one of a list passes a test, looked at one after the other.
use Rattle.std.proofs.Common.{
  ◌≡◌,
  ◌<◌,
  ◌≤◌,
  ◌+◌,
  ℕ,
  Bool,
  List,
  true,
  false,
  ◌||◌,
  get_or,
  length,
  take,
  refl,
  sym,
  ap,
  ◌∙◌,
}
use Rattle.std.specs.List.{list_any}
use Rattle.std.proofs.lemmas.List.{take_all}
use Rattle.std.proofs.lemmas.List.Folds.{list_any_at, list_any_more}
use Rattle.stored_lines.specs.Tree.{Tree}
use Rattle.stored_lines.specs.Line.{Line, Lines}
use Rattle.field_changes.specs.Carrying.{is_place}

pub found : (ts : Lines) (i : ℕ) (t : Tree Line) → i < length ts → t ≡ get_or ts i t → true ≡ is_place t
    → true ≡ list_any is_place ts
found ts i t less at e = sym (list_any_at is_place ts i t less (ap is_place (sym at) ∙ sym e))

either : (a b : Bool) → a ≡ false → b ≡ false → (a || b) ≡ false
either false b e f = f
either true b e f = absurd cc

pub none_more : (ts : Lines) (i : ℕ) (t : Tree Line) → i < length ts → t ≡ get_or ts i t → false ≡ is_place t
    → list_any is_place (take i ts) ≡ false → list_any is_place (take (i + 1) ts) ≡ false
none_more ts i t less at e none =
    list_any_more is_place ts i t less
    ∙ either (list_any is_place (take i ts)) (is_place (get_or ts i t)) none (ap is_place (sym at) ∙ sym e)

pub none : (ts : Lines) (i : ℕ) → length ts ≤ i → list_any is_place (take i ts) ≡ false
    → false ≡ list_any is_place ts
none ts i all all_none = sym all_none ∙ ap (list_any is_place) (take_all i ts all)

-- Lines are read as what they compute to, and as nothing else.
use Rattle.std.proofs.Common.{◌≡◌, ℕ, ◌+◌, List, [], ◌∷◌, refl, sym, ap, inl, inr, Some, None}
use Rattle.gedcom_line.specs.Reading.{Parts}
use Rattle.gedcom_line.specs.Value.{Meaning, Text, Pointer, meaning, IsPointer, pointer_in}
use Rattle.gedcom_line.proofs.Pointers.{pointer_is, is_pointer}
use Rattle.gedcom_tree.specs.Forest.{Item, IsValue, IsNode, Reads, continued, node_of, forest_of}
use Rattle.gedcom_rules.specs.Continuing.{belongs}

pub no_pointer_in : (raw : List ℕ) → ((name : List ℕ) → ¬ (IsPointer raw name)) → pointer_in raw ≡ None
no_pointer_in raw h = elim (pointer_in raw) as (λ o. pointer_in raw ≡ o → o ≡ None) [
  | None ↦ λ e. refl
  | Some name ↦ λ e. absurd (h name (is_pointer raw name e))
] refl

value_computed : (raw : List ℕ) (more : List Parts) (v : Meaning) → IsValue raw more v
    → continued (meaning raw) more ≡ v
value_computed raw more (Text t) h = rw (no_pointer_in raw h.0) (ap Text (sym h.1))
value_computed raw more (Pointer p) h = rw (pointer_is raw p h.0) refl

node_computed : (n : ℕ) (l : Parts) (more : List Parts) (i : Item) → IsNode n l more i → node_of n l more ≡ i
node_computed n l more i h = rw (
  value_computed l.raw more i.value h.value,
  sym h.line,
  sym h.level,
  sym h.xref,
  sym h.tag,
) refl

pub reads_computed : (n : ℕ) (ls : List Parts) (f : List Item) → Reads n ls f → forest_of n ls ≡ f
unfolding forest_of
reads_computed n [] f h = sym h
reads_computed n (l ∷ ls) f (inl h) = rw h.0 (reads_computed (n + 1) ls f h.1)
reads_computed n (l ∷ ls) f (inr h) = rw (
  h.0,
  node_computed n l (belongs l.level ls) h.1.0 h.1.1.1.1.0,
  reads_computed (n + 1) ls h.1.1.0 h.1.1.1.1.1,
) (sym h.1.1.1.0)

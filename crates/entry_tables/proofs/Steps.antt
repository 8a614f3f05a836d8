-- Cells that are added one after another.
use Rattle.std.proofs.Common.{
  ◌≡◌,
  ℕ,
  ◌+◌,
  ◌<◌,
  ◌++◌,
  ◌∷◌,
  [],
  List,
  length,
  get_or,
  take,
  ap,
  sym,
  ◌∙◌,
  add-one,
  append_assoc,
}
use Rattle.std.specs.List.{flat_map}
use Rattle.std.proofs.Math.Seq.{take-suc}
use Rattle.std.proofs.lemmas.List.{flat_map_more}
use Rattle.record_fields.specs.declared.entry_words.Role.{Role}
use Rattle.list_rows.specs.Cells.{cell}
use Rattle.entry_tables.specs.Tables.{column_name, role_columns}

-- what one more of a list has is added
pub then_next : {X Y : Type 0} (f : X → List Y) (xs : List X) (i : ℕ) (x : X) (old out new : List Y) → i < length xs
    → x ≡ get_or xs i x → new ≡ out ++ f x → out ≡ old ++ flat_map f (take i xs)
    → new ≡ old ++ flat_map f (take (i + 1) xs)
then_next {X} {Y} f xs i x old out new less at e before =
    let more : take (i + 1) xs ≡ take i xs ++ x ∷ [] = ap (λ (k : ℕ). take k xs) (add-one i) ∙ take-suc xs i x less
    ∙ ap (λ (y : X). take i xs ++ y ∷ []) (sym at) in
    e ∙ ap (λ (t : List Y). t ++ f x) before ∙ flat_map_more f old (take i xs) x
    ∙ ap (λ (ys : List X). old ++ flat_map f ys) (sym more)

-- one more column of a role is added
pub one_column : (r : Role) (n : ℕ) (old out new : List (List ℕ)) → new ≡ out ++ cell (column_name r n) ∷ []
    → out ≡ old ++ role_columns r n → new ≡ old ++ role_columns r (n + 1)
one_column r n old out new e before =
    e ∙ ap (λ (t : List (List ℕ)). t ++ cell (column_name r n) ∷ []) before
    ∙ append_assoc old (role_columns r n) (cell (column_name r n) ∷ [])
    ∙ ap (λ (k : ℕ). old ++ role_columns r k) (sym (add-one n))

-- The trees tell the schema that they list, so an open finds the one that was there.
use Rattle.std.proofs.Common.{
  ◌≡◌,
  ℕ,
  ◌+◌,
  pos,
  List,
  [],
  ◌∷◌,
  filter,
  Ok,
  Result,
  refl,
  sym,
  ap,
  ap₂,
  subst,
  ◌∙◌,
  arith,
}
use Rattle.std.specs.List.{AllZip, AllByRecursion}
use Rattle.sqlite.specs.declared.types.Value.{Value}
use Rattle.sqlite.specs.declared.types.Value.TheVariants.{Null, Int, Real, Text, Blob}
use Rattle.sqlite.specs.Order.{Row, column}
use Rattle.sqlite.specs.Tree.{Trees}
use Rattle.sqlite.specs.Table.{Table}
use Rattle.sqlite.specs.Schema.{Schema}
use Rattle.sqlite_schema.specs.declared.schema.Index.{Index}
use Rattle.sqlite_rules.specs.Lists.{Has}
use Rattle.std.proofs.Common.{inl, inr, slice_get, Some, None, Option, Bool, true, false, if◌then◌else◌}
use Rattle.std.specs.Str.{bytes_eq}
use Rattle.sqlite_trees.specs.Objects.{catalog_tree}
use Rattle.sqlite_catalog.specs.Listing.{
  IsSound,
  IsDefined,
  IsTableRow,
  IsIndexRow,
  IsViewRow,
  is_table_row,
  is_index_row,
  is_view_row,
}
use Rattle.sqlite.specs.Compile.{table_defined_by}
use Rattle.store_tables.specs.Schema.{archive_schema, all_tables}

same_id : (m n : ℕ) → ◌≡◌ {A = Value} (Int (pos (m + 1))) (Int (pos (n + 1))) → m ≡ n
same_id m n e = let f : m + 1 ≡ n + 1 = cc in omega (arith, f)

same_text : (s t : List ℕ) → ◌≡◌ {A = Value} (Text s) (Text t) → s ≡ t
same_text s t e = cc

same_ok : {A E : Type 0} {a b : A} → ◌≡◌ {A = Result A E} (Ok a) (Ok b) → a ≡ b
same_ok e = cc

one_table : (row : Row) (a b : Table) → IsTableRow row a → IsTableRow row b → a ≡ b
one_table row a b p q =
    let tree = same_id a.tree b.tree (sym p.described.id ∙ q.described.id) in
    let sql = same_text p.sql q.sql (sym p.sql_is ∙ q.sql_is) in
    let made : p.defined.0 ≡ q.defined.0 = same_ok (sym p.defined.1 ∙ ap table_defined_by sql ∙ q.defined.1) in
    p.defined.2 ∙ ap₂ (λ (m : Table) n. record m { tree = n }) made tree ∙ sym q.defined.2

zipped_once : {X Y : Type 0} (R : X → Y → Type 0) → ((x : X) (y z : Y) → R x y → R x z → y ≡ z)
    → (xs : List X) (ys zs : List Y) → AllZip R xs ys → AllZip R xs zs → ys ≡ zs
zipped_once R once [] [] [] p q = refl
zipped_once R once [] (y ∷ ys) zs p q = absurd p
zipped_once R once [] [] (z ∷ zs) p q = absurd q
zipped_once R once (x ∷ xs) [] zs p q = absurd p
zipped_once R once (x ∷ xs) (y ∷ ys) [] p q = absurd q
zipped_once R once (x ∷ xs) (y ∷ ys) (z ∷ zs) p q = ap₂ ◌∷◌ (once x y z p.0 q.0) (zipped_once R once xs ys zs p.1 q.1)

-- where one list is empty, each is
none_zipped : {X Y Z : Type 0} (R : X → Y → Type 0) (T : X → Z → Type 0) → (xs : List X) (zs : List Z) → AllZip R xs []
    → AllZip T xs zs → zs ≡ []
none_zipped R T [] [] p q = refl
none_zipped R T [] (z ∷ zs) p q = absurd q
none_zipped R T (x ∷ xs) zs p q = absurd p

same_made : {E : Type 0} {a b : Index} → ◌≡◌ {A = Result Index E} (Ok a) (Ok b) → a ≡ b
same_made e = cc

nothing_there : (uniques : List (List ℕ)) (at : ℕ) (key : List ℕ) → uniques ≡ [] → slice_get uniques at ≡ Some key → ⊥
nothing_there [] at key e h = absurd (cc)
nothing_there (u ∷ us) at key e h = absurd (cc)

one_defined : (table : Table) (a b : Index) (v : Value) → table.uniques ≡ [] → a.tree ≡ b.tree → IsDefined table a v
    → IsDefined table b v → a ≡ b
one_defined table a b Null none tree p q = absurd (nothing_there table.uniques p.0 p.1 none p.2)
one_defined table a b (Int n) none tree p q = absurd p
one_defined table a b (Real x) none tree p q = absurd p
one_defined table a b (Text sql) none tree p q =
    p.2 ∙ ap₂ (λ (m : Index) n. record m { tree = n; table = table.tree }) (same_made (sym p.1 ∙ q.1)) tree ∙ sym q.2
one_defined table a b (Blob x) none tree p q = absurd p

-- the first table of a name
abbrev find_named : List ℕ → List Table → Option Table
find_named name [] = None
find_named name (t ∷ ts) = if bytes_eq t.name name then Some t else find_named name ts

abbrev IsPlainTable : Bool → Table → Type 0
IsPlainTable b t = (t.uniques ≡ []) × (find_named t.name (all_tables b) ≡ Some t)

of_each : (P : Table → Type 0) (ts : List Table) (t : Table) → AllByRecursion P ts → Has ts t → P t
of_each P [] t all has = absurd has
of_each P (u ∷ us) t all (inl e) = subst P (sym e) all.0
of_each P (u ∷ us) t all (inr more) = of_each P us t all.1 more

-- of an archive's tables each has a name of its own, and none has a UNIQUE
plain_tables : (b : Bool) → AllByRecursion (IsPlainTable b) (all_tables b)
plain_tables false = (
  (refl, refl),
  ((refl, refl), ((refl, refl), ((refl, refl), ((refl, refl), ((refl, refl), ((refl, refl), tt)))))),
)
plain_tables true = (
  (refl, refl),
  (
    (refl, refl),
    (
      (refl, refl),
      (
        (refl, refl),
        (
          (refl, refl),
          (
            (refl, refl),
            ((refl, refl), ((refl, refl), ((refl, refl), ((refl, refl), ((refl, refl), tt))))),
          ),
        ),
      ),
    ),
  ),
)

no_uniques : (b : Bool) (t : Table) → Has (all_tables b) t → t.uniques ≡ []
no_uniques b t has = (of_each (IsPlainTable b) (all_tables b) t (plain_tables b) has).0

same_some : (t u : Table) → ◌≡◌ {A = Option Table} (Some t) (Some u) → t ≡ u
same_some t u e = cc

one_named : (b : Bool) (t u : Table) → Has (all_tables b) t → Has (all_tables b) u → t.name ≡ u.name → t ≡ u
one_named b t u p q h = same_some t u (sym (of_each (IsPlainTable b) (all_tables b) t (plain_tables b) p).1
    ∙ ap (λ n. find_named n (all_tables b)) h ∙ (of_each (IsPlainTable b) (all_tables b) u (plain_tables b) q).1)

one_index : (has_spans : Bool) (row : Row) (a b : Index) → IsIndexRow (all_tables has_spans) row a
    → IsIndexRow (all_tables has_spans) row b → a ≡ b
one_index has_spans row a b p q =
    let tree = same_id a.tree b.tree (sym p.described.id ∙ q.described.id) in
    let owner = same_text p.table.name q.table.name (sym p.described.owner_is ∙ q.described.owner_is) in
    let table = one_named has_spans p.table q.table p.listed q.listed owner in
    one_defined q.table a b (column row 4) (no_uniques has_spans q.table q.listed) tree
    (subst (λ t. IsDefined t a (column row 4)) table p.defined) q.defined

pub sound_once : (b : Bool) (s : Schema) (t : Trees) → IsSound (archive_schema b) t → IsSound s t
    → s ≡ archive_schema b
sound_once b s t p q =
    let ours = p.lists.listed in
    let its = q.lists.listed in
    let tables = zipped_once IsTableRow one_table (filter is_table_row (t catalog_tree)) s.tables (all_tables b)
    its.tables ours.tables in
    let indexes = zipped_once (IsIndexRow (all_tables b)) (one_index b) (filter is_index_row (t catalog_tree))
    s.indexes (archive_schema b).indexes
    (subst (λ ts. AllZip (IsIndexRow ts) (filter is_index_row (t catalog_tree)) s.indexes) tables its.indexes)
    ours.indexes in
    let views = none_zipped IsViewRow IsViewRow (filter is_view_row (t catalog_tree)) s.views ours.views its.views in
    ap (λ ts. record { tables = ts; indexes = s.indexes; views = s.views }) tables
    ∙ ap₂ (λ is vs. record { tables = all_tables b; indexes = is; views = vs }) indexes views

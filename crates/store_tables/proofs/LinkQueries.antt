-- What the queries of the links answer.
use Rattle.std.proofs.Common.{
  ◌≡◌,
  ℕ,
  ℤ,
  ◌<◌,
  ◌==◌,
  ◌&&◌,
  ◌^◌,
  Bool,
  true,
  false,
  List,
  [],
  ◌∷◌,
  map,
  Some,
  nat_lt,
  not,
  refl,
  ap,
  ap₂,
  subst₂,
  ◌∙◌,
  arith,
}
use Rattle.std.specs.Ordering.{is_ge, is_le}
use Rattle.std.specs.List.{list_all, AllByRecursion}
use Rattle.std.proofs.lemmas.Bool.Decides.{nat_tests}
use Rattle.sqlite.specs.declared.types.Value.TheVariants.{Null, Int}
use Rattle.sqlite.specs.Order.{Row, value_cmp}
use Rattle.sqlite.specs.Ops.{is_true, from_truth, binary}
use Rattle.sqlite.specs.Term.{col, holds}
use Rattle.sqlite.specs.Program.{overlay}
use Rattle.sqlite.specs.State.{State, Shown}
use Rattle.sqlite.proofs.Callers.{reads_as}
use Rattle.store_tables.specs.Calls.{Settled}
use Rattle.store_tables.specs.Keyed.{links_to}
use Rattle.store_tables.specs.Reading.{IsTypedLink}
use Rattle.store_tables.specs.Rows.{Rows, LinkRow, integer_at, link_place, link_values, pair_place}
use Rattle.store_tables.specs.Schema.{archive_schema}
use Rattle.store_tables.specs.Shown.{shown_link}
use Rattle.store_tables.proofs.Coded.{filter_same}
use Rattle.store_tables.proofs.KeyedQueries.{found_by_order}
use Rattle.store_tables.proofs.LaterQueries.{where_second}
use Rattle.store_tables.proofs.LaterStatements.{kept_of}
use Rattle.store_tables.proofs.LinkTexts.{
  select_links,
  select_links_is,
  select_links_plain,
  select_links_unlisted,
  links_of_second,
  links_between,
  links_between_is,
  links_between_plain,
  links_between_unlisted,
  between_both,
  between_of_second,
}
use Rattle.store_tables.proofs.Pairing.{integer_order}
use Rattle.list_laws.proofs.Lists.{filter_all}

pub reads_links : (old new : State) (all : List Row) (rows : Rows) → Settled old rows
    → Shown select_links [] old new all → all ≡ map shown_link rows.links
reads_links old new all rows was h =
    where_second select_links [] links_of_second rows.has_spans old new all was.schema h (λ second.
    let has = was.schema ∙ ap archive_schema second in
    let reads = reads_as select_links [] old new (archive_schema true) has _ select_links_is select_links_plain
    select_links_unlisted all h in
    found_by_order integer_at integer_order link_values link_place (λ _. refl) [] [] (λ _. true) (λ _. refl) 13
    (col 1 0 ∷ []) (overlay old.now.trees []) rows.links all
    (kept_of rows old.now.trees second was.good.holds).links_kept (reads.answer Null)
    ∙ ap (map shown_link) (filter_all rows.links))

not_below : (m n : ℕ) → is_ge (value_cmp (Int (integer_at m)) (Int (integer_at n))) ≡ not (nat_lt m n)
not_below m n = ap is_ge (integer_order m n) ∙ grind (arith, nat_tests)

not_above : (m n : ℕ) → is_le (value_cmp (Int (integer_at m)) (Int (integer_at n))) ≡ not (nat_lt n m)
not_above m n = ap is_le (integer_order m n) ∙ grind (arith, nat_tests)

both_true : (a b : Bool) → (is_true (from_truth (Some a)) && (is_true (from_truth (Some b)) && true)) ≡ (a && b)
both_true true true = refl
both_true true false = refl
both_true false b = refl

-- a place between two others, or at one of them
abbrev pub is_between : ℕ → ℕ → ℕ → Bool
is_between first last place = not (nat_lt place first) && not (nat_lt last place)

-- the test of a row that begins with the integer of a place
pub passes_between : (first last place : ℕ) (rest : Row)
    → list_all (holds ((Int (integer_at first) ∷ Int (integer_at last) ∷ []) ∷ (Int (integer_at place) ∷ rest) ∷ []))
    between_both ≡ is_between first last place
unfolding binary
passes_between first last place rest =
    ap₂ (λ a b. is_true (from_truth (Some a)) && (is_true (from_truth (Some b)) && true))
    (not_below place first) (not_above place last)
    ∙ both_true (not (nat_lt place first)) (not (nat_lt last place))

-- the pairs between the first one and the last one of a number that is named are those of this number
pub within : (t u m : ℕ) → m < 2 ^ 32
    → (not (nat_lt (pair_place u m) (pair_place t 0)) && not (nat_lt (pair_place t 4294967295) (pair_place u m)))
    ≡ (u == t)
within t u m low = grind (arith, nat_tests, low)

all_within : (n : ℕ) (ls : List LinkRow) → AllByRecursion IsTypedLink ls
    → AllByRecursion (λ l. is_between (pair_place n 0) (pair_place n 4294967295) (link_place l) ≡ (l.target == n)) ls
all_within n [] h = tt
all_within n (l ∷ ls) h = (within n l.target l.no h.0.1, all_within n ls h.1)

reads_links_to : (old new : State) (n : ℕ) (all : List Row) (rows : Rows) → Settled old rows
    → Shown links_between
    (Int (integer_at (pair_place n 0)) ∷ Int (integer_at (pair_place n 4294967295)) ∷ []) old new all
    → all ≡ map shown_link (links_to n rows)
reads_links_to old new n all rows was h =
    let first = pair_place n 0 in
    let last = pair_place n 4294967295 in
    let params : Row = Int (integer_at first) ∷ Int (integer_at last) ∷ [] in
    where_second links_between params between_of_second rows.has_spans old new all was.schema h (λ second.
    let has = was.schema ∙ ap archive_schema second in
    let reads = reads_as links_between params old new (archive_schema true) has _ links_between_is links_between_plain
    links_between_unlisted all h in
    found_by_order integer_at integer_order link_values link_place (λ _. refl) params between_both
    (λ l. is_between first last (link_place l)) (λ l. passes_between first last (link_place l) (Null ∷ [])) 13
    (col 1 0 ∷ []) (overlay old.now.trees []) rows.links all
    (kept_of rows old.now.trees second was.good.holds).links_kept (reads.answer Null)
    ∙ ap (map shown_link) (filter_same _ _ rows.links (all_within n rows.links was.good.typed.links)))

-- the same by the integers of the first pair and of the last one
pub reads_between : (old new : State) (n : ℕ) (first last : ℤ) → first ≡ integer_at (pair_place n 0)
    → last ≡ integer_at (pair_place n 4294967295) → (all : List Row) (rows : Rows) → Settled old rows
    → Shown links_between (Int first ∷ Int last ∷ []) old new all → all ≡ map shown_link (links_to n rows)
reads_between old new n first last is_first is_last all rows was h =
    reads_links_to old new n all rows was
    (subst₂ (λ i j. Shown links_between (Int i ∷ Int j ∷ []) old new all) is_first is_last h)

-- What the queries of what is looked for answer.
use Rattle.std.proofs.Common.{
  ◌≡◌,
  ℕ,
  ◌==◌,
  ◌&&◌,
  pos,
  Bool,
  true,
  false,
  List,
  [],
  ◌∷◌,
  map,
  filter,
  Option,
  Some,
  None,
  bytes_eq,
  refl,
  ap,
  ap₂,
  ◌∙◌,
}
use Rattle.std.specs.List.{list_all, AllByRecursion}
use Rattle.sqlite.specs.declared.types.Value.TheVariants.{Null, Int, Text}
use Rattle.sqlite.specs.Order.{Row}
use Rattle.sqlite.specs.Ops.{is_true, from_truth, binary}
use Rattle.sqlite.specs.Term.{col, holds}
use Rattle.sqlite.specs.Program.{overlay}
use Rattle.sqlite.specs.State.{State, Shown}
use Rattle.sqlite.proofs.Callers.{reads_as}
use Rattle.store_tables.specs.Calls.{Settled}
use Rattle.store_tables.specs.Keyed.{is_number}
use Rattle.store_tables.specs.Reading.{IsTypedSought, IsU32}
use Rattle.store_tables.specs.Rows.{Rows, LineRow, SoughtRow, number_or_null, sought_values}
use Rattle.store_tables.specs.Schema.{archive_schema}
use Rattle.store_tables.specs.Shown.{shown_sought}
use Rattle.store_tables.proofs.Coded.{same_int}
use Rattle.store_tables.proofs.KeyedQueries.{found_in_order, same_text}
use Rattle.store_tables.proofs.LaterQueries.{where_second}
use Rattle.store_tables.proofs.LaterStatements.{kept_of}
use Rattle.store_tables.proofs.Queries.{all_in_order}
use Rattle.store_tables.proofs.Statements.{truth_of}
use Rattle.store_tables.proofs.SoughtTexts.{
  select_soughts,
  select_soughts_is,
  select_soughts_plain,
  select_soughts_unlisted,
  soughts_of_second,
  sought_by,
  sought_by_is,
  sought_by_plain,
  sought_by_unlisted,
  by_of_second,
  sought_by_of,
  sought_by_of_is,
  sought_by_of_plain,
  sought_by_of_unlisted,
  by_of_of_second,
  with_text_of,
}
use Rattle.store_tables.proofs.Texts.{with_key}

pub reads_soughts : (old new : State) (all : List Row) (rows : Rows) → Settled old rows
    → Shown select_soughts [] old new all → all ≡ map shown_sought rows.soughts
reads_soughts old new all rows was h =
    where_second select_soughts [] soughts_of_second rows.has_spans old new all was.schema h (λ second.
    let has = was.schema ∙ ap archive_schema second in
    let reads = reads_as select_soughts [] old new (archive_schema true) has _ select_soughts_is select_soughts_plain
    select_soughts_unlisted all h in
    all_in_order sought_values (λ (s : SoughtRow). s.no) (λ _. refl) 14 (col 1 0 ∷ col 1 2 ∷ col 1 3 ∷ [])
    (overlay old.now.trees []) rows.soughts all (kept_of rows old.now.trees second was.good.holds).soughts_kept
    (reads.answer Null))

-- a number is read as that of a line
abbrev pub as_line : SoughtRow → LineRow
as_line s = record { id = 0; no = s.no; at = 0; line = (0, record { tag = []; text = None; target = None }) }

pub lines_typed : (ss : List SoughtRow) → AllByRecursion IsTypedSought ss
    → AllByRecursion (λ (l : LineRow). IsU32 l.no) (map as_line ss)
lines_typed [] h = tt
lines_typed (s ∷ ss) h = (h.0.0, lines_typed ss h.1)

has_text : (t : List ℕ) (x : SoughtRow) → list_all (holds ((Text t ∷ []) ∷ sought_values x ∷ [])) (with_key 2)
    ≡ bytes_eq x.text t
unfolding binary
has_text t x = ap (λ b. is_true (from_truth (Some b)) && true) (same_text x.text t) ∙ truth_of (bytes_eq x.text t)

-- both tests, of a text and of a number
has_both : (t : List ℕ) (n : ℕ) (x : SoughtRow)
    → list_all (holds ((Text t ∷ Int (pos n) ∷ []) ∷ sought_values x ∷ [])) with_text_of
    ≡ (bytes_eq x.text t && is_number n x.target)
unfolding binary
has_both t n x = go x.target
  where
    go : (o : Option ℕ)
        → list_all (holds ((Text t ∷ Int (pos n) ∷ []) ∷ (Int (pos x.no) ∷ Null ∷ Text x.text ∷ number_or_null o ∷ [])
        ∷ [])) with_text_of
        ≡ (bytes_eq x.text t && is_number n o)
    go None = ap (λ b. is_true (from_truth (Some b)) && false) (same_text x.text t) ∙ never (bytes_eq x.text t)
      where
        never : (b : Bool) → (is_true (from_truth (Some b)) && false) ≡ (b && false)
        never true = refl
        never false = refl
    go (Some m) = ap₂ (λ a b. is_true (from_truth (Some a)) && (is_true (from_truth (Some b)) && true))
        (same_text x.text t) (same_int m n) ∙ two (bytes_eq x.text t) (m == n)
      where
        two : (a b : Bool) → (is_true (from_truth (Some a)) && (is_true (from_truth (Some b)) && true)) ≡ (a && b)
        two true true = refl
        two true false = refl
        two false b = refl

pub reads_sought_by : (old new : State) (text : List ℕ) (all : List Row) (rows : Rows) → Settled old rows
    → Shown sought_by (Text text ∷ []) old new all
    → all ≡ map (λ (s : SoughtRow). Int (pos s.no) ∷ []) (filter (λ (s : SoughtRow). bytes_eq s.text text) rows.soughts)
reads_sought_by old new text all rows was h =
    where_second sought_by (Text text ∷ []) by_of_second rows.has_spans old new all was.schema h (λ second.
    let has = was.schema ∙ ap archive_schema second in
    let reads = reads_as sought_by (Text text ∷ []) old new (archive_schema true) has _ sought_by_is sought_by_plain
    sought_by_unlisted all h in
    found_in_order sought_values (λ (s : SoughtRow). s.no) (λ _. refl) (Text text ∷ []) (with_key 2)
    (λ (s : SoughtRow). bytes_eq s.text text) (has_text text) 14 (col 1 0 ∷ []) (overlay old.now.trees [])
    rows.soughts all (kept_of rows old.now.trees second was.good.holds).soughts_kept (reads.answer Null))

pub reads_sought_by_of : (old new : State) (text : List ℕ) (n : ℕ) (all : List Row) (rows : Rows) → Settled old rows
    → Shown sought_by_of (Text text ∷ Int (pos n) ∷ []) old new all
    → all ≡ map (λ (s : SoughtRow). Int (pos s.no) ∷ [])
    (filter (λ (s : SoughtRow). bytes_eq s.text text && is_number n s.target) rows.soughts)
reads_sought_by_of old new text n all rows was h =
    let params : Row = Text text ∷ Int (pos n) ∷ [] in
    where_second sought_by_of params by_of_of_second rows.has_spans old new all was.schema h (λ second.
    let has = was.schema ∙ ap archive_schema second in
    let reads = reads_as sought_by_of params old new (archive_schema true) has _ sought_by_of_is sought_by_of_plain
    sought_by_of_unlisted all h in
    found_in_order sought_values (λ (s : SoughtRow). s.no) (λ _. refl) params with_text_of
    (λ (s : SoughtRow). bytes_eq s.text text && is_number n s.target) (has_both text n) 14 (col 1 0 ∷ [])
    (overlay old.now.trees []) rows.soughts all (kept_of rows old.now.trees second was.good.holds).soughts_kept
    (reads.answer Null))

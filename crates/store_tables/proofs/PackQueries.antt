-- What the queries of lines answer: of the first schema, which has a row for each, and of the second one.
use Rattle.std.proofs.Common.{
  ◌≡◌,
  ℕ,
  ◌==◌,
  ◌&&◌,
  ◌||◌,
  pos,
  Bool,
  true,
  false,
  List,
  [],
  ◌∷◌,
  map,
  filter,
  bytes_eq,
  None,
  Some,
  refl,
  ap,
  ap₂,
  subst,
  ◌∙◌,
}
use Rattle.std.specs.List.{AllByRecursion, list_all, list_any}
use Rattle.sqlite.specs.declared.types.Value.TheVariants.{Null, Int, Text}
use Rattle.sqlite.specs.Collation.TheVariants.{Binary}
use Rattle.sqlite_sql.specs.declared.ops.BinaryOp.TheVariants.{Compare, Or}
use Rattle.sqlite_sql.specs.declared.ops.CompareOp.TheVariants.{Eq}
use Rattle.sqlite.specs.Order.{Row}
use Rattle.sqlite.specs.Ops.{is_true, from_truth, binary}
use Rattle.sqlite.specs.Term.{col, holds}
use Rattle.sqlite.specs.Program.{overlay}
use Rattle.sqlite.specs.State.{State, Shown}
use Rattle.sqlite.proofs.Callers.{reads_as}
use Rattle.store_tables.specs.Calls.{Settled}
use Rattle.store_tables.specs.Reading.{IsTypedPack, IsU32}
use Rattle.store_tables.specs.Rows.{Rows, LineRow, PackRow, HoldsOwn, first_tag, line_values, pack_values}
use Rattle.store_tables.specs.Schema.{archive_schema}
use Rattle.store_tables.specs.Shown.{shown_line, shown_pack}
use Rattle.store_tables.proofs.Coded.{same_int}
use Rattle.store_tables.proofs.KeyedQueries.{found_in_order, same_text}
use Rattle.store_tables.proofs.LaterStatements.{kept_of}
use Rattle.store_tables.proofs.PackTexts.{
  pack_at,
  pack_at_is,
  pack_at_plain,
  pack_at_unlisted,
  select_lines,
  select_lines_is,
  select_lines_plain,
  select_lines_unlisted,
  select_packs,
  select_packs_is,
  select_packs_plain,
  select_packs_unlisted,
  tagged_by,
  tagged_by_is,
  tagged_by_plain,
  tagged_by_unlisted,
  with_tags,
}
use Rattle.store_tables.proofs.Queries.{all_in_order}
use Rattle.store_tables.proofs.Statements.{truth_of}
use Rattle.store_tables.proofs.Texts.{with_key}

pub reads_lines : (old new : State) (all : List Row) (rows : Rows) → rows.has_spans ≡ false → Settled old rows
    → Shown select_lines [] old new all → all ≡ map shown_line rows.lines
reads_lines old new all rows first was h =
    let own = subst (λ b. HoldsOwn b rows.lines rows.packs rows.spans rows.links rows.soughts old.now.trees) first
    was.good.holds.own in
    let has = was.schema ∙ ap archive_schema first in
    let reads = reads_as select_lines [] old new (archive_schema false) has _ select_lines_is (select_lines_plain false)
    select_lines_unlisted all h in
    all_in_order line_values (λ (x : LineRow). x.id) (λ _. refl) 3
    (col 1 2 ∷ col 1 4 ∷ col 1 5 ∷ col 1 6 ∷ col 1 7 ∷ []) (overlay old.now.trees []) rows.lines all own.0
    (reads.answer Null)

pub reads_packs : (old new : State) (all : List Row) (rows : Rows) → rows.has_spans ≡ true → Settled old rows
    → Shown select_packs [] old new all → all ≡ map shown_pack rows.packs
reads_packs old new all rows second was h =
    let has = was.schema ∙ ap archive_schema second in
    let reads = reads_as select_packs [] old new (archive_schema true) has _ select_packs_is (select_packs_plain true)
    select_packs_unlisted all h in
    all_in_order pack_values (λ (x : PackRow). x.no) (λ _. refl) 11 (col 1 0 ∷ col 1 4 ∷ col 1 5 ∷ col 1 6 ∷ [])
    (overlay old.now.trees []) rows.packs all (kept_of rows old.now.trees second was.good.holds).packs_kept
    (reads.answer Null)

passes : (n : ℕ) (x : PackRow) → list_all (holds ((Int (pos n) ∷ []) ∷ pack_values x ∷ [])) (with_key 0) ≡ (x.no == n)
unfolding binary
passes n x = ap (λ b. is_true (from_truth (Some b)) && true) (same_int x.no n) ∙ truth_of (x.no == n)

-- ---- the numbers whose first line has a tag
-- a number is read as that of a line
abbrev pub number_line : PackRow → LineRow
number_line p = record { id = 0; no = p.no; at = 0; line = (0, record { tag = []; text = None; target = None }) }

pub numbers_typed : (ps : List PackRow) → AllByRecursion IsTypedPack ps
    → AllByRecursion (λ (l : LineRow). IsU32 l.no) (map number_line ps)
numbers_typed [] h = tt
numbers_typed (p ∷ ps) h = (h.0.number, numbers_typed ps h.1)

-- what the tests of tags say
either : (a b : Bool) → binary Or (from_truth (Some a)) (from_truth (Some b)) ≡ from_truth (Some (a || b))
unfolding binary
either true true = refl
either true false = refl
either false true = refl
either false false = refl

has_tag : (t : List ℕ) (tag : List ℕ) → binary (Compare Eq Binary) (Text tag) (Text t)
    ≡ from_truth (Some (bytes_eq tag t))
unfolding binary
has_tag t tag = ap (λ b. from_truth (Some b)) (same_text tag t)

passed : (a b c d e : Bool) → (is_true (from_truth (Some ((((a || b) || c) || d) || e))) && true)
    ≡ (a || (b || (c || (d || (e || false)))))
passed true b c d e = refl
passed false true c d e = refl
passed false false true d e = refl
passed false false false true e = refl
passed false false false false true = refl
passed false false false false false = refl

module _ (one two three four five : List ℕ) where
  abbrev given : Row
  given = Text one ∷ Text two ∷ Text three ∷ Text four ∷ Text five ∷ []

  abbrev tags : List (List ℕ)
  tags = one ∷ two ∷ three ∷ four ∷ five ∷ []

  is_tagged : (x : PackRow) → list_all (holds (given ∷ pack_values x ∷ [])) with_tags
      ≡ list_any (bytes_eq (first_tag x.lines)) tags
  is_tagged x =
      let tag = first_tag x.lines in
      let a = bytes_eq tag one in
      let b = bytes_eq tag two in
      let c = bytes_eq tag three in
      let d = bytes_eq tag four in
      let e = bytes_eq tag five in
      ap (λ v. is_true v && true) (
      ap₂ (binary Or) (
      ap₂ (binary Or) (
      ap₂ (binary Or) (ap₂ (binary Or) (has_tag one tag) (has_tag two tag) ∙ either a b) (has_tag three tag)
      ∙ either (a || b) c) (has_tag four tag) ∙ either ((a || b) || c) d) (has_tag five tag)
      ∙ either (((a || b) || c) || d) e) ∙ passed a b c d e

  pub reads_tagged_by : (old new : State) (all : List Row) (rows : Rows) → rows.has_spans ≡ true
      → Settled old rows → Shown tagged_by given old new all
      → all ≡ map (λ (p : PackRow). Int (pos p.no) ∷ [])
      (filter (λ (p : PackRow). list_any (bytes_eq (first_tag p.lines)) tags) rows.packs)
  reads_tagged_by old new all rows second was h =
      let has = was.schema ∙ ap archive_schema second in
      let reads = reads_as tagged_by given old new (archive_schema true) has _ tagged_by_is
      (tagged_by_plain true) tagged_by_unlisted all h in
      found_in_order pack_values (λ (x : PackRow). x.no) (λ _. refl) given with_tags
      (λ (p : PackRow). list_any (bytes_eq (first_tag p.lines)) tags) is_tagged 11 (col 1 0 ∷ [])
      (overlay old.now.trees []) rows.packs all (kept_of rows old.now.trees second was.good.holds).packs_kept
      (reads.answer Null)

pub reads_pack_at : (old new : State) (n : ℕ) (all : List Row) (rows : Rows) → rows.has_spans ≡ true
    → Settled old rows → Shown pack_at (Int (pos n) ∷ []) old new all
    → all ≡ map shown_pack (filter (λ (x : PackRow). x.no == n) rows.packs)
reads_pack_at old new n all rows second was h =
    let has = was.schema ∙ ap archive_schema second in
    let reads = reads_as pack_at (Int (pos n) ∷ []) old new (archive_schema true) has _ pack_at_is (pack_at_plain true)
    pack_at_unlisted all h in
    found_in_order pack_values (λ (x : PackRow). x.no) (λ _. refl) (Int (pos n) ∷ []) (with_key 0)
    (λ (x : PackRow). x.no == n) (passes n) 11 (col 1 0 ∷ col 1 4 ∷ col 1 5 ∷ col 1 6 ∷ [])
    (overlay old.now.trees []) rows.packs all (kept_of rows old.now.trees second was.good.holds).packs_kept
    (reads.answer Null)

-- What a statement makes of the tables that the second schema has beside the first one.
use Rattle.std.proofs.Common.{
  ◌≡◌,
  ℕ,
  ◌<◌,
  ◌≢◌,
  List,
  [],
  true,
  Ok,
  sym,
  ap,
  subst,
  ◌∙◌,
  arith,
}
use Rattle.sqlite.specs.Order.{Row}
use Rattle.sqlite.specs.Tree.{Trees}
use Rattle.sqlite_catalog.specs.Listing.{IsSound}
use Rattle.sqlite_rules.specs.Edit.{Edit, Applies}
use Rattle.sqlite_schema.specs.declared.schema.Keys.TheVariants.{Enforced}
use Rattle.sqlite.specs.State.{State, Executes, ExecutesInside}
use Rattle.store_tables.specs.Calls.{FollowsDated}
use Rattle.store_tables.specs.Reading.{AreTyped}
use Rattle.store_tables.specs.Schema.{archive_schema}
use Rattle.store_tables.specs.Rows.{
  Rows,
  PackRow,
  SlipLineRow,
  SlipPackRow,
  SpanRow,
  LinkRow,
  SoughtRow,
  PastRow,
  Holds,
  HoldsOwn,
  HoldsPasts,
  HoldsSides,
  Keeps,
  KeepsLater,
  KeepsPasts,
  slip_pack_values,
  slip_place,
}
use Rattle.store_tables.proofs.Coded.{keeps_on}
use Rattle.store_tables.proofs.Statements.{no_late_index, others_of, pasts_on, sides_on}

-- what a statement makes of tables that have spans
pub record BecomesDated (old new : State) (f : Rows → Rows) : Type 0 where
  pub schema : new.now.schema ≡ archive_schema true
  pub sound : IsSound (archive_schema true) new.now.trees
  pub same : (rows : Rows) → (f rows).has_spans ≡ rows.has_spans
  pub holds : (rows : Rows) → rows.has_spans ≡ true → AreTyped rows → Holds rows old.now.trees
      → Holds (f rows) new.now.trees

-- one statement in a transaction
pub followed_dated : (sql : List ℕ) (params : Row) (old new : State) (count : ℕ) (f : Rows → Rows)
    → (old.now.schema ≡ archive_schema true → Executes sql params old new (Ok count) → BecomesDated old new f)
    → ((rows : Rows) → rows.has_spans ≡ true → AreTyped rows → AreTyped (f rows))
    → ExecutesInside 0 sql params old new (Ok count) → FollowsDated old new f
followed_dated sql params old new count f means typed ran rows dated was =
    let did = means (was.schema ∙ ap archive_schema dated) ran.0 in
    let same : true ≡ (f rows).has_spans = sym (did.same rows ∙ dated) in (
      record {
        is_open = ran.1.is_open;
        inside = ran.1.mode;
        schema = did.schema ∙ ap archive_schema same;
        good = record {
          sound = subst (λ b. IsSound (archive_schema b) new.now.trees) same did.sound;
          holds = did.holds rows dated was.good.typed was.good.holds;
          typed = typed rows dated was.good.typed;
        };
      },
      ran.1.committed_is,
    )

-- ---- these tables, where they are
pub in_second : (rows : Rows) (packs : List PackRow) (spans : List SpanRow) (links : List LinkRow)
    (soughts : List SoughtRow) (t : Trees) → rows.has_spans ≡ true → rows.lines ≡ []
    → KeepsLater packs spans links soughts t → HoldsOwn rows.has_spans rows.lines packs spans links soughts t
in_second rows packs spans links soughts t dated none kept =
    subst (λ b. HoldsOwn b rows.lines packs spans links soughts t) (sym dated) (none, kept)

-- what is kept of them in an archive of the second schema, which has no lines in rows of their own
pub own_of : (rows : Rows) (t : Trees) → rows.has_spans ≡ true → Holds rows t
    → (rows.lines ≡ []) × KeepsLater rows.packs rows.spans rows.links rows.soughts t
own_of rows t dated was =
    subst (λ b. HoldsOwn b rows.lines rows.packs rows.spans rows.links rows.soughts t) dated was.own

pub kept_of : (rows : Rows) (t : Trees) → rows.has_spans ≡ true → Holds rows t
    → KeepsLater rows.packs rows.spans rows.links rows.soughts t
kept_of rows t dated was = (own_of rows t dated was).1

-- a change of one of them leaves the tables that both schemas have
pub beside : (rows : Rows) (packs : List PackRow) (spans : List SpanRow) (links : List LinkRow)
    (soughts : List SoughtRow) (old new : Trees) (edit : Edit) → Applies (archive_schema true) Enforced old edit new
    → 10 < edit.table.tree → edit.table.tree < 15 → rows.has_spans ≡ true → KeepsLater packs spans links soughts new
    → Holds rows old → Holds (record rows { packs = packs; spans = spans; links = links; soughts = soughts }) new
beside rows packs spans links soughts old new edit a high low dated kept was =
    let same = others_of true old new edit a in
    record {
      meta = same 0 (omega arith) (omega (arith, high)) ∙ was.meta;
      batches = keeps_on _ _ _ (same 1 (omega arith) (omega (arith, high))) was.batches;
      records = keeps_on _ _ _ (same 2 (omega arith) (omega (arith, high))) was.records;
      receipts = keeps_on _ _ _ (same 4 (omega arith) (omega (arith, high))) was.receipts;
      slips = keeps_on _ _ _ (same 5 (omega arith) (omega (arith, high))) was.slips;
      sides = sides_on true rows old new edit a (omega (arith, high)) (omega (arith, high)) dated was.sides;
      own = in_second rows packs spans links soughts new dated (own_of rows old dated was).0 kept;
      pasts = pasts_on true rows old new edit a (omega (arith, low)) dated was.pasts;
    }

-- each of these tables but the one that is changed is as it was
pub late_same : (old new : Trees) (edit : Edit) → Applies (archive_schema true) Enforced old edit new → (t : ℕ)
    → 9 < t → t < 16 → t ≢ edit.table.tree → new t ≡ old t
late_same old new edit a t high low off = a.others t off (no_late_index t high low)

-- the sides of slips in an archive of the second schema, which has no lines of them in rows of their own
pub sides_of : (rows : Rows) (t : Trees) → rows.has_spans ≡ true → Holds rows t
    → (rows.slip_lines ≡ []) × Keeps slip_pack_values slip_place rows.slip_packs (t 10)
sides_of rows t dated was = subst (λ b. HoldsSides b rows.slip_lines rows.slip_packs t) dated was.sides

-- a change of these leaves all other tables
pub sides_changed : (rows : Rows) (lines : List SlipLineRow) (packs : List SlipPackRow) (old new : Trees) (edit : Edit)
    → Applies (archive_schema true) Enforced old edit new → edit.table.tree ≡ 10 → rows.has_spans ≡ true → lines ≡ []
    → Keeps slip_pack_values slip_place packs (new 10) → Holds rows old
    → Holds (record rows { slip_lines = lines; slip_packs = packs }) new
sides_changed rows lines packs old new edit a here dated none kept was =
    let same = others_of true old new edit a in
    let late = late_same old new edit a in
    let later = kept_of rows old dated was in
    record {
      meta = same 0 (omega arith) (omega (arith, here)) ∙ was.meta;
      batches = keeps_on _ _ _ (same 1 (omega arith) (omega (arith, here))) was.batches;
      records = keeps_on _ _ _ (same 2 (omega arith) (omega (arith, here))) was.records;
      receipts = keeps_on _ _ _ (same 4 (omega arith) (omega (arith, here))) was.receipts;
      slips = keeps_on _ _ _ (same 5 (omega arith) (omega (arith, here))) was.slips;
      sides = subst (λ b. HoldsSides b lines packs new) (sym dated) (none, kept);
      own = in_second rows rows.packs rows.spans rows.links rows.soughts new dated (own_of rows old dated was).0
          (record {
            packs_kept = keeps_on _ _ _ (late 11 (omega arith) (omega arith) (omega (arith, here))) later.packs_kept;
            spans_kept = keeps_on _ _ _ (late 12 (omega arith) (omega arith) (omega (arith, here))) later.spans_kept;
            links_kept = keeps_on _ _ _ (late 13 (omega arith) (omega arith) (omega (arith, here))) later.links_kept;
            soughts_kept = keeps_on _ _ _ (late 14 (omega arith) (omega arith) (omega (arith, here)))
                later.soughts_kept;
          });
      pasts = pasts_on true rows old new edit a (omega (arith, here)) dated was.pasts;
    }

-- the values of before in an archive of the second schema
pub pasts_of : (rows : Rows) (t : Trees) → rows.has_spans ≡ true → Holds rows t → KeepsPasts rows.pasts (t 15)
pasts_of rows t dated was = subst (λ b. HoldsPasts b rows.pasts t) dated was.pasts

-- a change of these leaves all other tables
pub pasts_changed : (rows : Rows) (pasts : List PastRow) (old new : Trees) (edit : Edit)
    → Applies (archive_schema true) Enforced old edit new → edit.table.tree ≡ 15 → rows.has_spans ≡ true
    → KeepsPasts pasts (new 15) → Holds rows old → Holds (record rows { pasts = pasts }) new
pasts_changed rows pasts old new edit a here dated kept was =
    let same = others_of true old new edit a in
    let late = late_same old new edit a in
    let later = kept_of rows old dated was in
    record {
      meta = same 0 (omega arith) (omega (arith, here)) ∙ was.meta;
      batches = keeps_on _ _ _ (same 1 (omega arith) (omega (arith, here))) was.batches;
      records = keeps_on _ _ _ (same 2 (omega arith) (omega (arith, here))) was.records;
      receipts = keeps_on _ _ _ (same 4 (omega arith) (omega (arith, here))) was.receipts;
      slips = keeps_on _ _ _ (same 5 (omega arith) (omega (arith, here))) was.slips;
      sides = sides_on true rows old new edit a (omega (arith, here)) (omega (arith, here)) dated was.sides;
      own = in_second rows rows.packs rows.spans rows.links rows.soughts new dated (own_of rows old dated was).0
          (record {
            packs_kept = keeps_on _ _ _ (late 11 (omega arith) (omega arith) (omega (arith, here))) later.packs_kept;
            spans_kept = keeps_on _ _ _ (late 12 (omega arith) (omega arith) (omega (arith, here))) later.spans_kept;
            links_kept = keeps_on _ _ _ (late 13 (omega arith) (omega arith) (omega (arith, here))) later.links_kept;
            soughts_kept = keeps_on _ _ _ (late 14 (omega arith) (omega arith) (omega (arith, here)))
                later.soughts_kept;
          });
      pasts = subst (λ b. HoldsPasts b pasts new) (sym dated) kept;
    }

-- The tables that only the second schema has, which are made without rows where the lines of the first one are gone.
use Rattle.std.proofs.Common.{◌≡◌, ℕ, List, [], ◌∷◌, ◌++◌, false, Ok, refl, sym, ap, subst, ◌∙◌}
use Rattle.sqlite.specs.Change.{created, next_tree, KeepsRows}
use Rattle.sqlite_catalog.specs.Listing.{IsSound}
use Rattle.sqlite.specs.Order.{Row}
use Rattle.sqlite.specs.State.{State, ExecutesInside}
use Rattle.sqlite.specs.Table.{Table}
use Rattle.sqlite.specs.Tree.{Trees}
use Rattle.store_tables.specs.Calls.{Inside, Widened}
use Rattle.store_tables.specs.Creating.{IsCreate}
use Rattle.store_tables.specs.Rows.{
  Rows,
  PastRow,
  HoldsOwn,
  HoldsPasts,
  HoldsSides,
  Keeps,
  KeepsPasts,
  with_later_tables,
}
use Rattle.store_tables.specs.Schema.{
  archive_schema,
  both_and,
  both_tables,
  lines,
  links,
  packs,
  pasts,
  slip_lines,
  slip_packs,
  sought_by_text,
  soughts,
  spans,
  without_record_lines,
}
use Rattle.store_tables.proofs.Calls.{stay_empty}
use Rattle.store_tables.proofs.Coded.{keeps_on}
use Rattle.store_tables.proofs.Created.{creates, creates_index, drops}
use Rattle.store_tables.proofs.LaterTexts.{
  create_links,
  create_packs,
  create_pasts,
  create_sought_by_text,
  create_soughts,
  create_spans,
  drop_lines,
  drop_slip_lines,
  drops_lines,
  drops_slip_lines,
  makes_links,
  makes_packs,
  makes_pasts,
  makes_slip_packs,
  makes_sought_by_text,
  makes_soughts,
  makes_spans,
}
use Rattle.store_tables.proofs.SpanTyped.{typed_later_tables}
use Rattle.store_tables.proofs.Texts.{create_slip_line}
use Rattle.list_laws.proofs.Lists.{all_then}

-- where the rows stay twice, they stay
kept_twice : (ts : List Table) (a b c : Trees) → KeepsRows ts a b → KeepsRows ts b c → KeepsRows ts a c
kept_twice [] a b c p q = tt
kept_twice (t ∷ ts) a b c p q = (q.0 ∙ p.0, kept_twice ts a b c p.1 q.1)

-- what stays of tables and one more stays of them
but_last : (ts : List Table) (t : Table) (a b : Trees) → KeepsRows (ts ++ t ∷ []) a b → KeepsRows ts a b
but_last [] t a b h = tt
but_last (u ∷ us) t a b h = (h.0, but_last us t a b h.1)

-- what stays of all tables stays of those that both schemas have and of those after them
first_kept : (more : List Table) (old new : Trees) → KeepsRows (both_and more).tables old new
    → KeepsRows (both_tables) old new × KeepsRows more old new
first_kept more old new all = (
  (all.0, (all.1.0, (all.1.1.0, (all.1.1.1.0, (all.1.1.1.1.0, tt))))),
  all.1.1.1.1.1,
)

-- one table more
widens : (base : Trees) (old new : State) (count : ℕ) (text : List ℕ) (table made : Table) (more : List Table)
    → IsCreate (both_and more) text table → created (both_and more) table ≡ both_and (more ++ made ∷ [])
    → made.tree ≡ next_tree (both_and more) → ExecutesInside 0 text [] old new (Ok count) → Widened base old more
    → Widened base new (more ++ made ∷ []) × (new.committed ≡ old.committed)
widens base old new count text table made more is after at ran was =
    let did = creates (both_and more) text table old new count is was.schema ran.0 in
    let kept = first_kept more old.now.trees new.now.trees did.others in (
      record {
        is_open = ran.1.is_open;
        inside = ran.1.mode;
        schema = did.schema_is ∙ after;
        sound = subst (λ s. IsSound s new.now.trees) after did.sound;
        same = kept_twice (both_tables) base old.now.trees new.now.trees was.same kept.0;
        empty = all_then (λ (t : Table). new.now.trees t.tree ≡ []) more made
            (stay_empty old.now.trees new.now.trees more kept.1 was.empty)
            (ap new.now.trees at ∙ did.empty);
      },
      ran.1.committed_is,
    )

pub adds_sides : (base : Trees) (old new : State) (count : ℕ)
    → ExecutesInside 0 create_slip_line [] old new (Ok count) → Widened base old []
    → Widened base new (slip_packs ∷ []) × (new.committed ≡ old.committed)
adds_sides base old new count = widens base old new count create_slip_line (record slip_packs { tree = 0 }) slip_packs
    [] makes_slip_packs refl refl

pub adds_packs : (base : Trees) (old new : State) (count : ℕ) → ExecutesInside 0 create_packs [] old new (Ok count)
    → Widened base old (slip_packs ∷ []) → Widened base new (slip_packs ∷ packs ∷ []) × (new.committed ≡ old.committed)
adds_packs base old new count = widens base old new count create_packs (record packs { tree = 0 }) packs
    (slip_packs ∷ []) makes_packs refl refl

pub adds_spans : (base : Trees) (old new : State) (count : ℕ) → ExecutesInside 0 create_spans [] old new (Ok count)
    → Widened base old (slip_packs ∷ packs ∷ [])
    → Widened base new (slip_packs ∷ packs ∷ spans ∷ []) × (new.committed ≡ old.committed)
adds_spans base old new count = widens base old new count create_spans (record spans { tree = 0 }) spans
    (slip_packs ∷ packs ∷ []) makes_spans refl refl

pub adds_links : (base : Trees) (old new : State) (count : ℕ) → ExecutesInside 0 create_links [] old new (Ok count)
    → Widened base old (slip_packs ∷ packs ∷ spans ∷ [])
    → Widened base new (slip_packs ∷ packs ∷ spans ∷ links ∷ []) × (new.committed ≡ old.committed)
adds_links base old new count = widens base old new count create_links (record links { tree = 0 }) links
    (slip_packs ∷ packs ∷ spans ∷ []) makes_links refl refl

pub adds_soughts : (base : Trees) (old new : State) (count : ℕ)
    → ExecutesInside 0 create_soughts [] old new (Ok count) → Widened base old (slip_packs ∷ packs ∷ spans ∷ links ∷ [])
    → Widened base new (slip_packs ∷ packs ∷ spans ∷ links ∷ soughts ∷ []) × (new.committed ≡ old.committed)
adds_soughts base old new count = widens base old new count create_soughts (record soughts { tree = 0 }) soughts
    (slip_packs ∷ packs ∷ spans ∷ links ∷ []) makes_soughts refl refl

pub adds_pasts : (base : Trees) (old new : State) (count : ℕ) → ExecutesInside 0 create_pasts [] old new (Ok count)
    → Widened base old (slip_packs ∷ packs ∷ spans ∷ links ∷ soughts ∷ [])
    → Widened base new (slip_packs ∷ packs ∷ spans ∷ links ∷ soughts ∷ pasts ∷ []) × (new.committed ≡ old.committed)
adds_pasts base old new count = widens base old new count create_pasts (record pasts { tree = 0 }) pasts
    (slip_packs ∷ packs ∷ spans ∷ links ∷ soughts ∷ []) makes_pasts refl refl

-- tables of the first schema without the lines, and then without those of slips, before the first of these calls
pub loses_lines : (old mid new : State) (rows : Rows) (count more : ℕ) → rows.has_spans ≡ false
    → ExecutesInside 0 drop_lines [] old mid (Ok count) → ExecutesInside 0 drop_slip_lines [] mid new (Ok more)
    → Inside old rows → Widened old.now.trees new [] × (new.committed ≡ old.committed)
loses_lines old mid new rows count more undated first second was =
    let one = drops (archive_schema false) drop_lines 3 lines old mid count drops_lines
    (was.schema ∙ ap archive_schema undated) first.0 in
    let two = drops without_record_lines drop_slip_lines 5 slip_lines mid new more drops_slip_lines one.schema_is
    second.0 in (
      record {
        is_open = second.1.is_open;
        inside = second.1.mode;
        schema = two.schema_is;
        sound = two.sound;
        same = kept_twice both_tables old.now.trees mid.now.trees new.now.trees
            (but_last both_tables slip_lines old.now.trees mid.now.trees one.rows) two.rows;
        empty = tt;
      },
      second.1.committed_is ∙ first.1.committed_is,
    )

no_rows : {X : Type 0} (values : X → Row) (key : X → ℕ) (xs : List X) (rows : List Row) → xs ≡ [] → rows ≡ []
    → Keeps values key xs rows
no_rows values key xs rows none empty = subst (λ ys. Keeps values key ys rows) (sym none)
    (record { is = empty; rise = tt })

no_pasts : (pasts : List PastRow) (rows : List Row) → pasts ≡ [] → rows ≡ [] → KeepsPasts pasts rows
no_pasts ps rows none empty = subst (λ qs. KeepsPasts qs rows) (sym none) (record { is = empty; rise = tt })

-- and after the last
pub all_widened : (base new last : State) (rows : Rows) (count : ℕ) → rows.has_spans ≡ false → Inside base rows
    → Widened base.now.trees new (slip_packs ∷ packs ∷ spans ∷ links ∷ soughts ∷ pasts ∷ [])
    → ExecutesInside 0 create_sought_by_text [] new last (Ok count)
    → Inside last (with_later_tables rows) × (last.committed ≡ new.committed)
all_widened base new last rows count undated began was ran =
    let more = slip_packs ∷ packs ∷ spans ∷ links ∷ soughts ∷ pasts ∷ [] in
    let did = creates_index (both_and more) create_sought_by_text 9 soughts
    (record sought_by_text { tree = 0 }) new last count makes_sought_by_text
    was.schema ran.0 in
    let kept = first_kept more new.now.trees last.now.trees did.rows in
    let same = kept_twice both_tables base.now.trees new.now.trees last.now.trees was.same kept.0 in
    let empty = stay_empty new.now.trees last.now.trees more kept.1 was.empty in
    let held = began.good.holds in
    let none = subst (λ b. HoldsOwn b rows.lines rows.packs rows.spans rows.links rows.soughts base.now.trees) undated
    held.own in
    let sides = subst (λ b. HoldsSides b rows.slip_lines rows.slip_packs base.now.trees) undated held.sides in
    let before = subst (λ b. HoldsPasts b rows.pasts base.now.trees) undated held.pasts in (
      record {
        is_open = ran.1.is_open;
        inside = ran.1.mode;
        schema = did.schema_is;
        good = record {
          sound = did.sound;
          holds = record {
            meta = same.0 ∙ held.meta;
            batches = keeps_on _ _ _ same.1.0 held.batches;
            records = keeps_on _ _ _ same.1.1.0 held.records;
            receipts = keeps_on _ _ _ same.1.1.1.0 held.receipts;
            slips = keeps_on _ _ _ same.1.1.1.1.0 held.slips;
            sides = (refl, no_rows _ _ rows.slip_packs (last.now.trees 10) sides.1 empty.0);
            own = (
              refl,
              record {
                packs_kept = no_rows _ _ rows.packs (last.now.trees 11) none.1 empty.1.0;
                spans_kept = no_rows _ _ rows.spans (last.now.trees 12) none.2 empty.1.1.0;
                links_kept = no_rows _ _ rows.links (last.now.trees 13) none.3 empty.1.1.1.0;
                soughts_kept = no_rows _ _ rows.soughts (last.now.trees 14) none.4 empty.1.1.1.1.0;
              },
            );
            pasts = no_pasts rows.pasts (last.now.trees 15) before empty.1.1.1.1.1.0;
          };
          typed = typed_later_tables rows began.good.typed;
        };
      },
      ran.1.committed_is,
    )

-- What the statement on values of before makes of the rows that the tables hold: their keys may be any integers.
use Rattle.std.proofs.Common.{
  ◌≡◌,
  ℕ,
  ℤ,
  pos,
  ◌+ℤ◌,
  ◌<ℤ◌,
  List,
  [],
  ◌∷◌,
  ◌++◌,
  map,
  fold,
  true,
  false,
  Bool,
  Ok,
  refl,
  sym,
  ap,
  subst,
  ◌∙◌,
  arith,
  Less,
}
use Rattle.std.specs.Cmp.{int_chain, int_cmp_is}
use Rattle.std.specs.List.{AllByRecursion}
use Rattle.std.specs.Ordering.{int_cmp, match_ordering}
use Rattle.std.proofs.lemmas.Int.{ints}
use Rattle.sqlite.specs.declared.types.Value.TheVariants.{Null, Int, Text}
use Rattle.sqlite.specs.Order.{Row}
use Rattle.sqlite.specs.Term.{col, lit}
use Rattle.sqlite.specs.Tree.{IsAscending, Trees, rowid, put_row}
use Rattle.sqlite.specs.Command.TheVariants.{Insert}
use Rattle.sqlite.specs.Source.TheVariants.{Values}
use Rattle.sqlite.specs.Effect.{value_rows}
use Rattle.sqlite_catalog.specs.Listing.{IsSound}
use Rattle.sqlite_schema.specs.declared.schema.Keys.TheVariants.{Enforced}
use Rattle.sqlite.specs.Rowids.TheVariants.{Chosen}
use Rattle.sqlite.specs.Edit.{edit_of, edited, id_in, next_rowid}
use Rattle.sqlite.specs.State.{State, Executes}
use Rattle.sqlite.proofs.Callers.{runs_as, one_step, statement_of}
use Rattle.sqlite.specs.Listing.{understood}
use Rattle.sqlite_value.proofs.OrderLemmas.{value_cmp-Int}
use Rattle.store_tables.specs.Schema.{archive_schema, pasts}
use Rattle.store_tables.specs.Pasts.{IsAboveAll}
use Rattle.store_tables.specs.Rows.{Holds, HoldsPasts, KeepsPasts, PastRow, Rows, next_past, past_values, with_past}
use Rattle.store_tables.proofs.Coded.{rises_then}
use Rattle.store_tables.proofs.LaterStatements.{BecomesDated, pasts_changed, pasts_of}
use Rattle.store_tables.proofs.PastTexts.{insert_past, insert_past_is, insert_past_plain}
use Rattle.store_tables.proofs.Writing.{inserts, cast_int, cast_null}

pub below_int : (m n : ℤ) → m <ℤ n → int_cmp m n ≡ Less
below_int m n low = sym (int_cmp_is m n Less low)

one_above : (i : ℤ) → i <ℤ (i +ℤ pos 1)
one_above i = omega (arith, ints)

-- the rowid that is chosen
next_from : (a : ℤ) (ps : List PastRow) → fold (λ _ r. id_in (rowid r) +ℤ pos 1) a (map past_values ps)
    ≡ fold (λ _ (p : PastRow). p.id +ℤ pos 1) a ps
next_from a [] = refl
next_from a (p ∷ ps) = next_from (p.id +ℤ pos 1) ps

chosen : (ps : List PastRow) (rows : List Row) → rows ≡ map past_values ps → next_rowid rows ≡ next_past ps
chosen ps rows is = ap next_rowid is ∙ next_from (pos 1) ps

above_from : (k a : ℤ) (ps : List PastRow) → k <ℤ a → AllByRecursion (λ (p : PastRow). k <ℤ p.id) ps
    → k <ℤ fold (λ _ (p : PastRow). p.id +ℤ pos 1) a ps
above_from k a [] low h = low
above_from k a (p ∷ ps) low h =
    let next = p.id +ℤ pos 1 in above_from k next ps (int_chain k p.id next h.0 (one_above p.id)) h.1

below_next : (a : ℤ) (ps : List PastRow) → IsAscending (λ (p q : PastRow). p.id <ℤ q.id) ps
    → AllByRecursion (λ (p : PastRow). p.id <ℤ fold (λ _ (q : PastRow). q.id +ℤ pos 1) a ps) ps
below_next a [] h = tt
below_next a (p ∷ ps) h =
    (above_from p.id (p.id +ℤ pos 1) ps (one_above p.id) h.0, below_next (p.id +ℤ pos 1) ps h.1)

-- it is above all others
pub all_below : (ps : List PastRow) → IsAscending (λ (p q : PastRow). p.id <ℤ q.id) ps
    → AllByRecursion (λ (p : PastRow). p.id <ℤ next_past ps) ps
all_below ps rise = below_next (pos 1) ps rise

pub all_of_tables_below : (rows : Rows) (t : Trees) → Holds rows t → IsAboveAll rows.pasts
all_of_tables_below rows t was = go rows.has_spans rows.pasts was.pasts
  where
    go : (b : Bool) (ps : List PastRow) → HoldsPasts b ps t → IsAboveAll ps
    go false ps none = subst IsAboveAll (sym none) tt
    go true ps kept = all_below ps kept.rise

-- a row that comes after all others is put last
put_last : (new : PastRow) (ps : List PastRow) → AllByRecursion (λ (p : PastRow). p.id <ℤ new.id) ps
    → put_row (past_values new) (map past_values ps) ≡ map past_values (ps ++ new ∷ [])
put_last new [] below = refl
put_last new (p ∷ ps) below =
    ap (λ o. match_ordering o (past_values p ∷ put_row (past_values new) (map past_values ps))
    (past_values new ∷ map past_values ps) (past_values new ∷ past_values p ∷ map past_values ps))
    (value_cmp-Int p.id new.id ∙ below_int p.id new.id below.0)
    ∙ ap (λ rows. past_values p ∷ rows) (put_last new ps below.1)

keeps_last : (new : PastRow) (ps : List PastRow) (rows : List Row) → new.id ≡ next_past ps → KeepsPasts ps rows
    → KeepsPasts (ps ++ new ∷ []) (put_row (past_values new) rows)
keeps_last new ps rows is was =
    let below = subst (λ k. AllByRecursion (λ (p : PastRow). p.id <ℤ k) ps) (sym is) (all_below ps was.rise) in
    record {
      is = ap (put_row (past_values new)) was.is ∙ put_last new ps below;
      rise = rises_then _ ps new was.rise below;
    }

pub inserts_past : (old new : State) (n : ℕ) (token text : List ℕ) (count : ℕ)
    → old.now.schema ≡ archive_schema true
    → Executes insert_past (Int (pos n) ∷ Text token ∷ Text text ∷ []) old new (Ok count)
    → BecomesDated old new (with_past n token text)
inserts_past old new n token text count has h =
    let params = Int (pos n) ∷ Text token ∷ Text text ∷ [] in
    let terms = lit Null ∷ lit Null ∷ col 0 0 ∷ col 0 1 ∷ col 0 2 ∷ [] in
    let w = runs_as insert_past params old new (archive_schema true) has (Insert 10 (Values terms 5)) insert_past_is
    insert_past_plain count h in
    let did = inserts (archive_schema true) pasts 10 refl refl old new.now w.tally params
    (statement_of insert_past (understood (archive_schema true) insert_past)) terms 5 has w.changed in
    let db = old.now.trees in
    let now = new.now.trees in
    let edit = edit_of db pasts [] Chosen 0 (value_rows params 5 1 terms) in
    let applied = one_step (archive_schema true) Enforced db now edit refl did.1 in
    let fields = Null ∷ Int (pos n) ∷ Text token ∷ Text text ∷ [] in
    let row : edited db edit ≡ put_row (Int (next_rowid (db 15)) ∷ fields) (db 15) = rw
    (cast_null, cast_int (pos n)) refl in
    record {
      schema = did.0;
      sound = subst (λ s. IsSound s now) did.0 w.sound;
      same = λ _. refl;
      holds = λ rows dated typed was.
          let kept = pasts_of rows db dated was in
          let item : PastRow = record { id = next_past rows.pasts; no = pos n; token = token; text = text } in
          let last = keeps_last item rows.pasts (db 15) refl kept in
          pasts_changed rows (rows.pasts ++ item ∷ []) db now edit applied refl dated (record {
            is = applied.rows ∙ row ∙ ap (λ i. put_row (Int i ∷ fields) (db 15)) (chosen rows.pasts (db 15) kept.is)
                ∙ last.is;
            rise = last.rise;
          }) was;
    }

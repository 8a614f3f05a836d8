-- The foreign keys of good tables, said of the rows that they hold.
use Rattle.std.proofs.Common.{◌≡◌, ℕ, ◌==◌, ◌&&◌, Bool, true, false, List, [], ◌∷◌, map, Some, sym, ap, subst, ◌∙◌}
use Rattle.std.specs.List.{AllByRecursion, list_any}
use Rattle.sqlite.specs.Order.{Row}
use Rattle.sqlite.specs.Ops.{is_true, from_truth, binary}
use Rattle.sqlite.specs.Table.{Table}
use Rattle.sqlite.specs.Tree.{Trees}
use Rattle.sqlite_schema.specs.Names.{same_name}
use Rattle.sqlite_schema.specs.Rules.{passes, agree}
use Rattle.sqlite_schema.specs.declared.schema.Constraint.TheVariants.{ForeignKey}
use Rattle.sqlite_value.specs.Keys.{joined, first_key, plain}
use Rattle.store_tables.specs.Batches.{AreOwned}
use Rattle.store_tables.specs.Calls.{Good}
use Rattle.store_tables.specs.Rows.{
  Rows,
  BatchRow,
  RecordRow,
  LineRow,
  PackRow,
  SpanRow,
  LinkRow,
  SoughtRow,
  HoldsOwn,
  batch_values,
  record_values,
  line_values,
  pack_values,
  sought_values,
  span_values,
}
use Rattle.store_tables.specs.Schema.{archive_schema, lines, more_tables, packs, records, soughts, spans}
use Rattle.store_tables.proofs.Coded.{same_int}
use Rattle.store_tables.proofs.Statements.{truth_of}
use Rattle.list_laws.proofs.Lists.{any_mapped, any_alike}
use Rattle.list_laws.proofs.Booleans.{and_first}

all_mapped : {X Y : Type 0} (P : Y → Type 0) (Q : X → Type 0) (f : X → Y) → ((x : X) → P (f x) → Q x) → (xs : List X)
    → AllByRecursion P (map f xs) → AllByRecursion Q xs
all_mapped P Q f h [] all = tt
all_mapped P Q f h (x ∷ xs) all = (h x all.0, all_mapped P Q f h xs all.1)

-- a row agrees with what it refers to where the numbers are the same
agrees_batch : (r : RecordRow) (b : BatchRow) → agree plain (0 ∷ []) (batch_values b) (3 ∷ []) (record_values r)
    ≡ (b.no == r.batch)
unfolding binary first_key
agrees_batch r b = ap (λ t. is_true (from_truth (Some t)) && true) (same_int b.no r.batch) ∙ truth_of (b.no == r.batch)

agrees_record : (l : LineRow) (r : RecordRow) → agree plain (0 ∷ []) (record_values r) (2 ∷ []) (line_values l)
    ≡ (r.no == l.no)
unfolding binary first_key
agrees_record l r = ap (λ t. is_true (from_truth (Some t)) && true) (same_int r.no l.no) ∙ truth_of (r.no == l.no)

agrees_span : (s : SpanRow) (r : RecordRow) → agree plain (0 ∷ []) (record_values r) (0 ∷ []) (span_values s)
    ≡ (r.no == s.no)
unfolding binary first_key
agrees_span s r = ap (λ t. is_true (from_truth (Some t)) && true) (same_int r.no s.no) ∙ truth_of (r.no == s.no)

record_refers : (b : Bool) (db : Trees) (r : RecordRow)
    → passes ForeignKey (archive_schema b) db records (record_values r) ≡ true
    → list_any (λ parent. agree plain (0 ∷ []) parent (3 ∷ []) (record_values r)) (db 1) ≡ true
unfolding same_name joined
record_refers b db r h = and_first _ _ h

line_refers : (db : Trees) (l : LineRow)
    → passes ForeignKey (archive_schema false) db lines (line_values l) ≡ true
    → list_any (λ parent. agree plain (0 ∷ []) parent (2 ∷ []) (line_values l)) (db 2) ≡ true
unfolding same_name joined
line_refers db l h = and_first _ _ h

span_refers : (db : Trees) (s : SpanRow) → passes ForeignKey (archive_schema true) db spans (span_values s) ≡ true
    → list_any (λ parent. agree plain (0 ∷ []) parent (0 ∷ []) (span_values s)) (db 2) ≡ true
unfolding same_name joined
span_refers db s h = and_first _ _ h

batch_there : (b : Bool) (db : Trees) (bs : List BatchRow) → db 1 ≡ map batch_values bs → (r : RecordRow)
    → passes ForeignKey (archive_schema b) db records (record_values r) ≡ true
    → list_any (λ (b : BatchRow). b.no == r.batch) bs ≡ true
batch_there b db bs is r h =
    let test = (λ (parent : Row). agree plain (0 ∷ []) parent (3 ∷ []) (record_values r)) in
    sym (ap (list_any test) is ∙ any_mapped test batch_values bs
    ∙ any_alike (λ b. test (batch_values b)) (λ (b : BatchRow). b.no == r.batch) (agrees_batch r) bs)
    ∙ record_refers b db r h

record_there : (db : Trees) (rs : List RecordRow) → db 2 ≡ map record_values rs → (l : LineRow)
    → passes ForeignKey (archive_schema false) db lines (line_values l) ≡ true
    → list_any (λ (r : RecordRow). r.no == l.no) rs ≡ true
record_there db rs is l h =
    let test = (λ (parent : Row). agree plain (0 ∷ []) parent (2 ∷ []) (line_values l)) in
    sym (ap (list_any test) is ∙ any_mapped test record_values rs
    ∙ any_alike (λ r. test (record_values r)) (λ (r : RecordRow). r.no == l.no) (agrees_record l) rs)
    ∙ line_refers db l h

spanned_there : (db : Trees) (rs : List RecordRow) → db 2 ≡ map record_values rs → (s : SpanRow)
    → passes ForeignKey (archive_schema true) db spans (span_values s) ≡ true
    → list_any (λ (r : RecordRow). r.no == s.no) rs ≡ true
spanned_there db rs is s h =
    let test = (λ (parent : Row). agree plain (0 ∷ []) parent (0 ∷ []) (span_values s)) in
    sym (ap (list_any test) is ∙ any_mapped test record_values rs
    ∙ any_alike (λ r. test (record_values r)) (λ (r : RecordRow). r.no == s.no) (agrees_span s) rs)
    ∙ span_refers db s h

agrees_sought : (s : SoughtRow) (r : RecordRow) → agree plain (0 ∷ []) (record_values r) (0 ∷ []) (sought_values s)
    ≡ (r.no == s.no)
unfolding binary first_key
agrees_sought s r = ap (λ t. is_true (from_truth (Some t)) && true) (same_int r.no s.no) ∙ truth_of (r.no == s.no)

sought_refers : (db : Trees) (s : SoughtRow)
    → passes ForeignKey (archive_schema true) db soughts (sought_values s) ≡ true
    → list_any (λ parent. agree plain (0 ∷ []) parent (0 ∷ []) (sought_values s)) (db 2) ≡ true
unfolding same_name joined
sought_refers db s h = and_first _ _ h

sought_there : (db : Trees) (rs : List RecordRow) → db 2 ≡ map record_values rs → (s : SoughtRow)
    → passes ForeignKey (archive_schema true) db soughts (sought_values s) ≡ true
    → list_any (λ (r : RecordRow). r.no == s.no) rs ≡ true
sought_there db rs is s h =
    let test = (λ (parent : Row). agree plain (0 ∷ []) parent (0 ∷ []) (sought_values s)) in
    sym (ap (list_any test) is ∙ any_mapped test record_values rs
    ∙ any_alike (λ r. test (record_values r)) (λ (r : RecordRow). r.no == s.no) (agrees_sought s) rs)
    ∙ sought_refers db s h

agrees_pack : (p : PackRow) (r : RecordRow) → agree plain (0 ∷ []) (record_values r) (0 ∷ []) (pack_values p)
    ≡ (r.no == p.no)
unfolding binary first_key
agrees_pack p r = ap (λ t. is_true (from_truth (Some t)) && true) (same_int r.no p.no) ∙ truth_of (r.no == p.no)

pack_refers : (db : Trees) (p : PackRow) → passes ForeignKey (archive_schema true) db packs (pack_values p) ≡ true
    → list_any (λ parent. agree plain (0 ∷ []) parent (0 ∷ []) (pack_values p)) (db 2) ≡ true
unfolding same_name joined
pack_refers db p h = and_first _ _ h

packed_there : (db : Trees) (rs : List RecordRow) → db 2 ≡ map record_values rs → (p : PackRow)
    → passes ForeignKey (archive_schema true) db packs (pack_values p) ≡ true
    → list_any (λ (r : RecordRow). r.no == p.no) rs ≡ true
packed_there db rs is p h =
    let test = (λ (parent : Row). agree plain (0 ∷ []) parent (0 ∷ []) (pack_values p)) in
    sym (ap (list_any test) is ∙ any_mapped test record_values rs
    ∙ any_alike (λ r. test (record_values r)) (λ (r : RecordRow). r.no == p.no) (agrees_pack p) rs)
    ∙ pack_refers db p h

abbrev AreKept : Bool → Trees → Type 0
AreKept b db = AllByRecursion (λ (t : Table). AllByRecursion
    (λ row. passes ForeignKey (archive_schema b) db t row ≡ true) (db t.tree)) (more_tables b)

abbrev Owned : List RecordRow → ℕ → Type 0
Owned rs n = list_any (λ (r : RecordRow). r.no == n) rs ≡ true

-- the rows of the tables that one schema has and the other has not
record OwnRows (rs : List RecordRow) (ls : List LineRow) (ps : List PackRow) (ss : List SpanRow)
    (qs : List SoughtRow) : Type 0 where
  lines : AllByRecursion (λ (l : LineRow). Owned rs l.no) ls
  packs : AllByRecursion (λ (p : PackRow). Owned rs p.no) ps
  spans : AllByRecursion (λ (s : SpanRow). Owned rs s.no) ss
  soughts : AllByRecursion (λ (s : SoughtRow). Owned rs s.no) qs

own_rows : (b : Bool) (db : Trees) (rs : List RecordRow) (ls : List LineRow) (ps : List PackRow) (ss : List SpanRow)
    (ks : List LinkRow) (qs : List SoughtRow) → db 2 ≡ map record_values rs → HoldsOwn b ls ps ss ks qs db
    → AreKept b db → OwnRows rs ls ps ss qs
own_rows false db rs ls ps ss ks qs is holds keys = record {
  lines = all_mapped (λ row. passes ForeignKey (archive_schema false) db lines row ≡ true)
      (λ (l : LineRow). Owned rs l.no) line_values (record_there db rs is) ls
      (subst (AllByRecursion (λ row. passes ForeignKey (archive_schema false) db lines row ≡ true)) holds.0.is keys.0);
  packs = subst (AllByRecursion (λ (p : PackRow). Owned rs p.no)) (sym holds.1) tt;
  spans = subst (AllByRecursion (λ (s : SpanRow). Owned rs s.no)) (sym holds.2) tt;
  soughts = subst (AllByRecursion (λ (s : SoughtRow). Owned rs s.no)) (sym holds.4) tt;
}
own_rows true db rs ls ps ss ks qs is holds keys = record {
  lines = subst (AllByRecursion (λ (l : LineRow). Owned rs l.no)) (sym holds.0) tt;
  packs = all_mapped (λ row. passes ForeignKey (archive_schema true) db packs row ≡ true)
      (λ (p : PackRow). Owned rs p.no) pack_values (packed_there db rs is) ps
      (subst (AllByRecursion (λ row. passes ForeignKey (archive_schema true) db packs row ≡ true))
      holds.1.packs_kept.is keys.1.1.1.0);
  spans = all_mapped (λ row. passes ForeignKey (archive_schema true) db spans row ≡ true)
      (λ (s : SpanRow). Owned rs s.no) span_values (spanned_there db rs is) ss
      (subst (AllByRecursion (λ row. passes ForeignKey (archive_schema true) db spans row ≡ true))
      holds.1.spans_kept.is keys.1.1.1.1.0);
  soughts = all_mapped (λ row. passes ForeignKey (archive_schema true) db soughts row ≡ true)
      (λ (s : SoughtRow). Owned rs s.no) sought_values (sought_there db rs is) qs
      (subst (AllByRecursion (λ row. passes ForeignKey (archive_schema true) db soughts row ≡ true))
      holds.1.soughts_kept.is keys.1.1.1.1.1.1.0);
}

pub owned : (rows : Rows) (t : Trees) → Good rows t → AreOwned rows
owned rows t good =
    let b = rows.has_spans in
    let keys = good.sound.obeys.rules ForeignKey in
    let own = own_rows b t rows.records rows.lines rows.packs rows.spans rows.links rows.soughts
    good.holds.records.is good.holds.own keys.1.1.1 in
    record {
      lines = own.lines;
      packs = own.packs;
      records = all_mapped (λ row. passes ForeignKey (archive_schema b) t records row ≡ true)
          (λ (r : RecordRow). list_any (λ (b : BatchRow). b.no == r.batch) rows.batches ≡ true) record_values
          (batch_there b t rows.batches good.holds.batches.is) rows.records
          (subst (AllByRecursion (λ row. passes ForeignKey (archive_schema b) t records row ≡ true))
          good.holds.records.is
          keys.1.1.0);
      spans = own.spans;
      soughts = own.soughts;
    }

-- What is seen of rows that were read by a number or a token, of the content that all rows mean.
use Rattle.std.proofs.Common.{
  ◌≡◌,
  ◌⊎◌,
  inl,
  ℕ,
  Bool,
  true,
  false,
  List,
  [],
  ◌∷◌,
  ◌++◌,
  map,
  filter,
  cond,
  fold,
  refl,
  sym,
  ap,
  ap₂,
  subst,
  ◌∙◌,
  Result,
  Ok,
  Err,
  IfOk,
  IfErr,
  not,
  bytes_eq,
}
use Rattle.std.specs.Prelude.{◌==◌, ◌≢◌, Option, Some, None}
use Rattle.std.specs.List.{list_any, flat_map}
use Rattle.std.specs.FinMap.{get, insert, empty, get-insert, get-empty}
use Rattle.std.specs.Ordering.{nat_cmp}
use Rattle.std.specs.Cmp.Lexicographic.{slice_cmp}
use Rattle.std.proofs.lemmas.Cmp.{nat_list_cmp_total}
use Rattle.std.proofs.lemmas.Map.Text.{is_eq-slice_cmp}
use Rattle.std.proofs.lemmas.List.{map-append}
use Rattle.std.proofs.lemmas.Simd.{map-map}
use Rattle.std.proofs.Math.Bool.{or-false}
use Rattle.std.proofs.lemmas.Result.{IfErr-weaker}
use Rattle.sqlite.specs.State.{State}
use Rattle.stored_lines.specs.Line.{Label}
use Rattle.record_text.specs.declared.refusal.RefusalKind.{RefusalKind}
use Rattle.record_text.specs.declared.refusal.RefusalKind.TheVariants.{BadStored}
use Rattle.record_kinds.specs.declared.record.Record.{Record}
use Rattle.records.specs.Shallow.{IsShallow}
use Rattle.records.specs.Stored.{stored}
use Rattle.receipts.specs.declared.answer.Receipt.{Receipt}
use Rattle.archive_state.specs.Content.{Content, Receipts}
use Rattle.archive_state.specs.Slips.{Slip}
use Rattle.store_tables.specs.Keyed.{records_at, receipts_at, slips_at, slip_lines_at}
use Rattle.store_tables.specs.Looking.{IsFailure, Looks}
use Rattle.store_tables.specs.Reading.{lines_in_pack, read_record, read_receipt, read_slip_line, read_slip_pack}
use Rattle.store_tables.specs.Rows.{
  Rows,
  BatchRow,
  RecordRow,
  ReceiptRow,
  SlipRow,
  SlipLineRow,
  SlipPackRow,
  lines_in_side,
  lines_of,
  slip_lines_of,
}
use Rattle.store_tables.proofs.Calls.{if_ok}
use Rattle.store_rows.specs.Grouped.{last_kept}
use Rattle.store_rows.specs.Looking.{Sees}
use Rattle.store_rows.specs.Meaning.{
  Means,
  AreReadable,
  IsRecordAt,
  IsSlipAt,
  IsShallowSlip,
  is_closed,
  has_record,
  change_lines,
  slip_row,
  slip_row_at,
}
use Rattle.store_rows.specs.Sides.{SideLine, side_lines_in, NoChanges}
use Rattle.store_rows.proofs.OneContent.{one_at, one_slip}
use Rattle.list_laws.proofs.Lists.{any_mapped, any_kept}
use Rattle.list_laws.proofs.Bytes.{bytes_flip}
use Rattle.list_laws.proofs.Numbers.{it}

-- ---- one look after another
-- rows that were read, and what is made of them
pub sees_with : {A B : Type 0} {P : Rows → A → Type 0} {Is : Content → B → Type 0} {old new : State} {a : A}
    (result : Result B RefusalKind) → Looks P old new (Ok a)
    → IfOk result (λ b. (rows : Rows) → P rows a → (c : Content) → Means rows c → Is c b)
    → IfErr result (λ kind. (rows : Rows) → P rows a → IsFailure kind ⊎ ((kind ≡ BadStored) × ¬ (AreReadable rows)))
    → Sees Is old new result
sees_with result h ok err = record {
  read = λ clean. if_ok result (λ b is rows was c means. is rows (h.read clean rows was) c means) ok;
  same = λ clean. if_ok result (λ b is. h.same clean) ok;
  refused = λ clean. IfErr-weaker result _ _ (λ kind is rows was. is rows (h.read clean rows was)) err;
  crash = h.crash;
  clean = h.clean;
}

pub sees_as : {A : Type 0} {P : Rows → A → Type 0} {Is : Content → A → Type 0} {old new : State}
    (result : Result A RefusalKind) → ((rows : Rows) (a : A) → P rows a → (c : Content) → Means rows c → Is c a)
    → Looks P old new result → Sees Is old new result
sees_as result f h = record {
  read = λ clean. if_ok result (λ a is rows was c means. f rows a (is rows was) c means) (h.read clean);
  same = h.same;
  refused = λ clean. IfErr-weaker result _ _ (λ kind is rows was. inl (is rows was)) (h.refused clean);
  crash = h.crash;
  clean = h.clean;
}

pub sees_lost : {A B : Type 0} {P : Rows → A → Type 0} {Is : Content → B → Type 0} {old new : State}
    {kind : RefusalKind} (result : Result B RefusalKind) → result ≡ Err kind → Looks P old new (Err kind)
    → Sees Is old new result
sees_lost {Is = Is} {old = old} {new = new} result is h = subst (Sees Is old new) (sym is) (record {
  read = λ clean. tt;
  same = λ clean. tt;
  refused = λ clean rows was. inl (h.refused clean rows was);
  crash = h.crash;
  clean = h.clean;
})

-- what was read does not matter
pub sees_later : {A B : Type 0} {P : Rows → A → Type 0} {Is : Content → B → Type 0} {old mid new : State} {a : A}
    (result : Result B RefusalKind) → Looks P old mid (Ok a) → Sees Is mid new result → Sees Is old new result
sees_later result h k = record {
  read = λ clean. if_ok result (λ b is rows was. is rows (h.same (k.clean clean) rows was)) (k.read clean);
  same = λ clean. if_ok result (λ b is rows was. is rows (h.same (k.clean clean) rows was)) (k.same clean);
  refused = λ clean. IfErr-weaker result _ _ (λ kind is rows was. is rows (h.same (k.clean clean) rows was))
      (k.refused clean);
  crash = λ clean rows was. k.crash clean rows (h.same (k.clean clean) rows was);
  clean = λ clean. h.clean (k.clean clean);
}

-- the same of what was seen
pub sees_from : {A B : Type 0} {P : Content → A → Type 0} {Is : Content → B → Type 0} {old new : State} {a : A}
    (result : Result B RefusalKind) → Sees P old new (Ok a)
    → IfOk result (λ b. (c : Content) → P c a → Is c b) → IfErr result (λ kind. IsFailure kind) → Sees Is old new result
sees_from result h ok err = record {
  read = λ clean. if_ok result (λ b is rows was c means. is c (h.read clean rows was c means)) ok;
  same = λ clean. if_ok result (λ b is. h.same clean) ok;
  refused = λ clean. IfErr-weaker result _ _ (λ kind is rows was. inl is) err;
  crash = h.crash;
  clean = h.clean;
}

pub sees_not : {A B : Type 0} {P : Content → A → Type 0} {Is : Content → B
    → Type 0} {old new : State} {kind : RefusalKind} (result : Result B RefusalKind) → result ≡ Err kind
    → Sees P old new (Err kind) → Sees Is old new result
sees_not {Is = Is} {old = old} {new = new} result is h = subst (Sees Is old new) (sym is)
    (record { read = λ clean. tt; same = λ clean. tt; refused = h.refused; crash = h.crash; clean = h.clean })

-- ---- whether a number has a record

pub none_closed : (n : ℕ) (bs : List BatchRow) → filter (λ (b : BatchRow). b.no == n) bs ≡ [] → false ≡ is_closed n bs
none_closed n bs none = sym (any_kept (λ (b : BatchRow). b.no == n) (λ b. not b.is_open) bs
    ∙ ap (list_any (λ (b : BatchRow). not b.is_open)) none)

pub one_closed : (n : ℕ) (bs : List BatchRow) (b : BatchRow) → filter (λ (b : BatchRow). b.no == n) bs ≡ b ∷ []
    → not b.is_open ≡ is_closed n bs
one_closed n bs b one = sym (any_kept (λ (b : BatchRow). b.no == n) (λ b. not b.is_open) bs
    ∙ ap (list_any (λ (b : BatchRow). not b.is_open)) one ∙ or-false (not b.is_open))

recorded_by : (n : ℕ) (rows : Rows) → has_record n rows ≡ list_any (λ (r : ℕ × ℕ). is_closed r.1 rows.batches)
    (records_at n rows)
recorded_by n rows = any_kept (λ (r : RecordRow). r.no == n) (λ r. is_closed r.batch rows.batches) rows.records
    ∙ sym (any_mapped (λ (r : ℕ × ℕ). is_closed r.1 rows.batches) read_record
    (filter (λ (r : RecordRow). r.no == n) rows.records))

pub none_recorded : (n : ℕ) (rows : Rows) → records_at n rows ≡ [] → false ≡ has_record n rows
none_recorded n rows none = sym (recorded_by n rows ∙ ap (list_any (λ (r : ℕ × ℕ). is_closed r.1 rows.batches)) none)

pub one_recorded : (n : ℕ) (rows : Rows) (r : ℕ × ℕ) → records_at n rows ≡ r ∷ []
    → is_closed r.1 rows.batches ≡ has_record n rows
one_recorded n rows r one = sym (recorded_by n rows ∙ ap (list_any (λ (q : ℕ × ℕ). is_closed q.1 rows.batches)) one
    ∙ or-false (is_closed r.1 rows.batches))

-- ---- the record of a number
pub record_some : (n : ℕ) (rows : Rows) (c : Content) (r : Record) → Means rows c → true ≡ has_record n rows
    → lines_of n rows ≡ stored r → Some r ≡ get c.records n
record_some n rows c r means has kept = one_at (has_record n rows) (lines_of n rows) (Some r) (get c.records n)
    (sym has, kept) (means.records n)

pub record_bad : (n : ℕ) (rows : Rows) (ls : List (ℕ × Label)) → has_record n rows ≡ true → ls ≡ lines_of n rows
    → ((r : Record) → IsShallow r → ls ≢ stored r) → AreReadable rows → ⊥
record_bad n rows ls has is bad readable =
    go (get readable.0.records n) (λ r. readable.2.records n r) (readable.1.records n)
  where
    go : (found : Option Record) → ((r : Record) → found ≡ Some r → IsShallow r) → IsRecordAt rows n found → ⊥
    go None shallow absent = let no : true ≡ false = sym has ∙ absent in absurd cc
    go (Some r) shallow at = bad r (shallow r refl) (is ∙ at.1)

-- ---- what is kept under a token

kept_more : (token : List ℕ) (r : ReceiptRow) (m : Receipts) → get (insert m r.token r.receipt) token
    ≡ cond (bytes_eq r.token token) (Some r.receipt) (get m token)
kept_more token r m = get-insert nat_list_cmp_total m r.token r.receipt token
    ∙ ap (λ b. cond b (Some r.receipt) (get m token)) (is_eq-slice_cmp token r.token ∙ bytes_flip token r.token)

kept_from : (token : List ℕ) (rs : List ReceiptRow) (m : Receipts)
    → get (fold (λ k (r : ReceiptRow). insert k r.token r.receipt) m rs) token ≡ fold
    (λ _ (p : List ℕ × Receipt). Some p.1) (get m token)
    (map read_receipt (filter (λ (r : ReceiptRow). bytes_eq r.token token) rs))
kept_from token [] m = refl
kept_from token (r ∷ rs) m =
    let own = filter (λ (r : ReceiptRow). bytes_eq r.token token) rs in
    kept_from token rs (insert m r.token r.receipt)
    ∙ ap (λ o. fold (λ _ (p : List ℕ × Receipt). Some p.1) o (map read_receipt own)) (kept_more token r m)
    ∙ (elim (bytes_eq r.token token) as (λ b. fold (λ _ (p : List ℕ × Receipt). Some p.1)
    (cond b (Some r.receipt) (get m token)) (map read_receipt own) ≡ fold (λ _ (p : List ℕ × Receipt). Some p.1)
    (get m token) (map read_receipt (cond b (r ∷ own) own))) [
      | true ↦ refl
      | false ↦ refl
    ])

pub kept_at : (token : List ℕ) (rows : Rows) (c : Content) (kept : List (List ℕ × Receipt)) → Means rows c
    → kept ≡ receipts_at token rows → last_kept kept ≡ get c.receipts token
kept_at token rows c kept means is =
    ap last_kept is ∙ ap (λ o. fold (λ _ (p : List ℕ × Receipt). Some p.1) o (receipts_at token rows))
    (sym (get-empty (slice_cmp nat_cmp) token)) ∙ sym (kept_from token rows.receipts empty)
    ∙ ap (λ m. get m token) (sym means.receipts)

-- ---- the slip of a number
row_first : (n : ℕ) (ss : List SlipRow) (s : SlipRow) → filter (λ (s : SlipRow). s.no == n) ss ≡ s ∷ []
    → (slip_row_at n ss ≡ Some s) × (s.no ≡ n)
row_first n [] s e = absurd cc
row_first n (x ∷ xs) s e =
    elim (x.no == n) as (λ b. (x.no == n) ≡ b → cond b (x ∷ filter (λ (s : SlipRow). s.no == n) xs)
    (filter (λ (s : SlipRow). s.no == n) xs) ≡ s ∷ []
    → (cond b (Some x) (slip_row_at n xs) ≡ Some s) × (s.no ≡ n)) [
      | true ↦ λ here one. let same : x ≡ s = cc in
          (ap Some same, subst (λ (y : SlipRow). y.no ≡ n) same (it x.no n here))
      | false ↦ λ off one. row_first n xs s one
    ] refl e

row_none : (n : ℕ) (ss : List SlipRow) → filter (λ (s : SlipRow). s.no == n) ss ≡ [] → slip_row_at n ss ≡ None
row_none n [] e = refl
row_none n (x ∷ xs) e =
    elim (x.no == n) as (λ b. cond b (x ∷ filter (λ (s : SlipRow). s.no == n) xs)
    (filter (λ (s : SlipRow). s.no == n) xs) ≡ [] → cond b (Some x) (slip_row_at n xs) ≡ None) [
      | true ↦ λ none. absurd cc
      | false ↦ λ none. row_none n xs none
    ] e

unpaired : (n : ℕ) (ls : List SideLine) → side_lines_in (map (λ l. (n, l)) ls) ≡ ls
unpaired n [] = refl
unpaired n (l ∷ ls) = ap (λ ks. l ∷ ks) (unpaired n ls)

packs_read : (ss : List SlipPackRow) → side_lines_in (flat_map lines_in_pack (map read_slip_pack ss))
    ≡ flat_map (λ (s : SlipPackRow). lines_in_side s.side) ss
packs_read [] = refl
packs_read (s ∷ ss) =
    let rest = flat_map lines_in_pack (map read_slip_pack ss) in
    map-append (λ r. r.1) (lines_in_pack (read_slip_pack s)) rest
    ∙ ap₂ (λ (ks ls : List SideLine). ks ++ ls) (unpaired s.slip (lines_in_side s.side)) (packs_read ss)

lines_read : (n : ℕ) (rows : Rows) → side_lines_in (slip_lines_at n rows) ≡ slip_lines_of n rows
lines_read n rows =
    let lines = filter (λ (s : SlipLineRow). s.slip == n) rows.slip_lines in
    let packs = filter (λ (s : SlipPackRow). s.slip == n) rows.slip_packs in
    map-append (λ r. r.1) (map read_slip_line lines) (flat_map lines_in_pack (map read_slip_pack packs))
    ∙ ap₂ (λ (ks ls : List SideLine). ks ++ ls) (map-map _ read_slip_line lines) (packs_read packs)

pub slip_none : (n : ℕ) (rows : Rows) (c : Content) → Means rows c → slips_at n rows ≡ [] → None ≡ get c.slips n
slip_none n rows c means none = one_slip n (slip_row_at n rows.slips) (slip_lines_of n rows) None (get c.slips n)
    (row_none n rows.slips none) (means.slips n)

pub slip_some : (n : ℕ) (rows : Rows) (c : Content) (row : SlipRow) (slip : Slip) → Means rows c
    → slips_at n rows ≡ row ∷ [] → row ≡ slip_row row.no slip → slip_lines_of n rows
    ≡ flat_map change_lines slip.changes → Some slip ≡ get c.slips n
slip_some n rows c row slip means one is changes =
    let first = row_first n rows.slips row one in
    one_slip n (slip_row_at n rows.slips) (slip_lines_of n rows) (Some slip) (get c.slips n)
    (first.0 ∙ ap Some (is ∙ ap (λ k. slip_row k slip) first.1), changes) (means.slips n)

pub slip_bad : (n : ℕ) (rows : Rows) (row : SlipRow) → slips_at n rows ≡ row ∷ [] → NoChanges (slip_lines_of n rows)
    → AreReadable rows → ⊥
slip_bad n rows row one bad readable = go (get readable.0.slips n) (λ s. readable.2.slips n s) (readable.1.slips n)
  where
    go : (found : Option Slip) → ((s : Slip) → found ≡ Some s → IsShallowSlip s) → IsSlipAt rows n found → ⊥
    go None shallow absent = let no : None ≡ Some row = sym absent ∙ (row_first n rows.slips row one).0 in absurd cc
    go (Some s) shallow is = bad s.changes (shallow s refl) is.1

pub lines_seen : (n : ℕ) (rows : Rows) (lines : List (ℕ × (Bool × (ℕ × (ℕ × Label))))) → lines ≡ slip_lines_at n rows
    → side_lines_in lines ≡ slip_lines_of n rows
lines_seen n rows lines is = ap side_lines_in is ∙ lines_read n rows

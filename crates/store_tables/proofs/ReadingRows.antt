-- Rows that a query shows, what they are read as, and calls that read one after the other.
use Rattle.std.proofs.Common.{
  ◌≡◌,
  ◌⊎◌,
  inl,
  inr,
  ℕ,
  ◌<◌,
  Bool,
  true,
  List,
  [],
  ◌∷◌,
  map,
  Result,
  Ok,
  Err,
  IfOk,
  IfErr,
  refl,
  sym,
  ap,
  ap₂,
  subst,
  arith,
}
use Rattle.std.specs.List.{list_all, AllByRecursion}
use Rattle.std.specs.Str.{IsAscii, IsUtf8}
use Rattle.std.proofs.lemmas.Bool.Decides.{nat_tests}
use Rattle.std.proofs.lemmas.Str.{IsUtf8-from_ascii}
use Rattle.std.proofs.lemmas.Str.Ascii.{IsAscii-nil, IsAscii-cons}
use Rattle.std.proofs.lemmas.Bool.{and_parts}
use Rattle.std.proofs.lemmas.Result.{IfErr-weaker}
use Rattle.sqlite.specs.Order.{Row}
use Rattle.sqlite.specs.State.{State, HasCleanDisk, Shown}
use Rattle.record_text.specs.declared.refusal.RefusalKind.{RefusalKind}
use Rattle.record_text.specs.Text.{IsTag, is_word}
use Rattle.receipts.specs.Tokens.{IsToken, is_printable}
use Rattle.store_tables.specs.Calls.{Settled, LeavesOnly}
use Rattle.store_tables.specs.Conversion.{IsReadAs, ShowsTyped, EachWith}
use Rattle.store_tables.specs.Looking.{IsFailure, Looks}
use Rattle.store_tables.specs.Reading.{
  AreTyped,
  ReadRows,
  read_of,
  read_record,
  read_line,
  read_pack,
  read_receipt,
  read_sides,
}
use Rattle.store_tables.specs.Rows.{Rows}
use Rattle.store_tables.proofs.Calls.{if_ok}

-- ---- tags and tokens are UTF-8
ascii_of : (p : ℕ → Bool) → ((b : ℕ) → p b ≡ true → b < 128) → (bs : List ℕ) → list_all p bs ≡ true → IsAscii bs
ascii_of p low [] h = IsAscii-nil
ascii_of p low (b ∷ bs) h = let parts = and_parts (p b) (list_all p bs) h in
    IsAscii-cons b bs (low b parts.0) (ascii_of p low bs parts.1)

low_word : (b : ℕ) → is_word b ≡ true → b < 128
low_word b h = grind (arith, nat_tests, h)

low_printable : (b : ℕ) → is_printable b ≡ true → b < 128
low_printable b h = grind (arith, nat_tests, h)

pub tag_utf8 : (t : List ℕ) → IsTag t → IsUtf8 t
tag_utf8 t is = IsUtf8-from_ascii t (ascii_of is_word low_word t is.words)

pub token_utf8 : (t : List ℕ) → IsToken t → IsUtf8 t
token_utf8 t is = IsUtf8-from_ascii t (ascii_of is_printable low_printable t is.printed)

-- ---- the rows of a table
pub each_is : {X Y : Type 0} (shown : X → Row) (read : X → Y) (Shows : Row → Y → Type 0) (xs : List X) (ys : List Y)
    → EachWith (IsReadAs shown read Shows) (map shown xs) ys → ys ≡ map read xs
each_is shown read Shows [] [] h = refl
each_is shown read Shows [] (y ∷ ys) h = absurd h
each_is shown read Shows (x ∷ xs) [] h = absurd h
each_is shown read Shows (x ∷ xs) (y ∷ ys) h =
    ap₂ (λ z zs. z ∷ zs) (h.0.0 x refl) (each_is shown read Shows xs ys h.1)

pub all_typed : {X : Type 0} (shown : X → Row) (IsTyped : X → Type 0) (xs : List X) → AllByRecursion IsTyped xs
    → AllByRecursion (ShowsTyped shown IsTyped) (map shown xs)
all_typed shown IsTyped [] h = tt
all_typed shown IsTyped (x ∷ xs) h = ((x, refl, h.0), all_typed shown IsTyped xs h.1)

pub map_same : {X : Type 0} (xs : List X) → map (λ x. x) xs ≡ xs
map_same [] = refl
map_same (x ∷ xs) = ap (λ ys. x ∷ ys) (map_same xs)

-- a query that shows the rows of a table, each of which is read as what it is
module _ {X Y A : Type 0} (shown : X → Row) (read : X → Y) (Shows : Row → Y → Type 0) (IsTyped : X → Type 0)
    (items : A → List Y) (sql : List ℕ) (params : Row) (old new : State) (result : Result A RefusalKind)
    (rows_of : Rows → List X) (shows : (rows : Rows) → Settled old rows → (all : List Row)
    → Shown sql params old new all → all ≡ map shown (rows_of rows))
    (typed : (rows : Rows) → AreTyped rows → AllByRecursion IsTyped (rows_of rows)) where
  abbrev Reads : Type 0
  Reads = HasCleanDisk new → IfOk result (λ a. (all : List Row) × Shown sql params old new all
      × EachWith (IsReadAs shown read Shows) all (items a))

  abbrev Refuses : Type 0
  Refuses = HasCleanDisk new
      → IfErr result (λ kind. IsFailure kind
      ⊎ ((all : List Row) × Shown sql params old new all × ¬ (AllByRecursion (ShowsTyped shown IsTyped) all)))

  reads_all : Reads → HasCleanDisk new
      → IfOk result (λ a. (rows : Rows) → Settled old rows → items a ≡ map read (rows_of rows))
  reads_all h clean = if_ok result (λ a was rows settled. each_is shown read Shows (rows_of rows) (items a)
      (subst (λ all. EachWith (IsReadAs shown read Shows) all (items a)) (shows rows settled was.0 was.1) was.2))
      (h clean)

  only_fails : (kind : RefusalKind) (rows : Rows) → Settled old rows → IsFailure kind
      ⊎ ((all : List Row) × Shown sql params old new all × ¬ (AllByRecursion (ShowsTyped shown IsTyped) all))
      → IsFailure kind
  only_fails kind rows settled (inl failed) = failed
  only_fails kind rows settled (inr was) =
      absurd (was.2 (subst (AllByRecursion (ShowsTyped shown IsTyped)) (sym (shows rows settled was.0 was.1))
      (all_typed shown IsTyped (rows_of rows) (typed rows settled.good.typed))))

  pub looks_all : Reads → Refuses
      → (HasCleanDisk new → IfOk result (λ _. (rows : Rows) → Settled old rows → Settled new rows))
      → (HasCleanDisk new → (rows : Rows) → Settled old rows → LeavesOnly new rows)
      → (HasCleanDisk new → HasCleanDisk old)
      → Looks (λ rows a. items a ≡ map read (rows_of rows)) old new result
  looks_all reads refuses same crash clean = record {
    read = reads_all reads;
    same = same;
    refused = λ is_clean. IfErr-weaker result _ _ (λ kind why rows settled. only_fails kind rows settled why)
        (refuses is_clean);
    crash = crash;
    clean = clean;
  }

-- ---- one call after the other
pub looks_as : {A : Type 0} {P Q : Rows → A → Type 0} {old new : State} (result : Result A RefusalKind)
    → ((rows : Rows) (a : A) → P rows a → Q rows a) → Looks P old new result → Looks Q old new result
looks_as result f h = record {
  read = λ clean. if_ok result (λ a is rows was. f rows a (is rows was)) (h.read clean);
  same = h.same;
  refused = h.refused;
  crash = h.crash;
  clean = h.clean;
}

-- the same, where what the tables keep is needed
pub looks_where : {A : Type 0} {P Q : Rows → A → Type 0} {old new : State} (result : Result A RefusalKind)
    → ((rows : Rows) → Settled old rows → (a : A) → P rows a → Q rows a) → Looks P old new result
    → Looks Q old new result
looks_where result f h = record {
  read = λ clean. if_ok result (λ a is rows was. f rows was a (is rows was))
      (h.read clean);
  same = h.same;
  refused = h.refused;
  crash = h.crash;
  clean = h.clean;
}

looks_err : {A B : Type 0} {P : Rows → A → Type 0} {Q : Rows → B → Type 0} {old new : State} {kind : RefusalKind}
    → Looks P old new (Err kind) → Looks Q old new (Err kind)
looks_err h = record { read = λ clean. tt; same = λ clean. tt; refused = h.refused; crash = h.crash; clean = h.clean }

pub looks_then : {A B : Type 0} {P : Rows → A → Type 0} {Q : Rows → B → Type 0} {old mid new : State} {a : A}
    {result : Result B RefusalKind}
    → Looks P old mid (Ok a) → Looks Q mid new result → Looks (λ rows b. P rows a × Q rows b) old new result
looks_then {result = result} h k = record {
  read = λ clean. if_ok result
      (λ b is rows was. (h.read (k.clean clean) rows was, is rows (h.same (k.clean clean) rows was))) (k.read clean);
  same = λ clean. if_ok result (λ b is rows was. is rows (h.same (k.clean clean) rows was)) (k.same clean);
  refused = λ clean. IfErr-weaker result _ _ (λ kind is rows was. is rows (h.same (k.clean clean) rows was))
      (k.refused clean);
  crash = λ clean rows was. k.crash clean rows (h.same (k.clean clean) rows was);
  clean = λ clean. h.clean (k.clean clean);
}

pub looks_lost : {A B C : Type 0} {P : Rows → A → Type 0} {Q : Rows → B → Type 0} {R : Rows → C
    → Type 0} {old mid new : State} {a : A} {kind : RefusalKind} (result : Result C RefusalKind) → result ≡ Err kind
    → Looks P old mid (Ok a) → Looks Q mid new (Err kind) → Looks R old new result
looks_lost {R = R} {old = old} {new = new} result is h k = subst (Looks R old new) (sym is) (looks_err (looks_then h k))

-- a step that takes what was read, and reads nothing
pub looks_with : {A B : Type 0} {P : Rows → A → Type 0} {Q : Rows → B → Type 0} {old new : State} {a : A}
    (result : Result B RefusalKind) → Looks P old new (Ok a)
    → IfOk result (λ b. (rows : Rows) → P rows a → Q rows b)
    → IfErr result (λ kind. (rows : Rows) → P rows a → IsFailure kind) → Looks Q old new result
looks_with result h ok err = record {
  read = λ clean. if_ok result (λ b is rows was. is rows (h.read clean rows was)) ok;
  same = λ clean. if_ok result (λ b is. h.same clean) ok;
  refused = λ clean. IfErr-weaker result _ _ (λ kind is rows was. is rows (h.read clean rows was)) err;
  crash = h.crash;
  clean = h.clean;
}

-- all that is read, part by part
pub read_whole : (rows : Rows) (read : ReadRows) → read.next ≡ rows.next → (read.batches ≡ rows.batches)
    × (read.records ≡ map read_record rows.records)
    → (read.lines ≡ map read_line rows.lines) × (read.packs ≡ map read_pack rows.packs)
    → (read.receipts ≡ map read_receipt rows.receipts) × (read.slips ≡ rows.slips)
    × (read.slip_lines ≡ read_sides rows) → read ≡ read_of rows
read_whole rows read next first lines second =
    let parts : ReadRows = record {
      next = read.next;
      batches = read.batches;
      records = read.records;
      lines = read.lines;
      packs = read.packs;
      receipts = read.receipts;
      slips = read.slips;
      slip_lines = read.slip_lines;
    } in
    let same : parts ≡ read_of rows = rw (next, first.0, first.1, lines.0, lines.1, second.0, second.1, second.2) in
    same

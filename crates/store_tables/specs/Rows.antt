-- What the tables of an archive hold, as plain lists: one record for each row. The tables are those of our own schema.
use Rattle.std.specs.Prelude.{
  ◌<◌,
  ◌==◌,
  ◌&&◌,
  ◌+◌,
  ◌*◌,
  ◌^◌,
  ◌-ℤ◌,
  ◌+ℤ◌,
  ◌<ℤ◌,
  not,
  true,
  false,
  Bool,
  [],
  ◌∷◌,
  ◌++◌,
  ◌≡◌,
  map,
  filter,
  fold,
  flat_map,
  cond,
  nat_lt,
  Some,
  None,
  Option,
  List,
  ℕ,
  ℤ,
  pos,
}
use Rattle.std.specs.Ordering.{match_ordering, nat_cmp, ordering_then}
use Rattle.std.specs.declared.cmp.Ordering.{Ordering}
use Rattle.sqlite.specs.declared.types.Value.{Value}
use Rattle.sqlite.specs.declared.types.Value.TheVariants.{Null, Int, Text as Words, Blob}
use Rattle.sqlite.specs.Order.{Row}
use Rattle.sqlite.specs.Tree.{Trees, IsAscending}
use Rattle.stored_lines.specs.Line.{Label}
use Rattle.packed_rows.specs.Packed.{packed}
use Rattle.receipts.specs.declared.answer.Receipt.{Receipt}

pub record BatchRow : Type 0 where
  pub no : ℕ
  pub is_open : Bool

-- the kind is a word
pub record RecordRow : Type 0 where
  pub no : ℕ
  pub kind : List ℕ
  pub batch : ℕ

-- a stored line of a record, at its place among the record's lines: a row of the first schema
pub record LineRow : Type 0 where
  pub id : ℕ
  pub no : ℕ
  pub at : ℕ
  pub line : ℕ × Label

-- all stored lines of a record: a row of the second schema
pub record PackRow : Type 0 where
  pub no : ℕ
  pub lines : List (ℕ × Label)

pub record ReceiptRow : Type 0 where
  pub id : ℕ
  pub token : List ℕ
  pub receipt : Receipt

pub record SlipRow : Type 0 where
  pub no : ℕ
  pub keep : ℕ
  pub gone : ℕ
  pub is_undone : Bool

-- a stored line of the record that a number had before a merge (the old side), or has after it: a row of the first
-- schema
pub record SlipLineRow : Type 0 where
  pub id : ℕ
  pub slip : ℕ
  pub is_new : Bool
  pub no : ℕ
  pub at : ℕ
  pub line : ℕ × Label

-- one side of a changed number of a slip: whether it is the new one, the number, and all stored lines of its record
abbrev pub SlipSide : Type 0
SlipSide = Bool × (ℕ × List (ℕ × Label))

-- such a side, at its place among those of its slip: a row of the second schema
pub record SlipPackRow : Type 0 where
  pub slip : ℕ
  pub place : ℕ
  pub side : SlipSide

-- the days that the date of a record may mean: the first and the last one, from 1970-01-01, day 0
pub record SpanRow : Type 0 where
  pub no : ℕ
  pub lo : Option ℤ
  pub hi : Option ℤ

-- a number that a record names, and the record
pub record LinkRow : Type 0 where
  pub target : ℕ
  pub no : ℕ

-- what a record is looked for by: a text, and the number of another record where it goes with it
pub record SoughtRow : Type 0 where
  pub no : ℕ
  pub text : List ℕ
  pub target : Option ℕ

-- a record as it was before a request: its number, the token of the request, and the text of all its stored lines.
-- Whoever wrote the row, each is what the column may have, so that no row makes tables bad
pub record PastRow : Type 0 where
  pub id : ℤ
  pub no : ℤ
  pub token : List ℕ
  pub text : List ℕ

-- the version that `meta` shows, whether the schema is the second one, which has packs, spans, links and what is looked
-- for, and no lines in rows of their own, neither of records nor of slips, the next number, the society, and the rows
-- of each table in the order of their keys
pub record Rows : Type 0 where
  pub version : ℕ
  pub has_spans : Bool
  pub next : ℕ
  pub society : List ℕ
  pub batches : List BatchRow
  pub records : List RecordRow
  pub lines : List LineRow
  pub packs : List PackRow
  pub receipts : List ReceiptRow
  pub slips : List SlipRow
  pub slip_lines : List SlipLineRow
  pub slip_packs : List SlipPackRow
  pub spans : List SpanRow
  pub links : List LinkRow
  pub soughts : List SoughtRow
  pub pasts : List PastRow

-- ---- the values of a row: first its key, and again nothing in the key's own column
abbrev pub number_or_null : Option ℕ → Value
number_or_null None = Null
number_or_null (Some n) = Int (pos n)

abbrev pub words_or_null : Option (List ℕ) → Value
words_or_null None = Null
words_or_null (Some t) = Words t

abbrev pub day_or_null : Option ℤ → Value
day_or_null None = Null
day_or_null (Some day) = Int day

abbrev pub flag : Bool → ℕ
flag false = 0
flag true = 1

abbrev pub meta_values : Rows → Row
meta_values rows = Int (pos 1) ∷ Null ∷ Int (pos rows.version) ∷ Int (pos rows.next) ∷ Words rows.society ∷ []

abbrev pub batch_values : BatchRow → Row
batch_values b = Int (pos b.no) ∷ Null ∷ Int (pos (flag b.is_open)) ∷ []

abbrev pub record_values : RecordRow → Row
record_values r = Int (pos r.no) ∷ Null ∷ Words r.kind ∷ Int (pos r.batch) ∷ []

-- what a stored line has: its depth, its tag, its text and the number of the record that it names
abbrev pub line_fields : ℕ × Label → Row
line_fields l = Int (pos l.0) ∷ Words l.1.tag ∷ words_or_null l.1.text ∷ number_or_null l.1.target ∷ []

abbrev pub line_values : LineRow → Row
line_values l = Int (pos l.id) ∷ Null ∷ Int (pos l.no) ∷ Int (pos l.at) ∷ line_fields l.line

-- what a row shows beside the text of all lines: the tag of the first one, and the number that it names
abbrev pub first_tag : List (ℕ × Label) → List ℕ
first_tag [] = []
first_tag (l ∷ ls) = l.1.tag

abbrev pub first_target : List (ℕ × Label) → Option ℕ
first_target [] = None
first_target (l ∷ ls) = l.1.target

-- the first line stands at place 0 and depth 0, and all that it does not show is in the text
abbrev pub pack_values : PackRow → Row
pack_values p = Int (pos p.no) ∷ Null ∷ Int (pos 0) ∷ Int (pos 0) ∷ Words (first_tag p.lines) ∷ Words (packed p.lines)
    ∷ number_or_null (first_target p.lines) ∷ []

abbrev pub receipt_fields : Receipt → Row
receipt_fields r = Blob r.digest ∷ Int (pos r.answer.first) ∷ Int (pos r.answer.count) ∷ []

abbrev pub receipt_values : ReceiptRow → Row
receipt_values r = Int (pos r.id) ∷ Null ∷ Words r.token ∷ receipt_fields r.receipt

abbrev pub slip_values : SlipRow → Row
slip_values s = Int (pos s.no) ∷ Null ∷ Int (pos s.keep) ∷ Int (pos s.gone) ∷ Int (pos (flag s.is_undone)) ∷ []

abbrev pub slip_line_values : SlipLineRow → Row
slip_line_values s = Int (pos s.id) ∷ Null ∷ Int (pos s.slip) ∷ Int (pos (flag s.is_new)) ∷ Int (pos s.no) ∷ Int
    (pos s.at) ∷ line_fields s.line

-- the first line of a side stands at place 0 and depth 0, too
abbrev pub side_fields : SlipSide → Row
side_fields s = Int (pos (flag s.0)) ∷ Int (pos s.1.0) ∷ Int (pos 0) ∷ Int (pos 0) ∷ Words (first_tag s.1.1)
    ∷ Words (packed s.1.1) ∷ number_or_null (first_target s.1.1) ∷ []

abbrev pub span_values : SpanRow → Row
span_values s = Int (pos s.no) ∷ Null ∷ day_or_null s.lo ∷ day_or_null s.hi ∷ []

-- a pair's place among all pairs of numbers of 32 bits
abbrev pub pair_place : ℕ → ℕ → ℕ
pair_place target n = target * 2 ^ 32 + n

abbrev pub link_place : LinkRow → ℕ
link_place l = pair_place l.target l.no

-- the integer of 64 bits at a place of their order
abbrev pub integer_at : ℕ → ℤ
integer_at place = pos place -ℤ pos (2 ^ 63)

abbrev pub link_values : LinkRow → Row
link_values l = Int (integer_at (link_place l)) ∷ Null ∷ []

-- the place of a side among those of all slips
abbrev pub slip_place : SlipPackRow → ℕ
slip_place s = pair_place s.slip s.place

abbrev pub slip_pack_values : SlipPackRow → Row
slip_pack_values s = Int (integer_at (slip_place s)) ∷ Null ∷ Int (pos s.slip) ∷ side_fields s.side

abbrev pub sought_values : SoughtRow → Row
sought_values s = Int (pos s.no) ∷ Null ∷ Words s.text ∷ number_or_null s.target ∷ []

abbrev pub past_values : PastRow → Row
past_values p = Int p.id ∷ Null ∷ Int p.no ∷ Words p.token ∷ Words p.text ∷ []

-- ---- that trees hold the rows
-- the rows of a tree are those of the items, whose keys ascend
pub record Keeps {X : Type 0} (values : X → Row) (key : X → ℕ) (xs : List X) (tree : List Row) : Type 0 where
  pub is : tree ≡ map values xs
  pub rise : IsAscending (λ a b. key a < key b) xs

-- the rows of the tables that only the second schema has
pub record KeepsLater (packs : List PackRow) (spans : List SpanRow) (links : List LinkRow) (soughts : List SoughtRow)
    (t : Trees) : Type 0 where
  pub packs_kept : Keeps pack_values (λ (p : PackRow). p.no) packs (t 11)
  pub spans_kept : Keeps span_values (λ (s : SpanRow). s.no) spans (t 12)
  pub links_kept : Keeps link_values link_place links (t 13)
  pub soughts_kept : Keeps sought_values (λ (s : SoughtRow). s.no) soughts (t 14)

-- the rows of the tables that one schema has and the other has not: the first one has lines, the second one the others
abbrev pub HoldsOwn : Bool → List LineRow → List PackRow → List SpanRow → List LinkRow → List SoughtRow → Trees → Type 0
HoldsOwn false lines packs spans links soughts t =
    Keeps line_values (λ (l : LineRow). l.id) lines (t 3) × (packs ≡ []) × (spans ≡ []) × (links ≡ [])
    × (soughts ≡ [])
HoldsOwn true lines packs spans links soughts t = (lines ≡ []) × KeepsLater packs spans links soughts t

-- the same of the sides of slips: the first schema has lines of them in rows of their own
abbrev pub HoldsSides : Bool → List SlipLineRow → List SlipPackRow → Trees → Type 0
HoldsSides false lines packs t = Keeps slip_line_values (λ (s : SlipLineRow). s.id) lines (t 6) × (packs ≡ [])
HoldsSides true lines packs t = (lines ≡ []) × Keeps slip_pack_values slip_place packs (t 10)

-- the rows of a table whose keys may be any integers
pub record KeepsPasts (pasts : List PastRow) (tree : List Row) : Type 0 where
  pub is : tree ≡ map past_values pasts
  pub rise : IsAscending (λ (a b : PastRow). a.id <ℤ b.id) pasts

-- the values of before, of which only the second schema has a table
abbrev pub HoldsPasts : Bool → List PastRow → Trees → Type 0
HoldsPasts false pasts t = pasts ≡ []
HoldsPasts true pasts t = KeepsPasts pasts (t 15)

pub record Holds (rows : Rows) (t : Trees) : Type 0 where
  pub meta : t 0 ≡ meta_values rows ∷ []
  pub batches : Keeps batch_values (λ (b : BatchRow). b.no) rows.batches (t 1)
  pub records : Keeps record_values (λ (r : RecordRow). r.no) rows.records (t 2)
  pub receipts : Keeps receipt_values (λ (r : ReceiptRow). r.id) rows.receipts (t 4)
  pub slips : Keeps slip_values (λ (s : SlipRow). s.no) rows.slips (t 5)
  pub sides : HoldsSides rows.has_spans rows.slip_lines rows.slip_packs t
  pub own : HoldsOwn rows.has_spans rows.lines rows.packs rows.spans rows.links rows.soughts t
  pub pasts : HoldsPasts rows.has_spans rows.pasts t

-- ---- what one call makes of the rows
-- the key of a row that gets the next one: one above the last
abbrev pub next_key : {X : Type 0} → (X → ℕ) → List X → ℕ
next_key key = fold (λ _ x. key x + 1) 1

-- an item in the order of the keys, in place of one with its key
abbrev pub put_by : {X : Type 0} → (X → ℕ) → X → List X → List X
put_by key p [] = p ∷ []
put_by key p (q ∷ qs) = match_ordering (nat_cmp (key q) (key p)) (q ∷ put_by key p qs) (p ∷ qs) (p ∷ q ∷ qs)

abbrev pub with_next : ℕ → Rows → Rows
with_next n rows = record rows { next = n }

abbrev pub with_batch : ℕ → Bool → Rows → Rows
with_batch n is_open rows =
    record rows { batches = put_by (λ (b : BatchRow). b.no) (record { no = n; is_open = is_open }) rows.batches }

-- a batch, closed where it has this number
abbrev pub closed_at : ℕ → BatchRow → BatchRow
closed_at n b = cond (b.no == n) (record b { is_open = false }) b

abbrev pub with_closed : ℕ → Rows → Rows
with_closed n rows = record rows { batches = map (closed_at n) rows.batches }

abbrev pub without_batch_row : ℕ → Rows → Rows
without_batch_row n rows = record rows { batches = filter (λ (b : BatchRow). not (b.no == n)) rows.batches }

abbrev pub with_record_row : ℕ → List ℕ → ℕ → Rows → Rows
with_record_row n kind batch rows =
    record rows {
      records = put_by (λ (r : RecordRow). r.no)
          (record { no = n; kind = kind; batch = batch }) rows.records;
    }

-- the row of a number in `record`, changed, where it is there
abbrev pub record_at : ℕ → List ℕ → ℕ → Rows → Rows
record_at n kind batch rows =
    record rows {
      records = map (λ (r : RecordRow). cond (r.no == n) (record r { kind = kind; batch = batch }) r)
          rows.records;
    }

abbrev pub without_record_row : ℕ → Rows → Rows
without_record_row n rows = record rows { records = filter (λ (r : RecordRow). not (r.no == n)) rows.records }

-- all lines of a number, in place of those of its row
abbrev pub with_pack : ℕ → List (ℕ × Label) → Rows → Rows
with_pack n ls rows =
    record rows { packs = put_by (λ (p : PackRow). p.no) (record { no = n; lines = ls }) rows.packs }

-- no rows of a number with lines
abbrev pub without_lines : ℕ → Rows → Rows
without_lines n rows =
    record rows {
      lines = filter (λ (l : LineRow). not (l.no == n)) rows.lines;
      packs = filter (λ (p : PackRow). not (p.no == n)) rows.packs;
    }

-- a line of a number, at a place or after it
abbrev pub is_line_from : ℕ → ℕ → LineRow → Bool
is_line_from n at l = (l.no == n) && not (nat_lt l.at at)

-- the lines of a number in one row, which stands at place 0
abbrev pub is_pack_from : ℕ → ℕ → PackRow → Bool
is_pack_from n at p = (p.no == n) && not (nat_lt 0 at)

abbrev pub without_lines_from : ℕ → ℕ → Rows → Rows
without_lines_from n at rows =
    record rows {
      lines = filter (λ l. not (is_line_from n at l)) rows.lines;
      packs = filter (λ p. not (is_pack_from n at p)) rows.packs;
    }

abbrev pub with_receipt : List ℕ → Receipt → Rows → Rows
with_receipt token receipt rows =
    record rows {
      receipts = rows.receipts ++ record {
        id = next_key (λ (r : ReceiptRow). r.id) rows.receipts;
        token = token;
        receipt = receipt;
      } ∷ [];
    }

abbrev pub with_slip_row : ℕ → ℕ → ℕ → Bool → Rows → Rows
with_slip_row n keep gone is_undone rows =
    record rows {
      slips = put_by (λ (s : SlipRow). s.no)
          (record { no = n; keep = keep; gone = gone; is_undone = is_undone }) rows.slips;
    }

-- the slip of a number is undone, where there is one
abbrev pub undone_at : ℕ → SlipRow → SlipRow
undone_at n s = cond (s.no == n) (record s { is_undone = true }) s

abbrev pub with_undone : ℕ → Rows → Rows
with_undone n rows = record rows { slips = map (undone_at n) rows.slips }

-- the lines of a record, in place of those that it had
abbrev pub with_changed_lines : ℕ → List (ℕ × Label) → Rows → Rows
with_changed_lines n ls rows = with_pack n ls (without_lines n rows)

-- a span in the order of the numbers, in place of one of its number
abbrev pub with_span : ℕ → Option ℤ → Option ℤ → Rows → Rows
with_span n lo hi rows =
    record rows { spans = put_by (λ (s : SpanRow). s.no) (record { no = n; lo = lo; hi = hi }) rows.spans }

abbrev pub without_span : ℕ → Rows → Rows
without_span n rows = record rows { spans = filter (λ (s : SpanRow). not (s.no == n)) rows.spans }

-- pairs are in the order of the number that is named, and then in that of the record
abbrev pub pair_cmp : LinkRow → LinkRow → Ordering
pair_cmp l m = ordering_then (nat_cmp l.target m.target) (nat_cmp l.no m.no)

-- a pair in this order, once
abbrev pub put_pair : LinkRow → List LinkRow → List LinkRow
put_pair l [] = l ∷ []
put_pair l (m ∷ ms) = match_ordering (pair_cmp m l) (m ∷ put_pair l ms) (l ∷ ms) (l ∷ m ∷ ms)

abbrev pub with_link : ℕ → ℕ → Rows → Rows
with_link target n rows = record rows { links = put_pair (record { target = target; no = n }) rows.links }

abbrev pub is_pair : ℕ → ℕ → LinkRow → Bool
is_pair target n l = (l.target == target) && (l.no == n)

abbrev pub without_link : ℕ → ℕ → Rows → Rows
without_link target n rows = record rows { links = filter (λ l. not (is_pair target n l)) rows.links }

-- what a number is looked for by, in place of what it was looked for by before
abbrev pub with_sought : ℕ → List ℕ → Option ℕ → Rows → Rows
with_sought n text target rows =
    record rows {
      soughts = put_by (λ (s : SoughtRow). s.no)
          (record { no = n; text = text; target = target }) rows.soughts;
    }

abbrev pub without_sought : ℕ → Rows → Rows
without_sought n rows = record rows { soughts = filter (λ (s : SoughtRow). not (s.no == n)) rows.soughts }

-- the key of the next value of before: one above the last, or 1
abbrev pub next_past : List PastRow → ℤ
next_past = fold (λ _ p. p.id +ℤ pos 1) (pos 1)

-- the value of before of a number, after all others
abbrev pub with_past : ℕ → List ℕ → List ℕ → Rows → Rows
with_past n token text rows =
    record rows {
      pasts = rows.pasts ++ record {
        id = next_past rows.pasts;
        no = pos n;
        token = token;
        text = text;
      } ∷ [];
    }

-- ---- the second schema, made of the first one: its tables have no rows yet, and the lines are gone, those of slips
-- too; then `meta` shows its version
abbrev pub with_later_tables : Rows → Rows
with_later_tables rows = record rows { has_spans = true; lines = []; slip_lines = [] }

abbrev pub with_version : ℕ → Rows → Rows
with_version version rows = record rows { version = version }

-- what a new archive holds: only its meta row, and then batch 0, which is closed
abbrev pub bare : List ℕ → Rows
bare society = record {
  version = 2;
  has_spans = true;
  next = 1;
  society = society;
  batches = [];
  records = [];
  lines = [];
  packs = [];
  receipts = [];
  slips = [];
  slip_lines = [];
  slip_packs = [];
  spans = [];
  links = [];
  soughts = [];
  pasts = [];
}

abbrev pub nothing_yet : List ℕ → Rows
nothing_yet society = with_batch 0 false (bare society)

-- a new archive is one of the first version while it is made
abbrev pub bare_first : List ℕ → Rows
bare_first society = record (bare society) { version = 1; has_spans = false }

-- ---- what is read of the rows: the stored lines of a number, of which one schema has them in rows of their own and
-- the other in one row, and those of a slip, each with its side and its number
abbrev pub lines_of : ℕ → Rows → List (ℕ × Label)
lines_of n rows = map (λ (l : LineRow). l.line) (filter (λ (l : LineRow). l.no == n) rows.lines)
    ++ flat_map (λ (p : PackRow). p.lines) (filter (λ (p : PackRow). p.no == n) rows.packs)

abbrev pub slip_line_of : SlipLineRow → Bool × (ℕ × (ℕ × Label))
slip_line_of s = (s.is_new, (s.no, s.line))

-- the lines of a side
abbrev pub lines_in_side : SlipSide → List (Bool × (ℕ × (ℕ × Label)))
lines_in_side s = map (λ l. (s.0, (s.1.0, l))) s.1.1

abbrev pub slip_lines_of : ℕ → Rows → List (Bool × (ℕ × (ℕ × Label)))
slip_lines_of n rows = map slip_line_of (filter (λ (s : SlipLineRow). s.slip == n) rows.slip_lines)
    ++ flat_map (λ (s : SlipPackRow). lines_in_side s.side) (filter (λ (s : SlipPackRow). s.slip == n) rows.slip_packs)

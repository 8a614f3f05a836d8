-- The rows of one number or of one token, as they are read.
use Rattle.std.specs.Prelude.{
  ℕ,
  pos,
  ◌≡◌,
  ◌==◌,
  ◌&&◌,
  not,
  Bool,
  true,
  false,
  List,
  [],
  ◌∷◌,
  ◌++◌,
  map,
  filter,
  flat_map,
  cond,
  bytes_eq,
  Option,
  Some,
  None,
}
use Rattle.std.specs.List.{list_any}
use Rattle.std.specs.Ordering.{int_eq}
use Rattle.stored_lines.specs.Line.{Label}
use Rattle.receipts.specs.declared.answer.Receipt.{Receipt}
use Rattle.store_tables.specs.Rows.{
  Rows,
  BatchRow,
  RecordRow,
  PackRow,
  ReceiptRow,
  SlipRow,
  SlipLineRow,
  SlipPackRow,
  SlipSide,
  LinkRow,
  SoughtRow,
  PastRow,
  first_tag,
  lines_of,
}
use Rattle.store_tables.specs.Reading.{
  lines_in_pack,
  read_pack,
  read_record,
  read_receipt,
  read_slip_line,
  read_slip_pack,
}

-- the one item of a list, where it has one
abbrev pub IsOnly : {X : Type 0} → List X → Option X → Type 0
IsOnly xs None = xs ≡ []
IsOnly xs (Some x) = xs ≡ x ∷ []

abbrev pub batches_at : ℕ → Rows → List BatchRow
batches_at n rows = filter (λ (b : BatchRow). b.no == n) rows.batches

-- a number with its batch
abbrev pub records_at : ℕ → Rows → List (ℕ × ℕ)
records_at n rows = map read_record (filter (λ (r : RecordRow). r.no == n) rows.records)

-- what is kept under a token
abbrev pub receipts_at : List ℕ → Rows → List (List ℕ × Receipt)
receipts_at token rows = map read_receipt (filter (λ (r : ReceiptRow). bytes_eq r.token token) rows.receipts)

-- a number with all its lines
abbrev pub packs_at : ℕ → Rows → List (ℕ × List (ℕ × Label))
packs_at n rows = map read_pack (filter (λ (p : PackRow). p.no == n) rows.packs)

-- the lines of a number, where it has some
abbrev pub lines_within : Option (ℕ × List (ℕ × Label)) → List (ℕ × Label)
lines_within None = []
lines_within (Some p) = p.1

-- whether a batch of a number is there and closed
abbrev pub is_closed_at : ℕ → List BatchRow → Bool
is_closed_at n = list_any (λ (b : BatchRow). (b.no == n) && not b.is_open)

-- whether a number has a row that is of a closed batch
abbrev pub is_of_closed : ℕ → Rows → Bool
is_of_closed n rows = list_any (λ (r : RecordRow). (r.no == n) && is_closed_at r.batch rows.batches) rows.records

-- the row with all lines of a number, if the number has a row that is of a closed batch
abbrev pub closed_packs_at : ℕ → Rows → List PackRow
closed_packs_at n rows = cond (is_of_closed n rows) (filter (λ (p : PackRow). p.no == n) rows.packs) []

-- the lines of a number that has a row of a closed batch; nothing is found if it has no such row, or no lines
abbrev pub AreClosedLines : ℕ → Rows → Option (ℕ × List (ℕ × Label)) → Type 0
AreClosedLines n rows None = is_of_closed n rows ≡ true → lines_of n rows ≡ []
AreClosedLines n rows (Some p) = (is_of_closed n rows ≡ true) × (p.1 ≡ lines_of n rows)

abbrev pub slips_at : ℕ → Rows → List SlipRow
slips_at n rows = filter (λ (s : SlipRow). s.no == n) rows.slips

-- the sides of a slip
abbrev pub slip_packs_at : ℕ → Rows → List (ℕ × SlipSide)
slip_packs_at n rows = map read_slip_pack (filter (λ (s : SlipPackRow). s.slip == n) rows.slip_packs)

-- the lines of a slip
abbrev pub slip_lines_at : ℕ → Rows → List (ℕ × (Bool × (ℕ × (ℕ × Label))))
slip_lines_at n rows = map read_slip_line (filter (λ (s : SlipLineRow). s.slip == n) rows.slip_lines)
    ++ flat_map lines_in_pack (slip_packs_at n rows)

-- whether a number that may be missing is this one
abbrev pub is_number : ℕ → Option ℕ → Bool
is_number n None = false
is_number n (Some m) = m == n

-- the numbers whose first line has one of these tags, in the order of their rows
abbrev pub tagged_by : List (List ℕ) → Rows → List ℕ
tagged_by tags rows = map (λ (p : PackRow). p.no)
    (filter (λ (p : PackRow). list_any (bytes_eq (first_tag p.lines)) tags) rows.packs)

-- whether lines begin with one that has one of these tags
abbrev pub begin_with : List (List ℕ) → List (ℕ × Label) → Bool
begin_with tags [] = false
begin_with tags (l ∷ ls) = list_any (bytes_eq l.1.tag) tags

-- the numbers whose lines begin so, and no others
abbrev pub AreTagged : List (List ℕ) → Rows → List ℕ → Type 0
AreTagged tags rows numbers = (n : ℕ) → list_any (λ k. k == n) numbers ≡ begin_with tags (lines_of n rows)

-- the pairs of a number that is named, in the order of the records that name it
abbrev pub links_to : ℕ → Rows → List LinkRow
links_to n rows = filter (λ (l : LinkRow). l.target == n) rows.links

-- the numbers that are looked for by a text
abbrev pub sought_by : List ℕ → Rows → List ℕ
sought_by text rows = map (λ (s : SoughtRow). s.no) (filter (λ (s : SoughtRow). bytes_eq s.text text) rows.soughts)

-- the same of those where a number goes with it too
abbrev pub sought_by_of : List ℕ → ℕ → Rows → List ℕ
sought_by_of text n rows = map (λ (s : SoughtRow). s.no)
    (filter (λ (s : SoughtRow). bytes_eq s.text text && is_number n s.target) rows.soughts)

-- the values of before of a number, by their keys
abbrev pub pasts_at : ℕ → Rows → List PastRow
pasts_at n rows = filter (λ (p : PastRow). int_eq p.no (pos n)) rows.pasts

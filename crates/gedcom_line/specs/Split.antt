-- A text cut into parts that each stand on one line: at each LF, and where a segment is too long.
use Rattle.std.specs.Prelude.{
  ◌≡◌,
  ◌≢◌,
  ◌⊎◌,
  ℕ,
  zero,
  suc,
  ◌+◌,
  ◌-◌,
  ◌<◌,
  ◌≤◌,
  Bool,
  not,
  ◌&&◌,
  ◌||◌,
  ◌==◌,
  nat_le,
  nat_lt,
  if◌then◌else◌,
  List,
  [],
  ◌∷◌,
  ◌++◌,
  length,
  take,
  drop,
  slice_index,
  Option,
  Some,
  None,
  unwrap_or,
}
use Rattle.std.specs.List.{AllByRecursion, count_by, flat_map, join_with_byte, slice_split}
use Rattle.std.specs.Str.{IsCharBoundary}
use Rattle.gedcom_line.specs.Escape.{escaped}
use Rattle.gedcom_line.specs.declared.splitting.Mark.{Mark}
use Rattle.gedcom_line.specs.declared.splitting.Mark.TheVariants.{Conc, Cont}
use Rattle.gedcom_line.specs.declared.splitting.TextPart.{TextPart}

-- a byte that begins a character of UTF-8
abbrev pub begins_char : ℕ → Bool
begins_char b = nat_lt b 128 || nat_le 192 b

-- how many characters
unfoldable pub char_count : List ℕ → ℕ
char_count t = count_by begins_char t

-- how many bytes the first n characters have
abbrev pub front_len : ℕ → List ℕ → ℕ
front_len n [] = 0
front_len zero (b ∷ bs) = if begins_char b then 0 else 1 + front_len zero bs
front_len (suc n) (b ∷ bs) = 1 + front_len (if begins_char b then n else suc n) bs

-- as it is written it has at most 200 characters
abbrev pub IsShort : List ℕ → Type 0
IsShort t = char_count (escaped t) ≤ 200

-- a part of a segment, as its first p bytes: whole characters, with others after them, that have as they are written
-- at most 200 characters
pub record MayCut (s : List ℕ) (p : ℕ) : Type 0 where
  pub some : 0 < p
  pub more : p < length s
  pub whole : IsCharBoundary s p
  pub short : IsShort (take p s)

-- no space stands before the cut or after it
pub record IsGoodCut (s : List ℕ) (p : ℕ) : Type 0 where
  pub may : MayCut s p
  pub before : slice_index s (p - 1) ≢ 32
  pub after : slice_index s p ≢ 32

pub record IsGreatest (Holds : ℕ → Type 0) (k : ℕ) : Type 0 where
  pub holds : Holds k
  pub most : (j : ℕ) → Holds j → j ≤ k

-- the greatest good cut, or the greatest cut where none is good
abbrev pub IsCut : List ℕ → ℕ → Type 0
IsCut s p = IsGreatest (IsGoodCut s) p ⊎ (((j : ℕ) → ¬ (IsGoodCut s j)) × IsGreatest (MayCut s) p)

-- the parts of a segment: one where it is short, else what stands before the cut and the parts of the rest
abbrev pub Parts : List ℕ → List (List ℕ) → Type 0
Parts s [] = ⊥
Parts s (p ∷ []) = (s ≡ p) × IsShort s
Parts s (p ∷ q ∷ ps) = (200 < char_count (escaped s))
    × ((rest : List ℕ) × ((s ≡ p ++ rest) × (IsCut s (length p) × Parts rest (q ∷ ps))))

-- a part of a text, with how it is joined to what stands before it
pub record Part : Type 0 where
  pub mark : Mark
  pub text : List ℕ

abbrev pub part : TextPart → Part
part p = record { mark = p.mark; text = p.text.now }

-- the first part with the mark, the others with CONC
abbrev pub marked : Mark → List (List ℕ) → List Part
marked m [] = []
marked m (p ∷ ps) = record { mark = m; text = p } ∷ marked Conc ps

-- no character is LF
abbrev pub NoLf : List ℕ → Type 0
NoLf xs = (i : ℕ) → i < length xs → slice_index xs i ≢ 10

-- the parts of segments, one segment after another: the first part of each is marked CONT, and the others CONC
abbrev pub PartsOf : List (List ℕ) → List Part → Type 0
PartsOf [] ps = ps ≡ []
PartsOf (s ∷ ss) ps = (own : List (List ℕ))
    × (Parts s own × ((more : List Part) × ((ps ≡ marked Cont own ++ more) × PartsOf ss more)))

-- The parts of a text: it is one segment or more, without LF, joined by LF, and the parts are theirs. The first part
-- stands on the line itself, and its mark is not looked at.
pub record IsSplit (t : List ℕ) (ps : List Part) : Type 0 where
  pub segments : List (List ℕ)
  pub some : 0 < length segments
  pub whole : t ≡ join_with_byte 10 segments
  pub plain : AllByRecursion NoLf segments
  pub parts : PartsOf segments ps

-- the text of each part
abbrev pub EachPart : (List ℕ → Type 0) → List Part → Type 0
EachPart P [] = Unit {0}
EachPart P (x ∷ xs) = P x.text × EachPart P xs

-- what stands before a part in the text
abbrev pub between : Mark → List ℕ
between Conc = []
between Cont = 10 ∷ []

abbrev pub added : Part → List ℕ
added p = between p.mark ++ p.text

-- the texts of the parts, with a line end before each but the first that has a line of its own
abbrev pub joined : List Part → List ℕ
joined [] = []
joined (p ∷ ps) = p.text ++ flat_map added ps

-- The same by computing.

abbrev pub is_short : List ℕ → Bool
is_short t = nat_le (char_count (escaped t)) 200

abbrev pub may_cut : List ℕ → ℕ → Bool
may_cut s p = begins_char (slice_index s p) && is_short (take p s)

abbrev pub is_good_cut : List ℕ → ℕ → Bool
is_good_cut s p = not (slice_index s (p - 1) == 32) && not (slice_index s p == 32) && may_cut s p

-- the greatest number from 1 to n that passes
abbrev pub greatest : (ℕ → Bool) → ℕ → Option ℕ
greatest test zero = None
greatest test (suc n) = if test (suc n) then Some (suc n) else greatest test n

unfoldable pub cut_len : List ℕ → ℕ
cut_len s = unwrap_or (greatest (is_good_cut s) (length s - 1)) (unwrap_or (greatest (may_cut s) (length s - 1)) 1)

-- the parts of a segment, of which there are at most n + 1
unfoldable pub parts_by : ℕ → List ℕ → List (List ℕ)
parts_by zero s = s ∷ []
parts_by (suc n) s = if is_short s then s ∷ [] else take (cut_len s) s ∷ parts_by n (drop (cut_len s) s)

unfoldable pub segment_parts : List ℕ → List (List ℕ)
segment_parts s = parts_by (length s) s

abbrev pub is_lf : ℕ → Bool
is_lf b = b == 10

-- the parts of a text; the first stands on the line itself, and its mark is not looked at
unfoldable pub canonical : List ℕ → List Part
canonical t = flat_map (λ s. marked Cont (segment_parts s)) (slice_split is_lf t)

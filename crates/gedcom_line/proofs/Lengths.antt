-- How many characters a line, a cross reference and the parts of a text have as they are written.
use Rattle.std.proofs.Common.{
  ◌≡◌,
  ℕ,
  zero,
  suc,
  ◌+◌,
  ◌-◌,
  ◌<◌,
  ◌≤◌,
  false,
  List,
  [],
  ◌∷◌,
  ◌++◌,
  length,
  take,
  drop,
  refl,
  inl,
  inr,
  arith,
  Option,
  Some,
  None,
  length-append,
  length-drop,
  length-take,
}
use Rattle.std.specs.Prelude.{unwrap_or}
use Rattle.std.specs.Fmt.{decimal}
use Rattle.std.specs.List.{flat_map, slice_split}
use Rattle.std.proofs.lemmas.Bool.{leb-true, cases_Bool}
use Rattle.gedcom_line.specs.Escape.{escaped}
use Rattle.gedcom_line.specs.Reading.{Parts}
use Rattle.gedcom_line.specs.Line.{IsName}
use Rattle.gedcom_line.specs.Spelling.{xref_text, raw_text, spelling, IsXref, IsLine}
use Rattle.gedcom_line.specs.Value.{IsPointer}
use Rattle.gedcom_line.specs.Split.{
  char_count,
  IsShort,
  EachPart,
  is_short,
  may_cut,
  is_good_cut,
  greatest,
  cut_len,
  parts_by,
  segment_parts,
  marked,
  canonical,
  is_lf,
}
use Rattle.gedcom_line.specs.declared.splitting.Mark.TheVariants.{Cont}
use Rattle.gedcom_line.proofs.Counts.{char_count-append, char_count-le-length, escaped_le_double, short_nil}
use Rattle.gedcom_line.proofs.Cuts.{greatest_gives, may_true, good_true}
use Rattle.gedcom_line.proofs.Again.{level_digits}
use Rattle.gedcom_line.proofs.Inner.{Each, each_marked, each-append}

-- a cross reference has at most 64 bytes, and so at most 64 characters
pub name_length : (name : List ℕ) → IsName name → length (64 ∷ name ++ 64 ∷ []) ≤ 64
name_length [] h = absurd h
name_length (c ∷ cs) h = omega (arith, h.2, length-append (c ∷ cs) (64 ∷ []))

pub name_chars : (name : List ℕ) → IsName name → char_count (64 ∷ name ++ 64 ∷ []) ≤ 64
name_chars name h = omega (arith, name_length name h, char_count-le-length (64 ∷ name ++ 64 ∷ []))

pub xref_chars : (x : List ℕ) → IsXref (Some x) → char_count x ≤ 64
xref_chars x h = rw h.1.1.1 (name_chars h.0 h.1.0)

pub pointer_chars : (raw name : List ℕ) → IsPointer raw name → char_count name ≤ 64
pointer_chars raw name h = rw h.marked (name_chars h.inner h.named)

-- the parts of a line as they are written
xref_text_chars : (x : Option (List ℕ)) → IsXref x → char_count (xref_text x) ≤ 65
xref_text_chars None h = omega (arith, char_count-le-length [])
xref_text_chars (Some x) h = omega (
  arith,
  xref_chars x h,
  char_count-append x (32 ∷ []),
  char_count-le-length (32 ∷ []),
)

raw_text_chars : (raw : List ℕ) → char_count (raw_text raw) ≤ 1 + char_count raw
raw_text_chars [] = omega arith
raw_text_chars (b ∷ bs) = omega (arith, char_count-append (32 ∷ []) (b ∷ bs), char_count-le-length (32 ∷ []))

-- two digits, a cross reference of 64, a tag of 31, a value of 200 and three spaces
pub spelling_chars : (l : Parts) → IsLine l → char_count l.raw ≤ 200 → char_count (spelling l) ≤ 300
unfolding spelling
spelling_chars l h k =
    let tail : List ℕ = l.tag ++ raw_text l.raw in
    let rest : List ℕ = xref_text l.xref ++ tail in
    omega (
      arith,
      k,
      h.short,
      level_digits l.level h.level,
      char_count-le-length (decimal l.level),
      char_count-le-length (32 ∷ []),
      char_count-le-length l.tag,
      xref_text_chars l.xref h.xref,
      raw_text_chars l.raw,
      char_count-append (decimal l.level) (32 ∷ rest),
      char_count-append (32 ∷ []) rest,
      char_count-append (xref_text l.xref) tail,
      char_count-append l.tag (raw_text l.raw),
    )

-- what stands before a cut is short and not empty
few_short : (t : List ℕ) → length t ≤ 100 → IsShort t
few_short t le = omega (arith, char_count-le-length (escaped t), escaped_le_double false t)

chosen_short : (s : List ℕ) (g m : Option ℕ) → greatest (is_good_cut s) (length s - 1) ≡ g
    → greatest (may_cut s) (length s - 1) ≡ m → (0 < unwrap_or g (unwrap_or m 1))
    × IsShort (take (unwrap_or g (unwrap_or m 1)) s)
chosen_short s (Some k) m e f = let r = greatest_gives (is_good_cut s) (length s - 1) k e in
    (r.0, (good_true s k r.0 (omega (arith, r.0, r.1)) r.2).may.short)
chosen_short s None (Some k) e f = let r = greatest_gives (may_cut s) (length s - 1) k f in
    (r.0, (may_true s k r.0 (omega (arith, r.0, r.1)) r.2).short)
chosen_short s None None e f = (omega arith, few_short (take 1 s) (omega (arith, length-take 1 s)))

cut_short : (s : List ℕ) → (0 < cut_len s) × IsShort (take (cut_len s) s)
unfolding cut_len
cut_short s = chosen_short s (greatest (is_good_cut s) (length s - 1)) (greatest (may_cut s) (length s - 1)) refl refl

-- each part is short
parts_by_short : (n : ℕ) (s : List ℕ) → length s ≤ n → Each IsShort (parts_by n s)
unfolding parts_by
parts_by_short zero s le = (few_short s (omega arith), tt)
parts_by_short (suc n) s le = elim (cases_Bool (is_short s)) [
  | inl e ↦ rw e (leb-true (char_count (escaped s)) 200 e, tt)
  | inr e ↦ rw e (
    (cut_short s).1,
    parts_by_short n (drop (cut_len s) s)
        (omega (arith, length-drop (cut_len s) s, (cut_short s).0, short_nil s e)),
  )
]

segment_short_parts : (s : List ℕ) → EachPart IsShort (marked Cont (segment_parts s))
unfolding segment_parts
segment_short_parts s = each_marked IsShort Cont (parts_by (length s) s) (parts_by_short (length s) s (omega arith))

segments_short : (ss : List (List ℕ)) → EachPart IsShort (flat_map (λ s. marked Cont (segment_parts s)) ss)
segments_short [] = tt
segments_short (s ∷ ss) = each-append IsShort (marked Cont (segment_parts s))
    (flat_map (λ x. marked Cont (segment_parts x)) ss) (segment_short_parts s) (segments_short ss)

-- each part of a text, as it is written, has at most 200 characters
pub canonical_short : (t : List ℕ) → EachPart IsShort (canonical t)
unfolding canonical
canonical_short t = segments_short (slice_split is_lf t)

-- How many bytes a line has that is written.
use Rattle.std.proofs.Common.{
  ◌≡◌,
  ℕ,
  ◌+◌,
  ◌*◌,
  ◌<◌,
  ◌≤◌,
  true,
  List,
  [],
  ◌∷◌,
  ◌++◌,
  length,
  subst,
  arith,
  Option,
  Some,
  None,
  length-append,
}
use Rattle.std.specs.Char.{encode_utf8, len_utf8}
use lib.Utf8.{scalar}
use Rattle.std.specs.Str.{IsUtf8, encode_utf8_all, all_scalars}
use Rattle.std.specs.Fmt.{decimal}
use Rattle.std.proofs.lemmas.Str.{IsCharBoundary-start, IsUtf8-encode, length-encode, len_utf8_bounds}
use Rattle.std.proofs.lemmas.Bool.{and_parts}
use Rattle.gedcom_line.specs.Reading.{Parts}
use Rattle.gedcom_line.specs.Spelling.{spelling, xref_text, raw_text, IsXref, IsLine}
use Rattle.gedcom_line.specs.Split.{begins_char, char_count}
use Rattle.gedcom_line.proofs.Again.{level_digits}
use Rattle.gedcom_line.proofs.Counts.{char_count-append, char_count-cons}
use Rattle.gedcom_line.proofs.Lengths.{name_length}
use Rattle.gedcom_rules.specs.Faults.{max_line}
use Rattle.gedcom_line.proofs.Cuts.{begins_from}

some_char : (t : List ℕ) → IsUtf8 t → 0 < length t → 1 ≤ char_count t
some_char [] u h = absurd (omega arith)
some_char (b ∷ bs) u h =
    let s = IsCharBoundary-start (b ∷ bs) u in
    let e : begins_char b ≡ true = begins_from b (s.1 (omega arith)) in
    rw (char_count-cons b bs, e) (omega arith)

chars_bytes : (cs : List ℕ) → all_scalars cs ≡ true → length (encode_utf8_all cs) ≤ 4 * char_count (encode_utf8_all cs)
chars_bytes [] h = omega arith
chars_bytes (c ∷ cs) h =
    let r = and_parts (scalar c) (all_scalars cs) h in
    let size : length (encode_utf8 c) ≡ len_utf8 c = length-encode c in
    let one : 1 ≤ char_count (encode_utf8 c) = some_char (encode_utf8 c) (IsUtf8-encode c r.0)
    (omega (arith, size, (len_utf8_bounds c).0)) in
    rw (length-append (encode_utf8 c) (encode_utf8_all cs), char_count-append (encode_utf8 c) (encode_utf8_all cs))
    (omega (arith, size, one, (len_utf8_bounds c).1, chars_bytes cs r.1))

pub bytes_per_char : (t : List ℕ) → IsUtf8 t → length t ≤ 4 * char_count t
bytes_per_char t u = subst (λ (x : List ℕ). length x ≤ 4 * char_count x) u.1.1 (chars_bytes u.0 u.1.0)

-- a line but for its value has 100 bytes at most
marked_length : (x : List ℕ) → IsXref (Some x) → length x ≤ 64
marked_length x h = rw h.1.1.1 (name_length h.0 h.1.0)

xref_length : (x : Option (List ℕ)) → IsXref x → length (xref_text x) ≤ 65
xref_length None h = omega arith
xref_length (Some x) h = omega (arith, length-append x (32 ∷ []), marked_length x h)

raw_length : (raw : List ℕ) → length (raw_text raw) ≤ 1 + length raw
raw_length [] = omega arith
raw_length (b ∷ bs) = omega arith

line_length : (l : Parts) → IsLine l → length (spelling l) ≤ 100 + length l.raw
unfolding spelling
line_length l h =
    let a = length-append (decimal l.level) (32 ∷ (xref_text l.xref ++ (l.tag ++ raw_text l.raw))) in
    let b = length-append (xref_text l.xref) (l.tag ++ raw_text l.raw) in
    let c = length-append l.tag (raw_text l.raw) in
    omega (arith, a, b, c, level_digits l.level h.level, xref_length l.xref h.xref, raw_length l.raw, h.short)

-- a line whose value has 200 characters at most is not too long
pub line_fits : (l : Parts) → IsLine l → char_count l.raw ≤ 200 → length (spelling l) ≤ max_line
line_fits l h s = omega (arith, line_length l h, bytes_per_char l.raw h.raw.utf8, s)

-- The front of a file of at most so many bytes, and the byte after it. Stated for any number of bytes.
use Rattle.std.proofs.Common.{
  ◌≡◌,
  ℕ,
  zero,
  suc,
  ◌+◌,
  ◌-◌,
  ◌<◌,
  ◌≤◌,
  false,
  List,
  [],
  ◌∷◌,
  ◌++◌,
  length,
  get_or,
  take,
  refl,
  sym,
  ap,
  ◌∙◌,
  arith,
  Option,
  Some,
  None,
}
use Rattle.std.specs.Prelude.{slice_get, is_some}
use Rattle.std.proofs.Math.Seq.{take-append-add}
use Rattle.std.proofs.lemmas.List.{take_all, take-append-le}
use Rattle.std.proofs.lemmas.Option.{slice_get_past, slice_get-get_or}
use Rattle.gedcom_rules.specs.Faults.{within, extra, max_file}

get_over : (a c : List ℕ) (n : ℕ) → slice_get (a ++ c) (length a + n) ≡ slice_get c n
get_over [] c n = let e : 0 + n ≡ n = omega arith in ap (slice_get c) e
get_over (x ∷ xs) c n = let e : length (x ∷ xs) + n ≡ suc (length xs + n) = omega arith in
    ap (slice_get (x ∷ (xs ++ c))) e ∙ get_over xs c n

-- after bytes that are not too many
pub within-append : (a c : List ℕ) → length a ≤ max_file → within (a ++ c) ≡ a ++ take (max_file - length a) c
unfolding within
within-append a c h =
    let e : max_file ≡ length a + (max_file - length a) = omega arith in
    ap (λ (n : ℕ). take n (a ++ c)) e ∙ take-append-add a c (max_file - length a)

pub extra-append : (a c : List ℕ) → length a ≤ max_file → extra (a ++ c) ≡ slice_get c (max_file - length a)
unfolding extra
extra-append a c h =
    let e : max_file ≡ length a + (max_file - length a) = omega arith in
    ap (slice_get (a ++ c)) e ∙ get_over a c (max_file - length a)

pub within_small : (b : List ℕ) → length b ≤ max_file → within b ≡ b
unfolding within
within_small b h = take_all max_file b h

pub extra_small : (b : List ℕ) → length b ≤ max_file → extra b ≡ None
unfolding extra
extra_small b h = slice_get_past b max_file h

some_large : (b : List ℕ) (n : ℕ) (o : Option ℕ) → slice_get b n ≡ o → is_some o ≡ false → length b ≤ n
some_large [] n o e h = omega arith
some_large (x ∷ xs) zero o e h = let bad : is_some (Some x) ≡ false = ap is_some e ∙ h in absurd cc
some_large (x ∷ xs) (suc n) o e h = let k : length xs ≤ n = some_large xs n o e h in omega arith

pub no_extra : (b : List ℕ) → is_some (extra b) ≡ false → length b ≤ max_file
unfolding extra
no_extra b h = some_large b max_file (slice_get b max_file) refl h

-- a file that is too large
pub extra_large : (b : List ℕ) → max_file < length b → Some (get_or b max_file 0) ≡ extra b
unfolding extra
extra_large b h = sym (slice_get-get_or b max_file 0 h)

-- more bytes change nothing in front of the limit
pub front_same : (b c : List ℕ) → max_file ≤ length b → within (b ++ c) ≡ within b
unfolding within
front_same b c h = take-append-le max_file b c h

get_inside : (b c : List ℕ) (n : ℕ) → n < length b → slice_get (b ++ c) n ≡ slice_get b n
get_inside [] c n h = absurd (omega arith)
get_inside (x ∷ xs) c zero h = refl
get_inside (x ∷ xs) c (suc n) h = get_inside xs c n (omega arith)

pub extra_same : (b c : List ℕ) → max_file < length b → extra (b ++ c) ≡ extra b
unfolding extra
extra_same b c h = get_inside b c max_file h

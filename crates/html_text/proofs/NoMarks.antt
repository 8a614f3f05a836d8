-- No byte of an escaped text is one of markup.
use Rattle.std.proofs.Common.{
  ◌≡◌,
  refl,
  ℕ,
  ◌+◌,
  ◌/◌,
  ◌%◌,
  nat_lt,
  ◌≤◌,
  Bool,
  true,
  false,
  cond,
  not,
  nat_eq,
  ◌||◌,
  ◌&&◌,
  List,
  [],
  ◌∷◌,
  codes,
  flat_map,
  encode_utf8_all,
  ap,
  sym,
  ◌∙◌,
  arith,
}
use Rattle.std.specs.List.{list_all}
use Rattle.std.specs.Char.{encode_utf8}
use Rattle.std.proofs.lemmas.Bool.Decides.{nat_tests}
use Rattle.std.proofs.lemmas.List.Folds.{list_all-append}
use Rattle.std.proofs.lemmas.List.Concat.{flat_map-cons}
use Rattle.std.proofs.lemmas.Str.{encodes-append}
use Rattle.html_text.specs.Escapes.{escaped_character, is_hidden, shown_character}
use Rattle.html_text.specs.Marks.{is_no_mark}

pub both : (a b : Bool) → a ≡ true → b ≡ true → (a && b) ≡ true
both true b e f = f
both false b e f = e

chosen : (t : Bool) (xs ys : List ℕ) → list_all is_no_mark xs ≡ true → list_all is_no_mark ys ≡ true
    → list_all is_no_mark (cond t xs ys) ≡ true
chosen true xs ys a b = a
chosen false xs ys a b = b

-- a byte of a longer character
beyond : (b : ℕ) → 128 ≤ b → is_no_mark b ≡ true
beyond b h = grind (arith, nat_tests)

-- a first byte that is so great, and the bytes after it
one : (front b : ℕ) (more : List ℕ) → 128 ≤ front → list_all is_no_mark more ≡ true
    → list_all is_no_mark ((front + b) ∷ more) ≡ true
one front b more h k =
    let far : 128 ≤ front + b = omega arith in
    both (is_no_mark (front + b)) (list_all is_no_mark more) (beyond (front + b) far) k

-- a byte after the first one
more : (b : ℕ) (xs : List ℕ) → list_all is_no_mark xs ≡ true → list_all is_no_mark ((128 + b) ∷ xs) ≡ true
more b xs h = one 128 b xs (omega arith) h

-- the bytes of a character, of which there are one to four
longer : (x y z : Bool) (c a b d e f g h i j : ℕ) → is_no_mark c ≡ true → list_all is_no_mark (cond x (c ∷ [])
    (cond y ((192 + a) ∷ (128 + b) ∷ []) (cond z ((224 + d) ∷ (128 + e) ∷ (128 + f) ∷ [])
    ((240 + g) ∷ (128 + h) ∷ (128 + i) ∷ (128 + j) ∷ [])))) ≡ true
longer true y z c a b d e f g h i j fine = both (is_no_mark c) true fine refl
longer false true z c a b d e f g h i j fine = one 192 a ((128 + b) ∷ []) (omega arith) (more b [] refl)
longer false false true c a b d e f g h i j fine = one 224 d ((128 + e) ∷ (128 + f) ∷ []) (omega arith)
    (more e ((128 + f) ∷ []) (more f [] refl))
longer false false false c a b d e f g h i j fine = one 240 g ((128 + h) ∷ (128 + i) ∷ (128 + j) ∷ []) (omega arith)
    (more h ((128 + i) ∷ (128 + j) ∷ []) (more i ((128 + j) ∷ []) (more j [] refl)))

spelt : (c : ℕ) → is_no_mark c ≡ true → list_all is_no_mark (encode_utf8 c) ≡ true
unfolding encode_utf8
spelt c fine = longer (nat_lt c 128) (nat_lt c 2048) (nat_lt c 65536) c (c / 64) (c % 64) (c / 4096) ((c / 64) % 64)
    (c % 64) (c / 262144) ((c / 4096) % 64) ((c / 64) % 64) (c % 64) fine

none : (a b c d : Bool) → a ≡ false → b ≡ false → c ≡ false → d ≡ false → not (a || b || c || d) ≡ true
none true b c d e f g h = sym e
none false true c d e f g h = sym f
none false false true d e f g h = sym g
none false false false true e f g h = sym h
none false false false false e f g h = refl

printed : (hidden : Bool) (c : ℕ) → is_no_mark c ≡ true → is_no_mark (cond hidden 32 c) ≡ true
printed true c h = refl
printed false c h = h

alone : (c : ℕ) → is_no_mark c ≡ true → list_all is_no_mark (encode_utf8_all (c ∷ [])) ≡ true
alone c h = list_all-append is_no_mark (encode_utf8 c) [] ∙ both (list_all is_no_mark (encode_utf8 c)) true (spelt c h)
    refl

-- a character, by whether it is one of those five
by_cases : (a b c d e : Bool) (x : ℕ)
    → (b ≡ false → c ≡ false → d ≡ false → e ≡ false → is_no_mark x ≡ true)
    → list_all is_no_mark (encode_utf8_all (cond a (codes "&amp;") (cond b (codes "&lt;") (cond c (codes "&gt;")
    (cond d (codes "&quot;") (cond e (codes "&#39;") (x ∷ []))))))) ≡ true
unfolding encode_utf8
by_cases true b c d e x h = refl
by_cases false true c d e x h = refl
by_cases false false true d e x h = refl
by_cases false false false true e x h = refl
by_cases false false false false true x h = refl
by_cases false false false false false x h = alone x (h refl refl refl refl)

character : (c : ℕ) → list_all is_no_mark (encode_utf8_all (escaped_character c)) ≡ true
unfolding escaped_character
character c = by_cases (nat_eq c 38) (nat_eq c 60) (nat_eq c 62) (nat_eq c 34) (nat_eq c 39) (shown_character c)
    (λ lt gt quot apos. printed (is_hidden c) c
    (none (nat_eq c 60) (nat_eq c 62) (nat_eq c 34) (nat_eq c 39) lt gt quot apos))

pub whole : (cs : List ℕ) → list_all is_no_mark (encode_utf8_all (flat_map escaped_character cs)) ≡ true
whole [] = refl
whole (c ∷ cs) = ap (λ l. list_all is_no_mark (encode_utf8_all l)) (flat_map-cons escaped_character c cs)
    ∙ ap (list_all is_no_mark) (encodes-append (escaped_character c) (flat_map escaped_character cs))
    ∙ list_all-append is_no_mark (encode_utf8_all (escaped_character c))
    (encode_utf8_all (flat_map escaped_character cs))
    ∙ both _ _ (character c) (whole cs)

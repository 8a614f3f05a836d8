-- A line that is written is read as that line.
use Rattle.std.proofs.Common.{
  ◌≡◌,
  ℕ,
  ◌+◌,
  ◌*◌,
  ◌/◌,
  ◌%◌,
  ◌<◌,
  ◌≤◌,
  Bool,
  true,
  false,
  eqb,
  List,
  [],
  ◌∷◌,
  ◌++◌,
  length,
  get_or,
  refl,
  ◌∙◌,
  inl,
  inr,
  arith,
  append_assoc,
  Option,
  Some,
  None,
}
use Rattle.std.specs.List.{list_all, list_any, All}
use Rattle.std.specs.Fmt.{decimal}
use Rattle.std.proofs.lemmas.Bool.{cases_lt, and_parts}
use Rattle.std.proofs.lemmas.Bool.Decides.{nat_tests}
use Rattle.std.proofs.lemmas.Fmt.{decimal_digit, decimal_step}
use Rattle.std.proofs.lemmas.List.Sums.{AllPass-from_list_all}
use Rattle.std.proofs.lemmas.Str.{IsUtf8-append, IsUtf8-nil, IsUtf8-from_ascii}
use Rattle.std.proofs.lemmas.Str.Ascii.{IsAscii-from_all, IsAscii-cons, IsAscii-nil}
use Rattle.gedcom_line.specs.Words.{is_white, is_digit, is_space, is_word, is_at, is_end}
use Rattle.gedcom_line.specs.Reading.{Parts}
use Rattle.gedcom_line.specs.Line.{Stops, IsNumber, HasXref, HasTag, IsPiece, IsText, Line}
use Rattle.gedcom_line.specs.Spelling.{xref_text, raw_text, spelling, is_inner, IsInner, IsXref, IsLine}
use Rattle.gedcom_line.specs.declared.class.Class.TheVariants.{Digit, Word}
use Rattle.gedcom_line.proofs.Spans.{in_class_ascii}

-- what a character of one kind is not
digit_not_white : (b : ℕ) → is_digit b ≡ true → is_white b ≡ false
digit_not_white b h = grind (arith, nat_tests)

word_not_space : (b : ℕ) → is_word b ≡ true → is_space b ≡ false
word_not_space b h = grind (arith, nat_tests)

word_not_at : (b : ℕ) → is_word b ≡ true → is_at b ≡ false
word_not_at b h = grind (arith, nat_tests)

digit_inner : (b : ℕ) → is_digit b ≡ true → is_inner b ≡ true
digit_inner b h = grind (arith, nat_tests)

word_inner : (b : ℕ) → is_word b ≡ true → is_inner b ≡ true
word_inner b h = grind (arith, nat_tests)

is_digit_of : (n : ℕ) → n < 10 → is_digit (48 + n) ≡ true
is_digit_of n h = grind (arith, nat_tests)

-- characters within a line
pub all-append : {X : Type 0} (p : X → Bool) (a b : List X) → list_all p a ≡ true → list_all p b ≡ true
    → list_all p (a ++ b) ≡ true
all-append p [] b h k = k
all-append p (x ∷ xs) b h k =
    let r = and_parts (p x) (list_all p xs) h in
    rw (r.0, all-append p xs b r.1 k) refl

pub inner-append : (a b : List ℕ) → IsInner a → IsInner b → IsInner (a ++ b)
inner-append a b h k = record { utf8 = IsUtf8-append a b h.utf8 k.utf8; each = all-append is_inner a b h.each k.each }

all_map : (p q : ℕ → Bool) (t : List ℕ) → ((b : ℕ) → p b ≡ true → q b ≡ true) → list_all p t ≡ true
    → list_all q t ≡ true
all_map p q [] f h = refl
all_map p q (x ∷ xs) f h =
    let r = and_parts (p x) (list_all p xs) h in
    rw (f x r.0, all_map p q xs f r.1) refl

pub inner_nil : IsInner []
inner_nil = record { utf8 = IsUtf8-nil; each = refl }

ascii_inner : (t : List ℕ) → All (λ b. b < 128) t → list_all is_inner t ≡ true → IsInner t
ascii_inner t a h = record { utf8 = IsUtf8-from_ascii t (IsAscii-from_all t a); each = h }

words_inner : (t : List ℕ) → list_all is_word t ≡ true → IsInner t
words_inner t h = ascii_inner t
    (λ i d lt. in_class_ascii Word (get_or t i d) (AllPass-from_list_all is_word t h i d lt))
    (all_map is_word is_inner t word_inner h)

digits_inner : (t : List ℕ) → list_all is_digit t ≡ true → IsInner t
digits_inner t h = ascii_inner t
    (λ i d lt. in_class_ascii Digit (get_or t i d) (AllPass-from_list_all is_digit t h i d lt))
    (all_map is_digit is_inner t digit_inner h)

space_inner : IsInner (32 ∷ [])
space_inner = record { utf8 = IsUtf8-from_ascii (32 ∷ []) (IsAscii-cons 32 [] (omega arith) IsAscii-nil); each = refl }

inner_no_nul : (x : ℕ) → is_inner x ≡ true → eqb x 0 ≡ false
inner_no_nul x h = grind (arith, nat_tests)

no_nul : (t : List ℕ) → list_all is_inner t ≡ true → list_any (λ x. eqb x 0) t ≡ false
no_nul [] h = refl
no_nul (x ∷ xs) h =
    let r = and_parts (is_inner x) (list_all is_inner xs) h in
    let a : eqb x 0 ≡ false = inner_no_nul x r.0 in
    rw (a, no_nul xs r.1) refl

inner_no_end : (x : ℕ) → is_inner x ≡ true → is_end x ≡ false
inner_no_end x h = grind (arith, nat_tests)

-- what holds no LF and no CR stands between two line ends
pub inner_piece : (t : List ℕ) → list_all is_inner t ≡ true → IsPiece t
inner_piece [] h = refl
inner_piece (x ∷ xs) h =
    let r = and_parts (is_inner x) (list_all is_inner xs) h in
    let a : is_end x ≡ false = inner_no_end x r.0 in
    rw (a, inner_piece xs r.1) refl

-- the digits of a level
record Level (n : ℕ) (ds : List ℕ) : Type 0 where
  passes : list_all is_digit ds ≡ true
  number : IsNumber ds n
  starts : (rest : List ℕ) → Stops is_white (ds ++ rest)
  blank : (rest : List ℕ) → list_all is_white (ds ++ rest) ≡ true → ⊥

level_of_digit : (n : ℕ) → n < 10 → Level n ((48 + n) ∷ [])
level_of_digit n h =
    let d : is_digit (48 + n) ≡ true = is_digit_of n h in
    let w : is_white (48 + n) ≡ false = digit_not_white (48 + n) d in
    record {
      passes = rw d refl;
      number = omega arith;
      starts = λ rest. w;
      blank = λ rest e.
          let r = and_parts (is_white (48 + n)) (list_all is_white rest) e in absurd cc;
    }

level_of_two : (n a b : ℕ) → a < 10 → b < 10 → n ≡ 10 * a + b → Level n ((48 + a) ∷ (48 + b) ∷ [])
level_of_two n a b ha hb e =
    let d : is_digit (48 + a) ≡ true = is_digit_of a ha in
    let f : is_digit (48 + b) ≡ true = is_digit_of b hb in
    let w : is_white (48 + a) ≡ false = digit_not_white (48 + a) d in
    record {
      passes = rw (d, f) refl;
      number = omega arith;
      starts = λ rest. w;
      blank = λ rest h.
          let r = and_parts (is_white (48 + a)) (list_all is_white ((48 + b) ∷ rest)) h in absurd cc;
    }

level_is : (n : ℕ) → n ≤ 99 → Level n (decimal n)
level_is n h = elim (cases_lt n 10) [
  | inl lt ↦ rw (decimal_digit n lt) (level_of_digit n lt)
  | inr ge ↦
      let q : n / 10 < 10 = omega arith in
      let two : decimal n ≡ (48 + n / 10) ∷ (48 + n % 10) ∷ [] = decimal_step n ge (omega arith)
      ∙ rw (decimal_digit (n / 10) q) refl in
      rw two (level_of_two n (n / 10) (n % 10) q (omega arith) (omega arith))
]

-- the parts
tag_starts : (tag rest : List ℕ) → list_all is_word tag ≡ true → 0 < length tag → Stops is_space (tag ++ rest)
    × Stops is_at (tag ++ rest)
tag_starts [] rest h s = absurd (omega arith)
tag_starts (c ∷ cs) rest h s =
    let r = and_parts (is_word c) (list_all is_word cs) h in
    (word_not_space c r.0, word_not_at c r.0)

has_tag : (tag raw : List ℕ) → list_all is_word tag ≡ true → 0 < length tag → length tag ≤ 31
    → HasTag (tag ++ raw_text raw) tag raw
has_tag tag [] h s m = record {
  after = [];
  spelled = record { parts = refl; passes = h; stops = tt };
  some = s;
  short = m;
  value = inl (refl, refl);
}
has_tag tag (b ∷ bs) h s m = record {
  after = 32 ∷ b ∷ bs;
  spelled = record { parts = refl; passes = h; stops = refl };
  some = s;
  short = m;
  value = inr refl;
}

ref_parts : (name x last : List ℕ) → x ≡ 64 ∷ name ++ 64 ∷ [] → (x ++ 32 ∷ []) ++ last ≡ 64 ∷ name ++ 64 ∷ 32 ∷ last
ref_parts name x last e = rw e (simp append_assoc)

has_xref : (x : Option (List ℕ)) (last : List ℕ) → IsXref x → Stops is_space last → Stops is_at last
    → HasXref (xref_text x ++ last) x last
has_xref None last h s a = (a, refl)
has_xref (Some x) last h s a = record {
  name = h.0;
  after = 32 ∷ last;
  gap = 32 ∷ [];
  named = h.1.0;
  marked = h.1.1.1;
  parts = ref_parts h.0 x last h.1.1.1;
  spaced = record { parts = refl; passes = refl; stops = s };
  some = omega arith;
}

xref_stops : (x : Option (List ℕ)) (last : List ℕ) → IsXref x → Stops is_space last
    → Stops is_space (xref_text x ++ last)
xref_stops None last h s = s
xref_stops (Some x) last h s = rw h.1.1.1 refl

xref_inner : (x : Option (List ℕ)) → IsXref x → IsInner (xref_text x)
xref_inner None h = inner_nil
xref_inner (Some x) h = inner-append x (32 ∷ []) h.1.1.0 space_inner

raw_inner : (raw : List ℕ) → IsInner raw → IsInner (raw_text raw)
raw_inner [] h = inner_nil
raw_inner (b ∷ bs) h = inner-append (32 ∷ []) (b ∷ bs) space_inner h

-- what is written is text without U+0000, LF and CR
pub spelling_inner : (l : Parts) → IsLine l → IsInner (spelling l)
unfolding spelling
spelling_inner l h =
    inner-append (decimal l.level) (32 ∷ (xref_text l.xref ++ (l.tag ++ raw_text l.raw)))
    (digits_inner (decimal l.level) (level_is l.level h.level).passes)
    (inner-append (32 ∷ []) (xref_text l.xref ++ (l.tag ++ raw_text l.raw)) space_inner
    (inner-append (xref_text l.xref) (l.tag ++ raw_text l.raw) (xref_inner l.xref h.xref)
    (inner-append l.tag (raw_text l.raw) (words_inner l.tag h.tag) (raw_inner l.raw h.raw))))

spelled_line : (l : Parts) → IsLine l → IsText (spelling l) → Line (spelling l) l
unfolding spelling
spelled_line l h t =
    let lv = level_is l.level h.level in
    let last : List ℕ = l.tag ++ raw_text l.raw in
    let rest : List ℕ = xref_text l.xref ++ last in
    let st = tag_starts l.tag (raw_text l.raw) h.tag h.some in
    record {
      spelled = record {
        text = t;
        some = lv.blank (32 ∷ rest);
        rest = rest;
        last = last;
        level = record {
          white = [];
          from = decimal l.level ++ 32 ∷ rest;
          digits = decimal l.level;
          after = 32 ∷ rest;
          gap = 32 ∷ [];
          indented = record { parts = refl; passes = refl; stops = lv.starts (32 ∷ rest) };
          spelled = record { parts = refl; passes = lv.passes; stops = refl };
          number = lv.number;
          spaced = record { parts = refl; passes = refl; stops = xref_stops l.xref last h.xref st.0 };
          some = omega arith;
        };
        xref = has_xref l.xref last h.xref st.0 st.1;
        tag = has_tag l.tag l.raw h.tag h.some h.short;
      };
      high = h.high;
    }

pub line_again : (l : Parts) → IsLine l → Line (spelling l) l
line_again l h =
    let i = spelling_inner l h in
    spelled_line l h (record {
      utf8 = i.utf8;
      no_nul = no_nul (spelling l) i.each;
      piece = inner_piece (spelling l) i.each;
    })

-- a level has two digits at most
number_short : (ds : List ℕ) (n : ℕ) → IsNumber ds n → length ds ≤ 2
number_short [] n h = absurd h
number_short (a ∷ []) n h = omega arith
number_short (a ∷ b ∷ []) n h = omega arith
number_short (a ∷ b ∷ c ∷ ds) n h = absurd h

pub level_digits : (n : ℕ) → n ≤ 99 → length (decimal n) ≤ 2
level_digits n h = number_short (decimal n) n (level_is n h).number

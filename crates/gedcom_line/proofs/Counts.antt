-- Counts of characters, as they are written, and the greatest number that passes a test.
use Rattle.std.proofs.Common.{
  ◌≡◌,
  ◌≢◌,
  ℕ,
  zero,
  suc,
  ◌+◌,
  ◌-◌,
  ◌*◌,
  ◌<◌,
  ◌≤◌,
  Bool,
  true,
  false,
  cond,
  eqb,
  leb,
  ◌&&◌,
  not,
  List,
  [],
  ◌∷◌,
  ◌++◌,
  length,
  get_or,
  take,
  refl,
  sym,
  ap,
  ◌∙◌,
  subst,
  inl,
  inr,
  ◌⊎◌,
  arith,
  Option,
}
use Rattle.std.specs.Prelude.{unwrap_or}
use Rattle.std.proofs.lemmas.List.{take_all}
use Rattle.std.proofs.lemmas.List.Sums.{sum_by-append, sum_by-cons, count_by-le-length}
use Rattle.std.proofs.lemmas.Bool.{eqb-true, cases_order, le-leb, lt-leb, cases_Bool}
use Rattle.gedcom_line.specs.Escape.{NoAt, begins_escape, escaped_from, escaped}
use Rattle.gedcom_line.specs.Split.{
  begins_char,
  char_count,
  front_len,
  is_short,
  may_cut,
  is_good_cut,
  greatest,
  cut_len,
}
use Rattle.gedcom_line.proofs.Doubled.{escaped_skip, escaped_all, marks_inside, marks_begin, marks_pair}
use Rattle.list_laws.proofs.Booleans.{and_false}

pub greatest_no : (test : ℕ → Bool) (n : ℕ) → 0 < n → test n ≡ false → greatest test n ≡ greatest test (n - 1)
greatest_no test zero lt h = absurd (omega arith)
greatest_no test (suc n) lt h =
    let e : suc n - 1 ≡ n = omega arith in
    rw (h, e) refl

pub greatest_skip : (test : ℕ → Bool) (m n : ℕ) → m ≤ n → ((k : ℕ) → m < k → k ≤ n → test k ≡ false)
    → greatest test m ≡ greatest test n
greatest_skip test m zero le h =
    let e : m ≡ 0 = omega arith in
    rw e refl
greatest_skip test m (suc n) le h = elim (cases_order m (suc n)) [
  | inl e ↦ ap (greatest test) e
  | inr (inl lt) ↦ rw (h (suc n) lt (omega arith)) (greatest_skip test m n (omega arith) (λ k a b. h k a (omega arith)))
  | inr (inr gt) ↦ absurd (omega arith)
]

-- characters
pub char_count-append : (a b : List ℕ) → char_count (a ++ b) ≡ char_count a + char_count b
unfolding char_count
char_count-append a b = sum_by-append (λ x. cond (begins_char x) 1 0) a b

pub char_count-cons : (x : ℕ) (xs : List ℕ) → char_count (x ∷ xs) ≡ cond (begins_char x) 1 0 + char_count xs
unfolding char_count
char_count-cons x xs = sum_by-cons (λ x. cond (begins_char x) 1 0) x xs

pub char_count-nil : char_count [] ≡ 0
unfolding char_count
char_count-nil = refl

pub char_count-le-length : (a : List ℕ) → char_count a ≤ length a
unfolding char_count
char_count-le-length a = count_by-le-length begins_char a

-- one more character of a text as it is written
at_step : (i : Bool) (cs : List ℕ) → ((j : Bool) × (escaped_from i (64 ∷ cs) ≡ 64 ∷ escaped_from j cs))
    ⊎ (escaped_from i (64 ∷ cs) ≡ 64 ∷ 64 ∷ escaped_from false cs)
at_step i cs = elim (cases_Bool i) [
  | inl h ↦ inl (false, marks_inside i cs h)
  | inr h ↦ elim (cases_Bool (begins_escape cs)) [
    | inl b ↦ inl (true, marks_begin i cs h b)
    | inr b ↦
        inr (marks_pair i cs h b)
  ]
]

pub escaped_step : (i : Bool) (c : ℕ) (cs : List ℕ) → ((j : Bool) × (escaped_from i (c ∷ cs) ≡ c ∷ escaped_from j cs))
    ⊎ (escaped_from i (c ∷ cs) ≡ c ∷ c ∷ escaped_from false cs)
escaped_step i c cs = elim (cases_Bool (eqb c 64)) [
  | inl e ↦ subst (λ (x : ℕ). ((j : Bool) × (escaped_from i (x ∷ cs) ≡ x ∷ escaped_from j cs))
      ⊎ (escaped_from i (x ∷ cs) ≡ x ∷ x ∷ escaped_from false cs)) (sym (eqb-true c 64 e)) (at_step i cs)
  | inr e ↦ inl (i, rw e refl)
]

pub count_le_escaped : (i : Bool) (t : List ℕ) → char_count t ≤ char_count (escaped_from i t)
count_le_escaped i [] = omega arith
count_le_escaped i (c ∷ cs) = elim (escaped_step i c cs) [
  | inl s ↦ rw (s.1, char_count-cons c cs, char_count-cons c (escaped_from s.0 cs))
      (omega (arith, count_le_escaped s.0 cs))
  | inr s ↦ rw (
    s,
    char_count-cons c cs,
    char_count-cons c (c ∷ escaped_from false cs),
    char_count-cons c (escaped_from false cs),
  ) (omega (arith, count_le_escaped false cs))
]

pub escaped_le_double : (i : Bool) (t : List ℕ) → length (escaped_from i t) ≤ 2 * length t
escaped_le_double i [] = omega arith
escaped_le_double i (c ∷ cs) = elim (escaped_step i c cs) [
  | inl s ↦ rw s.1 (omega (arith, escaped_le_double s.0 cs))
  | inr s ↦ rw s (omega (arith, escaped_le_double false cs))
]

-- a text of at most 100 bytes is short: each byte is written as at most two
pub few_bytes : (t : List ℕ) → length t ≤ 100 → leb (length t) 100 ≡ is_short t
few_bytes t h = le-leb (length t) 100 h
    ∙ sym (le-leb (char_count (escaped t)) 200
    (omega (arith, h, char_count-le-length (escaped t), escaped_le_double false t)))

-- one turn of the count, and the last
pub count_turn : (front mark after rest : List ℕ) (i j : Bool) → rest ≡ front ++ 64 ∷ after → NoAt front
    → escaped_from i (64 ∷ after) ≡ mark ++ escaped_from j after → char_count (escaped_from i rest)
    ≡ char_count front + (char_count mark + char_count (escaped_from j after))
count_turn front mark after rest i j parts none step =
    ap (λ (x : List ℕ). char_count (escaped_from i x)) parts ∙ ap char_count (escaped_skip i front (64 ∷ after) none)
    ∙ char_count-append front (escaped_from i (64 ∷ after)) ∙ ap (λ (x : List ℕ). char_count front + char_count x)
    step ∙ ap (λ (n : ℕ). char_count front + n) (char_count-append mark (escaped_from j after))

pub count_last : (rest : List ℕ) (i : Bool) → NoAt rest → char_count (escaped_from i rest) ≡ char_count rest
count_last rest i none = ap char_count (escaped_all i rest none)

-- the first n characters
pub front_len-le-length : (n : ℕ) (t : List ℕ) → front_len n t ≤ length t
front_len-le-length n [] = omega arith
front_len-le-length zero (b ∷ bs) = elim (begins_char b) as (λ v. cond v 0 (1 + front_len zero bs) ≤ suc (length bs)) [
  | true ↦ omega arith
  | false ↦ omega (arith, front_len-le-length zero bs)
]
front_len-le-length (suc n) (b ∷ bs) = omega (arith, front_len-le-length (cond (begins_char b) n (suc n)) bs)

pub front_len_more : (n : ℕ) (t : List ℕ) (p : ℕ) → front_len n t < p → p ≤ length t → n < char_count (take p t)
front_len_more n [] p lt le = absurd (omega arith)
front_len_more zero (b ∷ bs) zero lt le = absurd (omega arith)
front_len_more (suc n) (b ∷ bs) zero lt le = absurd (omega arith)
front_len_more zero (b ∷ bs) (suc p) lt le = rw (char_count-cons b (take p bs))
    (elim (begins_char b) as (λ v. cond v 0 (1 + front_len zero bs) < suc p → 0 < cond v 1 0 + char_count (take p bs)) [
      | true ↦ λ l. omega arith
      | false ↦ λ l. omega (arith, front_len_more zero bs p (omega arith) (omega arith))
    ] lt)
front_len_more (suc n) (b ∷ bs) (suc p) lt le = rw (char_count-cons b (take p bs))
    (elim (begins_char b) as (λ v. 1 + front_len (cond v n (suc n)) bs < suc p
    → suc n < cond v 1 0 + char_count (take p bs)) [
      | true ↦ λ l. omega (arith, front_len_more n bs p (omega arith) (omega arith))
      | false ↦ λ l. omega (arith, front_len_more (suc n) bs p (omega arith) (omega arith))
    ] lt)

-- beyond the first 200 characters no part ends
pub long_part : (s : List ℕ) (p : ℕ) → front_len 200 s < p → p ≤ length s → is_short (take p s) ≡ false
long_part s p lt le = lt-leb (char_count (escaped (take p s))) 200
    (omega (arith, front_len_more 200 s p lt le, count_le_escaped false (take p s)))

-- a part that is too long ends at no cut
pub no_cut_long : (s : List ℕ) (p : ℕ) → is_short (take p s) ≡ false → may_cut s p ≡ false
no_cut_long s p h = and_false (begins_char (get_or s p 0)) (is_short (take p s)) h

pub no_good_long : (s : List ℕ) (p : ℕ) → is_short (take p s) ≡ false → is_good_cut s p ≡ false
no_good_long s p h = and_false (not (eqb (get_or s (p - 1) 0) 32) && not (eqb (get_or s p 0) 32)) (may_cut s p)
    (no_cut_long s p h)

pub window_short : (s : List ℕ) → front_len 200 s ≢ length s → is_short s ≡ false
window_short s ne =
    let lt : front_len 200 s < length s = omega (arith, front_len-le-length 200 s) in
    lt-leb (char_count (escaped s)) 200
    (omega (
      arith,
      front_len_more 200 s (length s) lt (omega arith),
      count_le_escaped false s,
      ap char_count (take_all (length s) s (omega arith)),
    ))

pub place_is : (s : List ℕ) (e : ℕ) (r : Option ℕ) → greatest (is_good_cut s) e ≡ greatest (is_good_cut s)
    (length s - 1) → greatest (may_cut s) e ≡ greatest (may_cut s) (length s - 1) → r ≡ greatest (is_good_cut s) e
    → unwrap_or r (unwrap_or (greatest (may_cut s) e) 1) ≡ cut_len s
unfolding cut_len
place_is s e r g m h = rw (h, g, m) refl

pub short_nil : (s : List ℕ) → is_short s ≡ false → 0 < length s
short_nil [] h =
    let e : is_short [] ≡ true = le-leb (char_count []) 200 (omega (arith, char_count-nil)) in
    absurd cc
short_nil (c ∷ cs) h = omega arith

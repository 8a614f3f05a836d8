-- How many characters the fronts of a text have as they are written: each character more is written as at most two
-- more.
use Rattle.std.proofs.Common.{
  ◌≡◌,
  ℕ,
  zero,
  suc,
  ◌+◌,
  ◌-◌,
  ◌*◌,
  ◌<◌,
  ◌≤◌,
  Bool,
  true,
  false,
  cond,
  eqb,
  ltb,
  ◌&&◌,
  not,
  List,
  [],
  ◌∷◌,
  ◌++◌,
  length,
  get_or,
  take,
  drop,
  refl,
  sym,
  ap,
  ◌∙◌,
  subst,
  inl,
  inr,
  arith,
  append_assoc,
  length-append,
  Some,
  None,
}
use Rattle.std.specs.Prelude.{is_some}
use Rattle.std.specs.Str.{IsCharBoundary}
use Rattle.std.specs.List.{position_or_len, before_first, after_first, list_all}
use Rattle.std.specs.Option.{option_map_or}
use Rattle.std.specs.Int.{div_ceil}
use Rattle.std.proofs.lemmas.Grind.{div_ceil_times}
use Rattle.std.proofs.Math.Seq.{drop-append-add}
use Rattle.std.proofs.Math.Numerals.{one-add}
use Rattle.std.proofs.lemmas.Bool.{eqb-true, ltb-true, lt-ltb, lt-leb, leb-false, cases_lt, and_parts, cases_Bool}
use Rattle.std.proofs.lemmas.Bool.Decides.{nat_tests}
use Rattle.std.proofs.lemmas.List.{take-append-drop, take-take, take_all, length-take-le}
use Rattle.gedcom_line.specs.Words.{is_at}
use Rattle.gedcom_line.specs.Past.{past_char}
use Rattle.gedcom_line.specs.Escape.{NoAt, ends_escape, begins_escape, escaped_from, escaped}
use Rattle.gedcom_line.specs.Split.{begins_char, char_count, front_len, is_short}
use Rattle.gedcom_line.proofs.Steps.{at_parts, all_front, before_len}
use Rattle.gedcom_line.proofs.Doubled.{space_after, marks_begin, marks_pair}
use Rattle.gedcom_line.proofs.Counts.{
  char_count-append,
  char_count-cons,
  char_count-nil,
  escaped_step,
  front_len-le-length,
  front_len_more,
  count_turn,
  count_last,
}

-- an escape stays one whatever follows it
pub ends_spelled : (front after : List ℕ) → list_all (λ b. not (is_at b)) front ≡ true → 0 < length front
    → ends_escape (front ++ 64 ∷ 32 ∷ after) ≡ true
ends_spelled front after h some =
    let at : position_or_len is_at (front ++ 64 ∷ 32 ∷ after) ≡ length front = before_len front (32 ∷ after) h in
    let inside : ltb (length front) (length (front ++ 64 ∷ 32 ∷ after)) ≡ true = lt-ltb (length front)
    (length (front ++ 64 ∷ 32 ∷ after)) (omega (arith, length-append front (64 ∷ 32 ∷ after))) in
    let rest : drop (length front + 1) (front ++ 64 ∷ 32 ∷ after) ≡ 32 ∷ after = drop-append-add front
    (64 ∷ 32 ∷ after) 1 in
    rw (at, lt-ltb 0 (length front) some, inside, rest) refl

ends_more : (cs more : List ℕ) → ends_escape cs ≡ true → ends_escape (cs ++ more) ≡ true
ends_more cs more e =
    let a = and_parts (ltb 0 (position_or_len is_at cs) && ltb (position_or_len is_at cs) (length cs))
    (is_some (past_char 32 (after_first is_at cs))) e in
    let b = and_parts (ltb 0 (position_or_len is_at cs)) (ltb (position_or_len is_at cs) (length cs)) a.0 in
    let s = space_after (after_first is_at cs) a.1 in
    let front : List ℕ = before_first is_at cs in
    let size : length front ≡ position_or_len is_at cs = length-take-le (position_or_len is_at cs) cs
    (omega (arith, ltb-true _ _ b.1)) in
    let whole : cs ≡ front ++ 64 ∷ 32 ∷ s.0 = at_parts cs (ltb-true _ _ b.1)
    ∙ ap (λ (x : List ℕ). front ++ 64 ∷ x) s.1 in
    let longer : cs ++ more ≡ front ++ 64 ∷ 32 ∷ (s.0 ++ more) = ap (λ (x : List ℕ). x ++ more) whole
    ∙ append_assoc front (64 ∷ 32 ∷ s.0) more in
    rw longer (ends_spelled front (s.0 ++ more) (all_front (λ b. not (is_at b)) cs)
    (omega (arith, size, ltb-true _ _ b.0)))

begins_more : (cs more : List ℕ) → begins_escape cs ≡ true → begins_escape (cs ++ more) ≡ true
begins_more [] more e = absurd cc
begins_more (c ∷ cs) more e = elim (eqb c 35) as (λ v. option_map_or ends_escape (cond v (Some cs) None) false ≡ true
    → option_map_or ends_escape (cond v (Some (cs ++ more)) None) false ≡ true) [
      | true ↦ λ f. ends_more cs more f
      | false ↦ λ f. absurd cc
    ] e

-- counts, one character after another
count_inside : (cs : List ℕ) → char_count (escaped_from true (64 ∷ cs)) ≡ 1 + char_count (escaped_from false cs)
count_inside cs = char_count-cons 64 (escaped_from false cs)

count_begin : (cs : List ℕ) → begins_escape cs ≡ true → char_count (escaped_from false (64 ∷ cs))
    ≡ 1 + char_count (escaped_from true cs)
count_begin cs h = ap char_count (marks_begin false cs refl h) ∙ char_count-cons 64 (escaped_from true cs)

count_pair : (cs : List ℕ) → begins_escape cs ≡ false → char_count (escaped_from false (64 ∷ cs))
    ≡ 2 + char_count (escaped_from false cs)
count_pair cs h = ap char_count (marks_pair false cs refl h) ∙ char_count-cons 64 (64 ∷ escaped_from false cs)
    ∙ ap (λ (n : ℕ). 1 + n) (char_count-cons 64 (escaped_from false cs)) ∙ omega arith

count_plain : (i : Bool) (c : ℕ) (cs : List ℕ) → eqb c 64 ≡ false → char_count (escaped_from i (c ∷ cs))
    ≡ cond (begins_char c) 1 0 + char_count (escaped_from i cs)
count_plain i c cs h = rw h (char_count-cons c (escaped_from i cs))

-- whether an escape is open makes a difference of at most one
abbrev Near : List ℕ → Type 0
Near t = (char_count (escaped_from true t) ≤ 1 + char_count (escaped_from false t))
    × (char_count (escaped_from false t) ≤ 1 + char_count (escaped_from true t))

near_at : (cs : List ℕ) → Near cs → Near (64 ∷ cs)
near_at cs h = elim (cases_Bool (begins_escape cs)) [
  | inl b ↦ (
    omega (arith, count_inside cs, count_begin cs b, h.0, h.1),
    omega (arith, count_inside cs, count_begin cs b, h.0, h.1),
  )
  | inr b ↦ (omega (arith, count_inside cs, count_pair cs b), omega (arith, count_inside cs, count_pair cs b))
]

near : (t : List ℕ) → Near t
near [] = (omega arith, omega arith)
near (c ∷ cs) = elim (cases_Bool (eqb c 64)) [
  | inl e ↦ subst (λ (x : ℕ). Near (x ∷ cs)) (sym (eqb-true c 64 e)) (near_at cs (near cs))
  | inr e ↦ (
    omega (arith, count_plain true c cs e, count_plain false c cs e, (near cs).0),
    omega (arith, count_plain true c cs e, count_plain false c cs e, (near cs).1),
  )
]

-- each character is written as at most two
pub escaped_chars : (i : Bool) (t : List ℕ) → char_count (escaped_from i t) ≤ 2 * char_count t
escaped_chars i [] = omega arith
escaped_chars i (c ∷ cs) = elim (escaped_step i c cs) [
  | inl s ↦ rw (s.1, char_count-cons c cs, char_count-cons c (escaped_from s.0 cs))
      (omega (arith, escaped_chars s.0 cs))
  | inr s ↦ rw (
    s,
    char_count-cons c cs,
    char_count-cons c (c ∷ escaped_from false cs),
    char_count-cons c (escaped_from false cs),
  ) (omega (arith, escaped_chars false cs))
]

-- and each one more as at most two more
abbrev Grows : Bool → List ℕ → List ℕ → Type 0
Grows i t more = char_count (escaped_from i (t ++ more)) ≤ char_count (escaped_from i t) + 2 * char_count more

grows_inside : (cs more : List ℕ) → Grows false cs more → Grows true (64 ∷ cs) more
grows_inside cs more h = omega (arith, count_inside cs, count_inside (cs ++ more), h)

grows_outside : (cs more : List ℕ) → Grows false cs more → Grows true cs more → Grows false (64 ∷ cs) more
grows_outside cs more h k = elim (cases_Bool (begins_escape cs)) [
  | inl b ↦ omega (arith, count_begin cs b, count_begin (cs ++ more) (begins_more cs more b), k)
  | inr b ↦ elim (cases_Bool (begins_escape (cs ++ more))) [
    | inl d ↦ omega (arith, count_pair cs b, count_begin (cs ++ more) d, k, (near cs).0)
    | inr d ↦ omega (arith, count_pair cs b, count_pair (cs ++ more) d, h)
  ]
]

grows_at : (i : Bool) (cs more : List ℕ) → Grows false cs more → Grows true cs more → Grows i (64 ∷ cs) more
grows_at true cs more h k = grows_inside cs more h
grows_at false cs more h k = grows_outside cs more h k

grows : (i : Bool) (t more : List ℕ) → Grows i t more
grows i [] more = omega (arith, escaped_chars i more)
grows i (c ∷ cs) more = elim (cases_Bool (eqb c 64)) [
  | inl e ↦ subst (λ (x : ℕ). Grows i (x ∷ cs) more) (sym (eqb-true c 64 e))
      (grows_at i cs more (grows false cs more) (grows true cs more))
  | inr e ↦ omega (arith, count_plain i c cs e, count_plain i c (cs ++ more) e, grows i cs more)
]

-- the first n characters
pub front_chars : (n : ℕ) (t : List ℕ) → char_count (take (front_len n t) t) ≤ n
front_chars n [] = omega (arith, char_count-nil)
front_chars zero (b ∷ bs) =
    elim (begins_char b) as (λ v. begins_char b ≡ v
    → char_count (take (cond v 0 (1 + front_len zero bs)) (b ∷ bs)) ≤ 0) [
      | true ↦ λ e. omega (arith, char_count-nil)
      | false ↦ λ e. rw (one-add, char_count-cons b (take (front_len zero bs) bs), e)
          (omega (arith, front_chars zero bs))
    ] refl
front_chars (suc n) (b ∷ bs) = rw (one-add, char_count-cons b (take (front_len (cond (begins_char b) n (suc n)) bs) bs))
    (elim (begins_char b) as (λ v. cond v 1 0 + char_count (take (front_len (cond v n (suc n)) bs) bs) ≤ suc n) [
      | true ↦ omega (arith, front_chars n bs)
      | false ↦ omega (arith, front_chars (suc n) bs)
    ])

front_begins : (n : ℕ) (t : List ℕ) → front_len n t < length t → begins_char (get_or t (front_len n t) 0) ≡ true
front_begins n [] lt = absurd (omega arith)
front_begins zero (b ∷ bs) lt =
    elim (begins_char b) as (λ v. begins_char b ≡ v → cond v 0 (1 + front_len zero bs) < suc (length bs)
    → begins_char (get_or (b ∷ bs) (cond v 0 (1 + front_len zero bs)) 0) ≡ true) [
      | true ↦ λ e l. e
      | false ↦ λ e l. rw one-add (front_begins zero bs (omega arith))
    ] refl lt
front_begins (suc n) (b ∷ bs) lt = rw one-add (front_begins (cond (begins_char b) n (suc n)) bs (omega arith))

front_boundary : (b : ℕ) → begins_char b ≡ true → 128 ≤ b → 192 ≤ b
front_boundary b h le = grind (arith, nat_tests)

pub front_whole : (n : ℕ) (t : List ℕ) → IsCharBoundary t (front_len n t)
front_whole n t = (front_len-le-length n t, λ lt. front_boundary (get_or t (front_len n t) 0) (front_begins n t lt))

-- no part ends after the first n characters
abbrev pub Beyond : List ℕ → ℕ → Type 0
Beyond s n = (p : ℕ) → front_len n s < p → p ≤ length s → is_short (take p s) ≡ false

long_within : (s : List ℕ) (n h p : ℕ) → 200 < char_count (escaped (take (front_len n s) s))
    → 2 * h < char_count (escaped (take (front_len n s) s)) - 200 + 2 → front_len (n - h) s < p → p ≤ length s
    → p ≤ front_len n s → is_short (take p s) ≡ false
long_within s n h p long few lt le within =
    let f : List ℕ = take (front_len n s) s in
    let same : take p f ≡ take p s = take-take p (front_len n s) s within in
    let parts : take p s ++ drop p f ≡ f = ap (λ (x : List ℕ). x ++ drop p f) (sym same) ∙ take-append-drop p f in
    let chars : char_count f ≡ char_count (take p s) + char_count (drop p f) = ap char_count (sym parts)
    ∙ char_count-append (take p s) (drop p f) in
    let written : char_count (escaped f) ≤ char_count (escaped (take p s)) + 2 * char_count (drop p f) = subst
    (λ (x : List ℕ). char_count (escaped x) ≤ char_count (escaped (take p s)) + 2 * char_count (drop p f)) parts
    (grows false (take p s) (drop p f)) in
    lt-leb (char_count (escaped (take p s))) 200
    (omega (arith, long, few, chars, written, front_chars n s, front_len_more (n - h) s p lt le))

beyond_less : (s : List ℕ) (n h : ℕ) → 200 < char_count (escaped (take (front_len n s) s))
    → 2 * h < char_count (escaped (take (front_len n s) s)) - 200 + 2 → Beyond s n → Beyond s (n - h)
beyond_less s n h long few so_far = λ p lt le. elim (cases_lt (front_len n s) p) [
  | inl far ↦ so_far p far le
  | inr close ↦ long_within s n h p long few lt le (omega arith)
]

-- half of what is too much goes off: that is something, less than what there is, and no part ends after what is left
pub less_by_half : (s : List ℕ) (n over h : ℕ) → 0 < over → over ≡ char_count (escaped (take (front_len n s) s)) - 200
    → h ≡ div_ceil over 2 → Beyond s n → (0 < h) × (h < n) × Beyond s (n - h)
less_by_half s n over h some e half so_far =
    let d = div_ceil_times over 2 (omega arith) in
    let long : 200 < char_count (escaped (take (front_len n s) s)) = omega (arith, some, e) in
    let few : 2 * h < char_count (escaped (take (front_len n s) s)) - 200 + 2 = omega (arith, e, half, d.1) in (
      omega (arith, some, half, d.0),
      omega (
        arith,
        long,
        few,
        escaped_chars false (take (front_len n s) s),
        front_chars n s,
      ),
      beyond_less s n h long few so_far,
    )

-- a front that is not too long is not all of a segment that is
pub front_shorter : (s : List ℕ) (n : ℕ) → is_short s ≡ false → char_count (escaped (take (front_len n s) s)) - 200 ≤ 0
    → front_len n s < length s
front_shorter s n h few = elim (cases_lt (front_len n s) (length s)) [
  | inl lt ↦ lt
  | inr ge ↦
      let whole : char_count (escaped (take (front_len n s) s)) ≡ char_count (escaped s) = ap
      (λ (x : List ℕ). char_count (escaped x)) (take_all (front_len n s) s ge) in
      absurd (omega (arith, whole, few, leb-false (char_count (escaped s)) 200 h))
]

-- a text whose first n characters are all of it has no more
pub all_chars : (n : ℕ) (t : List ℕ) → front_len n t ≡ length t → char_count t ≤ n
all_chars n t e = omega (arith, front_chars n t, ap char_count (take_all (front_len n t) t (omega (arith, e))))

-- one turn of the count does not go beyond the whole
pub turn_within : (t front mark after rest : List ℕ) (i j : Bool) (total : ℕ) → char_count t ≤ 200
    → rest ≡ front ++ 64 ∷ after → NoAt front → escaped_from i (64 ∷ after) ≡ mark ++ escaped_from j after
    → total + char_count (escaped_from i rest) ≡ char_count (escaped t)
    → ((total + (char_count front + char_count mark)) + char_count (escaped_from j after) ≡ char_count (escaped t))
    × (char_count (escaped t) ≤ 400)
turn_within t front mark after rest i j total few parts none step so_far = (
  omega (arith, so_far, count_turn front mark after rest i j parts none step),
  omega (arith, few, escaped_chars false t),
)

pub last_within : (t rest : List ℕ) (i : Bool) (total : ℕ) → char_count t ≤ 200 → NoAt rest
    → total + char_count (escaped_from i rest) ≡ char_count (escaped t)
    → (total + char_count rest ≡ char_count (escaped t)) × (char_count (escaped t) ≤ 400)
last_within t rest i total few none so_far = (
  omega (arith, so_far, count_last rest i none),
  omega (arith, few, escaped_chars false t),
)

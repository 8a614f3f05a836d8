-- The canonical cut of a text: where it is, that its parts joined give the text, and what each part is.
use Rattle.std.proofs.Common.{
  ◌≡◌,
  ℕ,
  zero,
  suc,
  ◌+◌,
  ◌-◌,
  ◌<◌,
  ◌≤◌,
  Bool,
  true,
  false,
  eqb,
  ◌&&◌,
  not,
  List,
  [],
  ◌∷◌,
  ◌++◌,
  length,
  get_or,
  take,
  drop,
  refl,
  sym,
  ap,
  ◌∙◌,
  subst,
  inl,
  inr,
  arith,
  append_assoc,
  Option,
  Some,
  None,
  length-append,
  length-drop,
  map,
}
use Rattle.std.specs.Prelude.{unwrap_or}
use Rattle.std.specs.Char.{encode_utf8, len_utf8}
use Rattle.std.specs.Str.{IsUtf8, IsCharBoundary, encode_utf8_all}
use Rattle.std.specs.List.{flat_map, slice_split, onto_first, All}
use Rattle.std.proofs.lemmas.List.{take-append-drop, append-nil, length-take-le, get_or_default, map_push}
use Rattle.std.proofs.lemmas.List.Concat.{flat_map-append}
use Rattle.std.proofs.lemmas.List.Splits.{slice_split_at, slice_split_none}
use Rattle.std.proofs.lemmas.Str.{length-encode, len_utf8_bounds, IsCharBoundary-past_char, IsUtf8-drop}
use Rattle.std.proofs.lemmas.Bool.{eqb-true, leb-true, leb-false, cases_order, le-leb, not-true, and_parts, cases_Bool}
use Rattle.std.proofs.lemmas.Bool.Decides.{nat_tests}
use Rattle.gedcom_line.specs.Escape.{escaped}
use Rattle.gedcom_line.specs.Split.{
  begins_char,
  char_count,
  is_short,
  may_cut,
  is_good_cut,
  greatest,
  cut_len,
  MayCut,
  IsGoodCut,
  IsCut,
  Parts,
  parts_by,
  segment_parts,
  Part,
  marked,
  between,
  added,
  joined,
  canonical,
  is_lf,
  NoLf,
  part,
}
use Rattle.gedcom_line.specs.declared.splitting.Mark.{Mark}
use Rattle.gedcom_line.specs.declared.splitting.TextPart.{TextPart}
use Rattle.gedcom_line.specs.declared.splitting.Mark.TheVariants.{Conc, Cont}
use Rattle.gedcom_line.proofs.Steps.{eqb_false, eqb_no}
use Rattle.gedcom_line.proofs.Counts.{char_count-le-length, escaped_le_double, short_nil}

-- what the greatest number is
pub greatest_gives : (test : ℕ → Bool) (n k : ℕ) → greatest test n ≡ Some k → (0 < k) × (k ≤ n) × (test k ≡ true)
greatest_gives test zero k e = absurd cc
greatest_gives test (suc n) k e = elim (cases_Bool (test (suc n))) [
  | inl h ↦ let s : Some (suc n) ≡ Some k = sym (rw h refl) ∙ e in let same : suc n ≡ k = cc in
      (omega arith, omega arith, ap test (sym same) ∙ h)
  | inr h ↦ let s : greatest test n ≡ Some k = sym (rw h refl) ∙ e in let r = greatest_gives test n k s in
      (r.0, omega arith, r.2)
]

pub greatest_most : (test : ℕ → Bool) (n k j : ℕ) → greatest test n ≡ Some k → 0 < j → j ≤ n → test j ≡ true → j ≤ k
greatest_most test zero k j e lt le h = absurd cc
greatest_most test (suc n) k j e lt le h = elim (cases_Bool (test (suc n))) [
  | inl t ↦ let s : Some (suc n) ≡ Some k = sym (rw t refl) ∙ e in let same : suc n ≡ k = cc in omega arith
  | inr t ↦ elim (cases_order j (suc n)) [
    | inl same ↦ let bad : true ≡ false = sym h ∙ ap test same ∙ t in absurd cc
    | inr (inl l) ↦ greatest_most test n k j (sym (rw t refl) ∙ e) lt (omega arith) h
    | inr (inr g) ↦ absurd (omega arith)
  ]
]

pub greatest_none : (test : ℕ → Bool) (n j : ℕ) → greatest test n ≡ None → 0 < j → j ≤ n → test j ≡ true → ⊥
greatest_none test zero j e lt le h = absurd (omega arith)
greatest_none test (suc n) j e lt le h = elim (cases_Bool (test (suc n))) [
  | inl t ↦ let s : Some (suc n) ≡ None = sym (rw t refl) ∙ e in absurd cc
  | inr t ↦ elim (cases_order j (suc n)) [
    | inl same ↦ let bad : true ≡ false = sym h ∙ ap test same ∙ t in absurd cc
    | inr (inl l) ↦ greatest_none test n j (sym (rw t refl) ∙ e) lt (omega arith) h
    | inr (inr g) ↦ absurd (omega arith)
  ]
]

-- the tests and the relations
begins_is : (b : ℕ) → begins_char b ≡ true → 128 ≤ b → 192 ≤ b
begins_is b h le = grind (arith, nat_tests)

begins_bad : (b : ℕ) → (128 ≤ b → 192 ≤ b) → begins_char b ≡ false → ⊥
begins_bad b h e = grind (arith, nat_tests)

pub begins_from : (b : ℕ) → (128 ≤ b → 192 ≤ b) → begins_char b ≡ true
begins_from b h = elim (cases_Bool (begins_char b)) [ inl e ↦ e | inr e ↦ absurd (begins_bad b h e) ]

pub may_true : (s : List ℕ) (p : ℕ) → 0 < p → p < length s → may_cut s p ≡ true → MayCut s p
may_true s p lt le h =
    let b = and_parts (begins_char (get_or s p 0)) (is_short (take p s)) h in
    record {
      some = lt;
      more = le;
      whole = (omega arith, λ _ w. begins_is (get_or s p 0) b.0 w);
      short = leb-true (char_count (escaped (take p s))) 200 b.1;
    }

pub may_from : (s : List ℕ) (p : ℕ) → MayCut s p → may_cut s p ≡ true
may_from s p m = rw (
  begins_from (get_or s p 0) (m.whole.1 m.more),
  le-leb (char_count (escaped (take p s))) 200 m.short,
) refl

pub good_true : (s : List ℕ) (p : ℕ) → 0 < p → p < length s → is_good_cut s p ≡ true → IsGoodCut s p
good_true s p lt le h =
    let b = and_parts (not (eqb (get_or s (p - 1) 0) 32) && not (eqb (get_or s p 0) 32)) (may_cut s p) h in
    let a = and_parts (not (eqb (get_or s (p - 1) 0) 32)) (not (eqb (get_or s p 0) 32)) b.0 in
    record {
      may = may_true s p lt le b.1;
      before = eqb_no (get_or s (p - 1) 0) 32 (not-true _ a.0);
      after = eqb_no (get_or s p 0) 32 (not-true _ a.1);
    }

pub good_from : (s : List ℕ) (p : ℕ) → IsGoodCut s p → is_good_cut s p ≡ true
good_from s p g = rw (
  eqb_false (get_or s (p - 1) 0) 32 g.before,
  eqb_false (get_or s p 0) 32 g.after,
  may_from s p g.may,
) refl

-- a segment that is too long may be cut after its first character
first_char : (cs s : List ℕ) → encode_utf8_all cs ≡ s → 0 < length s → (c : ℕ)
    × ((rest : List ℕ) × (s ≡ encode_utf8 c ++ rest))
first_char [] s e lt = absurd (omega (arith, ap length e))
first_char (c ∷ cs) s e lt = (c, (encode_utf8_all cs, sym e))

pub has_cut : (s : List ℕ) → IsUtf8 s → is_short s ≡ false → (p : ℕ) × MayCut s p
has_cut s u h =
    let f = first_char u.0 s u.1.1 (short_nil s h) in
    let c : ℕ = f.0 in
    let rest : List ℕ = f.1.0 in
    let e : s ≡ encode_utf8 c ++ rest = f.1.1 in
    let long : 200 < char_count (escaped s) = leb-false (char_count (escaped s)) 200 h in
    let few : len_utf8 c ≤ 4 = (len_utf8_bounds c).1 in
    let one : 1 ≤ len_utf8 c = (len_utf8_bounds c).0 in
    let whole : length s ≡ len_utf8 c + length rest = ap length e ∙ length-append (encode_utf8 c) rest
    ∙ ap (λ (n : ℕ). n + length rest) (length-encode c) in
    let size : length s ≤ 4
    → ⊥ = λ le. absurd (omega (arith, char_count-le-length (escaped s), escaped_le_double false s)) in
    let start : 0 + len_utf8 c ≡ len_utf8 c = omega arith in
    let cut : IsCharBoundary s (len_utf8 c) = subst (IsCharBoundary s) start
    (IsCharBoundary-past_char s rest 0 c (omega arith) u e) in
    let small : length (take (len_utf8 c) s) ≡ len_utf8 c = length-take-le (len_utf8 c) s (omega arith) in (
      len_utf8 c,
      record {
        some = omega arith;
        more = elim (cases_order (len_utf8 c) (length s)) [
          | inl same ↦ absurd (size (omega arith))
          | inr (inl l) ↦
              l
          | inr (inr g) ↦ absurd (omega arith)
        ];
        whole = cut;
        short = omega (
          arith,
          char_count-le-length (escaped (take (len_utf8 c) s)),
          escaped_le_double false (take (len_utf8 c) s),
        );
      },
    )

choose : (s : List ℕ) (g m : Option ℕ) → greatest (is_good_cut s) (length s - 1) ≡ g
    → greatest (may_cut s) (length s - 1) ≡ m → ((p : ℕ) × MayCut s p) → IsCut s (unwrap_or g (unwrap_or m 1))
choose s (Some k) m e f h =
    let r = greatest_gives (is_good_cut s) (length s - 1) k e in
    inl (record {
      holds = good_true s k r.0 (omega (arith, r.0, r.1)) r.2;
      most = λ j w. greatest_most (is_good_cut s) (length s - 1) k j e w.may.some (omega (arith, w.may.more))
          (good_from s j w);
    })
choose s None (Some k) e f h =
    let r = greatest_gives (may_cut s) (length s - 1) k f in
    inr (
      λ j w. greatest_none (is_good_cut s) (length s - 1) j e w.may.some (omega (arith, w.may.more))
          (good_from s j w),
      record {
        holds = may_true s k r.0 (omega (arith, r.0, r.1)) r.2;
        most = λ j w. greatest_most (may_cut s) (length s - 1) k j f w.some (omega (arith, w.more)) (may_from s j w);
      },
    )
choose s None None e f h = absurd (greatest_none (may_cut s) (length s - 1) h.0 f h.1.some (omega (arith, h.1.more))
    (may_from s h.0 h.1))

pub cut_is : (s : List ℕ) → IsUtf8 s → is_short s ≡ false → IsCut s (cut_len s)
unfolding cut_len
cut_is s u h = choose s (greatest (is_good_cut s) (length s - 1)) (greatest (may_cut s) (length s - 1)) refl
    refl (has_cut s u h)

cut_may : (s : List ℕ) (p : ℕ) → IsCut s p → MayCut s p
cut_may s p (inl g) = g.holds.may
cut_may s p (inr g) = g.1.holds

pub cut_may_be : (s : List ℕ) → IsUtf8 s → is_short s ≡ false → MayCut s (cut_len s)
cut_may_be s u h = cut_may s (cut_len s) (cut_is s u h)

pub cut_shorter : (s : List ℕ) → IsUtf8 s → is_short s ≡ false → length (drop (cut_len s) s) < length s
cut_shorter s u h = omega (arith, length-drop (cut_len s) s, (cut_may_be s u h).some, (cut_may_be s u h).more)

cut_rest : (s : List ℕ) → IsUtf8 s → is_short s ≡ false → IsUtf8 (drop (cut_len s) s)
cut_rest s u h = IsUtf8-drop s (cut_len s) u (cut_may_be s u h).whole

-- the parts of a segment
pub parts_short : (n : ℕ) (s : List ℕ) → is_short s ≡ true → parts_by n s ≡ s ∷ []
unfolding parts_by
parts_short zero s h = refl
parts_short (suc n) s h = rw h refl

parts_long : (n : ℕ) (s : List ℕ) → is_short s ≡ false → parts_by (suc n) s ≡ take (cut_len s) s ∷ parts_by n
    (drop (cut_len s) s)
unfolding parts_by
parts_long n s h = rw h refl

fuel_same : (m n : ℕ) (s : List ℕ) → IsUtf8 s → length s ≤ m → length s ≤ n → parts_by m s ≡ parts_by n s
fuel_same zero zero s u a b = refl
fuel_same zero (suc n) s u a b = elim (cases_Bool (is_short s))
    [ inl h ↦ parts_short zero s h ∙ sym (parts_short (suc n) s h) | inr h ↦ absurd (omega (arith, short_nil s h)) ]
fuel_same (suc m) zero s u a b = elim (cases_Bool (is_short s))
    [ inl h ↦ parts_short (suc m) s h ∙ sym (parts_short zero s h) | inr h ↦ absurd (omega (arith, short_nil s h)) ]
fuel_same (suc m) (suc n) s u a b = elim (cases_Bool (is_short s)) [
  | inl h ↦ parts_short (suc m) s h ∙ sym (parts_short (suc n) s h)
  | inr h ↦ parts_long m s h ∙ ap (λ (x : List (List ℕ)). take (cut_len s) s ∷ x)
      (fuel_same m n (drop (cut_len s) s) (cut_rest s u h) (omega (arith, cut_shorter s u h))
      (omega (arith, cut_shorter s u h))) ∙ sym (parts_long n s h)
]

pub segment_short : (s : List ℕ) → is_short s ≡ true → segment_parts s ≡ s ∷ []
unfolding segment_parts
segment_short s h = parts_short (length s) s h

pub segment_long : (s : List ℕ) → IsUtf8 s → is_short s ≡ false → segment_parts s ≡ take (cut_len s) s ∷ segment_parts
    (drop (cut_len s) s)
unfolding segment_parts
segment_long s u h =
    fuel_same (length s) (suc (length s)) s u (omega arith) (omega arith) ∙ parts_long (length s) s h
    ∙ ap (λ (x : List (List ℕ)). take (cut_len s) s ∷ x)
    (fuel_same (length s) (length (drop (cut_len s) s)) (drop (cut_len s) s) (cut_rest s u h)
    (omega (arith, cut_shorter s u h)) (omega arith))

cons_parts : (s p rest : List ℕ) (ps : List (List ℕ)) → 200 < char_count (escaped s) → s ≡ p ++ rest
    → IsCut s (length p) → Parts rest ps → Parts s (p ∷ ps)
cons_parts s p rest [] long e cut h = absurd h
cons_parts s p rest (q ∷ ps) long e cut h = (long, (rest, (e, (cut, h))))

parts_hold : (n : ℕ) (s : List ℕ) → IsUtf8 s → length s ≤ n → Parts s (parts_by n s)
parts_hold zero s u le = elim (cases_Bool (is_short s)) [
  | inl h ↦ rw (parts_short zero s h) (refl, leb-true (char_count (escaped s)) 200 h)
  | inr h ↦ absurd (omega (arith, short_nil s h))
]
parts_hold (suc n) s u le = elim (cases_Bool (is_short s)) [
  | inl h ↦ rw (parts_short (suc n) s h) (refl, leb-true (char_count (escaped s)) 200 h)
  | inr h ↦
      let m = cut_may_be s u h in
      let same : length (take (cut_len s) s) ≡ cut_len s = length-take-le (cut_len s) s (omega (arith, m.more)) in
      rw (parts_long n s h) (cons_parts s (take (cut_len s) s) (drop (cut_len s) s) (parts_by n (drop (cut_len s) s))
      (leb-false (char_count (escaped s)) 200 h) (sym (take-append-drop (cut_len s) s))
      (subst (IsCut s) (sym same) (cut_is s u h))
      (parts_hold n (drop (cut_len s) s) (cut_rest s u h) (omega (arith, cut_shorter s u h))))
]

pub segment_parts_hold : (s : List ℕ) → IsUtf8 s → Parts s (segment_parts s)
unfolding segment_parts
segment_parts_hold s u = parts_hold (length s) s u (omega arith)

-- joined
join_parts : (n : ℕ) (s : List ℕ) → flat_map (λ x. x) (parts_by n s) ≡ s
unfolding parts_by
join_parts zero s = append-nil s
join_parts (suc n) s = elim (cases_Bool (is_short s)) [
  | inl h ↦ rw h (append-nil s)
  | inr h ↦ rw (h, join_parts n (drop (cut_len s) s)) (take-append-drop (cut_len s) s)
]

added_conc : (ps : List (List ℕ)) → flat_map added (marked Conc ps) ≡ flat_map (λ x. x) ps
added_conc [] = refl
added_conc (p ∷ ps) = ap (λ (x : List ℕ). p ++ x) (added_conc ps)

added_marked : (m : Mark) (p : List ℕ) (ps : List (List ℕ)) → flat_map added (marked m (p ∷ ps))
    ≡ between m ++ flat_map (λ x. x) (p ∷ ps)
added_marked m p ps = append_assoc (between m) p (flat_map added (marked Conc ps))
    ∙ ap (λ (x : List ℕ). between m ++ (p ++ x)) (added_conc ps)

parts_head : (n : ℕ) (s : List ℕ) → (p : List ℕ) × ((ps : List (List ℕ)) × (parts_by n s ≡ p ∷ ps))
unfolding parts_by
parts_head zero s = (s, ([], refl))
parts_head (suc n) s = elim (cases_Bool (is_short s)) [
  | inl h ↦ (s, ([], rw h refl))
  | inr h ↦ (take (cut_len s) s, (parts_by n (drop (cut_len s) s), rw h refl))
]

pub segment_head : (s : List ℕ) → (p : List ℕ) × ((ps : List (List ℕ)) × (segment_parts s ≡ p ∷ ps))
unfolding segment_parts
segment_head s = parts_head (length s) s

segment_join : (s : List ℕ) → flat_map (λ x. x) (segment_parts s) ≡ s
unfolding segment_parts
segment_join s = join_parts (length s) s

pub segment_added : (s : List ℕ) → flat_map added (marked Cont (segment_parts s)) ≡ 10 ∷ s
segment_added s =
    let h = segment_head s in
    ap (λ (x : List (List ℕ)). flat_map added (marked Cont x)) h.1.1 ∙ added_marked Cont h.0 h.1.0
    ∙ ap (λ (x : List (List ℕ)). 10 ∷ flat_map (λ y. y) x) (sym h.1.1) ∙ ap (λ (x : List ℕ). 10 ∷ x)
    (segment_join s)

segments_added : (xss : List (List ℕ)) → flat_map added (flat_map (λ s. marked Cont (segment_parts s)) xss)
    ≡ flat_map (λ s. 10 ∷ s) xss
segments_added [] = refl
segments_added (s ∷ xss) = flat_map-append added (marked Cont (segment_parts s))
    (flat_map (λ x. marked Cont (segment_parts x)) xss) ∙ rw (segment_added s, segments_added xss) refl

onto_added : (x : ℕ) (ps : List (List ℕ)) (xs : List ℕ) → flat_map (λ s. 10 ∷ s) ps ≡ 10 ∷ xs
    → flat_map (λ s. 10 ∷ s) (onto_first x ps) ≡ 10 ∷ x ∷ xs
onto_added x [] xs e = absurd cc
onto_added x (p ∷ ps) xs e =
    let t : p ++ flat_map (λ s. 10 ∷ s) ps ≡ xs = cc in
    ap (λ (y : List ℕ). 10 ∷ x ∷ y) t

split_added : (t : List ℕ) → flat_map (λ s. 10 ∷ s) (slice_split is_lf t) ≡ 10 ∷ t
split_added [] = refl
split_added (x ∷ xs) = elim (cases_Bool (is_lf x)) [
  | inl h ↦ rw (h, split_added xs) (ap (λ (y : ℕ). 10 ∷ y ∷ xs) (sym (eqb-true x 10 h)))
  | inr h ↦ rw h (onto_added x (slice_split is_lf xs) xs (split_added xs))
]

pub canonical_added : (t : List ℕ) → flat_map added (canonical t) ≡ 10 ∷ t
unfolding canonical
canonical_added t = segments_added (slice_split is_lf t) ∙ split_added t

split_head : (t : List ℕ) → (s : List ℕ) × ((ss : List (List ℕ)) × (slice_split is_lf t ≡ s ∷ ss))
split_head [] = ([], ([], refl))
split_head (x ∷ xs) = elim (cases_Bool (is_lf x)) [
  | inl h ↦ ([], (slice_split is_lf xs, rw h refl))
  | inr h ↦ let r = split_head xs in (x ∷ r.0, (r.1.0, rw (h, r.1.1) refl))
]

pub canonical_head : (t : List ℕ) → (p : List ℕ)
    × ((ps : List Part) × (canonical t ≡ record { mark = Cont; text = p } ∷ ps))
unfolding canonical
canonical_head t =
    let a = split_head t in
    let b = segment_head a.0 in
    (b.0, (marked Conc b.1.0 ++ flat_map (λ s. marked Cont (segment_parts s)) a.1.0, rw (a.1.1, b.1.1) refl))

joined_from : (p t : List ℕ) (ps qs : List Part) → qs ≡ record { mark = Cont; text = p } ∷ ps
    → flat_map added qs ≡ 10 ∷ t → joined qs ≡ t
joined_from p t ps qs e h =
    let k : 10 ∷ (p ++ flat_map added ps) ≡ 10 ∷ t = sym (ap (flat_map added) e) ∙ h in
    let j : p ++ flat_map added ps ≡ t = cc in
    rw e j

pub joined-canonical : (t : List ℕ) → joined (canonical t) ≡ t
joined-canonical t =
    let h = canonical_head t in
    joined_from h.0 t h.1.0 (canonical t) h.1.1 (canonical_added t)

-- the steps of the code
pub no_lf_each : (xs : List ℕ) → NoLf xs → All (λ x. is_lf x ≡ false) xs
no_lf_each xs h = λ i d lt. eqb_false (get_or xs i d) 10 (λ e. h i lt (get_or_default xs i 0 d lt ∙ e))

pub canonical_step : (t xs ys : List ℕ) → t ≡ xs ++ 10 ∷ ys → NoLf xs → canonical t ≡ marked Cont
    (segment_parts xs) ++ canonical ys
unfolding canonical
canonical_step t xs ys e h = ap (λ (x : List ℕ). flat_map (λ s. marked Cont (segment_parts s)) (slice_split is_lf x)) e
    ∙ ap (flat_map (λ s. marked Cont (segment_parts s))) (slice_split_at is_lf xs 10 ys (no_lf_each xs h) refl)

pub canonical_last : (t : List ℕ) → NoLf t → canonical t ≡ marked Cont (segment_parts t)
unfolding canonical
canonical_last t h = ap (flat_map (λ s. marked Cont (segment_parts s))) (slice_split_none is_lf t (no_lf_each t h))
    ∙ append-nil (marked Cont (segment_parts t))

pub push_turn : (out new : List TextPart) (p : TextPart) (s rest : List ℕ) (whole : List Part) → new ≡ out ++ p ∷ []
    → p.text.now ≡ take (cut_len s) s → rest ≡ drop (cut_len s) s → IsUtf8 s → is_short s ≡ false
    → map part out ++ marked p.mark (segment_parts s) ≡ whole → map part new ++ marked Conc (segment_parts rest) ≡ whole
push_turn out new p s rest whole e f g u h so_far =
    let front : map part new ≡ map part out ++ part p ∷ [] = ap (map part) e ∙ map_push part out p in
    let parts : segment_parts s ≡ p.text.now ∷ segment_parts rest = segment_long s u h ∙ rw (f, g) refl in
    ap (λ (x : List Part). x ++ marked Conc (segment_parts rest)) front ∙ append_assoc (map part out) (part p ∷ [])
    (marked Conc (segment_parts rest)) ∙ ap (λ (x : List (List ℕ)). map part out ++ marked p.mark x)
    (sym parts) ∙ so_far

pub push_last : (out new : List TextPart) (p : TextPart) (s : List ℕ) (whole : List Part) → new ≡ out ++ p ∷ []
    → p.text.now ≡ s → is_short s ≡ true → map part out ++ marked p.mark (segment_parts s) ≡ whole
    → map part new ≡ whole
push_last out new p s whole e f h so_far =
    let front : map part new ≡ map part out ++ part p ∷ [] = ap (map part) e ∙ map_push part out p in
    front ∙ ap (λ (x : List (List ℕ)). map part out ++ marked p.mark x)
    (ap (λ (x : List ℕ). x ∷ []) f ∙ sym (segment_short s h)) ∙ so_far

pub pieces_turn : (out new : List Part) (xs ys rest t : List ℕ) → rest ≡ xs ++ 10 ∷ ys → NoLf xs
    → new ≡ out ++ marked Cont (segment_parts xs) → out ++ canonical rest ≡ canonical t
    → new ++ canonical ys ≡ canonical t
pieces_turn out new xs ys rest t e h f so_far =
    ap (λ (x : List Part). x ++ canonical ys) f ∙ append_assoc out (marked Cont (segment_parts xs)) (canonical ys)
    ∙ ap (λ (x : List Part). out ++ x) (sym (canonical_step rest xs ys e h)) ∙ so_far

pub pieces_end : (out new : List Part) (rest t : List ℕ) → NoLf rest → new ≡ out ++ marked Cont (segment_parts rest)
    → out ++ canonical rest ≡ canonical t → new ≡ canonical t
pieces_end out new rest t h f so_far = f ∙ ap (λ (x : List Part). out ++ x) (sym (canonical_last rest h)) ∙ so_far

-- Reading and the definition of a line are one.
use Rattle.std.proofs.Common.{
  ◌≡◌,
  ℕ,
  ◌+◌,
  ◌-◌,
  ◌*◌,
  ◌<◌,
  ◌≤◌,
  Bool,
  true,
  false,
  cond,
  eqb,
  ltb,
  leb,
  not,
  ◌&&◌,
  ◌||◌,
  List,
  [],
  ◌∷◌,
  ◌++◌,
  length,
  get_or,
  take,
  drop,
  length-append,
  append_assoc,
  refl,
  sym,
  ap,
  ◌∙◌,
  subst,
  eq-eqb,
  inl,
  inr,
  arith,
  Option,
  Some,
  None,
  ◌⊎◌,
}
use Rattle.std.specs.List.{prefix_len, list_all, position_or_len, before_first, after_first}
use Rattle.std.specs.Cmp.Derive.{both_true}
use Rattle.std.proofs.lemmas.List.Sums.{split_at_first, passes_at_first}
use Rattle.std.proofs.lemmas.Bool.{eqb-true, leb-true, ltb-true, ltb-false, lt-ltb, le-leb, le-ltb, and_parts, or_parts}
use Rattle.std.proofs.lemmas.List.{take-append-drop}
use Rattle.std.proofs.lemmas.List.Folds.{length-prefix_len}
use Rattle.std.proofs.Math.Seq.{drop-append_seam, take-append_seam, drop-append-add}
use Rattle.std.proofs.Math.Numerals.{one-add}
use Rattle.gedcom_line.specs.Words.{is_white, is_digit, is_space, is_word, is_at}
use Rattle.gedcom_line.specs.Line.{Stops, Spans, IsNumber, HasLevel, HasXref, HasTag, IsName}
use Rattle.gedcom_line.specs.Past.{past_char}
use Rattle.gedcom_line.specs.Reading.{
  skip,
  number_of,
  after_gap,
  ◌>>=◌,
  is_name,
  named_at,
  value_after,
  level_at,
  xref_at,
  tag_at,
}
use Rattle.list_laws.proofs.Outcomes.{some_is}

-- the front that passes, and the rest
pub stops_skip : (p : ℕ → Bool) (t : List ℕ) → Stops p (drop (prefix_len p t) t)
stops_skip p [] = tt
stops_skip p (b ∷ bs) = elim (p b) as (λ v. p b ≡ v → Stops p (drop (cond v (1 + prefix_len p bs) 0) (b ∷ bs)))
    [ true ↦ λ e. rw one-add (stops_skip p bs) | false ↦ λ e. e ] refl

pub all_front : (p : ℕ → Bool) (t : List ℕ) → list_all p (take (prefix_len p t) t) ≡ true
all_front p [] = refl
all_front p (b ∷ bs) = elim (p b) as (λ v. p b ≡ v → list_all p (take (cond v (1 + prefix_len p bs) 0) (b ∷ bs)) ≡ true)
    [ true ↦ λ e. rw (one-add, e) (all_front p bs) | false ↦ λ e. refl ] refl

pub spans_made : (p : ℕ → Bool) (t : List ℕ) → Spans p t (take (prefix_len p t) t) (skip p t)
spans_made p t = record {
  parts = sym (take-append-drop (prefix_len p t) t);
  passes = all_front p t;
  stops = stops_skip p t;
}

pub front_len : (p : ℕ → Bool) (front rest : List ℕ) → list_all p front ≡ true → Stops p rest
    → prefix_len p (front ++ rest) ≡ length front
front_len p [] [] a s = refl
front_len p [] (b ∷ bs) a s = rw s refl
front_len p (b ∷ bs) rest a s =
    let h = and_parts (p b) (list_all p bs) a in
    rw (h.0, one-add, front_len p bs rest h.1 s) refl

pub spans_only : (p : ℕ → Bool) (t front rest : List ℕ) → Spans p t front rest → (take (prefix_len p t) t ≡ front)
    × (skip p t ≡ rest)
spans_only p t front rest s =
    let n : prefix_len p t ≡ length front = ap (prefix_len p) s.parts ∙ front_len p front rest s.passes s.stops in
    (rw (n, s.parts, take-append_seam) refl, rw (n, s.parts, drop-append_seam) refl)

-- options, one step after another
pub bind_some : {A B : Type 0} (r : Option A) (f : A → Option B) (y : B) → (r >>= f) ≡ Some y
    → (x : A) × (r ≡ Some x) × (f x ≡ Some y)
bind_some (Some x) f y e = (x, refl, e)
bind_some None f y e = absurd cc

pub guard_some : {A : Type 0} (b : Bool) (r : Option A) (y : A) → cond b None r ≡ Some y → (b ≡ false) × (r ≡ Some y)
guard_some true r y e = absurd cc
guard_some false r y e = (refl, e)

pub chosen_some : {A : Type 0} (b : Bool) (r : Option A) (y : A) → cond b r None ≡ Some y → (b ≡ true) × (r ≡ Some y)
chosen_some true r y e = (refl, e)
chosen_some false r y e = absurd cc

pub eqb_false : (a b : ℕ) → (a ≡ b → ⊥) → eqb a b ≡ false
eqb_false a b h = elim (eqb a b) as (λ v. eqb a b ≡ v → v ≡ false) [
  | true ↦ λ e. absurd (h (eqb-true a b e))
  | false ↦
      λ e. refl
] refl

pub eqb_no : (a b : ℕ) → eqb a b ≡ false → a ≡ b → ⊥
eqb_no a b e h = let y : eqb a b ≡ true = eq-eqb a b h in cc

-- spaces
pub gap_spans : (t rest : List ℕ) → after_gap t ≡ Some rest → (gap : List ℕ)
    × (Spans is_space t gap rest × (0 < length gap))
gap_spans t rest e =
    let g = guard_some (eqb (prefix_len is_space t) 0) (Some (skip is_space t)) rest e in
    let same : skip is_space t ≡ rest = some_is _ _ g.1 in
    let many : length (take (prefix_len is_space t) t) ≡ prefix_len is_space t = length-prefix_len is_space t in
    let none : prefix_len is_space t ≡ 0 → ⊥ = eqb_no _ _ g.0 in (
      take (prefix_len is_space t) t,
      (
        subst (λ (r : List ℕ). Spans is_space t (take (prefix_len is_space t) t) r) same (spans_made is_space t),
        omega arith,
      ),
    )

pub spans_gap : (t gap rest : List ℕ) → Spans is_space t gap rest → 0 < length gap → after_gap t ≡ Some rest
spans_gap t gap rest s some =
    let o = spans_only is_space t gap rest s in
    let n : prefix_len is_space t ≡ length gap = ap (prefix_len is_space) s.parts
    ∙ front_len is_space gap rest s.passes s.stops in
    let no : eqb (prefix_len is_space t) 0 ≡ false = eqb_false _ _ (λ h. absurd (omega arith)) in
    rw (no, o.1) refl

-- numbers
pub digit_in : (b : ℕ) → is_digit b ≡ true → (48 ≤ b) × (b ≤ 57)
digit_in b h = let k = and_parts (leb 48 b) (leb b 57) h in (leb-true 48 b k.0, leb-true b 57 k.1)

pub number_spelled : (ds : List ℕ) (n : ℕ) → list_all is_digit ds ≡ true → number_of ds ≡ Some n → IsNumber ds n
number_spelled [] n a e = absurd cc
number_spelled (x ∷ []) n a e =
    let h : x - 48 ≡ n = cc in
    let d = digit_in x (and_parts (is_digit x) true a).0 in
    omega (arith, d.0)
number_spelled (x ∷ y ∷ []) n a e =
    let h : 10 * (x - 48) + (y - 48) ≡ n = cc in
    let b = and_parts (is_digit x) (is_digit y && true) a in
    let d = digit_in x b.0 in
    let c = digit_in y (and_parts (is_digit y) true b.1).0 in
    omega (arith, d.0, c.0)
number_spelled (x ∷ y ∷ z ∷ ds) n a e = absurd cc

pub spelled_number : (ds : List ℕ) (n : ℕ) → list_all is_digit ds ≡ true → IsNumber ds n → number_of ds ≡ Some n
spelled_number [] n a e = absurd e
spelled_number (x ∷ []) n a e = ap Some (omega arith)
spelled_number (x ∷ y ∷ []) n a e =
    let b = and_parts (is_digit x) (is_digit y && true) a in
    let d = digit_in x b.0 in
    let c = digit_in y (and_parts (is_digit y) true b.1).0 in
    ap Some (omega (arith, d.0, c.0))
spelled_number (x ∷ y ∷ z ∷ ds) n a e = absurd e

-- a level
pub level_spelled : (b : List ℕ) (n : ℕ) (rest : List ℕ) → level_at (skip is_white b) ≡ Some (n, rest)
    → HasLevel b n rest
unfolding level_at
level_spelled b n rest e =
    let t : List ℕ = skip is_white b in
    let one = bind_some (number_of (take (prefix_len is_digit t) t))
    (λ n. after_gap (skip is_digit t) >>= λ rest. Some (n, rest)) (n, rest) e in
    let two = bind_some (after_gap (skip is_digit t)) (λ rest. Some (one.0, rest)) (n, rest) one.2 in
    let same : (one.0, two.0) ≡ (n, rest) = some_is (one.0, two.0) (n, rest) two.2 in
    let same_n : one.0 ≡ n = ap (λ (x : ℕ × List ℕ). x.0) same in
    let same_rest : two.0 ≡ rest = ap (λ (x : ℕ × List ℕ). x.1) same in
    let g = gap_spans (skip is_digit t) rest (two.1 ∙ ap Some same_rest) in
    record {
      white = take (prefix_len is_white b) b;
      from = t;
      digits = take (prefix_len is_digit t) t;
      after = skip is_digit t;
      gap = g.0;
      indented = spans_made is_white b;
      spelled = spans_made is_digit t;
      number = number_spelled (take (prefix_len is_digit t) t) n (all_front is_digit t) (one.1 ∙ ap Some same_n);
      spaced = g.1.0;
      some = g.1.1;
    }

pub spelled_level : (b : List ℕ) (n : ℕ) (rest : List ℕ) → HasLevel b n rest → level_at (skip is_white b)
    ≡ Some (n, rest)
unfolding level_at
spelled_level b n rest h =
    let w = spans_only is_white b h.white h.from h.indented in
    let d = spans_only is_digit h.from h.digits h.after h.spelled in
    rw (
      w.1,
      d.0,
      d.1,
      spelled_number h.digits n h.spelled.passes h.number,
      spans_gap h.after h.gap rest h.spaced h.some,
    ) refl

-- a cross reference
pub past_at : (t : List ℕ) → (past_char 64 t ≡ None × Stops is_at t)
    ⊎ ((inner : List ℕ) × ((past_char 64 t ≡ Some inner) × (t ≡ 64 ∷ inner)))
past_at [] = inl (refl, tt)
past_at (c ∷ cs) = elim (eqb c 64) as (λ v. eqb c 64 ≡ v → (cond v (Some cs) None ≡ None × v ≡ false)
    ⊎ ((inner : List ℕ) × ((cond v (Some cs) None ≡ Some inner) × (c ∷ cs ≡ 64 ∷ inner)))) [
      | true ↦ λ e. inr (cs, (refl, ap (λ (x : ℕ). x ∷ cs) (eqb-true c 64 e)))
      | false ↦ λ e. inl (refl, refl)
    ] refl

-- what stands before the first @ and after it
pub at_parts : (inner : List ℕ) → position_or_len is_at inner < length inner → inner ≡ before_first is_at inner ++ 64
    ∷ after_first is_at inner
at_parts inner h =
    let e : get_or inner (position_or_len is_at inner) 0 ≡ 64 = eqb-true _ 64 (passes_at_first is_at inner 0 h) in
    split_at_first is_at inner 0 h ∙ rw e refl

pub before_len : (name after : List ℕ) → list_all (λ b. not (is_at b)) name ≡ true
    → position_or_len is_at (name ++ 64 ∷ after) ≡ length name
before_len name after a = front_len (λ b. not (is_at b)) name (64 ∷ after) a refl

pub name_is : (name : List ℕ) → is_name name ≡ true → list_all (λ b. not (is_at b)) name ≡ true → IsName name
name_is [] e a = absurd cc
name_is (c ∷ cs) e a = let h = and_parts (is_word c) (leb (length (c ∷ cs)) 62) e in (h.0, a, leb-true _ 62 h.1)

pub is_name_of : (name : List ℕ) → IsName name → (is_name name ≡ true) × (list_all (λ b. not (is_at b)) name ≡ true)
is_name_of [] n = absurd n
is_name_of (c ∷ cs) n = (both_true n.0 (le-leb _ _ n.2), n.1)

-- the reference at the front of a text
pub ref_front : (name after : List ℕ) → (take (length name + 2) (64 ∷ name ++ 64 ∷ after) ≡ 64 ∷ name ++ 64 ∷ [])
    × (64 ∷ name ++ 64 ∷ after ≡ (64 ∷ name ++ 64 ∷ []) ++ after)
ref_front name after =
    let whole : 64 ∷ name ++ 64 ∷ after ≡ (64 ∷ name ++ 64 ∷ []) ++ after = sym
    (append_assoc (64 ∷ name) (64 ∷ []) after) in
    let n : length (64 ∷ name ++ 64 ∷ []) ≡ length name + 2 = length-append (64 ∷ name) (64 ∷ []) ∙ omega arith in
    (rw (whole, ← n) (take-append_seam (64 ∷ name ++ 64 ∷ []) after), whole)

pub xref_spelled : (t : List ℕ) (x : Option (List ℕ)) (rest : List ℕ) → xref_at t ≡ Some (x, rest) → HasXref t x rest
unfolding xref_at
xref_spelled t x rest e = elim (past_at t) [
  | inl h ↦
      let f : Some (None, t) ≡ Some (x, rest) = rw h.0 at e in
      let same : (None, t) ≡ (x, rest) = some_is (None, t) (x, rest) f in
      let sx : None ≡ x = ap (λ (y : Option (List ℕ) × List ℕ). y.0) same in
      let sr : t ≡ rest = ap (λ (y : Option (List ℕ) × List ℕ). y.1) same in
      subst (λ (y : Option (List ℕ)). HasXref t y rest) sx (h.1, sym sr)
  | inr h ↦
      let f : named_at t h.0 ≡ Some (x, rest) = rw h.1.0 at e in
      let name : List ℕ = before_first is_at h.0 in
      let after : List ℕ = after_first is_at h.0 in
      let c = chosen_some (ltb (position_or_len is_at h.0) (length h.0) && is_name name)
      (after_gap after >>= λ rest. Some (Some (take (length name + 2) t), rest)) (x, rest) f in
      let ok = and_parts (ltb (position_or_len is_at h.0) (length h.0)) (is_name name) c.0 in
      let b = bind_some (after_gap after) (λ rest. Some (Some (take (length name + 2) t), rest)) (x, rest) c.1 in
      let same : (Some (take (length name + 2) t), b.0) ≡ (x, rest) = some_is (Some (take (length name + 2) t), b.0)
      (x, rest) b.2 in
      let sx : Some (take (length name + 2) t) ≡ x = ap (λ (y : Option (List ℕ) × List ℕ). y.0) same in
      let sr : b.0 ≡ rest = ap (λ (y : Option (List ℕ) × List ℕ). y.1) same in
      let inside : h.0 ≡ name ++ 64 ∷ after = at_parts h.0 (ltb-true _ _ ok.0) in
      let whole : t ≡ 64 ∷ name ++ 64 ∷ after = h.1.1 ∙ ap (λ (y : List ℕ). 64 ∷ y) inside in
      let g = gap_spans after rest (b.1 ∙ ap Some sr) in
      subst (λ (y : Option (List ℕ)). HasXref t y rest) sx (record {
        name = name;
        after = after;
        gap = g.0;
        named = name_is name ok.1 (all_front (λ b. not (is_at b)) h.0);
        marked = ap (take (length name + 2)) whole ∙ (ref_front name after).0;
        parts = whole;
        spaced = g.1.0;
        some = g.1.1;
      })
]

pub spelled_xref : (t : List ℕ) (x : Option (List ℕ)) (rest : List ℕ) → HasXref t x rest → xref_at t ≡ Some (x, rest)
unfolding xref_at
spelled_xref t None rest h = elim (past_at t) [
  | inl k ↦ rw (k.0, h.1) refl
  | inr k ↦ let bad : Stops is_at (64 ∷ k.0) = subst (Stops is_at) k.1.1 h.0 in absurd cc
]
spelled_xref t (Some x) rest h =
    let n = is_name_of h.name h.named in
    let len : position_or_len is_at (h.name ++ 64 ∷ h.after) ≡ length h.name = before_len h.name h.after n.1 in
    let before : before_first is_at (h.name ++ 64 ∷ h.after) ≡ h.name = rw len
    (take-append_seam h.name (64 ∷ h.after)) in
    let after : after_first is_at (h.name ++ 64 ∷ h.after) ≡ h.after = rw len
    (drop-append-add h.name (64 ∷ h.after) 1) in
    let in_range : ltb (position_or_len is_at (h.name ++ 64 ∷ h.after)) (length (h.name ++ 64 ∷ h.after))
    ≡ true = lt-ltb _ _ (omega (arith, len, length-append h.name (64 ∷ h.after))) in
    rw h.parts (rw (
      in_range,
      before,
      n.0,
      after,
      spans_gap h.after h.gap rest h.spaced h.some,
      (ref_front h.name h.after).0,
      ← h.marked,
    ) refl)

-- a tag
pub value_is : (after raw : List ℕ) → value_after after ≡ Some raw → ((after ≡ []) × (raw ≡ [])) ⊎ (after ≡ 32 ∷ raw)
value_is [] raw e = inl (refl, sym (some_is [] raw e))
value_is (b ∷ bs) raw e =
    let c = chosen_some (eqb b 32) (Some bs) raw e in
    let h : b ≡ 32 = eqb-true b 32 c.0 in
    let k : bs ≡ raw = some_is bs raw c.1 in
    inr cc

pub value_of : (after raw : List ℕ) → ((after ≡ []) × (raw ≡ [])) ⊎ (after ≡ 32 ∷ raw) → value_after after ≡ Some raw
value_of after raw (inl h) = rw (h.0, h.1) refl
value_of after raw (inr h) = rw h refl

pub tag_spelled : (t tag raw : List ℕ) → tag_at t ≡ Some (tag, raw) → HasTag t tag raw
unfolding tag_at
tag_spelled t tag raw e =
    let n : ℕ = prefix_len is_word t in
    let g = guard_some (eqb n 0 || ltb 31 n) (value_after (skip is_word t) >>= λ raw. Some (take n t, raw))
    (tag, raw) e in
    let no = or_parts (eqb n 0) (ltb 31 n) g.0 in
    let b = bind_some (value_after (skip is_word t)) (λ raw. Some (take n t, raw)) (tag, raw) g.1 in
    let same : (take n t, b.0) ≡ (tag, raw) = some_is (take n t, b.0) (tag, raw) b.2 in
    let st : take n t ≡ tag = ap (λ (y : List ℕ × List ℕ). y.0) same in
    let sr : b.0 ≡ raw = ap (λ (y : List ℕ × List ℕ). y.1) same in
    let len : length tag ≡ n = ap length (sym st) ∙ length-prefix_len is_word t in
    let low : n ≡ 0 → ⊥ = eqb_no n 0 no.0 in
    record {
      after = skip is_word t;
      spelled = subst (λ (y : List ℕ). Spans is_word t y (skip is_word t)) st (spans_made is_word t);
      some = omega arith;
      short = omega (arith, ltb-false 31 n no.1);
      value = value_is (skip is_word t) raw (b.1 ∙ ap Some sr);
    }

pub spelled_tag : (t tag raw : List ℕ) → HasTag t tag raw → tag_at t ≡ Some (tag, raw)
unfolding tag_at
spelled_tag t tag raw h =
    let o = spans_only is_word t tag h.after h.spelled in
    let n : prefix_len is_word t ≡ length tag = ap (prefix_len is_word) h.spelled.parts
    ∙ front_len is_word tag h.after h.spelled.passes h.spelled.stops in
    let some : 0 < length tag = h.some in
    let short : length tag ≤ 31 = h.short in
    let no : eqb (prefix_len is_word t) 0 ≡ false = eqb_false _ _ (λ k. absurd (omega arith)) in
    let low : ltb 31 (prefix_len is_word t) ≡ false = le-ltb _ _ (omega arith) in
    rw (no, low, o.0, o.1, value_of h.after raw h.value) refl

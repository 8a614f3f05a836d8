-- What a text is made of: each text has one list of elements, and one written form, which is the computed one.
use Rattle.std.proofs.Common.{
  ◌≡◌,
  ℕ,
  zero,
  suc,
  ◌<◌,
  ◌≤◌,
  true,
  false,
  cond,
  eqb,
  ltb,
  ◌&&◌,
  not,
  List,
  [],
  ◌∷◌,
  ◌++◌,
  length,
  get_or,
  refl,
  sym,
  ap,
  ◌∙◌,
  subst,
  inl,
  inr,
  arith,
  append_assoc,
  length-append,
  Some,
  None,
}
use Rattle.std.specs.Prelude.{is_some}
use Rattle.std.specs.List.{position_or_len, before_first, after_first, list_all, flat_map}
use Rattle.std.specs.Option.{option_map_or}
use Rattle.std.proofs.lemmas.Bool.{eqb-true, ltb-true, not-true, and_parts, cases_Bool}
use Rattle.std.proofs.lemmas.List.{length-take-le}
use Rattle.std.proofs.lemmas.List.Sums.{AllPass-from_list_all}
use Rattle.gedcom_line.specs.Words.{is_at}
use Rattle.gedcom_line.specs.Past.{past_char}
use Rattle.gedcom_line.specs.Escape.{
  NoAt,
  HasEscape,
  Element,
  Escape,
  Byte,
  Elements,
  element_text,
  IsEscaped,
  ends_escape,
  begins_escape,
  escaped_from,
  escaped,
}
use Rattle.gedcom_line.proofs.Steps.{eqb_no, at_parts, all_front, before_len}
use Rattle.gedcom_line.proofs.Doubled.{space_after, head_no_at, tail_no_at, escaped_skip, marks_begin, marks_pair}
use Rattle.gedcom_line.proofs.Fronts.{ends_spelled}
use Rattle.gedcom_line.proofs.Segments.{front_one}

no_at_all : (t : List ℕ) → NoAt t → list_all (λ b. not (is_at b)) t ≡ true
no_at_all [] h = refl
no_at_all (c ∷ cs) h = rw (head_no_at c cs h, no_at_all cs (tail_no_at c cs h)) refl

pub no_at_of : (t : List ℕ) → list_all (λ b. not (is_at b)) t ≡ true → NoAt t
no_at_of t h = λ i lt e. eqb_no (get_or t i 0) 64 (not-true _ (AllPass-from_list_all (λ b. not (is_at b)) t h i 0 lt)) e

-- the test of an escape and its definition
begins_is : (cs body rest : List ℕ) → HasEscape (64 ∷ cs) body rest → begins_escape cs ≡ true
begins_is cs body rest h =
    let s : 64 ∷ cs ≡ 64 ∷ 35 ∷ body ++ 64 ∷ 32 ∷ rest = h.spelled in
    let e : cs ≡ 35 ∷ body ++ 64 ∷ 32 ∷ rest = cc in
    rw e (ends_spelled body rest (no_at_all body h.plain) h.some)

hash_after : (cs : List ℕ) → begins_escape cs ≡ true → (es : List ℕ) × ((cs ≡ 35 ∷ es) × (ends_escape es ≡ true))
hash_after [] e = absurd cc
hash_after (c ∷ cs) e = elim (eqb c 35) as (λ v. eqb c 35 ≡ v → option_map_or ends_escape (cond v (Some cs) None) false
    ≡ true → (es : List ℕ) × ((c ∷ cs ≡ 35 ∷ es) × (ends_escape es ≡ true))) [
      | true ↦ λ k f. (cs, (ap (λ (x : ℕ). x ∷ cs) (eqb-true c 35 k), f))
      | false ↦ λ k f. absurd cc
    ] refl e

begins_has : (cs : List ℕ) → begins_escape cs ≡ true → (body : List ℕ)
    × ((rest : List ℕ) × HasEscape (64 ∷ cs) body rest)
begins_has cs e =
    let k = hash_after cs e in
    let es : List ℕ = k.0 in
    let a = and_parts (ltb 0 (position_or_len is_at es) && ltb (position_or_len is_at es) (length es))
    (is_some (past_char 32 (after_first is_at es))) k.1.1 in
    let b = and_parts (ltb 0 (position_or_len is_at es)) (ltb (position_or_len is_at es) (length es)) a.0 in
    let s = space_after (after_first is_at es) a.1 in
    let size : length (before_first is_at es) ≡ position_or_len is_at es = length-take-le (position_or_len is_at es) es
    (omega (arith, ltb-true _ _ b.1)) in
    let whole : es ≡ before_first is_at es ++ 64 ∷ 32 ∷ s.0 = at_parts es (ltb-true _ _ b.1)
    ∙ ap (λ (x : List ℕ). before_first is_at es ++ 64 ∷ x) s.1 in (
      before_first is_at es,
      (
        s.0,
        record {
          spelled = ap (λ (x : List ℕ). 64 ∷ x) k.1.0 ∙ ap (λ (x : List ℕ). 64 ∷ 35 ∷ x) whole;
          some = omega (arith, size, ltb-true _ _ b.0);
          plain = no_at_of (before_first is_at es) (all_front (λ b. not (is_at b)) es);
        },
      ),
    )

-- no escape begins with another character
pub none_but_at : (c : ℕ) (cs : List ℕ) → eqb c 64 ≡ false → (body rest : List ℕ) → ¬ (HasEscape (c ∷ cs) body rest)
none_but_at c cs k body rest h =
    let s : c ∷ cs ≡ 64 ∷ 35 ∷ body ++ 64 ∷ 32 ∷ rest = h.spelled in
    let e : c ≡ 64 = cc in
    eqb_no c 64 k e

-- nor where the test finds none
pub none_begins : (cs : List ℕ) → begins_escape cs ≡ false → (body rest : List ℕ) → ¬ (HasEscape (64 ∷ cs) body rest)
none_begins cs k body rest h =
    let y : begins_escape cs ≡ true = begins_is cs body rest h in
    absurd cc

-- an escape is written as it stands
escape_whole : (cs body rest : List ℕ) → HasEscape (64 ∷ cs) body rest → escaped (64 ∷ cs)
    ≡ (64 ∷ 35 ∷ body ++ 64 ∷ 32 ∷ []) ++ escaped rest
escape_whole cs body rest h =
    let s : 64 ∷ cs ≡ 64 ∷ 35 ∷ body ++ 64 ∷ 32 ∷ rest = h.spelled in
    let e : cs ≡ 35 ∷ body ++ 64 ∷ 32 ∷ rest = cc in
    let inner : escaped_from true (body ++ 64 ∷ 32 ∷ rest) ≡ body ++ 64 ∷ 32 ∷ escaped rest = escaped_skip true body
    (64 ∷ 32 ∷ rest) h.plain in
    marks_begin false cs refl (begins_is cs body rest h) ∙ ap (λ (x : List ℕ). 64 ∷ escaped_from true x) e
    ∙ ap (λ (x : List ℕ). 64 ∷ 35 ∷ x) inner
    ∙ sym (append_assoc (64 ∷ 35 ∷ body) (64 ∷ 32 ∷ []) (escaped rest))

escape_shorter : (cs body rest : List ℕ) → HasEscape (64 ∷ cs) body rest → length rest < length cs
escape_shorter cs body rest h =
    let n : length (64 ∷ cs) ≡ length (64 ∷ 35 ∷ body ++ 64 ∷ 32 ∷ rest) = ap length h.spelled in
    omega (arith, n, length-append (64 ∷ 35 ∷ body) (64 ∷ 32 ∷ rest))

-- the computed form is a written form
char_made : (c : ℕ) (cs : List ℕ) → eqb c 64 ≡ false → IsEscaped cs (escaped cs) → IsEscaped (c ∷ cs) (escaped (c ∷ cs))
char_made c cs k r = record {
  elements = Byte c ∷ r.elements;
  cut = (none_but_at c cs k, (cs, (refl, r.cut)));
  each = rw k (ap (λ (x : List ℕ). c ∷ x) r.each);
}

pair_made : (cs : List ℕ) → begins_escape cs ≡ false → IsEscaped cs (escaped cs)
    → IsEscaped (64 ∷ cs) (escaped (64 ∷ cs))
pair_made cs k r = record {
  elements = Byte 64 ∷ r.elements;
  cut = (none_begins cs k, (cs, (refl, r.cut)));
  each = marks_pair false cs refl k ∙ ap (λ (x : List ℕ). 64 ∷ 64 ∷ x) r.each;
}

escape_made : (cs body rest : List ℕ) → HasEscape (64 ∷ cs) body rest → IsEscaped rest (escaped rest)
    → IsEscaped (64 ∷ cs) (escaped (64 ∷ cs))
escape_made cs body rest h r = record {
  elements = Escape body ∷ r.elements;
  cut = (rest, (h, r.cut));
  each = escape_whole cs body rest h ∙ ap (λ (x : List ℕ). (64 ∷ 35 ∷ body ++ 64 ∷ 32 ∷ []) ++ x) r.each;
}

escaped_by : (n : ℕ) (t : List ℕ) → length t ≤ n → IsEscaped t (escaped t)
escaped_by n [] le = record { elements = []; cut = refl; each = refl }
escaped_by zero (c ∷ cs) le = absurd (omega arith)
escaped_by (suc n) (c ∷ cs) le = elim (cases_Bool (eqb c 64)) [
  | inr k ↦ char_made c cs k (escaped_by n cs (omega arith))
  | inl k ↦
      subst (λ (x : ℕ). IsEscaped (x ∷ cs) (escaped (x ∷ cs))) (sym (eqb-true c 64 k))
      (elim (cases_Bool (begins_escape cs)) [
        | inr b ↦ pair_made cs b (escaped_by n cs (omega arith))
        | inl b ↦ let h = begins_has cs b in
            escape_made cs h.0 h.1.0 h.1.1 (escaped_by n h.1.0 (omega (arith, escape_shorter cs h.0 h.1.0 h.1.1)))
      ])
]

pub escaped_is : (t : List ℕ) → IsEscaped t (escaped t)
escaped_is t = escaped_by (length t) t (omega arith)

-- a text has one list of elements
escape_one : (t a b r s : List ℕ) → HasEscape t a r → HasEscape t b s → (a ≡ b) × (r ≡ s)
escape_one t a b r s h k =
    let u : 64 ∷ 35 ∷ a ++ 64 ∷ 32 ∷ r ≡ 64 ∷ 35 ∷ b ++ 64 ∷ 32 ∷ s = sym h.spelled ∙ k.spelled in
    let e : a ++ 64 ∷ 32 ∷ r ≡ b ++ 64 ∷ 32 ∷ s = cc in
    let n : length a ≡ length b = sym (before_len a (32 ∷ r) (no_at_all a h.plain)) ∙ ap (position_or_len is_at) e
    ∙ before_len b (32 ∷ s) (no_at_all b k.plain) in
    let f = front_one (a ++ 64 ∷ 32 ∷ r) a b (64 ∷ 32 ∷ r) (64 ∷ 32 ∷ s) refl e n in
    let g : 64 ∷ 32 ∷ r ≡ 64 ∷ 32 ∷ s = f.1 in
    let rest : r ≡ s = cc in
    (f.0, rest)

no_escape : (body rest : List ℕ) → HasEscape [] body rest → ⊥
no_escape body rest h = let e : [] ≡ 64 ∷ 35 ∷ body ++ 64 ∷ 32 ∷ rest = h.spelled in absurd cc

pub elements_one : (t : List ℕ) (es fs : List Element) → Elements t es → Elements t fs → es ≡ fs
elements_one t [] [] h k = refl
elements_one t [] (Escape b ∷ fs) h k = absurd (no_escape b k.0 (subst (λ (x : List ℕ). HasEscape x b k.0) h k.1.0))
elements_one t [] (Byte d ∷ fs) h k = absurd (let e : [] ≡ d ∷ k.1.0 = sym h ∙ k.1.1.0 in cc)
elements_one t (Escape a ∷ es) [] h k = absurd (no_escape a h.0 (subst (λ (x : List ℕ). HasEscape x a h.0) k h.1.0))
elements_one t (Byte c ∷ es) [] h k = absurd (let e : [] ≡ c ∷ h.1.0 = sym k ∙ h.1.1.0 in cc)
elements_one t (Escape a ∷ es) (Byte d ∷ fs) h k = absurd (k.0 a h.0 h.1.0)
elements_one t (Byte c ∷ es) (Escape b ∷ fs) h k = absurd (h.0 b k.0 k.1.0)
elements_one t (Escape a ∷ es) (Escape b ∷ fs) h k =
    let e = escape_one t a b h.0 k.0 h.1.0 k.1.0 in
    let rest : es ≡ fs = elements_one k.0 es fs (subst (λ (x : List ℕ). Elements x es) e.1 h.1.1) k.1.1 in
    ap (λ (x : List ℕ). Escape x ∷ es) e.0 ∙ ap (λ (x : List Element). Escape b ∷ x) rest
elements_one t (Byte c ∷ es) (Byte d ∷ fs) h k =
    let e : c ∷ h.1.0 ≡ d ∷ k.1.0 = sym h.1.1.0 ∙ k.1.1.0 in
    let same : c ≡ d = cc in
    let tail : h.1.0 ≡ k.1.0 = cc in
    let rest : es ≡ fs = elements_one k.1.0 es fs (subst (λ (x : List ℕ). Elements x es) tail h.1.1.1) k.1.1.1 in
    ap (λ (x : ℕ). Byte x ∷ es) same ∙ ap (λ (x : List Element). Byte d ∷ x) rest

-- and one written form
pub written_one : (t v w : List ℕ) → IsEscaped t v → IsEscaped t w → v ≡ w
written_one t v w a b = a.each ∙ ap (flat_map element_text) (elements_one t a.elements b.elements a.cut b.cut)
    ∙ sym b.each

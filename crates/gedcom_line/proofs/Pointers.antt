-- What a value stands for: a text as it is written is never a cross reference, and a cross reference is one.
use Rattle.std.proofs.Common.{
  ◌≡◌,
  ℕ,
  ◌+◌,
  Bool,
  true,
  false,
  cond,
  eqb,
  ltb,
  ◌&&◌,
  not,
  List,
  [],
  ◌∷◌,
  ◌++◌,
  length,
  take,
  drop,
  refl,
  sym,
  ap,
  ◌∙◌,
  subst,
  inl,
  inr,
  arith,
  Option,
  Some,
  None,
  length-append,
}
use Rattle.std.specs.Option.{option_map_or}
use Rattle.std.specs.List.{position_or_len, before_first, after_first, prefix_len, list_all}
use Rattle.std.proofs.lemmas.Bool.{eqb-true, lt-ltb, ltb-true, cases_Bool}
use Rattle.std.proofs.lemmas.List.{take_at}
use Rattle.std.proofs.Math.Seq.{drop-append-add}
use Rattle.std.proofs.Math.Numerals.{one-add}
use Rattle.gedcom_line.specs.Words.{is_at, is_space, is_word}
use Rattle.gedcom_line.specs.Line.{Spans}
use Rattle.gedcom_line.specs.Past.{past_char}
use Rattle.gedcom_line.specs.Reading.{skip, is_name}
use Rattle.gedcom_line.specs.Escape.{begins_escape, escaped_from, escaped}
use Rattle.gedcom_line.specs.Value.{Meaning, Text, Pointer, meaning, pointer_at, pointer_from, pointer_in, IsPointer}
use Rattle.gedcom_line.proofs.Steps.{
  spans_only,
  spans_made,
  bind_some,
  past_at,
  at_parts,
  name_is,
  all_front,
  before_len,
  is_name_of,
  ref_front,
}
use Rattle.gedcom_line.proofs.Doubled.{begins_made, marks_begin, marks_pair}
use Rattle.list_laws.proofs.Outcomes.{some_is}

and_mid : (a b c : Bool) → b ≡ false → (a && b && c) ≡ false
and_mid true b c h = rw h refl
and_mid false b c h = refl

-- after an @ there is no name that begins with a character that is none of a word
not_name : (c : ℕ) (cs : List ℕ) → is_word c ≡ false → is_name (before_first is_at (c ∷ cs)) ≡ false
not_name c cs h = elim
    (is_at c) as (λ v. is_name (take (cond (not v) (1 + position_or_len is_at cs) 0) (c ∷ cs)) ≡ false) [
      | true ↦ refl
      | false ↦ rw (one-add, h) refl
    ]

no_name : (t : List ℕ) (c : ℕ) (cs : List ℕ) → is_word c ≡ false → pointer_at t (c ∷ cs) ≡ None
no_name t c cs h = rw (and_mid (ltb (position_or_len is_at (c ∷ cs)) (length (c ∷ cs)))
    (is_name (before_first is_at (c ∷ cs))) (list_all is_space (after_first is_at (c ∷ cs))) (not_name c cs h)) refl

from_at : (t : List ℕ) (c : ℕ) (cs : List ℕ) → t ≡ 64 ∷ c ∷ cs → is_word c ≡ false → pointer_from t ≡ None
from_at t c cs e h = ap pointer_from e ∙ no_name (64 ∷ c ∷ cs) c cs h

other_start : (c : ℕ) (cs : List ℕ) → eqb c 64 ≡ false → pointer_from (c ∷ cs) ≡ None
other_start c cs h = rw h refl

at_start : (cs : List ℕ) → pointer_from (skip is_space (escaped (64 ∷ cs))) ≡ None
at_start cs = elim (cases_Bool (begins_escape cs)) [
  | inr b ↦ ap (λ (x : List ℕ). pointer_from (skip is_space x)) (marks_pair false cs refl b)
      ∙ from_at (64 ∷ 64 ∷ escaped_from false cs) 64 (escaped_from false cs) refl refl
  | inl b ↦
      let m = begins_made cs b in
      ap (λ (x : List ℕ). pointer_from (skip is_space x))
      (marks_begin false cs refl b ∙ ap (λ (x : List ℕ). 64 ∷ escaped_from true x) m.1.0)
      ∙ from_at (64 ∷ 35 ∷ escaped_from true m.0) 35 (escaped_from true m.0) refl refl
]

escaped_start : (t : List ℕ) → pointer_from (skip is_space (escaped t)) ≡ None
escaped_start [] = refl
escaped_start (c ∷ cs) = elim (cases_Bool (eqb c 64)) [
  | inl e ↦ subst (λ (x : ℕ). pointer_from (skip is_space (escaped (x ∷ cs))) ≡ None)
      (sym (eqb-true c 64 e)) (at_start cs)
  | inr e ↦
      let out : escaped (c ∷ cs) ≡ c ∷ escaped cs = rw e refl in
      ap (λ (x : List ℕ). pointer_from (skip is_space x)) out
      ∙ elim (cases_Bool (is_space c)) [
        | inl s ↦ rw (s, one-add) (escaped_start cs)
        | inr s ↦
            rw s (other_start c (escaped cs) e)
      ]
]

-- a text as it is written is no cross reference
pub escaped_no_pointer : (t : List ℕ) → pointer_in (escaped t) ≡ None
unfolding pointer_in
escaped_no_pointer t = escaped_start t

pointer_whole : (inner back name : List ℕ) → position_or_len is_at (inner ++ 64 ∷ back) ≡ length inner
    → is_name inner ≡ true → list_all is_space back ≡ true → name ≡ 64 ∷ inner ++ 64 ∷ []
    → pointer_from (64 ∷ inner ++ 64 ∷ back) ≡ Some name
pointer_whole inner back name at n b e =
    let inside : ltb (length inner) (length (inner ++ 64 ∷ back)) ≡ true = lt-ltb (length inner)
    (length (inner ++ 64 ∷ back)) (omega (arith, length-append inner (64 ∷ back))) in
    let front : take (length inner) (inner ++ 64 ∷ back) ≡ inner = take_at inner (64 ∷ back) (length inner) refl in
    let rest : drop (length inner + 1) (inner ++ 64 ∷ back) ≡ back = drop-append-add inner (64 ∷ back) 1 in
    rw (at, inside, front, rest, n, b) (ap (λ (x : List ℕ). Some x) ((ref_front inner back).0 ∙ sym e))

-- a cross reference, spaces at its ends apart, is one
pub pointer_is : (raw name : List ℕ) → IsPointer raw name → pointer_in raw ≡ Some name
unfolding pointer_in
pointer_is raw name p =
    let tail : List ℕ = 64 ∷ p.inner ++ 64 ∷ p.back in
    let skipped : skip is_space raw
    ≡ tail = (spans_only is_space raw p.front tail
    (record { parts = p.parts; passes = p.before; stops = refl })).1 in
    let n = is_name_of p.inner p.named in
    let at : position_or_len is_at (p.inner ++ 64 ∷ p.back) ≡ length p.inner = before_len p.inner p.back n.1 in
    ap pointer_from skipped ∙ pointer_whole p.inner p.back name at n.0 p.behind p.marked

-- what is found is a cross reference
chosen_three : (a b c : Bool) (r : Option (List ℕ)) (y : List ℕ) → cond (a && b && c) r None ≡ Some y
    → ((a ≡ true) × (b ≡ true) × (c ≡ true)) × (r ≡ Some y)
chosen_three true true true r y e = ((refl, refl, refl), e)
chosen_three true true false r y e = absurd cc
chosen_three true false c r y e = absurd cc
chosen_three false b c r y e = absurd cc

pointer_made : (raw name front t inner : List ℕ) → Spans is_space raw front t → t ≡ 64 ∷ inner
    → pointer_at t inner ≡ Some name → IsPointer raw name
pointer_made raw name front t inner s e h =
    let c = chosen_three (ltb (position_or_len is_at inner) (length inner)) (is_name (before_first is_at inner))
    (list_all is_space (after_first is_at inner)) (Some (take (length (before_first is_at inner) + 2) t)) name h in
    let parts : inner ≡ before_first is_at inner ++ 64 ∷ after_first is_at inner = at_parts inner
    (ltb-true _ _ c.0.0) in
    let whole : t ≡ 64 ∷ before_first is_at inner ++ 64 ∷ after_first is_at inner = e
    ∙ ap (λ (x : List ℕ). 64 ∷ x) parts in
    let is : take (length (before_first is_at inner) + 2) t ≡ name = some_is _ _ c.1 in
    record {
      front = front;
      inner = before_first is_at inner;
      back = after_first is_at inner;
      before = s.passes;
      named = name_is (before_first is_at inner) c.0.1 (all_front (λ b. not (is_at b)) inner);
      marked = sym is ∙ ap (take (length (before_first is_at inner) + 2)) whole
          ∙ (ref_front (before_first is_at inner) (after_first is_at inner)).0;
      behind = c.0.2;
      parts = s.parts ∙ ap (λ (x : List ℕ). front ++ x) whole;
    }

pub is_pointer : (raw name : List ℕ) → pointer_in raw ≡ Some name → IsPointer raw name
unfolding pointer_in
is_pointer raw name e =
    let s = spans_made is_space raw in
    let a = bind_some (past_char 64 (skip is_space raw)) (pointer_at (skip is_space raw)) name e in
    elim (past_at (skip is_space raw)) [
      | inl n ↦ absurd (let bad : None ≡ Some a.0 = sym n.0 ∙ a.1 in cc)
      | inr y ↦ pointer_made raw name (take (prefix_len is_space raw) raw) (skip is_space raw) y.0 s y.1.1
          (ap (λ (x : List ℕ). pointer_at (skip is_space raw) x) (some_is y.0 a.0 (sym y.1.0 ∙ a.1)) ∙ a.2)
    ]

-- both ways for what a value stands for
pub pointer_meant : (raw name : List ℕ) → IsPointer raw name → meaning raw ≡ Pointer name
pointer_meant raw name p = rw (pointer_is raw name p) refl

abbrev pointed : Meaning → Option (List ℕ)
pointed (Text t) = None
pointed (Pointer p) = Some p

pointed_meaning : (raw : List ℕ) (o : Option (List ℕ)) → pointed (option_map_or Pointer o (Text raw)) ≡ o
pointed_meaning raw None = refl
pointed_meaning raw (Some n) = refl

pub meant_pointer : (raw name : List ℕ) → meaning raw ≡ Pointer name → IsPointer raw name
meant_pointer raw name e = is_pointer raw name (sym (pointed_meaning raw (pointer_in raw)) ∙ ap pointed e)

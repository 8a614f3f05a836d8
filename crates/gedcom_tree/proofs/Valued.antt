-- The values of lines are values of nodes: texts of UTF-8 without U+0000 and CR that are not too long, and cross
-- references.
use Rattle.std.proofs.Common.{
  ◌≡◌,
  ℕ,
  ◌+◌,
  ◌<◌,
  Bool,
  true,
  false,
  cond,
  eqb,
  ltb,
  ◌&&◌,
  List,
  [],
  ◌∷◌,
  ◌++◌,
  length,
  get_or,
  take,
  length-append,
  append_assoc,
  refl,
  sym,
  ap,
  ◌∙◌,
  subst,
  inl,
  inr,
  arith,
  Some,
  None,
  codes,
}
use Rattle.std.specs.Char.{encode_utf8, IsScalar}
use lib.Utf8.{scalar}
use Rattle.std.specs.Option.{option_map_or}
use Rattle.std.specs.List.{list_all, flat_map}
use Rattle.std.specs.Str.{IsUtf8, IsCharBoundary, bytes_eq, encode_utf8_all, all_scalars}
use Rattle.std.proofs.lemmas.Bool.{eqb-true, cases_eq, and_parts, cases_Bool}
use Rattle.std.proofs.lemmas.Bool.Decides.{nat_tests}
use Rattle.std.proofs.Math.Seq.{get_or-append_seam, take-append_seam, drop-append_seam}
use Rattle.std.proofs.lemmas.Str.{
  IsUtf8-append,
  IsUtf8-nil,
  IsUtf8-encode,
  IsUtf8-take,
  IsUtf8-drop,
  encode_ascii,
  IsCharBoundary-before_ascii,
  IsCharBoundary-after_ascii,
  IsUtf8-from_ascii,
}
use Rattle.std.proofs.lemmas.Str.Ascii.{IsAscii-cons, IsAscii-nil}
use Rattle.gedcom_line.specs.Reading.{Parts, is_continuation}
use Rattle.gedcom_line.specs.Escape.{NoAt, unescaped, past_pair}
use Rattle.gedcom_line.specs.Spelling.{is_inner, is_textual, IsInner, IsXref}
use Rattle.gedcom_line.specs.Value.{Text, Pointer, meaning, IsPointer, pointer_in}
use Rattle.gedcom_line.proofs.Steps.{eqb_false}
use Rattle.gedcom_line.proofs.Doubled.{unescaped_at, unescaped_skip}
use Rattle.gedcom_line.proofs.Pointers.{is_pointer}
use Rattle.gedcom_rules.specs.Rules.{Progress}
use Rattle.gedcom_rules.specs.Continuing.{belongs, adds}
use Rattle.gedcom_tree.specs.Forest.{continued}
use Rattle.gedcom_rules.specs.Judging.{after}
use Rattle.gedcom_tree.specs.Text.{IsNodeValue}
use Rattle.gedcom_tree.proofs.Fitting.{Fit, Fits}
use Rattle.gedcom_tree.proofs.Sized.{text_le}
use Rattle.gedcom_line.proofs.Inner.{char_no_at}
use Rattle.gedcom_line.proofs.Again.{all-append}
use Rattle.gedcom_line.proofs.Written.{all_parts}

-- one character more is UTF-8 still
one_utf8 : (c : ℕ) (t : List ℕ) → c < 128 → IsUtf8 t → IsUtf8 (c ∷ t)
one_utf8 c t h u = IsUtf8-append (c ∷ []) t (IsUtf8-from_ascii (c ∷ []) (IsAscii-cons c [] h IsAscii-nil)) u

past_front : (front rest : List ℕ) → NoAt front → IsUtf8 (unescaped (front ++ rest))
    → IsUtf8 (unescaped (past_pair rest)) → IsUtf8 (unescaped (past_pair (front ++ rest)))
past_front [] rest n a b = b
past_front (x ∷ xs) rest n a b =
    let e : eqb x 64 ≡ false = eqb_false x 64 (n 0 (omega arith)) in
    rw e a

-- both as a value begins, and after an @
chars_utf8 : (cs : List ℕ) → all_scalars cs ≡ true → IsUtf8 (unescaped (encode_utf8_all cs))
    × IsUtf8 (unescaped (past_pair (encode_utf8_all cs)))
chars_utf8 [] h = (IsUtf8-nil, IsUtf8-nil)
chars_utf8 (c ∷ cs) h =
    let rest : List ℕ = encode_utf8_all cs in
    let r : IsScalar c × (all_scalars cs ≡ true) = and_parts (scalar c) (all_scalars cs) h in
    let k = chars_utf8 cs r.1 in
    elim (cases_eq c 64) [
      | inl e ↦
          let one : encode_utf8 c ++ rest ≡ 64 ∷ rest = ap (λ (x : ℕ). encode_utf8 x ++ rest) e
          ∙ rw (encode_ascii 64 (omega arith)) refl in
          rw one (
            subst IsUtf8 (sym (unescaped_at rest)) (one_utf8 64 (unescaped (past_pair rest)) (omega arith) k.1),
            k.0,
          )
      | inr n ↦
          let none : NoAt (encode_utf8 c) = char_no_at c n in
          let all : IsUtf8 (unescaped (encode_utf8 c ++ rest)) = subst IsUtf8
          (sym (unescaped_skip (encode_utf8 c) rest none))
          (IsUtf8-append (encode_utf8 c) (unescaped rest) (IsUtf8-encode c r.0) k.0) in
          (all, past_front (encode_utf8 c) rest none all k.1)
    ]

pub unescaped_utf8 : (t : List ℕ) → IsUtf8 t → IsUtf8 (unescaped t)
unescaped_utf8 t u = subst (λ (x : List ℕ). IsUtf8 (unescaped x)) u.1.1 (chars_utf8 u.0 u.1.0).0

pub unescaped_each : (p : ℕ → Bool) (t : List ℕ) → list_all p t ≡ true → list_all p (unescaped t) ≡ true
unescaped_each p [] h = refl
unescaped_each p (c ∷ []) h = h
unescaped_each p (c ∷ d ∷ cs) h =
    let r = and_parts (p c) (list_all p (d ∷ cs)) h in
    elim (cases_Bool (eqb c 64 && eqb d 64)) [
      | inl e ↦
          let at : p 64 ≡ true = subst (λ (x : ℕ). p x ≡ true)
          (eqb-true c 64 (and_parts (eqb c 64) (eqb d 64) e).0) r.0 in
          rw (e, at) (unescaped_each p cs (and_parts (p d) (list_all p cs) r.1).1)
      | inr e ↦ rw (e, r.0) (unescaped_each p (d ∷ cs) r.1)
    ]

-- texts
pub record IsTextual (t : List ℕ) : Type 0 where
  pub utf8 : IsUtf8 t
  pub each : list_all is_textual t ≡ true

textual_nil : IsTextual []
textual_nil = record { utf8 = IsUtf8-nil; each = refl }

textual-append : (a b : List ℕ) → IsTextual a → IsTextual b → IsTextual (a ++ b)
textual-append a b h k = record {
  utf8 = IsUtf8-append a b h.utf8 k.utf8;
  each = all-append is_textual a b h.each k.each;
}

inner_textual : (b : ℕ) → is_inner b ≡ true → is_textual b ≡ true
inner_textual b h = grind (arith, nat_tests)

inner_each : (t : List ℕ) → list_all is_inner t ≡ true → list_all is_textual t ≡ true
inner_each [] h = refl
inner_each (x ∷ xs) h =
    let r = and_parts (is_inner x) (list_all is_inner xs) h in
    rw (inner_textual x r.0, inner_each xs r.1) refl

unescaped_textual : (raw : List ℕ) → IsInner raw → IsTextual (unescaped raw)
unescaped_textual raw i = record {
  utf8 = unescaped_utf8 raw i.utf8;
  each = unescaped_each is_textual raw (inner_each raw i.each);
}

break_textual : (b : Bool) → IsTextual (cond b (10 ∷ []) [])
break_textual true = record { utf8 = one_utf8 10 [] (omega arith) IsUtf8-nil; each = refl }
break_textual false = textual_nil

adds_textual : (l : Parts) → IsInner l.raw → IsTextual (adds l)
adds_textual l i = textual-append (cond (bytes_eq l.tag (codes "CONT")) (10 ∷ []) []) (unescaped l.raw)
    (break_textual (bytes_eq l.tag (codes "CONT"))) (unescaped_textual l.raw i)

more_textual : (n : ℕ) (q : Progress) (ls : List Parts) → Fits q ls → IsTextual (flat_map adds (belongs n ls))
more_textual n q [] f = textual_nil
more_textual n q (l ∷ ls) f =
    let k = more_textual n (after q l) ls f.1 in
    elim (cases_Bool (ltb n l.level)) [
      | inr e ↦ rw e textual_nil
      | inl e ↦ elim (cases_Bool (is_continuation l.tag && eqb l.level (n + 1))) [
        | inl c ↦ rw (e, c) (textual-append (adds l) (flat_map adds (belongs n ls)) (adds_textual l f.0.line.raw) k)
        | inr c ↦ rw (e, c) k
      ]
    ]

-- a cross reference in a value: after what stands in front of an @
behind_inner : (front t : List ℕ) → IsInner (front ++ 64 ∷ t) → IsInner (64 ∷ t)
behind_inner front t i =
    let whole : List ℕ = front ++ 64 ∷ t in
    let at : get_or whole (length front) 0 ≡ 64 = get_or-append_seam front 64 t 0 in
    let size : length whole ≡ length front + length (64 ∷ t) = length-append front (64 ∷ t) in
    let cut : IsCharBoundary whole (length front) = IsCharBoundary-before_ascii whole (length front)
    (omega (arith, size)) (omega (arith, at)) in
    record {
      utf8 = subst IsUtf8 (drop-append_seam front (64 ∷ t)) (IsUtf8-drop whole (length front) i.utf8 cut);
      each = (all_parts is_inner front (64 ∷ t) i.each).1;
    }

-- and up to an @
up_to_inner : (name back : List ℕ) → IsInner (64 ∷ name ++ 64 ∷ back) → IsInner (64 ∷ name ++ 64 ∷ [])
up_to_inner name back i =
    let t : List ℕ = 64 ∷ name ++ 64 ∷ back in
    let x : List ℕ = 64 ∷ name ++ 64 ∷ [] in
    let at : get_or t (length (64 ∷ name)) 0 ≡ 64 = get_or-append_seam (64 ∷ name) 64 back 0 in
    let size : length t ≡ length (64 ∷ name) + length (64 ∷ back) = length-append (64 ∷ name) (64 ∷ back) in
    let own : length (64 ∷ name) + 1 ≡ length x = sym (length-append (64 ∷ name) (64 ∷ [])) in
    let cut : IsCharBoundary t (length x) = subst (IsCharBoundary t) own
    (IsCharBoundary-after_ascii t (length (64 ∷ name)) i.utf8 (omega (arith, size)) (omega (arith, at))) in
    let parts : t ≡ x ++ back = sym (append_assoc (64 ∷ name) (64 ∷ []) back) in
    let front : take (length x) t ≡ x = ap (take (length x)) parts ∙ take-append_seam x back in
    record {
      utf8 = subst IsUtf8 front (IsUtf8-take t (length x) i.utf8 cut);
      each = (all_parts is_inner x back (subst (λ (y : List ℕ). list_all is_inner y ≡ true) parts i.each)).0;
    }

pub pointer_xref : (raw name : List ℕ) → IsPointer raw name → IsInner raw → IsXref (Some name)
pointer_xref raw name p i =
    let from : IsInner (64 ∷ p.inner ++ 64 ∷ p.back) = behind_inner p.front (p.inner ++ 64 ∷ p.back)
    (subst IsInner p.parts i) in
    (p.inner, (p.named, (subst IsInner (sym p.marked) (up_to_inner p.inner p.back from), p.marked)))

-- what a line and those that continue it have as their value
pub fit_value : (q : Progress) (l : Parts) (ls : List Parts) → Fit q l → Fits (after q l) ls
    → IsNodeValue (continued (meaning l.raw) (belongs l.level ls))
fit_value q l ls f g = elim (pointer_in l.raw) as (λ o. pointer_in l.raw ≡ o
    → IsNodeValue (continued (option_map_or Pointer o (Text l.raw)) (belongs l.level ls))) [
      | None ↦ λ e.
          let t = textual-append (unescaped l.raw) (flat_map adds (belongs l.level ls))
          (unescaped_textual l.raw f.line.raw)
          (more_textual l.level (after q l) ls g) in
          (t.utf8, (t.each, text_le q l ls f g))
      | Some name ↦ λ e. pointer_xref l.raw name (is_pointer l.raw name e) f.line.raw
    ] refl

-- The parts of a line that the grammar has can be written.
use Rattle.std.proofs.Common.{
  ◌≡◌,
  ℕ,
  ◌+◌,
  ◌<◌,
  ◌≤◌,
  Bool,
  true,
  false,
  eqb,
  ◌&&◌,
  List,
  [],
  ◌∷◌,
  ◌++◌,
  length,
  get_or,
  take,
  drop,
  refl,
  sym,
  ap,
  ◌∙◌,
  subst,
  inl,
  inr,
  ◌⊎◌,
  arith,
  append_assoc,
  length-append,
  Option,
  Some,
  None,
}
use Rattle.std.specs.List.{list_all, list_any}
use Rattle.std.specs.Str.{IsUtf8, IsCharBoundary}
use Rattle.std.proofs.Math.Seq.{get_or-append_seam, take-append_seam, drop-append_seam}
use Rattle.std.proofs.lemmas.Bool.Decides.{nat_tests}
use Rattle.std.proofs.lemmas.Str.{IsUtf8-take, IsUtf8-drop, IsUtf8-past_char, IsCharBoundary-after_ascii, encode_ascii}
use Rattle.std.proofs.lemmas.Bool.{and_parts, or_parts}
use Rattle.gedcom_line.specs.Words.{is_digit, is_end, in_class}
use Rattle.gedcom_line.specs.Reading.{Parts}
use Rattle.gedcom_line.specs.Line.{Spans, IsNumber, HasLevel, HasXref, HasTag, IsPiece, IsText, Line}
use Rattle.gedcom_line.specs.Spelling.{spelling, is_inner, IsInner, IsXref, IsLine}
use Rattle.gedcom_line.specs.declared.class.Class.{Class}
use Rattle.gedcom_line.specs.declared.class.Class.TheVariants.{White, Digit, Space, Word}
use Rattle.gedcom_line.proofs.Steps.{digit_in}
use Rattle.gedcom_line.proofs.Spans.{in_class_ascii}
use Rattle.gedcom_line.proofs.Again.{line_again, inner_nil}

-- what a text without U+0000, LF and CR has inside
inner_char : (b : ℕ) → eqb b 0 ≡ false → is_end b ≡ false → is_inner b ≡ true
inner_char b h k = grind (arith, nat_tests)

inner_each : (t : List ℕ) → list_any (λ x. eqb x 0) t ≡ false → IsPiece t → list_all is_inner t ≡ true
inner_each [] h k = refl
inner_each (x ∷ xs) h k =
    let n = or_parts (eqb x 0) (list_any (λ y. eqb y 0) xs) h in
    let e = or_parts (is_end x) (list_any is_end xs) k in
    let c : is_inner x ≡ true = inner_char x n.0 e.0 in
    rw (c, inner_each xs n.1 e.1) refl

text_inner : (b : List ℕ) → IsText b → IsInner b
text_inner b t = record { utf8 = t.utf8; each = inner_each b t.no_nul t.piece }

pub all_parts : {X : Type 0} (p : X → Bool) (a b : List X) → list_all p (a ++ b) ≡ true
    → (list_all p a ≡ true) × (list_all p b ≡ true)
all_parts p [] b h = (refl, h)
all_parts p (x ∷ xs) b h =
    let r = and_parts (p x) (list_all p (xs ++ b)) h in
    let k = all_parts p xs b r.1 in
    (rw (r.0, k.0) refl, k.1)

-- after characters of a class
utf8_behind_one : (x : ℕ) (t : List ℕ) → x < 128 → IsUtf8 (x ∷ t) → IsUtf8 t
utf8_behind_one x t lt u = IsUtf8-past_char (x ∷ t) t x u (rw (encode_ascii x lt) refl)

utf8_behind : (k : Class) (a t : List ℕ) → list_all (in_class k) a ≡ true → IsUtf8 (a ++ t) → IsUtf8 t
utf8_behind k [] t h u = u
utf8_behind k (x ∷ xs) t h u =
    let r = and_parts (in_class k x) (list_all (in_class k) xs) h in
    utf8_behind k xs t r.1 (utf8_behind_one x (xs ++ t) (in_class_ascii k x r.0) u)

inner_behind : (k : Class) (a t : List ℕ) → list_all (in_class k) a ≡ true → IsInner (a ++ t) → IsInner t
inner_behind k a t h i = record { utf8 = utf8_behind k a t h i.utf8; each = (all_parts is_inner a t i.each).1 }

-- after what a class spans
inner_spanned : (k : Class) (text front rest : List ℕ) → Spans (in_class k) text front rest
    → IsInner text → IsInner rest
inner_spanned k text front rest s i = inner_behind k front rest s.passes (subst IsInner s.parts i)

level_inner : (b : List ℕ) (n : ℕ) (rest : List ℕ) → HasLevel b n rest → IsInner b → IsInner rest
level_inner b n rest h i = inner_spanned Space h.after h.gap rest h.spaced
    (inner_spanned Digit h.from h.digits h.after h.spelled (inner_spanned White b h.white h.from h.indented i))

number_low : (ds : List ℕ) (n : ℕ) → list_all is_digit ds ≡ true → IsNumber ds n → n ≤ 99
number_low [] n a e = absurd e
number_low (x ∷ []) n a e = let d = digit_in x (and_parts (is_digit x) true a).0 in omega (arith, d.1, e)
number_low (x ∷ y ∷ []) n a e =
    let b = and_parts (is_digit x) (is_digit y && true) a in
    let d = digit_in x b.0 in
    let c = digit_in y (and_parts (is_digit y) true b.1).0 in
    omega (arith, d.1, c.1, e)
number_low (x ∷ y ∷ z ∷ ds) n a e = absurd e

-- a cross reference, and what follows it
record Cut (name after : List ℕ) : Type 0 where
  front : IsInner (64 ∷ name ++ 64 ∷ [])
  back : IsInner after

marked_parts : (name after : List ℕ) → 64 ∷ name ++ 64 ∷ after ≡ (64 ∷ name ++ 64 ∷ []) ++ after
marked_parts name after = sym (append_assoc (64 ∷ name) (64 ∷ []) after)

marked_boundary : (name after : List ℕ) → IsUtf8 (64 ∷ name ++ 64 ∷ after) → IsCharBoundary (64 ∷ name ++ 64 ∷ after)
    (length (64 ∷ name) + 1)
marked_boundary name after u =
    let at : get_or (64 ∷ name ++ 64 ∷ after) (length (64 ∷ name)) 0 ≡ 64 = get_or-append_seam (64 ∷ name) 64 after 0 in
    let size : length (64 ∷ name ++ 64 ∷ after) ≡ length (64 ∷ name) + length (64 ∷ after) = length-append
    (64 ∷ name) (64 ∷ after) in
    IsCharBoundary-after_ascii (64 ∷ name ++ 64 ∷ after) (length (64 ∷ name)) u (omega (arith, size))
    (omega (arith, at))

marked_length : (name : List ℕ) → length (64 ∷ name) + 1 ≡ length (64 ∷ name ++ 64 ∷ [])
marked_length name = sym (length-append (64 ∷ name) (64 ∷ []))

cut_inner : (name after : List ℕ) → IsInner (64 ∷ name ++ 64 ∷ after) → Cut name after
cut_inner name after i =
    let t : List ℕ = 64 ∷ name ++ 64 ∷ after in
    let x : List ℕ = 64 ∷ name ++ 64 ∷ [] in
    let b : IsCharBoundary t (length x) = subst (IsCharBoundary t) (marked_length name)
    (marked_boundary name after i.utf8) in
    let parts : t ≡ x ++ after = marked_parts name after in
    let front : take (length x) t ≡ x = ap (take (length x)) parts ∙ take-append_seam x after in
    let back : drop (length x) t ≡ after = ap (drop (length x)) parts ∙ drop-append_seam x after in
    let each : list_all is_inner (x ++ after) ≡ true = ap (list_all is_inner) (sym parts) ∙ i.each in
    record {
      front = record {
        utf8 = subst IsUtf8 front (IsUtf8-take t (length x) i.utf8 b);
        each = (all_parts is_inner x after each).0;
      };
      back = record {
        utf8 = subst IsUtf8 back (IsUtf8-drop t (length x) i.utf8 b);
        each = (all_parts is_inner x after each).1;
      };
    }

xref_inner : (t : List ℕ) (x : Option (List ℕ)) (last : List ℕ) → HasXref t x last → IsInner t → IsXref x × IsInner last
xref_inner t None last h i = (tt, subst IsInner (sym h.1) i)
xref_inner t (Some x) last h i =
    let c = cut_inner h.name h.after (subst IsInner h.parts i) in (
      (h.name, (h.named, (subst IsInner (sym h.marked) c.front, h.marked))),
      inner_spanned Space h.after h.gap last h.spaced c.back,
    )

value_inner : (after raw : List ℕ) → ((after ≡ []) × (raw ≡ [])) ⊎ (after ≡ 32 ∷ raw) → IsInner after → IsInner raw
value_inner after raw (inl h) i = subst IsInner (sym h.1) inner_nil
value_inner after raw (inr h) i = inner_behind Space (32 ∷ []) raw refl (subst IsInner h i)

raw_inner : (t tag raw : List ℕ) → HasTag t tag raw → IsInner t → IsInner raw
raw_inner t tag raw h i = value_inner h.after raw h.value (inner_spanned Word t tag h.after h.spelled i)

-- what the grammar has as a line can be written
pub line_parts : (b : List ℕ) (l : Parts) → Line b l → IsLine l
line_parts b l h =
    let s = h.spelled in
    let rest : IsInner s.rest = level_inner b l.level s.rest s.level (text_inner b s.text) in
    let x = xref_inner s.rest l.xref s.last s.xref rest in
    record {
      level = number_low s.level.digits l.level s.level.spelled.passes s.level.number;
      high = h.high;
      xref = x.0;
      tag = s.tag.spelled.passes;
      some = s.tag.some;
      short = s.tag.short;
      raw = raw_inner s.last l.tag l.raw s.tag x.1;
    }

pub written_again : (b : List ℕ) (l : Parts) → Line b l → Line (spelling l) l
written_again b l h = line_again l (line_parts b l h)

-- The segments of a text and their parts: a text has one split, and it is the computed one.
use Rattle.std.proofs.Common.{
  ◌≡◌,
  ℕ,
  zero,
  suc,
  ◌<◌,
  ◌≤◌,
  List,
  [],
  ◌∷◌,
  ◌++◌,
  length,
  take,
  drop,
  refl,
  sym,
  ap,
  ◌∙◌,
  subst,
  inl,
  inr,
  arith,
}
use Rattle.std.specs.List.{AllByRecursion, join_with_byte, position_or_len, slice_split}
use Rattle.std.specs.Str.{IsUtf8}
use Rattle.std.proofs.lemmas.Bool.{cases_lt}
use Rattle.std.proofs.lemmas.List.{append-nil}
use Rattle.std.proofs.lemmas.List.Splits.{slice_split_at, slice_split_none}
use Rattle.std.proofs.Math.Seq.{take-append_seam, drop-append_seam}
use Rattle.gedcom_line.specs.Split.{
  MayCut,
  IsGoodCut,
  IsGreatest,
  IsCut,
  Parts,
  Part,
  marked,
  PartsOf,
  IsSplit,
  segment_parts,
  canonical,
  is_lf,
  NoLf,
}
use Rattle.gedcom_line.specs.declared.splitting.Mark.TheVariants.{Cont}
use Rattle.gedcom_line.proofs.Cuts.{segment_parts_hold, canonical_step, canonical_last, no_lf_each}
use Rattle.gedcom_line.proofs.Inner.{no_lf_of, last_none, LfCut, lf_cut}

-- a segment has one cut, and one list of parts
greatest_one : (Holds : ℕ → Type 0) (p q : ℕ) → IsGreatest Holds p → IsGreatest Holds q → p ≡ q
greatest_one Holds p q a b = omega (arith, a.most q b.holds, b.most p a.holds)

cut_one : (s : List ℕ) (p q : ℕ) → IsCut s p → IsCut s q → p ≡ q
cut_one s p q (inl a) (inl b) = greatest_one (IsGoodCut s) p q a b
cut_one s p q (inl a) (inr b) = absurd (b.0 p a.holds)
cut_one s p q (inr a) (inl b) = absurd (a.0 q b.holds)
cut_one s p q (inr a) (inr b) = greatest_one (MayCut s) p q a.1 b.1

pub front_one : (s p q a b : List ℕ) → s ≡ p ++ a → s ≡ q ++ b → length p ≡ length q → (p ≡ q) × (a ≡ b)
front_one s p q a b e f n = (
  sym (take-append_seam p a) ∙ ap (take (length p)) (sym e ∙ f) ∙ ap (λ (x : ℕ). take x (q ++ b)) n
      ∙ take-append_seam q b,
  sym (drop-append_seam p a) ∙ ap (drop (length p)) (sym e ∙ f) ∙ ap (λ (x : ℕ). drop x (q ++ b)) n
      ∙ drop-append_seam q b,
)

parts_one : (s : List ℕ) (ps qs : List (List ℕ)) → Parts s ps → Parts s qs → ps ≡ qs
parts_one s [] qs h k = absurd h
parts_one s (p ∷ ps) [] h k = absurd k
parts_one s (p ∷ []) (q ∷ []) h k = ap (λ (x : List ℕ). x ∷ []) (sym h.0 ∙ k.0)
parts_one s (p ∷ []) (q ∷ r ∷ qs) h k = absurd (omega (arith, h.1, k.0))
parts_one s (p ∷ r ∷ ps) (q ∷ []) h k = absurd (omega (arith, h.0, k.1))
parts_one s (p ∷ r ∷ ps) (q ∷ t ∷ qs) h k =
    let n : length p ≡ length q = cut_one s (length p) (length q) h.1.1.1.0 k.1.1.1.0 in
    let f = front_one s p q h.1.0 k.1.0 h.1.1.0 k.1.1.0 n in
    let rest : r ∷ ps ≡ t ∷ qs = parts_one h.1.0 (r ∷ ps) (t ∷ qs) h.1.1.1.1
    (subst (λ (x : List ℕ). Parts x (t ∷ qs)) (sym f.1) k.1.1.1.1) in
    ap (λ (x : List ℕ). x ∷ r ∷ ps) f.0 ∙ ap (λ (x : List (List ℕ)). q ∷ x) rest

parts_of_one : (ss : List (List ℕ)) (ps qs : List Part) → PartsOf ss ps → PartsOf ss qs → ps ≡ qs
parts_of_one [] ps qs h k = h ∙ sym k
parts_of_one (s ∷ ss) ps qs h k =
    let own : h.0 ≡ k.0 = parts_one s h.0 k.0 h.1.0 k.1.0 in
    let more : h.1.1.0 ≡ k.1.1.0 = parts_of_one ss h.1.1.0 k.1.1.0 h.1.1.1.1 k.1.1.1.1 in
    h.1.1.1.0 ∙ ap (λ (x : List (List ℕ)). marked Cont x ++ h.1.1.0) own ∙ ap (λ (x : List Part). marked Cont k.0 ++ x)
    more ∙ sym k.1.1.1.0

-- a text has one list of segments
segments_are : (t : List ℕ) (ss : List (List ℕ)) → 0 < length ss → t ≡ join_with_byte 10 ss → AllByRecursion NoLf ss
    → slice_split is_lf t ≡ ss
segments_are t [] some e h = absurd (omega arith)
segments_are t (s ∷ []) some e h = ap (slice_split is_lf) e ∙ slice_split_none is_lf s (no_lf_each s h.0)
segments_are t (s ∷ r ∷ ss) some e h =
    ap (slice_split is_lf) e ∙ slice_split_at is_lf s 10 (join_with_byte 10 (r ∷ ss)) (no_lf_each s h.0) refl
    ∙ ap (λ (x : List (List ℕ)). s ∷ x) (segments_are (join_with_byte 10 (r ∷ ss)) (r ∷ ss) (omega arith) refl h.1)

pub split_one : (t : List ℕ) (ps qs : List Part) → IsSplit t ps → IsSplit t qs → ps ≡ qs
split_one t ps qs a b =
    let e : a.segments ≡ b.segments = sym (segments_are t a.segments a.some a.whole a.plain)
    ∙ segments_are t b.segments b.some b.whole b.plain in
    parts_of_one b.segments ps qs (subst (λ (x : List (List ℕ)). PartsOf x ps) e a.parts) b.parts

-- what was computed is a split
last_split : (t : List ℕ) → IsUtf8 t → length t ≤ position_or_len is_lf t → IsSplit t (canonical t)
last_split t u ge =
    let none : NoLf t = no_lf_of t (last_none t ge) in
    record {
      segments = t ∷ [];
      some = omega arith;
      whole = refl;
      plain = (none, tt);
      parts = (
        segment_parts t,
        (
          segment_parts_hold t u,
          ([], (canonical_last t none ∙ sym (append-nil (marked Cont (segment_parts t))), refl)),
        ),
      );
    }

join_cons : (s : List ℕ) (ss : List (List ℕ)) → 0 < length ss → join_with_byte 10 (s ∷ ss) ≡ s ++ 10
    ∷ join_with_byte 10 ss
join_cons s [] some = absurd (omega arith)
join_cons s (r ∷ ss) some = refl

more_split : (t : List ℕ) (c : LfCut t) → IsSplit c.rest (canonical c.rest) → IsSplit t (canonical t)
more_split t c s =
    let none : NoLf c.front = no_lf_of c.front c.none in
    record {
      segments = c.front ∷ s.segments;
      some = omega arith;
      whole = c.parts ∙ ap (λ (x : List ℕ). c.front ++ 10 ∷ x) s.whole ∙ sym (join_cons c.front s.segments s.some);
      plain = (none, s.plain);
      parts = (
        segment_parts c.front,
        (
          segment_parts_hold c.front c.front_utf8,
          (canonical c.rest, (canonical_step t c.front c.rest c.parts none, s.parts)),
        ),
      );
    }

split_by : (n : ℕ) (t : List ℕ) → IsUtf8 t → length t ≤ n → IsSplit t (canonical t)
split_by zero t u le = elim (cases_lt (position_or_len is_lf t) (length t)) [
  | inr ge ↦ last_split t u ge
  | inl lt ↦ absurd (omega arith)
]
split_by (suc n) t u le = elim (cases_lt (position_or_len is_lf t) (length t)) [
  | inr ge ↦ last_split t u ge
  | inl lt ↦ let c = lf_cut t u lt in more_split t c (split_by n c.rest c.rest_utf8 (omega (arith, c.shorter)))
]

pub canonical_split : (t : List ℕ) → IsUtf8 t → IsSplit t (canonical t)
canonical_split t u = split_by (length t) t u (omega arith)

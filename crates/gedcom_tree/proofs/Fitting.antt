-- What the lines in front of the trailer keep, each after those before it.
use Rattle.std.proofs.Common.{
  ◌≡◌,
  ℕ,
  ◌+◌,
  ◌-◌,
  ◌<◌,
  ◌≤◌,
  Bool,
  true,
  false,
  eqb,
  ◌&&◌,
  List,
  [],
  ◌∷◌,
  ◌++◌,
  length,
  length-append,
  refl,
  sym,
  ap,
  ◌∙◌,
  subst,
  eq-eqb,
  inl,
  inr,
  ◌⊎◌,
  arith,
  append_assoc,
  Option,
  Some,
  None,
}
use Rattle.std.specs.Prelude.{option_map}
use Rattle.std.proofs.lemmas.Bool.{eqb-true, le-ltb, cases_Bool}
use Rattle.std.proofs.lemmas.List.{append-nil}
use Rattle.gedcom_line.specs.Words.{is_white, is_digit, is_space, is_word}
use Rattle.gedcom_line.specs.Reading.{Parts, is_continuation}
use Rattle.gedcom_line.specs.Line.{Spans, HasLevel, HasXref, Line}
use Rattle.gedcom_line.specs.Spelling.{IsLine}
use Rattle.gedcom_line.proofs.Steps.{eqb_false}
use Rattle.gedcom_line.proofs.Written.{line_parts}
use Rattle.gedcom_rules.specs.Rules.{Progress, Standing, progress_of, is_trailer, standing, parent}
use Rattle.gedcom_rules.specs.Faults.{max_line, Clean}
use Rattle.gedcom_tree.specs.File.{untrailed}
use Rattle.gedcom_rules.specs.Judging.{continue_at, after}
use Rattle.gedcom_rules.proofs.Runs.{progress-push}
use Rattle.gedcom_rules.proofs.Unbroken.{Unbroken, unbroken}
use Rattle.gedcom_tree.proofs.Trailed.{untrailed_cons, untrailed_trailer}

-- a line that is not the trailer, after what the lines before it left
pub record Fit (q : Progress) (l : Parts) : Type 0 where
  pub line : IsLine l
  pub size : length l.raw ≤ max_line
  pub other : is_trailer l ≡ false
  pub rules : Unbroken q l

abbrev pub Fits : Progress → List Parts → Type 0
Fits q [] = Unit {0}
Fits q (l ∷ ls) = Fit q l × Fits (after q l) ls

-- a value is no longer than the bytes that spell its line
spans_le : (p : ℕ → Bool) (text front rest : List ℕ) → Spans p text front rest → length rest ≤ length text
spans_le p text front rest s = omega (arith, ap length s.parts, length-append front rest)

level_le : (text : List ℕ) (n : ℕ) (rest : List ℕ) → HasLevel text n rest → length rest ≤ length text
level_le text n rest h = omega (
  arith,
  spans_le is_white text h.white h.from h.indented,
  spans_le is_digit h.from h.digits h.after h.spelled,
  spans_le is_space h.after h.gap rest h.spaced,
)

xref_le : (text : List ℕ) (x : Option (List ℕ)) (rest : List ℕ) → HasXref text x rest → length rest ≤ length text
xref_le text None rest h = omega (arith, ap length h.1)
xref_le text (Some x) rest h = omega (
  arith,
  ap length h.parts,
  length-append (64 ∷ h.name) (64 ∷ h.after),
  spans_le is_space h.after h.gap rest h.spaced,
)

value_le : (after raw : List ℕ) → ((after ≡ []) × (raw ≡ [])) ⊎ (after ≡ 32 ∷ raw) → length raw ≤ length after
value_le after raw (inl h) = omega (arith, ap length h.1)
value_le after raw (inr h) = omega (arith, ap length h)

raw_le : (p : List ℕ) (l : Parts) → Line p l → length l.raw ≤ length p
raw_le p l h =
    let s = h.spelled in
    omega (
      arith,
      level_le p l.level s.rest s.level,
      xref_le s.rest l.xref s.last s.xref,
      spans_le is_word s.last l.tag s.tag.after s.tag.spelled,
      value_le s.tag.after l.raw s.tag.value,
    )

-- clean pieces have such lines
front_fits : (q : Progress) (p : List ℕ) (l : Parts) (ls : List Parts) → length p ≤ max_line → Line p l → Unbroken q l
    → Fits (after q l) (untrailed ls) → Fits q (untrailed (l ∷ ls))
front_fits q p l ls s h u f = elim (cases_Bool (is_trailer l)) [
  | inl e ↦ rw (untrailed_trailer l ls e) tt
  | inr e ↦ rw (untrailed_cons l ls e)
      (record { line = line_parts p l h; size = omega (arith, raw_le p l h); other = e; rules = u }, f)
]

pub clean_fits : (before : List Parts) (ps : List (List ℕ)) (lines : List Parts) → Clean before ps lines
    → (more : List Parts) × ((lines ≡ before ++ more) × Fits (progress_of before) (untrailed more))
clean_fits before [] lines h = ([], (h ∙ sym (append-nil before), tt))
clean_fits before (p ∷ ps) lines (s, inl h) = clean_fits before ps lines h.1
clean_fits before (p ∷ ps) lines (s, inr h) =
    let r = clean_fits (before ++ h.0 ∷ []) ps lines h.1.1.1 in
    let f : Fits (after (progress_of before) h.0) (untrailed r.0) = subst (λ (q : Progress). Fits q (untrailed r.0))
    (progress-push before h.0) r.1.1 in (
      h.0 ∷ r.0,
      (
        r.1.0 ∙ append_assoc before (h.0 ∷ []) r.0,
        front_fits (progress_of before) p h.0 r.0 s h.1.0
            (unbroken (progress_of before) h.0 h.1.1.0) f,
      ),
    )

-- what stands open after a line
pub above_own : (q : Progress) (l : Parts) → (after q l).above l.level ≡ Some (standing l [])
above_own q l =
    let e : eqb l.level l.level ≡ true = eq-eqb l.level l.level refl in
    rw e refl

pub above_deeper : (q : Progress) (l : Parts) (n : ℕ) → n < l.level → (after q l).above n ≡ option_map
    (continue_at n l) (q.above n)
above_deeper q l n h =
    let e : eqb l.level n ≡ false = eqb_false l.level n (λ k. absurd (omega (arith, k))) in
    rw (e, le-ltb l.level n (omega arith)) refl

pub above_kept : (q : Progress) (l : Parts) (n : ℕ) (s : Standing) → n < l.level
    → (is_continuation l.tag && eqb l.level (n + 1)) ≡ false → q.above n ≡ Some s → (after q l).above n ≡ Some s
above_kept q l n s h c e = rw (above_deeper q l n h, e, c) refl

pub parent_at : (q : Progress) (k n : ℕ) → eqb k (n + 1) ≡ true → parent q k ≡ q.above n
parent_at q k n e =
    let k_is : k ≡ n + 1 = eqb-true k (n + 1) e in
    let some : eqb k 0 ≡ false = eqb_false k 0 (λ h. absurd (omega (arith, h))) in
    let less : k - 1 ≡ n = omega arith in
    rw (some, less) refl

-- What judging a piece answers is what the definitions of a fault and of a line that breaks no rule say.
use Rattle.std.proofs.Common.{
  ◌≡◌,
  ℕ,
  ◌<◌,
  ◌≤◌,
  List,
  length,
  refl,
  sym,
  ap,
  ◌∙◌,
  subst,
  inl,
  inr,
  Option,
  Some,
  None,
  Ok,
  Err,
  Result,
}
use Rattle.std.proofs.lemmas.Bool.{lt-ltb, le-ltb, cases_lt}
use Rattle.gedcom_line.specs.Reading.{Parts, reading}
use Rattle.gedcom_line.specs.Line.{IsPiece, IsBlank, Line}
use Rattle.gedcom_line.specs.declared.fault.LineKind.{LineKind}
use Rattle.gedcom_line.proofs.Whole.{
  reading_line,
  line_reading,
  reading_blank,
  blank_reading,
  reading_fault,
  fault_reading,
}
use Rattle.gedcom_rules.specs.declared.fault.TreeKind.{TreeKind}
use Rattle.gedcom_rules.specs.declared.fault.TreeKind.TheVariants.{TooLong}
use Rattle.gedcom_rules.specs.Rules.{Progress, progress_of, first_broken, of_line}
use Rattle.gedcom_rules.specs.Faults.{max_line, IsFaulty, Judged}
use Rattle.gedcom_rules.specs.Judging.{judge, judge_read, kept}

pub judge_long : (q : Progress) (p : List ℕ) → max_line < length p → judge q p ≡ Err TooLong
unfolding judge
judge_long q p h = rw (lt-ltb max_line (length p) h) refl

judge_short : (q : Progress) (p : List ℕ) → length p ≤ max_line → judge q p ≡ judge_read q p (reading p)
unfolding judge
judge_short q p h = rw (le-ltb max_line (length p) h) refl

pub judge_blank : (q : Progress) (p : List ℕ) → length p ≤ max_line → IsBlank p → judge q p ≡ Ok None
judge_blank q p s b = judge_short q p s ∙ ap (judge_read q p) (blank_reading p b)

pub judge_keeps : (q : Progress) (p : List ℕ) (l : Parts) → length p ≤ max_line → Line p l → first_broken q l ≡ None
    → judge q p ≡ Ok (Some l)
judge_keeps q p l s h n = judge_short q p s ∙ ap (judge_read q p) (line_reading p l h) ∙ ap (kept l) n

pub judge_faulty : (before : List Parts) (p : List ℕ) (k : TreeKind) → IsFaulty before p k
    → judge (progress_of before) p ≡ Err k
judge_faulty before p k (inl h) = judge_long (progress_of before) p h.1 ∙ ap Err (sym h.0)
judge_faulty before p k (inr (s, inl n)) = judge_short (progress_of before) p s ∙ ap (judge_read (progress_of before) p)
    (fault_reading p n.0 n.1.0) ∙ ap Err (sym n.1.1)
judge_faulty before p k (inr (s, inr b)) = judge_short (progress_of before) p s ∙ ap (judge_read (progress_of before) p)
    (line_reading p b.0 b.1.0) ∙ ap (kept b.0) b.1.1

kept_judged : (before : List Parts) (p : List ℕ) (l : Parts) → length p ≤ max_line → Line p l → (o : Option TreeKind)
    → first_broken (progress_of before) l ≡ o → Judged before p (kept l o)
kept_judged before p l s h None e = (s, (h, e))
kept_judged before p l s h (Some k) e = inr (s, inr (l, (h, e)))

read_judged : (before : List Parts) (p : List ℕ) → IsPiece p → length p ≤ max_line
    → (r : Result (Option Parts) LineKind) → reading p ≡ r → Judged before p (judge_read (progress_of before) p r)
read_judged before p w s (Ok None) e = (s, reading_blank p e)
read_judged before p w s (Ok (Some l)) e = kept_judged before p l s (reading_line p l w e)
    (first_broken (progress_of before) l) refl
read_judged before p w s (Err k) e = inr (s, inl (k, (reading_fault p k w e, refl)))

pub judged : (before : List Parts) (p : List ℕ) → IsPiece p → Judged before p (judge (progress_of before) p)
judged before p w = elim (cases_lt max_line (length p)) [
  | inl lt ↦ rw (judge_long (progress_of before) p lt) (inl (refl, lt))
  | inr le ↦ rw (judge_short (progress_of before) p le) (read_judged before p w le (reading p) refl)
]

-- what an answer says, whatever lines left the progress
kept_some : (m l : Parts) (o : Option TreeKind) → kept m o ≡ Ok (Some l) → (o ≡ None) × (m ≡ l)
kept_some m l None e = (refl, cc)
kept_some m l (Some k) e = absurd cc

read_some : (q : Progress) (p : List ℕ) (l : Parts) (r : Result (Option Parts) LineKind)
    → judge_read q p r ≡ Ok (Some l) → (r ≡ Ok (Some l)) × (first_broken q l ≡ None)
read_some q p l (Ok None) e = absurd (let o : Result (Option Parts) TreeKind = Ok None in
    let bad : o ≡ Ok (Some l) = e in cc)
read_some q p l (Ok (Some m)) e =
    let k = kept_some m l (first_broken q m) e in
    (ap (λ (x : Parts). Ok (Some x)) k.1, subst (λ (x : Parts). first_broken q x ≡ None) k.1 k.0)
read_some q p l (Err k) e = absurd (let o : Result (Option Parts) TreeKind = Err (of_line k) in
    let bad : o ≡ Ok (Some l) = e in cc)

pub judge_some : (q : Progress) (p : List ℕ) (l : Parts) → judge q p ≡ Ok (Some l) → (reading p ≡ Ok (Some l))
    × (first_broken q l ≡ None)
judge_some q p l e = elim (cases_lt max_line (length p)) [
  | inl lt ↦ let bad : Err TooLong ≡ Ok (Some l) = sym (judge_long q p lt) ∙ e in absurd cc
  | inr le ↦ read_some q p l (reading p) (sym (judge_short q p le) ∙ e)
]

kept_none : (m : Parts) (o : Option TreeKind) → kept m o ≡ Ok None → ⊥
kept_none m None e = let r : Result (Option Parts) TreeKind = Ok (Some m) in let bad : r ≡ Ok None = e in cc
kept_none m (Some k) e = let r : Result (Option Parts) TreeKind = Err k in let bad : r ≡ Ok None = e in cc

read_none : (q : Progress) (p : List ℕ) (r : Result (Option Parts) LineKind) → judge_read q p r ≡ Ok None → r ≡ Ok None
read_none q p (Ok None) e = refl
read_none q p (Ok (Some m)) e = absurd (kept_none m (first_broken q m) e)
read_none q p (Err k) e = absurd (let o : Result (Option Parts) TreeKind = Err (of_line k) in
    let bad : o ≡ Ok None = e in cc)

pub judge_none : (q : Progress) (p : List ℕ) → judge q p ≡ Ok None → reading p ≡ Ok None
judge_none q p e = elim (cases_lt max_line (length p)) [
  | inl lt ↦ let bad : Err TooLong ≡ Ok None = sym (judge_long q p lt) ∙ e in absurd cc
  | inr le ↦ read_none q p (reading p) (sym (judge_short q p le) ∙ e)
]

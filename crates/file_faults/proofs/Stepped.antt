-- Up to the first fault each piece is judged as the rules of a file judge it.
use Rattle.std.proofs.Common.{
  ◌≡◌,
  ℕ,
  ◌<◌,
  ◌≤◌,
  false,
  List,
  length,
  refl,
  inl,
  inr,
  Option,
  Some,
  None,
  Ok,
  Err,
  Result,
}
use Rattle.std.proofs.lemmas.Bool.{lt-ltb, le-ltb, cases_lt}
use Rattle.gedcom_line.specs.Reading.{Parts, reading}
use Rattle.gedcom_line.specs.declared.fault.LineKind.{LineKind}
use Rattle.gedcom_rules.specs.declared.fault.TreeKind.{TreeKind}
use Rattle.gedcom_rules.specs.Rules.{Progress, first_broken}
use Rattle.gedcom_rules.specs.Faults.{max_line}
use Rattle.gedcom_rules.specs.Judging.{after, judge, judge_read, kept}
use Rattle.gedcom_rules.proofs.Judged.{judge_long}
use Rattle.file_faults.specs.Reading.{Course, fault_of, left_by}

-- what lines leave of which none is faulty
abbrev pub clean_course : Progress → Course
clean_course q = record { number = q.count; lines = q; other = false }

-- what a piece is after such lines
abbrev pub Step : Progress → List ℕ → Result (Option Parts) TreeKind → Type 0
Step q p (Ok None) = (fault_of (clean_course q) p ≡ None) × (left_by (clean_course q) p ≡ clean_course q)
Step q p (Ok (Some l)) = (fault_of (clean_course q) p ≡ None) × (left_by (clean_course q) p ≡ clean_course (after q l))
Step q p (Err k) = fault_of (clean_course q) p ≡ Some k

judge_short : (q : Progress) (p : List ℕ) → length p ≤ max_line → judge q p ≡ judge_read q p (reading p)
unfolding judge
judge_short q p h = rw (le-ltb max_line (length p) h) refl

step_kept : (q : Progress) (p : List ℕ) (l : Parts) → length p ≤ max_line → reading p ≡ Ok (Some l)
    → (o : Option TreeKind) → first_broken q l ≡ o → Step q p (kept l o)
unfolding fault_of left_by
step_kept q p l s e None n = (
  rw (le-ltb max_line (length p) s, e, n) refl,
  rw (le-ltb max_line (length p) s, e, n) refl,
)
step_kept q p l s e (Some k) n = rw (le-ltb max_line (length p) s, e, n) refl

step_read : (q : Progress) (p : List ℕ) → length p ≤ max_line → (r : Result (Option Parts) LineKind) → reading p ≡ r
    → Step q p (judge_read q p r)
unfolding fault_of left_by
step_read q p s (Ok None) e = (rw (le-ltb max_line (length p) s, e) refl, rw (le-ltb max_line (length p) s, e) refl)
step_read q p s (Ok (Some l)) e = step_kept q p l s e (first_broken q l) refl
step_read q p s (Err k) e = rw (le-ltb max_line (length p) s, e) refl

step_long : (q : Progress) (p : List ℕ) → max_line < length p → Step q p (judge q p)
unfolding fault_of
step_long q p lt = rw (judge_long q p lt, lt-ltb max_line (length p) lt) refl

pub stepped : (q : Progress) (p : List ℕ) → Step q p (judge q p)
stepped q p = elim (cases_lt max_line (length p)) [
  | inl lt ↦ step_long q p lt
  | inr le ↦ rw (judge_short q p le) (step_read q p le (reading p) refl)
]

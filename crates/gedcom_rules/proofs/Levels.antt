-- A line that breaks no rule finds a place among the open lines.
use Rattle.std.proofs.Common.{◌≡◌, ℕ, ◌+◌, ◌≤◌, true, false, eqb, not, List, inl, inr, arith, Some, Ok}
use Rattle.std.proofs.lemmas.Bool.{eqb-true, ltb-false, not-false, and_parts, cases_Bool}
use Rattle.gedcom_line.specs.Reading.{Parts}
use Rattle.gedcom_rules.specs.Rules.{Progress, is_head}
use Rattle.gedcom_rules.specs.Judging.{judge}
use Rattle.gedcom_rules.specs.Depth.{depth}
use Rattle.gedcom_rules.proofs.Judged.{judge_some}
use Rattle.gedcom_rules.proofs.Unbroken.{Unbroken, unbroken}

head_level : (l : Parts) → is_head l ≡ true → l.level ≡ 0
head_level l h = eqb-true l.level 0 (and_parts (eqb l.level 0) _ h).0

pub first_level : (q : Progress) (l : Parts) → Unbroken q l → eqb q.count 0 ≡ true → l.level ≡ 0
first_level q l u e = let head : not (is_head l) ≡ false = rw e at u.head in head_level l (not-false (is_head l) head)

-- the level of the next line is not beyond the open lines
pub unbroken_level : (q : Progress) (l : Parts) (n : ℕ) → Unbroken q l → n ≡ depth q → l.level ≤ n
unbroken_level q l n u d = elim (cases_Bool (eqb q.count 0)) [
  | inl e ↦ omega (arith, first_level q l u e)
  | inr e ↦ let at : n ≡ q.last + 1 = rw e at d in omega (arith, at, ltb-false (q.last + 1) l.level u.jump)
]

pub judged_level : (q : Progress) (p : List ℕ) (l : Parts) (n : ℕ) → judge q p ≡ Ok (Some l) → n ≡ depth q → l.level ≤ n
judged_level q p l n h d = unbroken_level q l n (unbroken q l (judge_some q p l h).1) d

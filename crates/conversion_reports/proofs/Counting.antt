-- What is counted of lines, one line after the other.
use Rattle.std.proofs.Common.{
  ◌≡◌,
  ◌∙◌,
  ◌+◌,
  ◌<◌,
  ◌≤◌,
  ◌++◌,
  ◌∷◌,
  ◌&&◌,
  [],
  Bool,
  List,
  ap,
  append_assoc,
  arith,
  false,
  if◌then◌else◌,
  length,
  min,
  nat_lt,
  refl,
  subst,
  sym,
  take,
  take_all,
  true,
  ℕ,
}
use Rattle.std.proofs.lemmas.Bool.{ltb-false, ltb-true}
use Rattle.std.proofs.lemmas.List.{append-nil, length-append, take-append-le}
use Rattle.character_sets.specs.declared.set.CharacterSet.{CharacterSet}
use Rattle.character_sets.specs.Lines.{Line, lines}
use Rattle.character_sets.proofs.FirstLines.{none}
use Rattle.conversion_reports.specs.declared.kinds.Kind.{Kind}
use Rattle.conversion_reports.specs.Lines.{
  Leads,
  LineRead,
  count,
  first_places,
  lines_read,
  marks,
  measure,
  most_counted,
  places,
  total,
  with_line,
}

none_yet : (t : ℕ) → 0 + t ≡ t
none_yet t = omega arith

begun_here : (all : List (ℕ × ℕ)) → Leads 0 [] all all
begun_here all = record {
  bound = omega arith;
  counts = ap (λ t. min t most_counted) (none_yet (total all));
  few = omega arith;
  begins = refl;
}

-- nothing was counted yet
pub begun : (first : List ℕ) (rest all : List (ℕ × ℕ)) → first ≡ [] → rest ≡ all → Leads 0 first rest all
begun first rest all f e = subst (λ (xs : List ℕ). Leads 0 xs rest all) (sym f)
    (subst (λ (ms : List (ℕ × ℕ)). Leads 0 [] ms all) (sym e) (begun_here all))

-- more than a limit is not counted, before or after the rest
saturated : (m c often t now : ℕ) → now ≡ min (c + often) m → min (now + t) m ≡ min (c + (often + t)) m
saturated m c often t now e = omega (arith, e)

-- by whether the line has it, and whether fewer than five lines are there
step : (first p : List ℕ) (n : ℕ) (b d : Bool) → nat_lt (length first) 5 ≡ d
    → take 5 ((if b && d then first ++ n ∷ [] else first) ++ p) ≡ take 5 (first ++ (if b then n ∷ p else p))
step first p n true true e = ap (take 5) (append_assoc first (n ∷ []) p)
step first p n true false e = let full = ltb-false (length first) 5 e in
    take-append-le 5 first p full ∙ sym (take-append-le 5 first (n ∷ p) full)
step first p n false d e = refl

few_step : (first : List ℕ) (n : ℕ) (b d : Bool) → nat_lt (length first) 5 ≡ d → length first ≤ 5
    → length (if b && d then first ++ n ∷ [] else first) ≤ 5
few_step first n true true e h = rw (length-append first (n ∷ [])) (omega (arith, ltb-true (length first) 5 e))
few_step first n true false e h = h
few_step first n false d e h = h

within : (m k now : ℕ) → now ≡ min k m → now ≤ m
within m k now e = omega (arith, e)

-- one more line
added : (c often now n : ℕ) (first next : List ℕ) (rest all : List (ℕ × ℕ)) → now ≡ min (c + often) most_counted
    → next ≡ with_line first n often → Leads c first ((n, often) ∷ rest) all → Leads now next rest all
added c often now n first next rest all e f h = record {
  bound = within most_counted (c + often) now e;
  counts = saturated most_counted c often (total rest) now e ∙ h.counts;
  few = rw f (few_step first n (nat_lt 0 often) (nat_lt (length first) 5) refl h.few);
  begins = rw f (step first (places rest) n (nat_lt 0 often) (nat_lt (length first) 5) refl ∙ h.begins);
}

pub next_leads : (kind : Kind) (set : CharacterSet) (read more : List LineRead) (c often now : ℕ) (l : LineRead)
    (first next : List ℕ) (all : List (ℕ × ℕ)) → read ≡ l ∷ more → often ≡ measure kind set l.joins l.units
    → now ≡ min (c + often) most_counted → next ≡ with_line first l.number often
    → Leads c first (marks kind set read) all → Leads now next (marks kind set more) all
next_leads kind set read more c often now l first next all e m n f h =
    let at : Leads c first ((l.number, measure kind set l.joins l.units) ∷ marks kind set more) all =
    subst (λ (ls : List LineRead). Leads c first (marks kind set ls) all) e h in
    added c often now l.number first next (marks kind set more) all n f
    (subst (λ (o : ℕ). Leads c first ((l.number, o) ∷ marks kind set more) all) (sym m) at)

full : (c m t : ℕ) → c ≤ m → min (c + 0) m ≡ t → c ≡ t
full c m t h e = omega (arith, h, e)

-- all lines were counted
pub ended : (kind : Kind) (set : CharacterSet) (n c : ℕ) (carry first us : List ℕ) (all : List (ℕ × ℕ))
    → length us < 1 → Leads c first (marks kind set (lines_read set n carry (lines us))) all
    → (c ≡ count all) × (first ≡ first_places all)
ended kind set n c carry first us all h leads =
    let at : Leads c first [] all =
    subst (λ (ls : List Line). Leads c first (marks kind set (lines_read set n carry ls)) all) (none us h) leads in (
      full c most_counted (count all) at.bound at.counts,
      sym (take_all 5 first at.few) ∙ (ap (take 5) (sym (append-nil first)) ∙ at.begins),
    )

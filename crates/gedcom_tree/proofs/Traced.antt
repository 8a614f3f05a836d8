-- Progress as data is the progress.
use Rattle.std.proofs.Common.{
  ◌≡◌,
  ℕ,
  zero,
  suc,
  ◌+◌,
  ◌<◌,
  Bool,
  true,
  false,
  ltb,
  eqb,
  ◌||◌,
  List,
  [],
  ◌∷◌,
  ◌++◌,
  refl,
  sym,
  ap,
  ◌∙◌,
  inl,
  inr,
  arith,
  Option,
  Some,
  None,
  Ok,
  Err,
  Result,
}
use Rattle.std.specs.List.{list_any}
use Rattle.std.specs.Str.{bytes_eq}
use Rattle.std.proofs.lemmas.Bool.{ltb-true, ltb-false, lt-ltb, cases_Bool}
use Rattle.gedcom_line.specs.Reading.{Parts}
use Rattle.gedcom_line.proofs.Steps.{eqb_false}
use Rattle.gedcom_rules.specs.declared.fault.TreeKind.{TreeKind}
use Rattle.gedcom_rules.specs.Rules.{Progress, Standing, has_name}
use Rattle.gedcom_rules.specs.Faults.{Fault}
use Rattle.gedcom_rules.specs.Judging.{start, above_after, after, judge, advance, then_run, run}
use Rattle.gedcom_tree.specs.Reading.{
  Trace,
  standing_in,
  table,
  progress_from,
  no_trace,
  name_on,
  trace_after,
  trace_advance,
  then_trace,
  trace_run,
  traced,
}
use Rattle.gedcom_rules.proofs.Runs.{same_function}
use Rattle.std.proofs.Math.Bool.{or-false}

table_in : (f : ℕ → Option Standing) (n k : ℕ) → k < n → standing_in (table f n) k ≡ f k
table_in f zero k h = absurd (omega arith)
table_in f (suc n) zero h = refl
table_in f (suc n) (suc k) h = table_in (λ j. f (suc j)) n k (omega arith)

table_out : (f : ℕ → Option Standing) (n k : ℕ) → n < suc k → standing_in (table f n) k ≡ None
table_out f zero k h = refl
table_out f (suc n) zero h = absurd (omega arith)
table_out f (suc n) (suc k) h = table_out (λ j. f (suc j)) n k (omega arith)

above_lower : (above : ℕ → Option Standing) (l : Parts) (n : ℕ) → l.level < n → above_after above l n ≡ None
above_lower above l n h =
    let e : eqb l.level n ≡ false = eqb_false l.level n (λ k. omega (arith, k)) in
    rw (e, lt-ltb l.level n h) refl

standings_after : (above : ℕ → Option Standing) (l : Parts) (n : ℕ)
    → standing_in (table (above_after above l) (l.level + 1)) n ≡ above_after above l n
standings_after above l n = elim (cases_Bool (ltb l.level n)) [
  | inl e ↦ table_out (above_after above l) (l.level + 1) n (omega (arith, ltb-true l.level n e))
      ∙ sym (above_lower above l n (ltb-true l.level n e))
  | inr e ↦ table_in (above_after above l) (l.level + 1) n (omega (arith, ltb-false l.level n e))
]

any_more : (x : List ℕ) (names more : List (List ℕ)) → list_any (bytes_eq x) (names ++ more)
    ≡ (list_any (bytes_eq x) names || list_any (bytes_eq x) more)
any_more x [] more = refl
any_more x (n ∷ ns) more = elim (bytes_eq x n) as (λ v. (v || list_any (bytes_eq x) (ns ++ more))
    ≡ ((v || list_any (bytes_eq x) ns) || list_any (bytes_eq x) more)) [ true ↦ refl | false ↦ any_more x ns more ]

name_has : (x : List ℕ) (l : Parts) (o : Option (List ℕ)) → l.xref ≡ o → list_any (bytes_eq x)
    (name_on o) ≡ has_name x l
name_has x l None e = rw e refl
name_has x l (Some y) e = rw e (or-false (bytes_eq x y))

names_after : (x : List ℕ) (names : List (List ℕ)) (l : Parts) → list_any (bytes_eq x) (names ++ name_on l.xref)
    ≡ (list_any (bytes_eq x) names || has_name x l)
names_after x names l = any_more x names (name_on l.xref) ∙ ap (λ (b : Bool). list_any (bytes_eq x) names || b)
    (name_has x l l.xref refl)

pub traced_after : (t : Trace) (l : Parts) → progress_from (trace_after t l) ≡ after (progress_from t) l
traced_after t l =
    let names : (λ (x : List ℕ). list_any (bytes_eq x) (t.names ++ name_on l.xref))
    ≡ (λ (x : List ℕ). list_any (bytes_eq x) t.names || has_name x l) = same_function _ _
    (λ x. names_after x t.names l) in
    let open_ : standing_in (table (above_after (standing_in t.standings) l) (l.level + 1)) ≡ above_after
    (standing_in t.standings) l = same_function _ _ (standings_after (standing_in t.standings) l) in
    rw (names, open_) refl

pub traced_advance : (t : Trace) (j : Result (Option Parts) TreeKind) → traced (trace_advance t j)
    ≡ advance (progress_from t) j
traced_advance t (Ok None) = refl
traced_advance t (Ok (Some l)) = ap (λ (p : Progress). Ok p) (traced_after t l)
traced_advance t (Err k) = refl

then_traced : (f : Trace → Result Trace Fault) (g : Progress → Result Progress Fault) (r : Result Trace Fault)
    → ((t : Trace) → traced (f t) ≡ g (progress_from t)) → traced (then_trace f r) ≡ then_run g (traced r)
then_traced f g (Ok t) h = h t
then_traced f g (Err e) h = refl

pub traced_run : (t : Trace) (ps : List (List ℕ)) → traced (trace_run t ps) ≡ run (progress_from t) ps
unfolding trace_run run
traced_run t [] = refl
traced_run t (p ∷ ps) =
    then_traced (λ u. trace_run u ps) (λ q. run q ps) (trace_advance t (judge (progress_from t) p))
    (λ u. traced_run u ps)
    ∙ ap (then_run (λ q. run q ps)) (traced_advance t (judge (progress_from t) p))

pub traced_start : (ps : List (List ℕ)) → traced (trace_run no_trace ps) ≡ run start ps
traced_start ps = traced_run no_trace ps

pub trace_run-append : (t : Trace) (xs ys : List (List ℕ)) → trace_run t (xs ++ ys) ≡ then_trace (λ u. trace_run u ys)
    (trace_run t xs)
unfolding trace_run
trace_run-append t [] ys = refl
trace_run-append t (x ∷ xs) ys =
    elim (trace_advance t (judge (progress_from t) x)) as (λ r. then_trace (λ u. trace_run u (xs ++ ys)) r
    ≡ then_trace (λ u. trace_run u ys) (then_trace (λ u. trace_run u xs) r)) [
      | Ok u ↦ trace_run-append u xs ys
      | Err e ↦ refl
    ]

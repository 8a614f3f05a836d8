-- What lines leave as data, one piece after another, is what the code keeps.
use Rattle.std.proofs.Common.{
  ◌≡◌,
  ℕ,
  ◌-◌,
  ◌<◌,
  true,
  false,
  cond,
  eqb,
  ltb,
  ◌&&◌,
  ◌||◌,
  append_assoc,
  List,
  [],
  ◌∷◌,
  ◌++◌,
  length,
  refl,
  sym,
  ap,
  ◌∙◌,
  inl,
  inr,
  append-nil,
  Option,
  Some,
  None,
  Ok,
  Err,
  Result,
}
use Rattle.std.specs.Prelude.{is_some}
use Rattle.std.specs.List.{list_all}
use Rattle.std.proofs.lemmas.Bool.{lt-ltb, or_parts, cases_Bool}
use Rattle.gedcom_line.specs.Reading.{Parts, is_continuation}
use Rattle.gedcom_rules.specs.declared.fault.TreeKind.{TreeKind}
use Rattle.gedcom_rules.specs.declared.fault.TreeKind.TheVariants.{TooLong}
use Rattle.gedcom_rules.specs.Rules.{Progress, is_trailer}
use Rattle.gedcom_rules.specs.Continuing.{adds}
use Rattle.gedcom_rules.specs.Pieces.{pieces}
use Rattle.gedcom_rules.specs.Depth.{depth}
use Rattle.gedcom_rules.specs.Faults.{Fault, max_line}
use Rattle.gedcom_rules.specs.Judging.{start, after, next, judge, advance, fault_behind, open_fault}
use Rattle.gedcom_rules.proofs.Bools.{counted}
use Rattle.gedcom_rules.proofs.Judged.{judge_some, judge_long}
use Rattle.gedcom_rules.proofs.Unbroken.{Unbroken, unbroken}
use Rattle.gedcom_tree.specs.Forest.{Item, node_of, extended}
use Rattle.gedcom_tree.specs.Reading.{
  Trace,
  grow_line,
  grown,
  standing_in,
  table,
  name_on,
  progress_from,
  trace_after,
  trace_advance,
  then_trace,
  trace_run,
  traced,
  reader_of,
}
use Rattle.gedcom_tree.specs.Lines.{names_of, names_view, Names, trace_of}
use Rattle.gedcom_tree.proofs.Traced.{traced_after, trace_run-append}

-- the cross references of more nodes
names-append : (a b : List Item) → names_of (a ++ b) ≡ names_of a ++ names_of b
names-append [] b = refl
names-append (i ∷ is) b = ap (λ (x : List (List ℕ)). name_on i.xref ++ x) (names-append is b)
    ∙ sym (append_assoc (name_on i.xref) (names_of is) (names_of b))

names_extended : (n : ℕ) (t : List ℕ) (items : List Item) → names_of (extended n t items) ≡ names_of items
names_extended n t [] = refl
names_extended n t (i ∷ is) = elim (cases_Bool (eqb i.level n && list_all (λ j. ltb n j.level) is)) [
  | inl e ↦ rw e (ap (λ (x : List (List ℕ)). name_on i.xref ++ x) (names_extended n t is))
  | inr e ↦ rw e (ap (λ (x : List (List ℕ)). name_on i.xref ++ x) (names_extended n t is))
]

-- a continuation has none
no_name : (q : Progress) (l : Parts) → Unbroken q l → is_continuation l.tag ≡ true → l.xref ≡ None
no_name q l u t =
    let g : (is_some l.xref || _) ≡ false = rw t at u.goes_on in
    none_is l.xref (or_parts (is_some l.xref) _ g).0
  where
    none_is : (o : Option (List ℕ)) → is_some o ≡ false → o ≡ None
    none_is None h = refl
    none_is (Some x) h = absurd cc

-- one line more
line_names : (q : Progress) (l : Parts) (m : ℕ) (items : List Item) → Unbroken q l → is_trailer l ≡ false
    → names_of (grow_line m items l) ≡ names_of items ++ name_on l.xref
line_names q l m items u e = elim (cases_Bool (is_continuation l.tag)) [
  | inl t ↦ rw (e, t, no_name q l u t) (names_extended (l.level - 1) (adds l) items ∙ sym (append-nil (names_of items)))
  | inr t ↦ rw (e, t) (names-append items (node_of m l [] ∷ []) ∙ ap (λ (x : List (List ℕ)). names_of items ++ x)
      (append-nil (name_on l.xref)))
]

more_names : (q : Progress) (l : Parts) (m : ℕ) (items : List Item) (x : Option (List ℕ)) → Unbroken q l → x ≡ None
    → names_view (grow_line m items l) (cond (is_trailer l) l.xref x) ≡ names_view items x ++ name_on l.xref
more_names q l m items x u n = elim (cases_Bool (is_trailer l)) [
  | inl e ↦ rw (e, n, append-nil (names_of items)) refl
  | inr e ↦
      let none : cond (is_trailer l) l.xref x ≡ None = rw e n in
      ap (λ (o : Option (List ℕ)). names_of (grow_line m items l) ++ name_on o) none
      ∙ append-nil (names_of (grow_line m items l))
      ∙ line_names q l m items u e
      ∙ ap (λ (t : List (List ℕ)). t ++ name_on l.xref)
      (sym (ap (λ (o : Option (List ℕ)). names_of items ++ name_on o) n ∙ append-nil (names_of items)))
]

pub named_line : (q : Progress) (p : List ℕ) (l : Parts) (m : ℕ) (items more : List Item) (x y : Option (List ℕ))
    → judge q p ≡ Ok (Some l) → (q.done ≡ false → x ≡ None) → more ≡ grow_line m items l
    → y ≡ cond (is_trailer l) l.xref x → Names (judge q p) (names_view items x) (names_view more y)
named_line q p l m items more x y h plain e t =
    let u = unbroken q l (judge_some q p l h).1 in
    rw (h, e, t) (more_names q l m items x u (plain u.done))

pub named_blank : (q : Progress) (p : List ℕ) (names : List (List ℕ)) → judge q p ≡ Ok None
    → Names (judge q p) names names
named_blank q p names h = rw h refl

pub plain_line : (q r : Progress) (p : List ℕ) (l : Parts) (x y : Option (List ℕ)) → judge q p ≡ Ok (Some l)
    → r ≡ after q l → (q.done ≡ false → x ≡ None) → y ≡ cond (is_trailer l) l.xref x → r.done ≡ false → y ≡ None
plain_line q r p l x y h e plain t d =
    let both : (q.done || is_trailer l) ≡ false = ap (λ (s : Progress). s.done) (sym e) ∙ d in
    let n = or_parts q.done (is_trailer l) both in
    t ∙ rw n.1 (plain n.0)

pub plain_blank : (q r : Progress) (x : Option (List ℕ)) → r ≡ q → (q.done ≡ false → x ≡ None)
    → r.done ≡ false → x ≡ None
plain_blank q r x e plain d = plain (ap (λ (s : Progress). s.done) (sym e) ∙ d)

-- progress as data, one line more
trace_made : (q : Progress) (names : List (List ℕ)) (l : Parts) → progress_from (trace_of q names) ≡ q
    → trace_after (trace_of q names) l ≡ trace_of (after q l) (names ++ name_on l.xref)
unfolding trace_of
trace_made q names l h =
    let s : standing_in (table q.above (depth q)) ≡ q.above = ap (λ (x : Progress). x.above) h in
    rw (s, counted q.count) refl

-- and one piece more
abbrev Step : Progress → List (List ℕ) → Progress → List (List ℕ) → Result (Option Parts) TreeKind → Type 0
Step q names r more j = (trace_advance (trace_of q names) j ≡ Ok (trace_of r more))
    × (progress_from (trace_of r more) ≡ r)

ok_is : (x : Result Progress Fault) (q r : Progress) → x ≡ Ok q → x ≡ Ok r → q ≡ r
ok_is x q r a b = cc

err_is : (x : Result Progress Fault) (e f : Fault) → x ≡ Err e → x ≡ Err f → e ≡ f
err_is x e f a b = cc

step_of : (q r : Progress) (names more : List (List ℕ)) (j : Result (Option Parts) TreeKind)
    → progress_from (trace_of q names) ≡ q → advance q j ≡ Ok r → Names j names more → Step q names r more j
step_of q r names more (Ok None) h e n = let s : q ≡ r = ok_is (advance q (Ok None)) q r refl e in rw (n, ← s) (refl, h)
step_of q r names more (Ok (Some l)) h e n =
    let s : after q l ≡ r = ok_is (advance q (Ok (Some l))) (after q l) r refl e in
    let made = trace_made q names l h in
    rw (n, ← s) (
      ap (λ (x : Trace). Ok x) made,
      ap progress_from (sym made) ∙ traced_after (trace_of q names) l
          ∙ ap (λ (x : Progress). after x l) h,
    )
step_of q r names more (Err k) h e n = absurd n

fault_of_step : (q : Progress) (names : List (List ℕ)) (j : Result (Option Parts) TreeKind) (f : Fault)
    → advance q j ≡ Err f → trace_advance (trace_of q names) j ≡ Err f
unfolding trace_of
fault_of_step q names (Ok o) f e = absurd cc
fault_of_step q names (Err k) f e = ap (λ (g : Fault). Err g)
    (err_is (advance q (Err k)) (fault_behind q.count k) f refl e)

pub run_one : (t : Trace) (q : Progress) (p : List ℕ) (r : Result Trace Fault) → progress_from t ≡ q
    → trace_advance t (judge q p) ≡ r → trace_run t (p ∷ []) ≡ r
unfolding trace_run
run_one t q p r h e = rw (h, e) (then_ok r)
  where
    then_ok : (r : Result Trace Fault) → then_trace (λ u. Ok u) r ≡ r
    then_ok (Ok u) = refl
    then_ok (Err f) = refl

pub led_one : (q r : Progress) (names more : List (List ℕ)) (p : List ℕ) → progress_from (trace_of q names) ≡ q
    → advance q (judge q p) ≡ Ok r → Names (judge q p) names more
    → (trace_run (trace_of q names) (p ∷ []) ≡ Ok (trace_of r more)) × (progress_from (trace_of r more) ≡ r)
led_one q r names more p h e n =
    let s = step_of q r names more (judge q p) h e n in
    (run_one (trace_of q names) q p (Ok (trace_of r more)) h s.0, s.1)

pub refused_one : (q : Progress) (names : List (List ℕ)) (p : List ℕ) (f : Fault) → progress_from (trace_of q names) ≡ q
    → advance q (judge q p) ≡ Err f → trace_run (trace_of q names) (p ∷ []) ≡ Err f
refused_one q names p f h e = run_one (trace_of q names) q p (Err f) h (fault_of_step q names (judge q p) f e)

-- pieces after pieces
pub run_on : (t u : Trace) (xs ys : List (List ℕ)) → trace_run t xs ≡ Ok u → trace_run t (xs ++ ys) ≡ trace_run u ys
run_on t u xs ys h = trace_run-append t xs ys ∙ ap (then_trace (λ v. trace_run v ys)) h

pub run_bad : (t : Trace) (f : Fault) (xs ys : List (List ℕ)) → trace_run t xs ≡ Err f → trace_run t (xs ++ ys) ≡ Err f
run_bad t f xs ys h = trace_run-append t xs ys ∙ ap (then_trace (λ v. trace_run v ys)) h

pub run_none : (t : Trace) → trace_run t [] ≡ Ok t
unfolding trace_run
run_none t = refl

pub run_long : (q : Progress) (names : List (List ℕ)) (p : List ℕ) (f : Fault) → progress_from (trace_of q names) ≡ q
    → f ≡ fault_behind q.count TooLong → max_line < length p → trace_run (trace_of q names) (p ∷ []) ≡ Err f
run_long q names p f h e l = refused_one q names p f h
    (ap (advance q) (judge_long q p l) ∙ ap (λ (x : Fault). Err x) (sym e))

-- what they decide
pub blamed_early : (t : Trace) (ps : List (List ℕ)) (f : Fault) (rest : List ℕ) (next : Option ℕ)
    → trace_run t ps ≡ Err f → open_fault rest next (traced (trace_run t ps)) ≡ Some f
blamed_early t ps f rest next h = rw h refl

pub blamed_long : (t : Trace) (q : Progress) (names : List (List ℕ)) (ps : List (List ℕ)) (f : Fault) (rest : List ℕ)
    (next : Option ℕ) → trace_run t ps ≡ Ok (trace_of q names) → f ≡ fault_behind q.count TooLong
    → max_line < length rest → open_fault rest next (traced (trace_run t ps)) ≡ Some f
unfolding trace_of
blamed_long t q names ps f rest next h e l = rw (h, lt-ltb max_line (length rest) l)
    (ap (λ (x : Fault). Some x) (sym e))

-- before the first line
pub begun : (q : Progress) (names : List (List ℕ)) (items : List Item) → q ≡ start → names ≡ [] → items ≡ []
    → record {
      seen = Ok (trace_of q names);
      nodes = record { count = q.count; items = items };
      open_ = [];
      total = 0;
      answer = None;
    } ≡ reader_of []
unfolding trace_of reader_of trace_run grown pieces
begun q names items e n i = rw (e, n, i) refl

pub begun_traced : (q : Progress) (names : List (List ℕ)) → q ≡ start → names ≡ []
    → progress_from (trace_of q names) ≡ q
unfolding trace_of
begun_traced q names e n = rw (e, n) refl

pub names_none : (items : List Item) → items ≡ [] → names_view items None ≡ []
names_none items e = rw e refl

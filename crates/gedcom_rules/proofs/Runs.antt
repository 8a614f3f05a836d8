-- Judging pieces one after another answers what the definitions of clean pieces and of the first faulty one say.
use Rattle.std.proofs.Common.{
  ◌≡◌,
  ℕ,
  ◌+◌,
  ◌-◌,
  ◌<◌,
  ◌≤◌,
  Bool,
  true,
  false,
  cond,
  eqb,
  ltb,
  not,
  ◌&&◌,
  ◌||◌,
  append_assoc,
  append-nil,
  List,
  [],
  ◌∷◌,
  ◌++◌,
  length,
  length-append,
  refl,
  sym,
  ap,
  ◌∙◌,
  subst,
  inl,
  inr,
  arith,
  Option,
  Some,
  None,
  Ok,
  Err,
  Result,
}
use Rattle.std.specs.Prelude.{option_map}
use Rattle.std.specs.List.{list_all, list_any, flat_map}
use Rattle.std.proofs.lemmas.Bool.{eqb-true, ltb-true, ltb-false, le-ltb, lt-ltb, and_parts, cases_Bool}
use Rattle.std.proofs.lemmas.List.Concat.{flat_map-append}
use Rattle.gedcom_line.specs.Reading.{Parts, is_continuation}
use Rattle.gedcom_line.specs.Escape.{unescaped}
use Rattle.gedcom_line.specs.Line.{IsBlank, Line}
use Rattle.gedcom_line.proofs.Steps.{eqb_false, eqb_no}
use Rattle.gedcom_rules.specs.declared.fault.TreeKind.{TreeKind}
use Rattle.gedcom_rules.specs.Rules.{
  Progress,
  progress_of,
  last_level,
  is_in_head,
  is_trailer,
  has_name,
  standing,
  standing_at,
  max_text,
  first_broken,
}
use Rattle.gedcom_rules.specs.Continuing.{belongs, adds}
use Rattle.gedcom_rules.specs.Faults.{max_line, Clean, Fault, FaultIn, Judged}
use Rattle.gedcom_rules.specs.Judging.{continue_at, above_after, after, judge, advance, then_run, run, fault_behind}
use Rattle.gedcom_rules.proofs.Cuts.{AllPieces}
use Rattle.gedcom_rules.proofs.Judged.{judge_blank, judge_keeps, judge_faulty, judged}
use Rattle.std.proofs.Math.Bool.{and-false, and-true, or-false}

-- one line more
pub last_level-push : (ls : List Parts) (l : Parts) → last_level (ls ++ l ∷ []) ≡ l.level
last_level-push [] l = refl
last_level-push (m ∷ []) l = refl
last_level-push (m ∷ n ∷ ls) l = last_level-push (n ∷ ls) l

any-push : (ls : List Parts) (l : Parts) → list_any is_trailer (ls ++ l ∷ []) ≡ (list_any is_trailer ls || is_trailer l)
any-push [] l = or-false (is_trailer l)
any-push (m ∷ ms) l = elim (is_trailer m) as (λ v. (v || list_any is_trailer (ms ++ l ∷ []))
    ≡ ((v || list_any is_trailer ms) || is_trailer l)) [ true ↦ refl | false ↦ any-push ms l ]

all-push : (p : Parts → Bool) (ls : List Parts) (l : Parts) → list_all p (ls ++ l ∷ []) ≡ (list_all p ls && p l)
all-push p [] l = and-true (p l)
all-push p (m ∷ ms) l = elim (p m) as (λ v. (v && list_all p (ms ++ l ∷ [])) ≡ ((v && list_all p ms) && p l))
    [ true ↦ all-push p ms l | false ↦ refl ]

head-push : (ls : List Parts) (l : Parts) → is_in_head (ls ++ l ∷ [])
    ≡ (eqb (length ls) 0 || (is_in_head ls && not (eqb l.level 0)))
head-push [] l = refl
head-push (m ∷ ms) l =
    let some : eqb (length (m ∷ ms)) 0 ≡ false = eqb_false (length (m ∷ ms)) 0 (λ e. absurd (omega (arith, e))) in
    rw some (all-push (λ n. not (eqb n.level 0)) ms l)

-- what stands open
deeper_push : (n : ℕ) (ms : List Parts) (l : Parts) → ltb n l.level ≡ false → list_all (λ m. ltb n m.level)
    (ms ++ l ∷ []) ≡ false
deeper_push n ms l h = all-push (λ m. ltb n m.level) ms l ∙ rw h (and-false (list_all (λ m. ltb n m.level) ms))

-- a line of the level, or of a lower one, closes what stood open there
at_own : (n : ℕ) (ls : List Parts) (l : Parts) → eqb l.level n ≡ true → standing_at n (ls ++ l ∷ [])
    ≡ Some (standing l [])
at_own n [] l h = rw h refl
at_own n (m ∷ ms) l h =
    let same : l.level ≡ n = eqb-true l.level n h in
    let no_less : ltb n l.level ≡ false = le-ltb n l.level (omega (arith, same)) in
    let all : list_all (λ k. ltb n k.level) (ms ++ l ∷ []) ≡ false = deeper_push n ms l no_less in
    rw (all, and-false (eqb m.level n)) (at_own n ms l h)

at_lower : (n : ℕ) (ls : List Parts) (l : Parts) → eqb l.level n ≡ false → ltb l.level n ≡ true
    → standing_at n (ls ++ l ∷ []) ≡ None
at_lower n [] l h k = rw h refl
at_lower n (m ∷ ms) l h k =
    let less : l.level < n = ltb-true l.level n k in
    let no_less : ltb n l.level ≡ false = le-ltb n l.level (omega (arith, less)) in
    let all : list_all (λ j. ltb n j.level) (ms ++ l ∷ []) ≡ false = deeper_push n ms l no_less in
    rw (all, and-false (eqb m.level n)) (at_lower n ms l h k)

-- what goes on with a line among lines that are all deeper than it
pub belongs_deeper : (n : ℕ) (ms : List Parts) (l : Parts) → list_all (λ m. ltb n m.level) ms ≡ true
    → ltb n l.level ≡ true → belongs n (ms ++ l ∷ []) ≡ belongs n ms ++ cond
    (is_continuation l.tag && eqb l.level (n + 1)) (l ∷ []) []
belongs_deeper n [] l a h = rw h refl
belongs_deeper n (m ∷ ms) l a h =
    let r = and_parts (ltb n m.level) (list_all (λ k. ltb n k.level) ms) a in
    rw r.0 (elim (cases_Bool (is_continuation m.tag && eqb m.level (n + 1))) [
      | inl e ↦ rw e (ap (λ (x : List Parts). m ∷ x) (belongs_deeper n ms l r.1 h))
      | inr e ↦ rw e (belongs_deeper n ms l r.1 h)
    ])

sub_sub : (a b c : ℕ) → a - (b + c) ≡ a - b - c
sub_sub a b c = omega arith

continued_step : (n : ℕ) (m l : Parts) (more : List Parts)
    → standing m (more ++ cond (is_continuation l.tag && eqb l.level (n + 1)) (l ∷ []) []) ≡ continue_at n l
    (standing m more)
continued_step n m l more = elim (cases_Bool (is_continuation l.tag && eqb l.level (n + 1))) [
  | inl e ↦
      let joined : unescaped m.raw ++ flat_map adds (more ++ l ∷ []) ≡ (unescaped m.raw ++ flat_map adds more)
      ++ adds l = ap (λ (x : List ℕ). unescaped m.raw ++ x)
      (flat_map-append adds more (l ∷ []) ∙ ap (λ (x : List ℕ). flat_map adds more ++ x) (append-nil (adds l)))
      ∙ sym (append_assoc (unescaped m.raw) (flat_map adds more) (adds l)) in
      let size : length (unescaped m.raw ++ flat_map adds (more ++ l ∷ [])) ≡ length
      (unescaped m.raw ++ flat_map adds more) + length (adds l) = ap length joined ∙ length-append
      (unescaped m.raw ++ flat_map adds more) (adds l) in
      rw e (ap (λ (k : ℕ). record (standing m more) { room = max_text - k }) size
      ∙ ap (λ (k : ℕ). record (standing m more) { room = k })
      (sub_sub max_text (length (unescaped m.raw ++ flat_map adds more)) (length (adds l))))
  | inr e ↦ rw e (ap (standing m) (append-nil more))
]

at_deeper : (n : ℕ) (ls : List Parts) (l : Parts) → eqb l.level n ≡ false → ltb l.level n ≡ false
    → standing_at n (ls ++ l ∷ []) ≡ option_map (continue_at n l) (standing_at n ls)
at_deeper n [] l h k = rw h refl
at_deeper n (m ∷ ms) l h k =
    let other : l.level ≡ n → ⊥ = eqb_no l.level n h in
    let deep : ltb n l.level ≡ true = lt-ltb n l.level (omega (arith, other, ltb-false l.level n k)) in
    let all : list_all (λ j. ltb n j.level) (ms ++ l ∷ []) ≡ list_all (λ j. ltb n j.level) ms = all-push
    (λ j. ltb n j.level) ms l ∙ rw deep (and-true (list_all (λ j. ltb n j.level) ms)) in
    rw all (elim (cases_Bool (eqb m.level n && list_all (λ j. ltb n j.level) ms)) [
      | inl e ↦ rw e (ap Some (ap (standing m) (belongs_deeper n ms l (and_parts (eqb m.level n) _ e).1 deep)
          ∙ continued_step n m l (belongs n ms)))
      | inr e ↦ rw e (at_deeper n ms l h k)
    ])

pub standing-push : (ls : List Parts) (l : Parts) (n : ℕ) → standing_at n (ls ++ l ∷ []) ≡ above_after
    (λ k. standing_at k ls) l n
standing-push ls l n = elim (cases_Bool (eqb l.level n)) [
  | inl e ↦ rw e (at_own n ls l e)
  | inr e ↦ elim (cases_Bool (ltb l.level n)) [
    | inl k ↦ rw (e, k) (at_lower n ls l e k)
    | inr k ↦ rw (e, k) (at_deeper n ls l e k)
  ]
]

-- functions that agree everywhere are one
pub same_function : {A B : Type 0} (f g : A → B) → ((x : A) → f x ≡ g x) → f ≡ g
same_function f g h = λ i x. h x i

any_by-push : (test : Parts → Bool) (ls : List Parts) (l : Parts) → list_any test (ls ++ l ∷ [])
    ≡ (list_any test ls || test l)
any_by-push test [] l = or-false (test l)
any_by-push test (m ∷ ms) l =
    elim (test m) as (λ v. (v || list_any test (ms ++ l ∷ [])) ≡ ((v || list_any test ms) || test l))
    [ true ↦ refl | false ↦ any_by-push test ms l ]

pub progress-push : (ls : List Parts) (l : Parts) → progress_of (ls ++ l ∷ []) ≡ after (progress_of ls) l
progress-push ls l =
    let names : (λ (x : List ℕ). list_any (has_name x) (ls ++ l ∷ []))
    ≡ (λ (x : List ℕ). list_any (has_name x) ls || has_name x l) = same_function _ _
    (λ x. any_by-push (has_name x) ls l) in
    let open_ : (λ (n : ℕ). standing_at n (ls ++ l ∷ [])) ≡ above_after (λ k. standing_at k ls) l = same_function _ _
    (standing-push ls l) in
    rw (length-append ls (l ∷ []), last_level-push ls l, any-push ls l, head-push ls l, names, open_) refl

-- pieces that are clean
pub clean_run : (before : List Parts) (ps : List (List ℕ)) (lines : List Parts) → Clean before ps lines
    → run (progress_of before) ps ≡ Ok (progress_of lines)
unfolding run
clean_run before [] lines h = ap (λ (x : List Parts). Ok (progress_of x)) (sym h)
clean_run before (p ∷ ps) lines (s, inl h) = rw (judge_blank (progress_of before) p s h.0)
    (clean_run before ps lines h.1)
clean_run before (p ∷ ps) lines (s, inr h) =
    rw (judge_keeps (progress_of before) p h.0 s h.1.0 h.1.1.0)
    (ap (λ (q : Progress). run q ps) (sym (progress-push before h.0)) ∙ clean_run (before ++ h.0 ∷ [])
    ps lines h.1.1.1)

-- what an answer says of the pieces
abbrev pub Ran : List Parts → List (List ℕ) → Result Progress Fault → Type 0
Ran before ps (Ok q) = (lines : List Parts) × (Clean before ps lines × (q ≡ progress_of lines))
Ran before ps (Err f) = FaultIn before ps f

behind_blank : (before : List Parts) (p : List ℕ) (ps : List (List ℕ)) → length p ≤ max_line → IsBlank p
    → (r : Result Progress Fault) → Ran before ps r → Ran before (p ∷ ps) r
behind_blank before p ps s b (Ok q) h = (h.0, ((s, inl (b, h.1.0)), h.1.1))
behind_blank before p ps s b (Err f) h = record {
  front = p ∷ h.front;
  bad = h.bad;
  back = h.back;
  lines = h.lines;
  parts = ap (λ (x : List (List ℕ)). p ∷ x) h.parts;
  clean = (s, inl (b, h.clean));
  kind = h.kind;
  at = h.at;
}

behind_line : (before : List Parts) (p : List ℕ) (ps : List (List ℕ)) (l : Parts) → length p ≤ max_line → Line p l
    → first_broken (progress_of before) l ≡ None → (r : Result Progress Fault) → Ran (before ++ l ∷ []) ps r
    → Ran before (p ∷ ps) r
behind_line before p ps l s k n (Ok q) h = (h.0, ((s, inr (l, (k, (n, h.1.0)))), h.1.1))
behind_line before p ps l s k n (Err f) h = record {
  front = p ∷ h.front;
  bad = h.bad;
  back = h.back;
  lines = h.lines;
  parts = ap (λ (x : List (List ℕ)). p ∷ x) h.parts;
  clean = (s, inr (l, (k, (n, h.clean))));
  kind = h.kind;
  at = h.at;
}

ran_step : (before : List Parts) (p : List ℕ) (ps : List (List ℕ)) (j : Result (Option Parts) TreeKind)
    → Judged before p j → ((l : Parts) → Ran (before ++ l ∷ []) ps (run (progress_of (before ++ l ∷ [])) ps))
    → Ran before ps (run (progress_of before) ps) → Ran before (p ∷ ps)
    (then_run (λ q. run q ps) (advance (progress_of before) j))
ran_step before p ps (Ok None) h f g = behind_blank before p ps h.0 h.1 (run (progress_of before) ps) g
ran_step before p ps (Ok (Some l)) h f g = behind_line before p ps l h.0 h.1.0 h.1.1
    (run (after (progress_of before) l) ps)
    (subst (λ (q : Progress). Ran (before ++ l ∷ []) ps (run q ps)) (progress-push before l) (f l))
ran_step before p ps (Err k) h f g = record {
  front = [];
  bad = p;
  back = ps;
  lines = before;
  parts = refl;
  clean = refl;
  kind = h;
  at = refl;
}

pub ran : (before : List Parts) (ps : List (List ℕ)) → AllPieces ps → Ran before ps (run (progress_of before) ps)
unfolding run
ran before [] w = (before, (refl, refl))
ran before (p ∷ ps) w = ran_step before p ps (judge (progress_of before) p) (judged before p w.0)
    (λ l. ran (before ++ l ∷ []) ps w.1) (ran before ps w.1)

-- pieces after pieces
then_then : (r : Result Progress Fault) (f g : Progress → Result Progress Fault)
    → then_run g (then_run f r) ≡ then_run (λ p. then_run g (f p)) r
then_then (Ok p) f g = refl
then_then (Err e) f g = refl

then_same : (r : Result Progress Fault) (f g : Progress → Result Progress Fault) → ((p : Progress) → f p ≡ g p)
    → then_run f r ≡ then_run g r
then_same (Ok p) f g h = h p
then_same (Err e) f g h = refl

pub run-append : (p : Progress) (xs ys : List (List ℕ)) → run p (xs ++ ys) ≡ then_run (λ q. run q ys) (run p xs)
unfolding run
run-append p [] ys = refl
run-append p (x ∷ xs) ys =
    then_same (advance p (judge p x)) (λ q. run q (xs ++ ys)) (λ q. then_run (λ r. run r ys) (run q xs))
    (λ q. run-append q xs ys)
    ∙ sym (then_then (advance p (judge p x)) (λ q. run q xs) (λ q. run q ys))

then_ok : (r : Result Progress Fault) → then_run (λ q. Ok q) r ≡ r
then_ok (Ok q) = refl
then_ok (Err e) = refl

run_one : (p : Progress) (x : List ℕ) → run p (x ∷ []) ≡ advance p (judge p x)
unfolding run
run_one p x = then_ok (advance p (judge p x))

-- one piece more at the end
pub run-push : (p : Progress) (xs : List (List ℕ)) (x : List ℕ) → run p (xs ++ x ∷ []) ≡ then_run
    (λ q. advance q (judge q x)) (run p xs)
run-push p xs x = run-append p xs (x ∷ []) ∙ then_same (run p xs) (λ q. run q (x ∷ [])) (λ q. advance q (judge q x))
    (λ q. run_one q x)

run_bad : (q : Progress) (b : List ℕ) (bs : List (List ℕ)) (k : TreeKind) → judge q b ≡ Err k
    → run q (b ∷ bs) ≡ Err (fault_behind q.count k)
unfolding run
run_bad q b bs k h = rw h refl

-- the first faulty piece
pub fault_run : (before : List Parts) (ps : List (List ℕ)) (f : Fault) → FaultIn before ps f
    → run (progress_of before) ps ≡ Err f
fault_run before ps f h =
    ap (run (progress_of before)) h.parts
    ∙ run-append (progress_of before) h.front (h.bad ∷ h.back)
    ∙ ap (then_run (λ q. run q (h.bad ∷ h.back))) (clean_run before h.front h.lines h.clean)
    ∙ run_bad (progress_of h.lines) h.bad h.back f.kind (judge_faulty h.lines h.bad f.kind h.kind)
    ∙ ap (λ (n : Option ℕ). Err (record { kind = f.kind; at = n })) (sym h.at)

pub run_err : (p : Progress) (b : List ℕ) (bs : List (List ℕ)) (k : TreeKind) → judge p b ≡ Err k
    → run p (b ∷ bs) ≡ Err (fault_behind p.count k)
run_err p b bs k h = run_bad p b bs k h

pub run_nil : (p : Progress) → run p [] ≡ Ok p
unfolding run
run_nil p = refl

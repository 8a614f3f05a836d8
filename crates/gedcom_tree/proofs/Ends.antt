-- What a whole file is: the computed answer is that of the definitions, both ways.
use Rattle.std.proofs.Common.{
  ◌≡◌,
  ℕ,
  ◌<◌,
  ◌≤◌,
  Bool,
  true,
  false,
  cond,
  eqb,
  List,
  [],
  ◌∷◌,
  ◌++◌,
  length,
  refl,
  sym,
  ap,
  ◌∙◌,
  subst,
  inl,
  inr,
  ◌⊎◌,
  arith,
  Option,
  Some,
  None,
  Ok,
  Err,
  Result,
}
use Rattle.std.specs.Prelude.{find}
use Rattle.std.specs.List.{list_any}
use Rattle.std.proofs.lemmas.Bool.{cases_lt, cases_Bool}
use Rattle.gedcom_line.specs.Reading.{Parts}
use Rattle.gedcom_line.specs.declared.fault.LineKind.{LineKind}
use Rattle.gedcom_line.specs.declared.fault.LineKind.TheVariants as line
use Rattle.gedcom_rules.specs.declared.fault.TreeKind.{TreeKind}
use Rattle.gedcom_rules.specs.declared.fault.TreeKind.TheVariants.{TooLong, NoHead, NoTrailer}
use Rattle.gedcom_rules.specs.Pieces.{file_pieces, all_pieces, skip_mark}
use Rattle.gedcom_rules.specs.Rules.{Progress, progress_of, is_trailer, breaks, order, first_broken, of_line}
use Rattle.gedcom_tree.specs.Forest.{Item, Reads, forest_of}
use Rattle.gedcom_rules.specs.Faults.{
  max_line,
  max_file,
  IsFaulty,
  Clean,
  Fault,
  FaultIn,
  overflows,
  within,
  OverLimit,
  Decides,
  EndsEarly,
  FaultOf,
}
use Rattle.gedcom_tree.specs.File.{untrailed, ReadsFile}
use Rattle.gedcom_rules.specs.Judging.{start, judge, advance, then_run, run, fault_behind, open_fault, decided}
use Rattle.gedcom_tree.specs.Reading.{Nodes, no_nodes, grow, grown, reader_of, ended, finished}
use Rattle.gedcom_tree.specs.State.{Finishes}
use Rattle.gedcom_rules.proofs.Cuts.{AllPieces, pieces_whole, all_pieces-push}
use Rattle.gedcom_tree.specs.Streams.{IsOfFile}
use Rattle.gedcom_rules.proofs.Judged.{judge_long}
use Rattle.gedcom_rules.proofs.Runs.{Ran, ran, clean_run, fault_run, run-push}
use Rattle.gedcom_rules.proofs.Limits.{within_small, extra_small}
use Rattle.gedcom_rules.proofs.Decided.{some_is, decided_is, is_decided, decided_one, no_overflow, large_decided}
use Rattle.gedcom_tree.proofs.Computed.{reads_computed}
use Rattle.gedcom_tree.proofs.Traced.{traced_start}
use Rattle.gedcom_tree.proofs.Pointed.{clean_pointed, untrailed_pointed, pointed_reads}
use Rattle.gedcom_tree.proofs.Gathered.{clean_nodes, grown-append, grown_cons, grown_nil}

-- a whole file
whole_pieces : (b : List ℕ) → AllPieces (all_pieces b)
whole_pieces b = let w = pieces_whole (skip_mark b) in
    all_pieces-push (file_pieces b).ended (file_pieces b).open_ w.0 w.1

-- what the pieces that have ended leave, as progress
pub finished_progress : (b : List ℕ) → finished (reader_of b) ≡ ended
    (grow (grown no_nodes (file_pieces b).ended) (file_pieces b).open_).items
    (then_run (λ p. advance p (judge p (file_pieces b).open_)) (run start (file_pieces b).ended))
unfolding finished reader_of
finished_progress b =
    ap (λ (r : Result Progress Fault). ended (grow (grown no_nodes (file_pieces b).ended) (file_pieces b).open_).items
    (then_run (λ p. advance p (judge p (file_pieces b).open_)) r)) (traced_start (file_pieces b).ended)

pub finished_is : (b : List ℕ) → finished (reader_of b) ≡ ended (grown no_nodes (all_pieces b)).items
    (run start (all_pieces b))
finished_is b =
    let ps : List (List ℕ) = (file_pieces b).ended in
    let o : List ℕ = (file_pieces b).open_ in
    let g : grown no_nodes (ps ++ o ∷ []) ≡ grow (grown no_nodes ps) o = grown-append no_nodes ps (o ∷ [])
    ∙ grown_cons (grown no_nodes ps) o [] ∙ grown_nil (grow (grown no_nodes ps) o) in
    finished_progress b ∙ rw (g, run-push start ps o) refl

-- the nodes of clean pieces
grown_forest : (ps : List (List ℕ)) (lines : List Parts) → Clean [] ps lines → (grown no_nodes ps).items
    ≡ forest_of 1 (untrailed lines)
grown_forest ps lines h = ap (λ (g : Nodes). g.items) (clean_nodes ps lines h)

clean_reads : (ps : List (List ℕ)) (lines : List Parts) → Clean [] ps lines → Reads 1 (untrailed lines)
    (grown no_nodes ps).items
clean_reads ps lines h = subst (Reads 1 (untrailed lines)) (sym (grown_forest ps lines h))
    (pointed_reads 1 (untrailed lines) (untrailed_pointed lines (clean_pointed [] ps lines tt h)))

-- what a whole file is
abbrev pub IsRead : List ℕ → Result (List Item) Fault → Type 0
IsRead b (Ok f) = ReadsFile b f
IsRead b (Err f) = FaultOf b f

run_finishes : (b : List ℕ) → length b ≤ max_file → (r : Result Progress Fault) → Ran [] (all_pieces b) r
    → IsRead b (ended ((grown no_nodes (all_pieces b)).items) r)
run_finishes b s (Err f) h = inr (s, inl h)
run_finishes b s (Ok q) h = elim (cases_Bool (list_any is_trailer h.0)) [
  | inl e ↦
      let d : q.done ≡ true = ap (λ (p : Progress). p.done) h.1.1 ∙ e in
      rw d (record { size = s; lines = h.0; clean = h.1.0; ended = e; forest = clean_reads (all_pieces b) h.0 h.1.0 })
  | inr e ↦
      let d : q.done ≡ false = ap (λ (p : Progress). p.done) h.1.1 ∙ e in
      let c : q.count ≡ length h.0 = ap (λ (p : Progress). p.count) h.1.1 in
      rw (d, c) (inr (s, inr (record { lines = h.0; clean = h.1.0; unended = e; kind = refl; at = refl })))
]

pub is_read : (b : List ℕ) → length b ≤ max_file → IsRead b (finished (reader_of b))
is_read b s = rw (finished_is b) (run_finishes b s (run start (all_pieces b)) (ran [] (all_pieces b) (whole_pieces b)))

read_finishes : (b : List ℕ) (r : Result (List Item) Fault) → IsRead b r → Finishes b r
read_finishes b (Ok f) h = h
read_finishes b (Err f) h = inr h

pub finishes : (b : List ℕ) → length b ≤ max_file → Finishes b (finished (reader_of b))
finishes b s = read_finishes b (finished (reader_of b)) (is_read b s)

pub reads_finished : (b : List ℕ) (f : List Item) → ReadsFile b f → finished (reader_of b) ≡ Ok f
reads_finished b f h =
    let items : (grown no_nodes (all_pieces b)).items ≡ f = grown_forest (all_pieces b) h.lines h.clean
    ∙ reads_computed 1 (untrailed h.lines) f h.forest in
    finished_is b ∙ ap (ended ((grown no_nodes (all_pieces b)).items)) (clean_run [] (all_pieces b) h.lines h.clean)
    ∙ rw (h.ended, items) refl

fault_finished : (b : List ℕ) (e : Fault) → FaultIn [] (all_pieces b) e ⊎ EndsEarly b e → finished (reader_of b) ≡ Err e
fault_finished b e (inl h) = finished_is b ∙ ap (ended ((grown no_nodes (all_pieces b)).items))
    (fault_run [] (all_pieces b) e h)
fault_finished b e (inr h) = finished_is b ∙ ap (ended ((grown no_nodes (all_pieces b)).items))
    (clean_run [] (all_pieces b) h.lines h.clean) ∙ rw (h.unended, ← h.kind, ← h.at) refl

-- no file reads as two forests, none reads as one and has a fault, and none has two
pub file_same : (b : List ℕ) (f g : List Item) → ReadsFile b f → ReadsFile b g → f ≡ g
file_same b f g x y =
    let p : finished (reader_of b) ≡ Ok f = reads_finished b f x in
    let q : finished (reader_of b) ≡ Ok g = reads_finished b g y in
    cc

pub file_apart : (b : List ℕ) (f : List Item) (e : Fault) → ReadsFile b f → FaultOf b e → ⊥
file_apart b f e x (inl y) = let k : length b ≤ max_file = x.size in omega (arith, y.0)
file_apart b f e x (inr y) =
    let p : finished (reader_of b) ≡ Ok f = reads_finished b f x in
    let q : finished (reader_of b) ≡ Err e = fault_finished b e y.1 in
    absurd cc

pub fault_one : (b : List ℕ) (d e : Fault) → FaultOf b d → FaultOf b e → d ≡ e
fault_one b d e (inl x) (inl y) = decided_one b d e x.1 y.1
fault_one b d e (inl x) (inr y) = absurd (omega (arith, x.0, y.0))
fault_one b d e (inr x) (inl y) = absurd (omega (arith, x.0, y.0))
fault_one b d e (inr x) (inr y) =
    let p : finished (reader_of b) ≡ Err d = fault_finished b d x.1 in
    let q : finished (reader_of b) ≡ Err e = fault_finished b e y.1 in
    cc

-- a fault that bytes decide which are not too many is the file's
seen_err : (b : List ℕ) (f : Fault) → run start (file_pieces b).ended ≡ Err f → finished (reader_of b) ≡ Err f
unfolding finished reader_of
seen_err b f e = finished_progress b ∙ rw e refl

seen_long : (b : List ℕ) (q : Progress) → run start (file_pieces b).ended ≡ Ok q
    → max_line < length (file_pieces b).open_ → finished (reader_of b) ≡ Err (fault_behind q.count TooLong)
unfolding finished reader_of
seen_long b q e l = finished_progress b ∙ rw (e, judge_long q (file_pieces b).open_ l) refl

small_run : (b : List ℕ) (f : Fault) → length b ≤ max_file → (r : Result Progress Fault)
    → run start (file_pieces b).ended ≡ r → open_fault (file_pieces b).open_ None r ≡ Some f
    → finished (reader_of b) ≡ Err f
small_run b f s (Err g) e h = seen_err b g e ∙ ap (λ (x : Fault). Err x) (some_is g f h)
small_run b f s (Ok q) e h = elim (cases_Bool (overflows (file_pieces b).open_ None)) [
  | inl o ↦
      let k : fault_behind q.count TooLong ≡ f = some_is (fault_behind q.count TooLong) f (rw o at h) in
      seen_long b q e (no_overflow (file_pieces b).open_ o) ∙ ap (λ (x : Fault). Err x) k
  | inr o ↦ absurd (let bad : None ≡ Some f = rw o at h in cc)
]

small_decided : (b : List ℕ) (f : Fault) → length b ≤ max_file → decided b ≡ Some f → finished (reader_of b) ≡ Err f
unfolding decided
small_decided b f s e =
    small_run b f s (run start (file_pieces b).ended) refl
    (ap (λ (x : List ℕ). open_fault (file_pieces x).open_ None (run start (file_pieces x).ended))
    (sym (within_small b s)) ∙ ap (λ (o : Option ℕ). open_fault (file_pieces (within b)).open_ o
    (run start (file_pieces (within b)).ended)) (sym (extra_small b s)) ∙ e)

pub decides_fault : (b : List ℕ) (f : Fault) → Decides b f → FaultOf b f
decides_fault b f h = elim (cases_lt max_file (length b)) [
  | inl lt ↦ inl (lt, h)
  | inr le ↦ subst (IsRead b) (small_decided b f le (is_decided b f h)) (is_read b le)
]

-- a refusal of judging speaks of the file
abbrev AllOfFile : List TreeKind → Type 0
AllOfFile [] = Unit {0}
AllOfFile (k ∷ ks) = IsOfFile k × AllOfFile ks

kind_is : (x y : TreeKind) → Some x ≡ Some y → x ≡ y
kind_is x y e = cc

found_in : (test : TreeKind → Bool) (ks : List TreeKind) → AllOfFile ks → (k : TreeKind)
    → find test ks ≡ Some k → IsOfFile k
found_in test [] a k h = absurd cc
found_in test (j ∷ js) a k h = elim (cases_Bool (test j)) [
  | inl e ↦ subst IsOfFile (kind_is j k (rw e at h)) a.0
  | inr e ↦ found_in test js a.1 k (rw e at h)
]

all_of_file : AllOfFile order
all_of_file = (tt, (tt, (tt, (tt, (tt, (tt, (tt, (tt, (tt, tt)))))))))

order_of_file : (q : Progress) (l : Parts) (k : TreeKind) → first_broken q l ≡ Some k → IsOfFile k
order_of_file q l k h = found_in (breaks q l) order all_of_file k h

line_of_file : (j : LineKind) → IsOfFile (of_line j)
line_of_file line.NotUtf8 = tt
line_of_file line.BadLevel = tt
line_of_file line.BadXref = tt
line_of_file line.BadTag = tt
line_of_file line.Nul = tt

faulty_of_file : (before : List Parts) (p : List ℕ) (k : TreeKind) → IsFaulty before p k → IsOfFile k
faulty_of_file before p k (inl h) = subst IsOfFile (sym h.0) tt
faulty_of_file before p k (inr (s, inl h)) = subst IsOfFile (sym h.1.1) (line_of_file h.0)
faulty_of_file before p k (inr (s, inr h)) = order_of_file (progress_of before) h.0 k h.1.1

over_of_file : (b : List ℕ) (f : Fault) → OverLimit b f → IsOfFile f.kind
over_of_file b f h = elim h.kind [ inl k ↦ subst IsOfFile (sym k.0) tt | inr k ↦ subst IsOfFile (sym k.0) tt ]

pub decides_of_file : (b : List ℕ) (f : Fault) → Decides b f → IsOfFile f.kind
decides_of_file b f (inl h) = faulty_of_file h.lines h.bad f.kind h.kind
decides_of_file b f (inr h) = over_of_file b f h

early_of_file : (n : Bool) → IsOfFile (cond n NoHead NoTrailer)
early_of_file true = tt
early_of_file false = tt

pub fault_of_file : (b : List ℕ) (f : Fault) → FaultOf b f → IsOfFile f.kind
fault_of_file b f (inl h) = decides_of_file b f h.1
fault_of_file b f (inr (s, inl h)) = faulty_of_file h.lines h.bad f.kind h.kind
fault_of_file b f (inr (s, inr h)) = subst IsOfFile (sym h.kind) (early_of_file (eqb (length h.lines) 0))

-- each file reads as a forest or has a fault
read_either : (b : List ℕ) (r : Result (List Item) Fault) → IsRead b r → ((f : List Item) × ReadsFile b f)
    ⊎ ((e : Fault) × FaultOf b e)
read_either b (Ok f) h = inl (f, h)
read_either b (Err e) h = inr (e, h)

pub file_either : (b : List ℕ) → ((f : List Item) × ReadsFile b f) ⊎ ((e : Fault) × FaultOf b e)
file_either b = elim (cases_lt max_file (length b)) [
  | inl lt ↦ let d = large_decided b lt in inr (d.0, inl (lt, decided_is b d.0 d.1))
  | inr le ↦ read_either b (finished (reader_of b)) (is_read b le)
]

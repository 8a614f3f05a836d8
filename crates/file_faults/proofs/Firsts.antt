-- What is listed first is the one fault of a file, and nothing is listed of a file without one.
use Rattle.std.proofs.Common.{
  ◌≡◌,
  ℕ,
  ◌<◌,
  ◌≤◌,
  ◌⊎◌,
  true,
  List,
  [],
  ◌∷◌,
  ◌++◌,
  length,
  get_or,
  refl,
  sym,
  ap,
  ◌∙◌,
  subst,
  inl,
  inr,
  Option,
  Some,
  None,
  Ok,
  Err,
  Result,
}
use Rattle.std.proofs.lemmas.Bool.{cases_Bool}
use Rattle.std.specs.List.{list_any}
use Rattle.gedcom_line.specs.Reading.{Parts}
use Rattle.gedcom_rules.specs.declared.fault.TreeKind.{TreeKind}
use Rattle.gedcom_rules.specs.Faults.{max_file, Clean, Fault, FaultIn, EndsEarly, FaultOf, overflows, within, extra}
use Rattle.gedcom_rules.specs.Judging.{
  after,
  start,
  judge,
  advance,
  then_run,
  run,
  fault_behind,
  open_fault,
  decided,
}
use Rattle.gedcom_rules.specs.Pieces.{file_pieces, all_pieces}
use Rattle.gedcom_rules.specs.Rules.{Progress, progress_of, is_trailer}
use Rattle.gedcom_rules.proofs.Decided.{is_decided}
use Rattle.gedcom_rules.proofs.Limits.{within_small, extra_small, extra_large}
use Rattle.gedcom_rules.proofs.Runs.{clean_run, fault_run}
use Rattle.file_faults.specs.Faults.{Faulty, noted, faults_in, faults, first_of, at_end, cut_off, last_of}
use Rattle.file_faults.specs.Reading.{Course, at_start, fault_of, left_by}
use Rattle.file_faults.proofs.Stepped.{clean_course, Step, stepped}

-- a list of faulty lines, where judging the pieces one after another answers this
abbrev pub ListsAs : (Course → List Faulty) → List Faulty → Result Progress Fault → Type 0
ListsAs rest fs (Ok q) = fs ≡ rest (clean_course q)
ListsAs rest fs (Err f) = first_of fs ≡ Some f

-- a piece that is not faulty
pub passed_by : (c d : Course) (p : List ℕ) (ps : List (List ℕ)) (rest : Course → List Faulty) → fault_of c p ≡ None
    → left_by c p ≡ d → faults_in c (p ∷ ps) rest ≡ faults_in d ps rest
unfolding faults_in
passed_by c d p ps rest h k = rw (h, k) refl

first_noted : (c : Course) (p : List ℕ) (ps : List (List ℕ)) (rest : Course → List Faulty) (k : TreeKind)
    → fault_of c p ≡ Some k → first_of (faults_in c (p ∷ ps) rest) ≡ Some (fault_behind c.number k)
unfolding faults_in
first_noted c p ps rest k h = rw h refl

lists_step : (q : Progress) (p : List ℕ) (ps : List (List ℕ)) (rest : Course → List Faulty)
    (j : Result (Option Parts) TreeKind) → Step q p j
    → ((r : Progress) → ListsAs rest (faults_in (clean_course r) ps rest) (run r ps))
    → ListsAs rest (faults_in (clean_course q) (p ∷ ps) rest) (then_run (λ r. run r ps) (advance q j))
lists_step q p ps rest (Ok None) h f = subst (λ (fs : List Faulty). ListsAs rest fs (run q ps))
    (sym (passed_by (clean_course q) (clean_course q) p ps rest h.0 h.1)) (f q)
lists_step q p ps rest (Ok (Some l)) h f = subst (λ (fs : List Faulty). ListsAs rest fs (run (after q l) ps))
    (sym (passed_by (clean_course q) (clean_course (after q l)) p ps rest h.0 h.1)) (f (after q l))
lists_step q p ps rest (Err k) h f = first_noted (clean_course q) p ps rest k h

pub lists_as : (q : Progress) (ps : List (List ℕ)) (rest : Course → List Faulty)
    → ListsAs rest (faults_in (clean_course q) ps rest) (run q ps)
unfolding run faults_in
lists_as q [] rest = refl
lists_as q (p ∷ ps) rest = lists_step q p ps rest (judge q p) (stepped q p) (λ r. lists_as r ps rest)

lists_ok : (q r : Progress) (ps : List (List ℕ)) (rest : Course → List Faulty) → run q ps ≡ Ok r
    → faults_in (clean_course q) ps rest ≡ rest (clean_course r)
lists_ok q r ps rest e = subst (ListsAs rest (faults_in (clean_course q) ps rest)) e (lists_as q ps rest)

lists_err : (q : Progress) (f : Fault) (ps : List (List ℕ)) (rest : Course → List Faulty) → run q ps ≡ Err f
    → first_of (faults_in (clean_course q) ps rest) ≡ Some f
lists_err q f ps rest e = subst (ListsAs rest (faults_in (clean_course q) ps rest)) e (lists_as q ps rest)

-- pieces after pieces
pub faults-append : (c : Course) (xs ys : List (List ℕ)) (rest : Course → List Faulty)
    → faults_in c (xs ++ ys) rest ≡ faults_in c xs (λ d. faults_in d ys rest)
unfolding faults_in
faults-append c [] ys rest = refl
faults-append c (x ∷ xs) ys rest = ap (noted c x (fault_of c x)) (faults-append (left_by c x) xs ys rest)

-- a file that is not too large
small_faults : (b : List ℕ) → length b ≤ max_file → faults b ≡ faults_in at_start (all_pieces b) at_end
unfolding faults
small_faults b s =
    rw (within_small b s, extra_small b s)
    (sym (faults-append at_start (file_pieces b).ended ((file_pieces b).open_ ∷ []) at_end))

small_first : (b : List ℕ) (f : Fault) → length b ≤ max_file → FaultIn [] (all_pieces b) f ⊎ EndsEarly b f
    → first_of (faults b) ≡ Some f
small_first b f s (inl h) = ap first_of (small_faults b s) ∙ lists_err start f (all_pieces b) at_end
    (fault_run [] (all_pieces b) f h)
small_first b f s (inr h) =
    ap first_of (small_faults b s ∙ lists_ok start (progress_of h.lines) (all_pieces b) at_end
    (clean_run [] (all_pieces b) h.lines h.clean))
    ∙ rw (h.unended, ← h.kind, ← h.at) refl

-- a file that is
cut_first : (q : Progress) (open_ : List ℕ) (x : ℕ) (f : Fault) → open_fault open_ (Some x) (Ok q) ≡ Some f
    → first_of (cut_off open_ x (clean_course q)) ≡ Some f
cut_first q open_ x f e = elim (cases_Bool (overflows open_ (Some x))) [
  | inl o ↦ rw o (rw o at e)
  | inr o ↦ rw o (rw o at e)
]

large_first : (b : List ℕ) (f : Fault) (x : ℕ) → Some x ≡ extra b → (r : Result Progress Fault)
    → run start (file_pieces (within b)).ended ≡ r → open_fault (file_pieces (within b)).open_ (extra b) r ≡ Some f
    → first_of (faults b) ≡ Some f
unfolding faults
large_first b f x n (Err g) e h = lists_err start g (file_pieces (within b)).ended _ e ∙ h
large_first b f x n (Ok q) e h =
    ap first_of (lists_ok start q (file_pieces (within b)).ended (last_of (file_pieces (within b)).open_ (extra b)) e)
    ∙ rw (← n) (cut_first q (file_pieces (within b)).open_ x f (rw (← n) at h))

decided_first : (b : List ℕ) (f : Fault) → max_file < length b → decided b ≡ Some f → first_of (faults b) ≡ Some f
unfolding decided
decided_first b f lt h = large_first b f (get_or b max_file 0) (extra_large b lt)
    (run start (file_pieces (within b)).ended) refl h

pub first_is : (b : List ℕ) (f : Fault) → FaultOf b f → first_of (faults b) ≡ Some f
first_is b f (inl h) = decided_first b f h.0 (is_decided b f h.1)
first_is b f (inr h) = small_first b f h.0 h.1

pub none_of_clean : (b : List ℕ) (lines : List Parts) → length b ≤ max_file → Clean [] (all_pieces b) lines
    → list_any is_trailer lines ≡ true → faults b ≡ []
none_of_clean b lines s c e =
    small_faults b s
    ∙ lists_ok start (progress_of lines) (all_pieces b) at_end (clean_run [] (all_pieces b) lines c)
    ∙ rw e refl

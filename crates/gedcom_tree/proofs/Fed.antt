-- A reader that is fed more bytes: what they leave depends on only what the bytes before them left.
use Rattle.std.proofs.Common.{
  ◌≡◌,
  ℕ,
  ◌+◌,
  ◌-◌,
  ◌<◌,
  ◌≤◌,
  ◌^◌,
  eqb,
  List,
  [],
  ◌++◌,
  length,
  take,
  length-append,
  refl,
  sym,
  ap,
  ◌∙◌,
  subst,
  inl,
  inr,
  ◌⊎◌,
  arith,
  Option,
  Some,
  None,
  Ok,
  Err,
  Result,
}
use Rattle.std.specs.Option.{option_map}
use Rattle.std.specs.Prelude.{slice_get}
use Rattle.std.proofs.lemmas.List.{take_all}
use Rattle.gedcom_line.specs.Line.{IsPiece}
use Rattle.gedcom_rules.specs.declared.fault.TreeFault.{TreeFault}
use Rattle.gedcom_rules.specs.declared.fault.TreeKind.TheVariants.{OutOfMemory}
use Rattle.gedcom_rules.specs.Pieces.{pieces, file_pieces, skip_mark, from_start}
use Rattle.gedcom_rules.specs.Rules.{Progress}
use Rattle.gedcom_tree.specs.Forest.{Item}
use Rattle.gedcom_rules.specs.Faults.{IsLineless, Fault, max_file, within, extra, FaultOf}
use Rattle.gedcom_tree.specs.Reading.{
  Trace,
  Nodes,
  progress_from,
  then_trace,
  trace_run,
  traced,
  no_trace,
  no_nodes,
  grown,
  Reader,
  reader_of,
  finished,
}
use Rattle.gedcom_rules.specs.Judging.{run, open_fault, decided}
use Rattle.gedcom_tree.specs.State.{Finishes}
use Rattle.gedcom_rules.specs.Views.{progress, fault_view}
use Rattle.gedcom_tree.specs.declared.ended.Lines.{Lines}
use Rattle.gedcom_tree.specs.Lines.{IsSound, Leads, Blames, IsReading, reader_view, trace_view, nodes_so_far}
use Rattle.gedcom_tree.proofs.Traced.{traced_start, trace_run-append}
use Rattle.gedcom_rules.proofs.Cuts.{pieces_whole}
use Rattle.gedcom_rules.proofs.Limits.{within-append, extra-append, within_small, extra_small}
use Rattle.gedcom_rules.proofs.Marks.{resumed, file_pieces-append}
use Rattle.gedcom_rules.proofs.Resumed.{resumed_is}
use Rattle.gedcom_tree.proofs.Gathered.{grown-append}
use Rattle.gedcom_tree.specs.Text.{IsForest}
use Rattle.gedcom_tree.proofs.Shaped.{reads_forest}
use Rattle.gedcom_rules.proofs.Decided.{decided_small}
use Rattle.gedcom_tree.proofs.Ends.{finishes}
use Rattle.gedcom_tree.proofs.Few.{file_few}

-- what more bytes make of what bytes left
abbrev pub further : Reader → List ℕ → Reader
further r c = let o = resumed r.total r.open_ c in record {
  seen = then_trace (λ t. trace_run t (pieces o).ended) r.seen;
  nodes = grown r.nodes (pieces o).ended;
  open_ = (pieces o).open_;
  total = r.total + length c;
  answer = None;
}

pub reader_of-append : (b c : List ℕ) → reader_of (b ++ c) ≡ further (reader_of b) c
unfolding reader_of
reader_of-append b c =
    let o : List ℕ = resumed (length b) (file_pieces b).open_ c in
    rw (
      file_pieces-append b c,
      trace_run-append no_trace (file_pieces b).ended (pieces o).ended,
      grown-append no_nodes (file_pieces b).ended (pieces o).ended,
      length-append b c,
    ) refl

total_of : (b : List ℕ) → (reader_of b).total ≡ length b
unfolding reader_of
total_of b = refl

answer_of : (b : List ℕ) → (reader_of b).answer ≡ None
unfolding reader_of
answer_of b = refl

pub reading_small : (s : Lines) (rest : List ℕ) (total : ℕ) → IsReading s rest total → total ≤ max_file
reading_small s rest total r = omega (
  arith,
  ap (λ (x : Reader). x.total) r.holds ∙ total_of r.bytes,
  decided_small r.bytes r.undecided,
)

-- and to decide the same
abbrev decided_by : Reader → Option ℕ → Option Fault
decided_by r next = open_fault r.open_ next (traced r.seen)

decided_of : (b : List ℕ) → decided b ≡ decided_by (reader_of (within b)) (extra b)
unfolding decided reader_of
decided_of b = ap (open_fault (file_pieces (within b)).open_ (extra b))
    (sym (traced_start (file_pieces (within b)).ended))

decided_behind : (a c : List ℕ) → length a ≤ max_file → decided (a ++ c) ≡ decided_by
    (reader_of (a ++ take (max_file - length a) c)) (slice_get c (max_file - length a))
decided_behind a c s = decided_of (a ++ c) ∙ rw (within-append a c s, extra-append a c s) refl

-- what contracts see of a reader's fields after more bytes

-- the line that has not ended with more bytes
abbrev pub going : List ℕ → ℕ → List ℕ → List ℕ
going rest total front = from_start (eqb total (length rest)) (rest ++ front)

further_is : (r : Reader) (front o : List ℕ) → resumed r.total r.open_ front ≡ o
    → further r front ≡ record {
      seen = then_trace (λ t. trace_run t (pieces o).ended) r.seen;
      nodes = grown r.nodes (pieces o).ended;
      open_ = (pieces o).open_;
      total = r.total + length front;
      answer = None;
    }
further_is r front o e = rw e refl

reader_same : (s t : Result Trace Fault) (g h : Nodes) (o p : List ℕ) (n : ℕ) → s ≡ t → g ≡ h → o ≡ p
    → ◌≡◌ {A = Reader} (record { seen = s; nodes = g; open_ = o; total = n; answer = None })
    (record { seen = t; nodes = h; open_ = p; total = n; answer = None })
reader_same s t g h o p n a b c = rw (a, b, c) refl

taken : (old new : Lines) (rest left front : List ℕ) (total : ℕ) → Leads old new (pieces (going rest total front)).ended
    → left ≡ (pieces (going rest total front)).open_ → reader_view new left (total + length front) None
    ≡ further (reader_view old rest total None) front
taken old new rest left front total l o =
    reader_same (Ok (trace_view new)) (trace_run (trace_view old) (pieces (going rest total front)).ended)
    (nodes_so_far new) (grown (nodes_so_far old) (pieces (going rest total front)).ended) left
    (pieces (going rest total front)).open_ (total + length front) (sym l.trace) l.nodes o
    ∙ sym (further_is (reader_view old rest total None) front (going rest total front) (resumed_is total rest front))

total_is : (s : Lines) (rest b : List ℕ) (total : ℕ) → reader_view s rest total None ≡ reader_of b → total ≡ length b
total_is s rest b total h = ap (λ (r : Reader). r.total) h ∙ total_of b

decided_fed : (s : Lines) (rest b piece : List ℕ) (total : ℕ) → reader_view s rest total None ≡ reader_of b
    → total ≤ max_file → decided (b ++ piece) ≡ decided_by
    (further (reader_view s rest total None) (take (max_file - total) piece)) (slice_get piece (max_file - total))
decided_fed s rest b piece total h m =
    let n : total ≡ length b = total_is s rest b total h in
    decided_behind b piece (omega (arith, n, m))
    ∙ ap (λ (k : ℕ). decided_by (reader_of (b ++ take (max_file - k) piece)) (slice_get piece (max_file - k))) (sym n)
    ∙ ap (λ (r : Reader). decided_by r (slice_get piece (max_file - total)))
    (reader_of-append b (take (max_file - total) piece)
    ∙ ap (λ (r : Reader). further r (take (max_file - total) piece)) (sym h))

-- what is blamed is what is decided
pub fed_blames : (s : Lines) (rest b piece front : List ℕ) (total : ℕ) (f : Fault)
    → reader_view s rest total None ≡ reader_of b → total ≤ max_file → front ≡ take (max_file - total) piece
    → ((next : Option ℕ) → open_fault (pieces (going rest total front)).open_ next
    (traced (trace_run (trace_view s) (pieces (going rest total front)).ended)) ≡ Some f)
    → decided (b ++ piece) ≡ Some f
fed_blames s rest b piece front total f h m e k =
    decided_fed s rest b piece total h m
    ∙ ap (λ (c : List ℕ). decided_by (further (reader_view s rest total None) c) (slice_get piece (max_file - total)))
    (sym e)
    ∙ ap (λ (r : Reader). decided_by r (slice_get piece (max_file - total)))
    (further_is (reader_view s rest total None) front (going rest total front) (resumed_is total rest front))
    ∙ k (slice_get piece (max_file - total))

pub fed_decided : (old new : Lines) (rest left b piece front : List ℕ) (total : ℕ) (next : Option ℕ)
    → reader_view old rest total None ≡ reader_of b → total ≤ max_file → front ≡ take (max_file - total) piece
    → next ≡ slice_get piece (max_file - total) → Leads old new (pieces (going rest total front)).ended
    → left ≡ (pieces (going rest total front)).open_ → decided (b ++ piece) ≡ open_fault left next
    (Ok (progress new.seen))
fed_decided old new rest left b piece front total next h m e x l o =
    decided_fed old rest b piece total h m
    ∙ ap (λ (c : List ℕ). decided_by (further (reader_view old rest total None) c) (slice_get piece (max_file - total)))
    (sym e)
    ∙ ap (λ (r : Reader). decided_by r (slice_get piece (max_file - total)))
    (sym (taken old new rest left front total l o))
    ∙ ap (λ (y : Option ℕ). open_fault left y (Ok (progress_from (trace_view new)))) (sym x)
    ∙ ap (λ (p : Progress). open_fault left next (Ok p)) l.sound.traced

-- nothing is decided, so all of the piece was taken
front_all : (s : Lines) (rest b piece front : List ℕ) (total : ℕ) → reader_view s rest total None ≡ reader_of b
    → front ≡ take (max_file - total) piece → decided (b ++ piece) ≡ None → front ≡ piece
front_all s rest b piece front total h e d =
    let n : total ≡ length b = total_is s rest b total h in
    e ∙ take_all (max_file - total) piece (omega (arith, n, decided_small (b ++ piece) d, length-append b piece))

pub fed_holds : (old new : Lines) (rest left b piece front : List ℕ) (total : ℕ)
    → reader_view old rest total None ≡ reader_of b → front ≡ take (max_file - total) piece
    → Leads old new (pieces (going rest total front)).ended → left ≡ (pieces (going rest total front)).open_
    → decided (b ++ piece) ≡ None → reader_view new left (total + length front) None ≡ reader_of (b ++ piece)
fed_holds old new rest left b piece front total h e l o d =
    taken old new rest left front total l o
    ∙ ap (λ (r : Reader). further r front) h
    ∙ ap (further (reader_of b)) (front_all old rest b piece front total h e d)
    ∙ sym (reader_of-append b piece)

pub fed_reading : (old new : Lines) (rest left piece front : List ℕ) (total : ℕ) (next : Option ℕ)
    → IsReading old rest total → front ≡ take (max_file - total) piece → next ≡ slice_get piece (max_file - total)
    → Leads old new (pieces (going rest total front)).ended → left ≡ (pieces (going rest total front)).open_
    → open_fault left next (Ok (progress new.seen)) ≡ None → (progress new.seen).count ≤ total + length front
    → IsReading new left (total + length front)
fed_reading old new rest left piece front total next r e x l o d c =
    let none : decided (r.bytes ++ piece) ≡ None = fed_decided old new rest left r.bytes piece front total next r.holds
    (reading_small old rest total r) e x l o ∙ d in
    record {
      bytes = r.bytes ++ piece;
      holds = fed_holds old new rest left r.bytes piece front total r.holds e l o none;
      undecided = none;
      sound = l.sound;
      count = c;
    }

open_of : (b : List ℕ) → (reader_of b).open_ ≡ (file_pieces b).open_
unfolding reader_of
open_of b = refl

-- it is a piece
pub reading_piece : (s : Lines) (rest : List ℕ) (total : ℕ) → IsReading s rest total → IsPiece rest
reading_piece s rest total r = subst IsPiece (sym (ap (λ (x : Reader). x.open_) r.holds ∙ open_of r.bytes))
    (pieces_whole (skip_mark r.bytes)).1

-- a reader that has answered a fault holds no bytes
pub failed_holds : (s : Lines) (rest b : List ℕ) (total : ℕ) (o : Option TreeFault) (f : TreeFault) → o ≡ Some f
    → reader_view s rest total (option_map fault_view o) ≡ reader_of b → ⊥
failed_holds s rest b total o f e h =
    let k : option_map fault_view o ≡ None = ap (λ (r : Reader). r.answer) h ∙ answer_of b in
    let bad : Some (fault_view f) ≡ None = sym (ap (option_map fault_view) e) ∙ k in
    absurd cc

pub plain_holds : (s : Lines) (rest b : List ℕ) (total : ℕ) (o : Option TreeFault) → o ≡ None
    → reader_view s rest total (option_map fault_view o) ≡ reader_of b → reader_view s rest total None ≡ reader_of b
plain_holds s rest b total o e h = ap (λ (x : Option TreeFault). reader_view s rest total (option_map fault_view x))
    (sym e) ∙ h

-- what `finish` owes
pub held_finishes : (s : Lines) (rest b : List ℕ) (total : ℕ) → total ≤ max_file
    → reader_view s rest total None ≡ reader_of b → Finishes b (finished (reader_view s rest total None))
held_finishes s rest b total m h = subst (λ (r : Reader). Finishes b (finished r)) (sym h)
    (finishes b (omega (arith, total_is s rest b total h, m)))

pub read_finishes : (s : Lines) (rest b : List ℕ) (total : ℕ) (r : Result (List Item) Fault) → total ≤ max_file
    → reader_view s rest total None ≡ reader_of b → finished (reader_view s rest total None) ≡ r → Finishes b r
read_finishes s rest b total r m h e = subst (Finishes b) e (held_finishes s rest b total m h)

read_or : (s : Lines) (rest b : List ℕ) (total : ℕ) (f : Fault) → total ≤ max_file
    → reader_view s rest total None ≡ reader_of b → finished (reader_view s rest total None) ≡ Err f
    → IsLineless OutOfMemory f ⊎ FaultOf b f
read_or s rest b total f m h e = read_finishes s rest b total (Err f) m h e

pub read_fault : (s : Lines) (rest b : List ℕ) (total : ℕ) (f : Fault) → total ≤ max_file
    → reader_view s rest total None ≡ reader_of b → IsLineless OutOfMemory f
    ⊎ (finished (reader_view s rest total None) ≡ Err f) → IsLineless OutOfMemory f ⊎ FaultOf b f
read_fault s rest b total f m h (inl k) = inl k
read_fault s rest b total f m h (inr k) = read_or s rest b total f m h k

pub read_forest : (s : Lines) (rest : List ℕ) (total : ℕ) (f : List Item) → IsReading s rest total
    → finished (reader_view s rest total None) ≡ Ok f → IsForest f
read_forest s rest total f r e = reads_forest r.bytes f
    (read_finishes s rest r.bytes total (Ok f) (reading_small s rest total r) r.holds e)

pub read_few : (s : Lines) (rest : List ℕ) (total : ℕ) (f : List Item) → IsReading s rest total
    → finished (reader_view s rest total None) ≡ Ok f → length f < 2 ^ 32
read_few s rest total f r e = file_few r.bytes f
    (read_finishes s rest r.bytes total (Ok f) (reading_small s rest total r) r.holds e)

pub plain_view : (s : Lines) (rest : List ℕ) (total : ℕ) (o : Option TreeFault) → o ≡ None
    → reader_view s rest total (option_map fault_view o) ≡ reader_view s rest total None
plain_view s rest total o e = ap (λ (x : Option TreeFault). reader_view s rest total (option_map fault_view x)) e

pub same_rest : (s : Lines) (rest line : List ℕ) (total : ℕ) (r : Result (List Item) Fault) → line ≡ rest
    → finished (reader_view s line total None) ≡ r → finished (reader_view s rest total None) ≡ r
same_rest s rest line total r e h = ap (λ (x : List ℕ). finished (reader_view s x total None)) (sym e) ∙ h

-- a reader of nothing yet
nothing_decided : decided [] ≡ None
unfolding decided run pieces
nothing_decided = rw (within_small [] (omega arith), extra_small [] (omega arith)) refl

pub reading_nothing : (s : Lines) (rest : List ℕ) → reader_view s [] 0 None ≡ reader_of [] → IsSound s → rest ≡ []
    → (progress s.seen).count ≡ 0 → IsReading s rest 0
reading_nothing s rest h i e c = record {
  bytes = [];
  holds = ap (λ (r : List ℕ). reader_view s r 0 None) e ∙ h;
  undecided = nothing_decided;
  sound = i;
  count = omega (arith, c);
}

-- where the length of the open line is known by another name
pub going_led : (old new : Lines) (rest front : List ℕ) (total n : ℕ) → n ≡ length rest
    → Leads old new (pieces (from_start (eqb total n) (rest ++ front))).ended
    → Leads old new (pieces (going rest total front)).ended
going_led old new rest front total n e =
    subst (λ (k : ℕ). Leads old new (pieces (from_start (eqb total k) (rest ++ front))).ended) e

pub going_open : (left rest front : List ℕ) (total n : ℕ) → n ≡ length rest
    → left ≡ (pieces (from_start (eqb total n) (rest ++ front))).open_ → left ≡ (pieces (going rest total front)).open_
going_open left rest front total n e =
    subst (λ (k : ℕ). left ≡ (pieces (from_start (eqb total k) (rest ++ front))).open_) e

pub going_blames : (s : Lines) (rest front : List ℕ) (total n : ℕ) (f : Fault) → n ≡ length rest
    → Blames s (pieces (from_start (eqb total n) (rest ++ front))).ended
    (pieces (from_start (eqb total n) (rest ++ front))).open_ f → Blames s (pieces (going rest total front)).ended
    (pieces (going rest total front)).open_ f
going_blames s rest front total n f e =
    subst (λ (k : ℕ). Blames s (pieces (from_start (eqb total k) (rest ++ front))).ended
    (pieces (from_start (eqb total k) (rest ++ front))).open_ f) e

pub same_open : (left line : List ℕ) (next : Option ℕ) (p : Progress) (o : Option Fault) → line ≡ left
    → open_fault line next (Ok p) ≡ o → open_fault left next (Ok p) ≡ o
same_open left line next p o e h = ap (λ (x : List ℕ). open_fault x next (Ok p)) (sym e) ∙ h

-- What lines that have ended leave to a reader, as the code keeps it.
use Rattle.std.specs.Prelude.{
  ◌≡◌,
  ◌⊎◌,
  ◌≤◌,
  ℕ,
  false,
  List,
  [],
  ◌∷◌,
  ◌++◌,
  length,
  Option,
  Some,
  None,
  Result,
  Ok,
  Err,
  option_map,
  string_bytes,
}
use Rattle.gedcom_line.specs.Reading.{Parts}
use Rattle.gedcom_rules.specs.declared.fault.TreeKind.{TreeKind}
use Rattle.gedcom_rules.specs.declared.fault.TreeKind.TheVariants.{OutOfMemory}
use Rattle.gedcom_rules.specs.Rules.{Progress}
use Rattle.gedcom_rules.specs.Depth.{depth}
use Rattle.gedcom_rules.specs.Views.{progress, IsStacked}
use Rattle.gedcom_rules.specs.Faults.{Fault, IsLineless}
use Rattle.gedcom_rules.specs.Judging.{open_fault, decided}
use Rattle.gedcom_tree.specs.Forest.{Item}
use Rattle.gedcom_tree.specs.Flat.{built}
use Rattle.gedcom_tree.specs.Depth.{IsDeep}
use Rattle.gedcom_tree.specs.Reading.{
  Nodes,
  Trace,
  Reader,
  reader_of,
  table,
  name_on,
  progress_from,
  trace_run,
  traced,
  grown,
}
use Rattle.gedcom_tree.specs.Views.{nodes_view}
use Rattle.gedcom_tree.specs.declared.ended.Lines.{Lines}

-- the cross references of nodes, in order
abbrev pub names_of : List Item → List (List ℕ)
names_of [] = []
names_of (i ∷ is) = name_on i.xref ++ names_of is

-- what a piece that was judged does to the cross references so far
abbrev pub Names : Result (Option Parts) TreeKind → List (List ℕ) → List (List ℕ) → Type 0
Names (Ok None) old new = new ≡ old
Names (Ok (Some l)) old new = new ≡ old ++ name_on l.xref
Names (Err k) old new = ⊥

-- progress as data, with the cross references in order
unfoldable pub trace_of : Progress → List (List ℕ) → Trace
trace_of p names = record {
  count = p.count;
  last = p.last;
  done = p.done;
  in_head = p.in_head;
  names = names;
  standings = table p.above (depth p);
}

-- the cross references so far: those of the nodes, and the trailer's
abbrev pub names_view : List Item → Option (List ℕ) → List (List ℕ)
names_view items x = names_of items ++ name_on x

abbrev pub trailer_view : Lines → Option (List ℕ)
trailer_view s = option_map string_bytes s.trailer

abbrev pub trace_view : Lines → Trace
trace_view s = trace_of (progress s.seen) (names_view (built s.growing.roots.items s.growing.path.items)
    (trailer_view s))

abbrev pub nodes_so_far : Lines → Nodes
nodes_so_far s = nodes_view s.seen s.growing

-- the parts of what is kept agree
pub record IsSound (s : Lines) : Type 0 where
  pub traced : progress_from (trace_view s) ≡ progress s.seen
  pub stacked : IsStacked s.seen
  pub deep : IsDeep (progress s.seen) (length s.growing.path.items)
  pub plain : (progress s.seen).done ≡ false → trailer_view s ≡ None

-- the pieces lead from these lines to those
pub record Leads (old new : Lines) (ps : List (List ℕ)) : Type 0 where
  pub trace : trace_run (trace_view old) ps ≡ Ok (trace_view new)
  pub nodes : nodes_so_far new ≡ grown (nodes_so_far old) ps
  pub sound : IsSound new

-- out of memory, or the first faulty one of the pieces has this fault
abbrev pub Refuses : Lines → List (List ℕ) → Fault → Type 0
Refuses s ps f = IsLineless OutOfMemory f ⊎ (trace_run (trace_view s) ps ≡ Err f)

-- out of memory, or the pieces and what stands open after them decide this fault, whatever comes next
abbrev pub Blames : Lines → List (List ℕ) → List ℕ → Fault → Type 0
Blames s ps rest f = IsLineless OutOfMemory f
    ⊎ ((next : Option ℕ) → open_fault rest next (traced (trace_run (trace_view s) ps)) ≡ Some f)

-- what the fields of a reader say of the bytes fed
abbrev pub reader_view : Lines → List ℕ → ℕ → Option Fault → Reader
reader_view s rest total answer = record {
  seen = Ok (trace_view s);
  nodes = nodes_so_far s;
  open_ = rest;
  total = total;
  answer = answer;
}

-- Some bytes were fed, and decide no fault; of them the fields keep what they leave, and no more of the bytes
-- themselves than the line that has not ended.
pub record IsReading (s : Lines) (rest : List ℕ) (total : ℕ) : Type 0 where
  pub bytes : List ℕ
  pub holds : reader_view s rest total None ≡ reader_of bytes
  pub undecided : decided bytes ≡ None
  pub sound : IsSound s
  pub count : (progress s.seen).count ≤ total

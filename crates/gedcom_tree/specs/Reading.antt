-- How a file is judged and read, one piece after another: the same as File says, by computing.
use Rattle.std.specs.Prelude.{
  ℕ,
  zero,
  suc,
  ◌+◌,
  Bool,
  false,
  not,
  ◌&&◌,
  ◌||◌,
  ◌==◌,
  if◌then◌else◌,
  List,
  [],
  ◌∷◌,
  ◌++◌,
  length,
  Option,
  Some,
  None,
  Result,
  Ok,
  Err,
  ◌-◌,
}
use Rattle.std.specs.List.{list_any}
use Rattle.std.specs.Str.{bytes_eq}
use Rattle.gedcom_line.specs.Reading.{Parts, is_continuation, reading}
use Rattle.gedcom_line.specs.declared.fault.LineKind.{LineKind}
use Rattle.gedcom_rules.specs.declared.fault.TreeKind.{TreeKind}
use Rattle.gedcom_rules.specs.Pieces.{file_pieces}
use Rattle.gedcom_rules.specs.Rules.{Progress, Standing, is_trailer}
use Rattle.gedcom_rules.specs.Judging.{above_after, judge, fault_behind, unended, advance, then_run}
use Rattle.gedcom_tree.specs.Forest.{Item, node_of, extended}
use Rattle.gedcom_rules.specs.Continuing.{adds}
use Rattle.gedcom_rules.specs.Faults.{Fault}

-- the lines so far, and their nodes
pub record Nodes : Type 0 where
  pub count : ℕ
  pub items : List Item

-- one line more: the trailer is no node, a continuation makes the text above it longer, and any other is a node
abbrev pub grow_line : ℕ → List Item → Parts → List Item
grow_line n items l =
    if is_trailer l then items
    else (if is_continuation l.tag then extended (l.level - 1) (adds l) items else items ++ node_of n l [] ∷ [])

abbrev pub grow_read : Nodes → Result (Option Parts) LineKind → Nodes
grow_read g (Ok None) = g
grow_read g (Ok (Some l)) = record { count = g.count + 1; items = grow_line (g.count + 1) g.items l }
grow_read g (Err k) = g

-- one piece more
unfoldable pub grow : Nodes → List ℕ → Nodes
grow g piece = grow_read g (reading piece)

unfoldable pub grown : Nodes → List (List ℕ) → Nodes
grown g [] = g
grown g (b ∷ bs) = grown (grow g b) bs

-- no lines, and no nodes
abbrev pub no_nodes : Nodes
no_nodes = record { count = 0; items = [] }

-- The same progress as data, which a reader can show.

-- the cross references so far in order, and what stands open at each level, from 0 up
pub record Trace : Type 0 where
  pub count : ℕ
  pub last : ℕ
  pub done : Bool
  pub in_head : Bool
  pub names : List (List ℕ)
  pub standings : List (Option Standing)

abbrev pub standing_in : List (Option Standing) → ℕ → Option Standing
standing_in [] n = None
standing_in (o ∷ os) zero = o
standing_in (o ∷ os) (suc n) = standing_in os n

-- the values of a function from 0 up to n, without n
abbrev pub table : (ℕ → Option Standing) → ℕ → List (Option Standing)
table f zero = []
table f (suc n) = f 0 ∷ table (λ k. f (suc k)) n

abbrev pub progress_from : Trace → Progress
progress_from t = record {
  count = t.count;
  last = t.last;
  done = t.done;
  in_head = t.in_head;
  named = λ x. list_any (bytes_eq x) t.names;
  above = standing_in t.standings;
}

abbrev pub no_trace : Trace
no_trace = record { count = 0; last = 0; done = false; in_head = false; names = []; standings = [] }

abbrev pub name_on : Option (List ℕ) → List (List ℕ)
name_on None = []
name_on (Some x) = x ∷ []

abbrev pub trace_after : Trace → Parts → Trace
trace_after t l = record {
  count = t.count + 1;
  last = l.level;
  done = t.done || is_trailer l;
  in_head = t.count == 0 || (t.in_head && not (l.level == 0));
  names = t.names ++ name_on l.xref;
  standings = table (above_after (standing_in t.standings) l) (l.level + 1);
}

abbrev pub trace_next : Trace → Option Parts → Trace
trace_next t None = t
trace_next t (Some l) = trace_after t l

abbrev pub trace_advance : Trace → Result (Option Parts) TreeKind → Result Trace Fault
trace_advance t (Ok found) = Ok (trace_next t found)
trace_advance t (Err k) = Err (fault_behind t.count k)

abbrev pub then_trace : (Trace → Result Trace Fault) → Result Trace Fault → Result Trace Fault
then_trace f (Ok t) = f t
then_trace f (Err e) = Err e

unfoldable pub trace_run : Trace → List (List ℕ) → Result Trace Fault
trace_run t [] = Ok t
trace_run t (b ∷ bs) = then_trace (λ u. trace_run u bs) (trace_advance t (judge (progress_from t) b))

abbrev pub traced : Result Trace Fault → Result Progress Fault
traced (Ok t) = Ok (progress_from t)
traced (Err f) = Err f

-- What bytes leave: what the lines that have ended leave, or their first fault; their nodes; the line that has not
-- ended; how many bytes there were; and the fault that the reader answers from then on.
pub record Reader : Type 0 where
  pub seen : Result Trace Fault
  pub nodes : Nodes
  pub open_ : List ℕ
  pub total : ℕ
  pub answer : Option Fault

unfoldable pub reader_of : List ℕ → Reader
reader_of b = record {
  seen = trace_run no_trace (file_pieces b).ended;
  nodes = grown no_nodes (file_pieces b).ended;
  open_ = (file_pieces b).open_;
  total = length b;
  answer = None;
}

-- the end of the input, after the last piece
abbrev pub ended : List Item → Result Progress Fault → Result (List Item) Fault
ended items (Err f) = Err f
ended items (Ok p) = if p.done then Ok items else Err (unended p)

-- the forest or the fault of what bytes left, once the line that has not ended is judged
unfoldable pub finished : Reader → Result (List Item) Fault
finished r = ended (grow r.nodes r.open_).items (then_run (λ p. advance p (judge p r.open_)) (traced r.seen))

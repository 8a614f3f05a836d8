-- What contracts see of the code's values.
use Rattle.std.specs.Prelude.{
  ◌≡◌,
  ℕ,
  List,
  Option,
  Some,
  None,
  Result,
  Ok,
  Err,
  MatchResult,
  option_map,
  slice_get,
  length,
}
use Rattle.std.specs.BTreeSet.{contains_text}
use Rattle.gedcom_line.specs.declared.line.LineRef.{LineRef}
use Rattle.gedcom_line.specs.Reading.{Parts, parts}
use Rattle.gedcom_rules.specs.declared.seen.Seen.{Seen}
use Rattle.gedcom_rules.specs.declared.standing.Standing as code
use Rattle.gedcom_rules.specs.declared.fault.TreeFault.{TreeFault}
use Rattle.gedcom_rules.specs.Rules.{Progress, Standing}
use Rattle.gedcom_rules.specs.Faults.{Fault}
use Rattle.gedcom_rules.specs.Depth.{depth}

abbrev pub standing_view : code.Standing → Standing
standing_view s = record { role = s.role; text = s.is_text; room = s.room }

-- what stands open at a level
abbrev pub standings : List code.Standing → ℕ → Option Standing
standings open_ n = option_map standing_view (slice_get open_ n)

abbrev pub progress : Seen → Progress
progress s = record {
  count = s.count;
  last = s.last;
  done = s.is_done;
  in_head = s.is_in_head;
  named = λ x. contains_text s.names x;
  above = λ n. standings s.stack.items n;
}

-- the parts of a line that came with its number
abbrev pub line_of : ℕ × LineRef → Parts
line_of x = parts x.1

-- what a function answered, seen by view, is this answer
abbrev pub Gives : {X Y E : Type 0} → (X → Y) → Result X E → Result Y E → Type 0
Gives view r answer = MatchResult r (λ x. answer ≡ Ok (view x)) (λ e. answer ≡ Err e)

abbrev pub fault_view : TreeFault → Fault
fault_view f = record { kind = f.kind; at = f.at }

abbrev pub fault_of : {A : Type 0} → Result A TreeFault → Option Fault
fault_of (Ok x) = None
fault_of (Err f) = Some (fault_view f)

-- a result, with its fault as definitions have it
abbrev pub outcome : {A : Type 0} → Result A TreeFault → Result A Fault
outcome (Ok x) = Ok x
outcome (Err f) = Err (fault_view f)

-- as many lines are kept open as the last one's level says
abbrev pub IsStacked : Seen → Type 0
IsStacked s = length s.stack.items ≡ depth (progress s)

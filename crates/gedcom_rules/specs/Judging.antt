-- How a file is judged, one piece after another: the same as Faults says, by computing.
use Rattle.std.specs.Prelude.{
  ℕ,
  ◌+◌,
  ◌-◌,
  false,
  not,
  ◌&&◌,
  ◌||◌,
  ◌==◌,
  nat_lt,
  if◌then◌else◌,
  List,
  [],
  ◌∷◌,
  length,
  Option,
  Some,
  None,
  Result,
  Ok,
  Err,
  is_some,
  option_map,
}
use Rattle.gedcom_line.specs.Reading.{Parts, is_continuation, reading}
use Rattle.gedcom_line.specs.declared.fault.LineKind.{LineKind}
use Rattle.gedcom_rules.specs.declared.fault.TreeKind.{TreeKind}
use Rattle.gedcom_rules.specs.declared.fault.TreeKind.TheVariants.{TooLong, NoHead, NoTrailer, FileTooLarge}
use Rattle.gedcom_rules.specs.Pieces.{file_pieces}
use Rattle.gedcom_rules.specs.Continuing.{adds}
use Rattle.gedcom_rules.specs.Rules.{Progress, Standing, standing, has_name, is_trailer, first_broken, of_line}
use Rattle.gedcom_rules.specs.Faults.{Fault, max_line, overflows, within, extra}

-- no lines yet
abbrev pub start : Progress
start = record { count = 0; last = 0; done = false; in_head = false; named = λ x. false; above = λ n. None }

-- what stands open one level above a continuation gets its text
abbrev pub continue_at : ℕ → Parts → Standing → Standing
continue_at n l s =
    if is_continuation l.tag && l.level == n + 1 then record {
      role = s.role;
      text = s.text;
      room = s.room - length (adds l);
    } else s

-- what stands open at a level after a line
abbrev pub above_after : (ℕ → Option Standing) → Parts → ℕ → Option Standing
above_after above l n = if l.level == n then Some (standing l [])
    else (if nat_lt l.level n then None else option_map (continue_at n l) (above n))

-- what a line leaves, after what the lines before it left
abbrev pub after : Progress → Parts → Progress
after p l = record {
  count = p.count + 1;
  last = l.level;
  done = p.done || is_trailer l;
  in_head = p.count == 0 || (p.in_head && not (l.level == 0));
  named = λ x. p.named x || has_name x l;
  above = above_after p.above l;
}

abbrev pub next : Progress → Option Parts → Progress
next p None = p
next p (Some l) = after p l

abbrev pub kept : Parts → Option TreeKind → Result (Option Parts) TreeKind
kept l None = Ok (Some l)
kept l (Some k) = Err k

abbrev pub judge_read : Progress → List ℕ → Result (Option Parts) LineKind → Result (Option Parts) TreeKind
judge_read p piece (Ok None) = Ok None
judge_read p piece (Ok (Some l)) = kept l (first_broken p l)
judge_read p piece (Err k) = Err (of_line k)

-- a piece: nothing where it is blank, else a line that breaks no rule, or its first fault
unfoldable pub judge : Progress → List ℕ → Result (Option Parts) TreeKind
judge p piece = if nat_lt max_line (length piece) then Err TooLong else judge_read p piece (reading piece)

-- a fault of the line after so many
abbrev pub fault_behind : ℕ → TreeKind → Fault
fault_behind count k = record { kind = k; at = Some (count + 1) }

-- the fault of a file that ends after lines without a trailer
abbrev pub unended : Progress → Fault
unended p = fault_behind p.count (if p.count == 0 then NoHead else NoTrailer)

abbrev pub advance : Progress → Result (Option Parts) TreeKind → Result Progress Fault
advance p (Ok found) = Ok (next p found)
advance p (Err k) = Err (fault_behind p.count k)

abbrev pub then_run : (Progress → Result Progress Fault) → Result Progress Fault → Result Progress Fault
then_run f (Ok p) = f p
then_run f (Err e) = Err e

-- the pieces one after another, up to the first fault
unfoldable pub run : Progress → List (List ℕ) → Result Progress Fault
run p [] = Ok p
run p (b ∷ bs) = then_run (λ q. run q bs) (advance p (judge p b))

-- what the bytes so far decide, once the pieces that have ended are judged
abbrev pub open_fault : List ℕ → Option ℕ → Result Progress Fault → Option Fault
open_fault rest next (Err f) = Some f
open_fault rest next (Ok p) =
    if overflows rest next then Some (fault_behind p.count TooLong)
    else (if is_some next then Some (fault_behind p.count FileTooLarge) else None)

-- the fault that the bytes so far decide, however they go on
unfoldable pub decided : List ℕ → Option Fault
decided b = open_fault (file_pieces (within b)).open_ (extra b) (run start (file_pieces (within b)).ended)

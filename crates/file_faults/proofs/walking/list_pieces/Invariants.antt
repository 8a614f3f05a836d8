use Rattle.std.proofs.Common.{◌≡◌, ◌+◌, ◌≤◌, List, length}
use Rattle.gedcom_rules.specs.Pieces.{pieces}
use Rattle.file_faults.specs.Faults.{Faulty, faults_in}
use Rattle.file_faults.specs.Reading.{Course}
use Rattle.file_faults.specs.Views.{IsGoing, IsSound, course}
use Rattle.file_faults.proofs.walking.list_pieces.Given as goal

abbrev pub invariant-loop-piece : goal.invariant-loop-piece
invariant-loop-piece l = record {
  going : (all : List Faulty) (rest : Course → List Faulty)
      → IsGoing l.fn.list all (faults_in (course l.fn.course) (pieces l.bytes).ended rest)
      → IsGoing l.list all (faults_in (course l.course) (pieces l.rest).ended rest);
  open_ : (pieces l.rest).open_ ≡ (pieces l.bytes).open_;
  count : l.course.number + length l.rest ≤ l.fn.course.number + length l.bytes;
  few : l.list.total + length l.rest ≤ l.fn.list.total + length l.bytes;
  sound : IsSound l.course;
}

abbrev pub decreases-loop-piece : goal.decreases-loop-piece
decreases-loop-piece l = length l.rest

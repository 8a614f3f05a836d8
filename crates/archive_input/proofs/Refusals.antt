-- Rows of which only the last may be refused.
use Rattle.std.proofs.Common.{◌∷◌, List, [], arith}
use Rattle.record_text.specs.declared.refusal.Refusal.{Refusal}
use Rattle.archive_input.specs.Answers.{Served}
use Rattle.archive_input.specs.Stopping.{AreAccepted, IsRefusedLast, IsUpToRefusal}
use Rattle.archive_input.proofs.InTurn.{none_more}

pub accepted_up_to : (served : List Served) → AreAccepted served → IsUpToRefusal served
accepted_up_to served all = (served, [], none_more served, omega arith, all)

pub refused_up_to : (served : List Served) (e : Refusal) → IsRefusedLast served e → IsUpToRefusal served
refused_up_to served e last = (last.0, last.1 ∷ [], last.2, omega arith, last.3)

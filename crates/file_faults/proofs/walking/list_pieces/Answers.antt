use Rattle.gedcom_rules.specs.Pieces.{pieces}
use Rattle.file_faults.specs.Views.{course as state}
use Rattle.file_faults.proofs.Going.{ends_pieces}
use Rattle.file_faults.proofs.walking.list_pieces.Goals as goal

pub returns-clause-going : goal.returns-clause-going
returns-clause-going c = λ all rest g. ends_pieces c.loop-piece.list all (state c.loop-piece.course)
    (pieces c.loop-piece.rest.now).ended rest c.in_default.ensures.ended (c.loop-piece.invariant.going all rest g)

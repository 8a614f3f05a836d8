use Rattle.archive_core.proofs.laws.a_refused_request_changes_nothing.Goals as goal

pub returns : goal.returns
returns c = λ d after r e h. h.0

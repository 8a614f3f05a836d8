use Rattle.put_back.proofs.sources.push_call.Goals as goal

pub returns : goal.returns
returns c = rw (c.call_cell.ensures, c.call_cell-2.ensures) at c.put.ensures

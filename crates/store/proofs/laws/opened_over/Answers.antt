use Rattle.sqlite.specs.Held.{state}
use Rattle.store.proofs.Opened.{opened_over, opened_over_old}
use Rattle.store.proofs.laws.opened_over.Goals as goal

pub returns : goal.returns
returns g _ opened t opens live found = record {
  has = λ society c is. opened_over (state g.S.Store opened) t society c opens live found is;
  had = λ society c was. opened_over_old (state g.S.Store opened) t society c opens live found was;
}

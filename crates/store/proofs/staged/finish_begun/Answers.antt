use Rattle.store.proofs.staged.finish_begun.Goals as goal

pub returns-in-Some-clause-crash : goal.returns-in-Some-clause-crash
returns-in-Some-clause-crash g c clean = rw c.in-Some.is (c.finish_on.ensures.crash clean)

pub returns-in-Some-clause-told : goal.returns-in-Some-clause-told
returns-in-Some-clause-told g c = rw c.in-Some.is c.finish_on.ensures.told

pub returns-in-Some-clause-told_all : goal.returns-in-Some-clause-told_all
returns-in-Some-clause-told_all g c = rw c.in-Some.is c.finish_on.ensures.told_all

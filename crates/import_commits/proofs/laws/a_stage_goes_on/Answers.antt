use Rattle.import_commits.proofs.Imports.{goes_on, goes_on_anew}
use Rattle.import_commits.proofs.laws.a_stage_goes_on.Goals as goal

pub returns-clause-begun : goal.returns-clause-begun
returns-clause-begun c = goes_on

pub returns-clause-anew : goal.returns-clause-anew
returns-clause-anew c = goes_on_anew

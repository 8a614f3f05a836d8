use Rattle.std.proofs.Common.{◌≡◌, take, map}
use Rattle.archive_state.specs.Merging as merging
use Rattle.merging.proofs.redirecting.renamed_all.Given as goal

abbrev pub invariant-parts : goal.invariant-parts
invariant-parts g l = l.made.items ≡ map (g.P.Renamed.with (merging.renamed l.keep l.gone)) (take l.part-index l.parts)

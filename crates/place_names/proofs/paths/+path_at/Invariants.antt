use Rattle.place_names.proofs.paths.+path_at.Given as goal

abbrev pub decreases-path_at : goal.decreases-path_at
decreases-path_at g l = l.number

use Rattle.store_rows.proofs.finding.+has_path.Given as goal

abbrev pub decreases-has_path : goal.decreases-has_path
decreases-has_path g l = l.number

use Rattle.gedcom_line.proofs.line.write.+push_level.Given as goal

abbrev pub decreases-push_level : goal.decreases-push_level
decreases-push_level l = l.level

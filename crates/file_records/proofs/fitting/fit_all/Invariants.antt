use Rattle.std.proofs.Common.{◌≡◌}
use Rattle.file_records.proofs.fitting.fit_all.Given as goal

abbrev pub invariant-loop-part : goal.invariant-loop-part
invariant-loop-part g l = l.part-items ≡ l.initial.part-items

use Rattle.std.proofs.Common.{inl, inr}
use Rattle.gedcom_rules.specs.Views.{fault_view}
use Rattle.parish.proofs.Counting.{all_listed, counted, counting}
use Rattle.parish.proofs.files.list_or_count.Goals as goal
use Rattle.parish.proofs.files.list_or_count.Goals.{
  in-Err,
  in-Ok-Faulty,
  in-Ok-Sound+in-Err-print_count,
  in-Ok-Sound+in-Ok,
}

pub returns-clause-ok : goal.returns-clause-ok
returns-clause-ok g c = elim c.match-write_faults.branch [
  | in-Ok-Sound+in-Ok w ↦ rw (w.result-is, w.output-is) (counted (g.R.Read.remaining c.args.input.now)
      (g.W.Write.contents c.args.output.now) (g.W.Write.contents c.write_faults.new.writer)
      (g.W.Write.contents w.print_count.new.output) w.in-Ok-Sound.field-0 w.in-Ok-Sound.records
      w.in-Ok-Sound.field-0-is w.in-Ok-Sound.ensures.checked w.in-Ok.ensures.ok)
  | in-Ok-Sound+in-Err-print_count w ↦ rw w.result-is tt
  | in-Ok-Faulty w ↦ rw w.result-is tt
  | in-Err w ↦ rw w.result-is tt
]

pub returns-clause-err : goal.returns-clause-err
returns-clause-err g c = elim c.match-write_faults.branch [
  | in-Ok-Sound+in-Ok w ↦ rw w.result-is tt
  | in-Ok-Sound+in-Err-print_count w ↦ rw (w.result-is, w.output-is) (inr (inr (counting
      (g.R.Read.remaining c.args.input.now) (g.W.Write.contents c.args.output.now)
      (g.W.Write.contents c.write_faults.new.writer) (g.W.Write.contents w.print_count.new.output)
      w.in-Ok-Sound.field-0 w.in-Ok-Sound.records _ (fault_view w.in-Err-print_count.fault) w.in-Ok-Sound.field-0-is
      w.in-Ok-Sound.ensures.checked (rw (← c.failures-before.ensures) w.in-Err-print_count.ensures.why)
      w.in-Err-print_count.ensures.err)))
  | in-Ok-Faulty w ↦ rw (w.result-is, w.output-is) (inl (all_listed (g.R.Read.remaining c.args.input.now)
      (g.W.Write.contents c.args.output.now) (g.W.Write.contents c.write_faults.new.writer) w.in-Ok-Faulty.field-0
      w.in-Ok-Faulty.fault w.in-Ok-Faulty.field-0-is w.in-Ok-Faulty.ensures.checked))
  | in-Err w ↦ rw (w.result-is, w.output-is) (inr (inl w.in-Err.ensures.fault))
]

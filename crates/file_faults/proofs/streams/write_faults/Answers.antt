use Rattle.std.proofs.Common.{inr, ◌∙◌}
use Rattle.file_faults.proofs.Fronts.{known_first, known_list}
use Rattle.file_faults.proofs.streams.write_faults.Goals as goal

pub returns-in-Ok-write_text-clause-checked : goal.returns-in-Ok-write_text-clause-checked
returns-in-Ok-write_text-clause-checked g c = record {
  text = c.deref-2.result.now;
  first = known_first (g.R.Read.remaining c.args.reader.now) c.deref.result.now c.in-Some.checked
      (rw c.deref.ensures.value c.in-Ok.ensures.front) c.in-Some.ensures.first;
  list = known_list (g.R.Read.remaining c.args.reader.now) c.deref.result.now c.deref-2.result.now
      (rw c.deref.ensures.value c.in-Ok.ensures.front) (c.deref-2.ensures.value ∙ c.in-Some.ensures.list);
  written = c.in-Ok-write_text.ensures.ok;
}

pub returns-clause-fault : goal.returns-clause-fault
returns-clause-fault g c = inr (record {
  text = c.deref-2.result.now;
  list = known_list (g.R.Read.remaining c.args.reader.now) c.deref.result.now c.deref-2.result.now
      (rw c.deref.ensures.value c.in-Ok.ensures.front) (c.deref-2.ensures.value ∙ c.in-Some.ensures.list);
  why = c.in-Err-write_text.ensures.why;
  written = c.in-Err-write_text.ensures.err;
})

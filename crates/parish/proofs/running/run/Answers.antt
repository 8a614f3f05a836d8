use Rattle.std.proofs.Common.{◌∙◌, [], Some, None, ap, append-nil, refl, sym}
use Rattle.parish.proofs.running.run.Goals as goal

pub returns : goal.returns
returns g c = record {
  closed = (c.command-status.result.1, c.close_file-closed.ensures.closed);
  ended = λ bytes written after input empty wrote as_told numbered may.
      c.command-status.ensures.carries bytes written [] (Some _) after
      (record { reads = input; begins = empty; writes = wrote ∙ ap Some (sym (append-nil written)) }) (refl, refl)
      (c.close_file-closed.ensures.found _ after as_told numbered may);
  stopped = λ bytes seen unseen after input empty wrote as_told numbered may.
      c.command-status.ensures.carries bytes seen unseen None after
      (record { reads = input; begins = empty; writes = wrote }) tt
      (c.close_file-closed.ensures.found _ after as_told numbered may);
}

use Rattle.std.proofs.Common.{false, refl, Ok, Err}
use Rattle.store.specs.Histories.{is_storage}
use Rattle.archive_output.proofs.Calls.{reads_any}
use Rattle.tasks.proofs.auditing.audit_archive.Goals as goal

pub returns-in-Ok-print_sound-clause-audits : goal.returns-in-Ok-print_sound-clause-audits
returns-in-Ok-print_sound-clause-audits g c = (
  Ok c.in-Ok.records,
  c.in-Ok.ensures.lost c.requires.kept,
  (λ clean. record {
    judges = c.in-Ok.ensures.judged clean c.requires.kept;
    tells = c.in-Ok.ensures.told clean c.requires.kept;
    reads = c.in-Ok.ensures.reads clean c.requires.kept;
  }),
  c.in-Ok-print_sound.ensures.printed,
)

pub returns-in-Err-print_sound-clause-audits : goal.returns-in-Err-print_sound-clause-audits
returns-in-Err-print_sound-clause-audits g c = (
  Ok c.in-Ok.records,
  c.in-Ok.ensures.lost c.requires.kept,
  (λ clean. record {
    judges = c.in-Ok.ensures.judged clean c.requires.kept;
    tells = c.in-Ok.ensures.told clean c.requires.kept;
    reads = c.in-Ok.ensures.reads clean c.requires.kept;
  }),
  (c.in-Err-print_sound.kind, c.placeless.ensures, c.in-Err-print_sound.ensures.part),
)

pub returns-in-Err-clause-audits : goal.returns-in-Err-clause-audits
returns-in-Err-clause-audits g c = (
  Err (c.in-Err.kind, c.in-Err.flaw),
  c.in-Err.ensures.lost c.requires.kept,
  (λ clean. record {
    judges = c.in-Err.ensures.judged clean c.requires.kept;
    tells = c.in-Err.ensures.told clean c.requires.kept;
    reads = c.in-Err.ensures.reads clean c.requires.kept;
  }),
  (c.placeless-in-Err.ensures, refl),
)

pub returns-in-Ok-print_sound-clause-reads : goal.returns-in-Ok-print_sound-clause-reads
returns-in-Ok-print_sound-clause-reads g c =
    reads_any g.S.Store c.args.archive.now c.audit_with_fault.new.self false
    (c.in-Ok.ensures.lost c.requires.kept) c.in-Ok.ensures.called c.in-Ok.ensures.open
    (λ clean. (c.in-Ok.ensures.reads clean c.requires.kept).stays)

pub returns-in-Err-print_sound-clause-reads : goal.returns-in-Err-print_sound-clause-reads
returns-in-Err-print_sound-clause-reads g c =
    reads_any g.S.Store c.args.archive.now c.audit_with_fault.new.self false
    (c.in-Ok.ensures.lost c.requires.kept) c.in-Ok.ensures.called c.in-Ok.ensures.open
    (λ clean. (c.in-Ok.ensures.reads clean c.requires.kept).stays)

pub returns-in-Err-clause-reads : goal.returns-in-Err-clause-reads
returns-in-Err-clause-reads g c =
    reads_any g.S.Store c.args.archive.now c.audit_with_fault.new.self (is_storage c.in-Err.kind)
    (c.in-Err.ensures.lost c.requires.kept) c.in-Err.ensures.called c.in-Err.ensures.open
    (λ clean. (c.in-Err.ensures.reads clean c.requires.kept).stays)

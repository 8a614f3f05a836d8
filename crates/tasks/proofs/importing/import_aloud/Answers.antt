use Rattle.std.proofs.Common.{◌≡◌, false}
use Rattle.list_laws.proofs.Outcomes.{on_ok_more}
use Rattle.archive_input.proofs.Told.{imported_seen}
use Rattle.store.proofs.Told.{import_seen}
use Rattle.tasks.specs.Counts.{SaysAloud, SaysCount, SaysPart}
use Rattle.tasks.proofs.Aloud.{import_keeps}
use Rattle.tasks.proofs.importing.import_aloud.Goals as goal

pub returns-clause-same_reference : goal.returns-clause-same_reference
returns-clause-same_reference g c =
    import_keeps (SaysAloud g.F.Write g.F.Device) (λ p. p.faults.ghost_name) (λ a b rows told. told.0)
    c.args.lines.now c.import_forest.new.progress c.import_forest.ensures.told

pub returns-clause-told : goal.returns-clause-told
returns-clause-told g c =
    import_seen c.import_forest.new.progress c.args.lines.now (SaysAloud g.F.Write g.F.Device)
    (SaysPart g.F.Write.contents g.F.Device.failed) (λ p. p.faults.now) (λ _. Unit {0})
    (λ a b rows told still. (tt, told.1.0)) tt c.import_forest.ensures.told

pub returns-clause-told_done : goal.returns-clause-told_done
returns-clause-told_done g c = λ file read still.
    on_ok_more (imported_seen c.import_forest.new.progress c.args.lines.now (SaysAloud g.F.Write g.F.Device)
    (SaysCount g.F.Write.contents g.F.Device.failed) (λ p. p.faults.now) (λ p. p.starved ≡ false)
    (λ a b rows told still. told.1.1 still) still g.S.Store c.args.token file
    c.args.archive.now c.import_forest.new.archive)
    c.import_forest.result (c.import_forest.ensures.told_done file read)

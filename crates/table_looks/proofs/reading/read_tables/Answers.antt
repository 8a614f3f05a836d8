use Rattle.sqlite.specs.Held.{state}
use Rattle.table_looks.proofs.Shown.{shown_at}
use Rattle.table_looks.proofs.reading.read_tables.Goals as goal

pub returns-in_err-beside-clause-kept : goal.returns-in_err-beside-clause-kept
returns-in_err-beside-clause-kept g c clean = record {
  crash = c.in_err-beside.ensures.looks.crash clean;
  clean = c.in_err-beside.ensures.looks.clean clean;
}

pub returns-in_err-held-clause-kept : goal.returns-in_err-held-clause-kept
returns-in_err-held-clause-kept g c clean =
    let read = c.in_err-held.ensures in
    let looks = c.in_ok-beside.ensures.looks in
    record {
      crash = λ rows was. read.crash clean rows (looks.same (read.clean clean) rows was);
      clean = looks.clean (read.clean clean);
    }

pub returns-clause-shown : goal.returns-clause-shown
returns-clause-shown g c clean has =
    let read = c.in_ok-held.ensures in
    shown_at (state g.S.Store c.args.conn.now) (state g.S.Store c.read_beside.new.conn) c.in_ok-beside.beside
    c.in_ok-held.held (c.in_ok-beside.ensures.shown (read.clean clean) has) (read.shown clean)

pub returns-clause-kept : goal.returns-clause-kept
returns-clause-kept g c clean =
    let read = c.in_ok-held.ensures in
    let looks = c.in_ok-beside.ensures.looks in
    record {
      crash = λ rows was. read.crash clean rows (looks.same (read.clean clean) rows was);
      clean = looks.clean (read.clean clean);
    }

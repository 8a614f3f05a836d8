use Rattle.std.proofs.Common.{◌+◌, ◌∙◌, inl, inr, refl, sym, subst}
use Rattle.csv.specs.Reading.{source_of}
use Rattle.csv.specs.Records.{fields_of}
use Rattle.csv.specs.declared.parser.State.{State}
use Rattle.sqlite.specs.Held.{state}
use Rattle.store_tables.proofs.Queries.{only_committed}
use Rattle.record_text.specs.declared.refusal.RefusalKind.TheVariants as refusal
use Rattle.archive_input.proofs.InTurn.{turn_more, turn_none}
use Rattle.request_csv.specs.Input.{AreFirstRows, AreRows}
use Rattle.archive_input.proofs.OnTheWay.{
  OnTheWayWith,
  all_applied,
  at_start,
  ended_row,
  ended_same,
  ended_unread,
  one_more,
}
use Rattle.archive_input.proofs.Stopped.{
  AllRefused,
  AllSoFar,
  TurnSoFar,
  UpToSoFar,
  accepted_more,
  applied_as,
  ended_as,
  refused_last,
  stopped_as,
  up_so_far,
  up_so_far_last,
}
use Rattle.request_csv.proofs.Taking.{took_all, took_first, took_more}
use Rattle.archive_input.proofs.applying.apply_rows.Goals as goal
use Rattle.store.proofs.Running.{performs_none}

pub rows-init : goal.rows-init
rows-init g c =
    let q = c.requires in
    let archive = c.args.archive.now in
    let start = state g.S.Store archive.conn in
    let known = source_of g.R.Read.remaining c.args.rows.now in
    let out = g.W.Write.contents c.args.output.now in
    let turn = TurnSoFar g.S.Store g.W.Write.contents g.F.Write.contents c.args.stops 0
    (record { archive = archive; output = c.args.output.now; faults = c.args.faults.now })
    (record { archive = archive; output = c.args.output.now; faults = c.args.faults.now }) in
    record {
      ready = q.ready;
      plain = q.plain;
      config = q.config;
      flexible = q.flexible;
      way = subst (λ (s : State). OnTheWayWith g.S.Store known known s out out archive archive turn) (sym q.start)
          (at_start g.S.Store known out archive turn
          (λ clean sure. performs_none start
          (λ rows was t l. only_committed start rows t was
          (g.met.S.Store.settled archive.conn.store t was.is_open l)) clean) (
            turn_none g.S.Store g.W.Write.contents g.F.Write.contents
                (record { archive = archive; output = c.args.output.now; faults = c.args.faults.now }),
            λ is. tt,
          ));
    }

pub returns-in-Err-serve_row-clause-ended : goal.returns-in-Err-serve_row-clause-ended
returns-in-Err-serve_row-clause-ended g c =
    let v = c.rows.invariant in
    let way = v.way.0 in
    let f = fields_of c.read_byte_record.new.row in
    let r = rw c.in-Ok-true.field-0-test at (c.in-Ok-true.ensures.reads v.plain v.ready) in
    let t = took_more g.R.Read.remaining c.rows.rows c.read_byte_record.new.self f way.rows v.config _ r way.took in
    let P = UpToSoFar g.S.Store g.W.Write.contents g.F.Write.contents
    (source_of g.R.Read.remaining c.args.rows.now)
    (record { archive = c.args.archive.now; output = c.args.output.now; faults = c.args.faults.now })
    (record {
      archive = c.serve_row.new.archive;
      output = c.serve_row.new.output;
      faults = c.serve_row.new.faults;
    }) c.args.stops in
    let untold = c.in-Err-serve_row.ensures.untold in
    ended_as g.S.Store g.W.Write.contents g.F.Write.contents _ _ _ c.args.stops c.in-Err-serve_row.kind
    (elim c.in-Err-serve_row.ensures.ended [
      | inl h ↦ ended_same g.S.Store _ _ _ _ _ _ _ way P
          (up_so_far g.S.Store g.W.Write.contents g.F.Write.contents (source_of g.R.Read.remaining c.args.rows.now)
          (record { archive = c.args.archive.now; output = c.args.output.now; faults = c.args.faults.now }) (record {
            archive = c.serve_row.new.archive;
            output = c.serve_row.new.output;
            faults = c.serve_row.new.faults;
          }) c.args.stops _ _ _ _ v.way.1.0 untold v.way.1.1)
          c.in-Err-serve_row.kind _ _ h.0 h.1 h.2
      | inr s ↦ ended_row g.S.Store _ _ _ _ _ _ _ way P c.in-Err-serve_row.kind f _ _ _ s.0 _
          (up_so_far_last g.S.Store g.W.Write.contents g.F.Write.contents (source_of g.R.Read.remaining c.args.rows.now)
          (record { archive = c.args.archive.now; output = c.args.output.now; faults = c.args.faults.now }) (record {
            archive = c.serve_row.new.archive;
            output = c.serve_row.new.output;
            faults = c.serve_row.new.faults;
          }) c.args.stops _ _ _ f s.0 _ v.way.1.0 untold v.way.1.1)
          t s.1 s.2 s.3 s.4
    ])

pub returns-in-Ok-false-clause-applied : goal.returns-in-Ok-false-clause-applied
returns-in-Ok-false-clause-applied g c =
    let v = c.rows.invariant in
    let way = v.way.0 in
    let f = fields_of c.read_byte_record.new.row in
    let r = rw c.in-Ok-false.field-0-test at (c.in-Ok-false.ensures.reads v.plain v.ready) in
    let P = AllSoFar g.S.Store g.W.Write.contents g.F.Write.contents
    (source_of g.R.Read.remaining c.args.rows.now)
    (record { archive = c.args.archive.now; output = c.args.output.now; faults = c.args.faults.now })
    (record { archive = c.rows.archive; output = c.rows.output; faults = c.rows.faults }) c.args.stops in
    applied_as g.S.Store g.W.Write.contents g.F.Write.contents _ _ _ c.args.stops
    (all_applied g.S.Store _ _ _ _ _ _ _ way AreRows P (v.way.1.0.all, v.way.1.1)
    (took_all g.R.Read.remaining c.rows.rows c.read_byte_record.new.self f way.rows v.config _ r way.took))

pub returns-in-Some-clause-applied : goal.returns-in-Some-clause-applied
returns-in-Some-clause-applied g c =
    let v = c.rows.invariant in
    let way = v.way.0 in
    let f = fields_of c.read_byte_record.new.row in
    let r = rw c.in-Ok-true.field-0-test at (c.in-Ok-true.ensures.reads v.plain v.ready) in
    let t = took_more g.R.Read.remaining c.rows.rows c.read_byte_record.new.self f way.rows v.config _ r way.took in
    let s = c.in-Ok.ensures.served in
    let turn = turn_more g.S.Store g.W.Write.contents g.F.Write.contents _ _ _ f s.0 _ _ _ v.way.1.0 s.2 in
    let P = AllRefused g.S.Store g.W.Write.contents g.F.Write.contents
    (source_of g.R.Read.remaining c.args.rows.now)
    (record { archive = c.args.archive.now; output = c.args.output.now; faults = c.args.faults.now })
    (record {
      archive = c.serve_row.new.archive;
      output = c.serve_row.new.output;
      faults = c.serve_row.new.faults;
    }) c.in-Some.stop in
    let more = one_more g.S.Store _ _ _ _ _ _ _ way f _ _ _ s.0 _ t s.1 s.2.asked s.2.performed s.2.certain
    s.2.answered P (
      turn.all,
      refused_last c.args.stops way.served s.0 c.in-Ok.refused c.in-Some.stop (c.rows.number + 1) v.way.1.1 s.3
          turn.counted c.in-Some.ensures.stops,
    ) in
    stopped_as g.S.Store g.W.Write.contents g.F.Write.contents _ _ _ c.args.stops c.in-Some.stop
    c.in-Some.ensures.stops.0
    (all_applied g.S.Store _ _ _ _ _ _ _ more.0 AreFirstRows P more.1 (took_first _ _ more.0.rows _ more.0.took))

pub returns-in-Err-clause-ended : goal.returns-in-Err-clause-ended
returns-in-Err-clause-ended g c =
    let v = c.rows.invariant in
    let P = UpToSoFar g.S.Store g.W.Write.contents g.F.Write.contents
    (source_of g.R.Read.remaining c.args.rows.now)
    (record { archive = c.args.archive.now; output = c.args.output.now; faults = c.args.faults.now })
    (record { archive = c.rows.archive; output = c.rows.output; faults = c.rows.faults }) c.args.stops in
    ended_as g.S.Store g.W.Write.contents g.F.Write.contents _ _ _ c.args.stops c.reading_failed.result
    (ended_unread g.S.Store _ _ _ _ _ _ _ v.way.0 P
    (up_so_far g.S.Store g.W.Write.contents g.F.Write.contents (source_of g.R.Read.remaining c.args.rows.now)
    (record { archive = c.args.archive.now; output = c.args.output.now; faults = c.args.faults.now })
    (record { archive = c.rows.archive; output = c.rows.output; faults = c.rows.faults })
    c.args.stops _ _ _ _ v.way.1.0 refl v.way.1.1)
    c.reading_failed.result c.reading_failed.ensures)

pub rows-preserved : goal.rows-preserved
rows-preserved g c =
    let v = c.rows.invariant in
    let way = v.way.0 in
    let f = fields_of c.read_byte_record.new.row in
    let r = rw c.in-Ok-true.field-0-test at (c.in-Ok-true.ensures.reads v.plain v.ready) in
    let t = took_more g.R.Read.remaining c.rows.rows c.read_byte_record.new.self f way.rows v.config _ r way.took in
    let s = c.in-Ok.ensures.served in
    let P = TurnSoFar g.S.Store g.W.Write.contents g.F.Write.contents c.args.stops (c.rows.number + 1)
    (record { archive = c.args.archive.now; output = c.args.output.now; faults = c.args.faults.now })
    (record {
      archive = c.serve_row.new.archive;
      output = c.serve_row.new.output;
      faults = c.serve_row.new.faults;
    }) in
    record {
      ready = inl (c.in-Ok-true.ensures.ready v.plain);
      plain = r.3 ∙ v.plain;
      config = r.2 ∙ v.config;
      flexible = c.in-Ok-true.ensures.flexible ∙ v.flexible;
      way = one_more g.S.Store _ _ _ _ _ _ _ way f _ _ _ s.0 _ t s.1 s.2.asked s.2.performed s.2.certain
          s.2.answered P (
            turn_more g.S.Store g.W.Write.contents g.F.Write.contents _ _ _ f s.0 _ _ _ v.way.1.0 s.2,
            accepted_more c.args.stops way.served s.0 c.in-Ok.refused v.way.1.1 s.3
                (c.in-None.ensures.goes_on refl),
          );
    }

pub returns-clause-ended : goal.returns-clause-ended
returns-clause-ended g c =
    let v = c.rows.invariant in
    let P = UpToSoFar g.S.Store g.W.Write.contents g.F.Write.contents
    (source_of g.R.Read.remaining c.args.rows.now)
    (record { archive = c.args.archive.now; output = c.args.output.now; faults = c.args.faults.now })
    (record { archive = c.rows.archive; output = c.rows.output; faults = c.rows.faults }) c.args.stops in
    ended_as g.S.Store g.W.Write.contents g.F.Write.contents _ _ _ c.args.stops refusal.OutOfMemory
    (ended_unread g.S.Store _ _ _ _ _ _ _ v.way.0 P
    (up_so_far g.S.Store g.W.Write.contents g.F.Write.contents (source_of g.R.Read.remaining c.args.rows.now)
    (record { archive = c.args.archive.now; output = c.args.output.now; faults = c.args.faults.now })
    (record { archive = c.rows.archive; output = c.rows.output; faults = c.rows.faults })
    c.args.stops _ _ _ _ v.way.1.0 refl v.way.1.1)
    refusal.OutOfMemory (inl refl))

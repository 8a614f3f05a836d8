use Rattle.std.proofs.Common.{List, ◌+◌, ◌++◌, ◌∷◌, ◌∙◌, [], ap, inl, inr, refl, subst, sym}
use Rattle.csv.specs.Reading.{source_of}
use Rattle.csv.specs.Records.{fields_of}
use Rattle.csv.specs.declared.parser.State.{State}
use Rattle.expected_answers.specs.Expected.{left}
use Rattle.sqlite.specs.Held.{state}
use Rattle.store_tables.proofs.Queries.{only_committed}
use Rattle.record_text.specs.declared.refusal.RefusalKind.TheVariants as refusal
use Rattle.request_csv.specs.Input.{AreFirstRows, AreRows, Row}
use Rattle.request_csv.proofs.Taking.{took_all, took_first, took_more}
use Rattle.store.proofs.Running.{performs_none}
use Rattle.archive_input.specs.Answers.{Served}
use Rattle.archive_input.specs.Stopping.{row_place}
use Rattle.archive_input.proofs.InTurn.{turn_more, turn_none}
use Rattle.archive_input.proofs.OnTheWay.{OnTheWayWith, all_applied, at_start, ended_row, ended_unread, one_more}
use Rattle.archive_input.proofs.Stopped.{accepted_more, refused_last}
use Rattle.expected_rows.specs.Expecting.{ServesExpected, left_after}
use Rattle.expected_rows.specs.Meeting.{Meets}
use Rattle.expected_rows.specs.declared.meeting.Met.{Met}
use Rattle.expected_rows.proofs.InOrder.{
  AllSo,
  SoFar,
  UpToRefused,
  UpToUnexpected,
  all_expected,
  ended_expected,
  expected_more,
  expected_same,
  left_then,
  looked_way,
  refused_expected,
  unexpected,
  unexpected_expected,
  up_to,
  up_to_last,
}
use Rattle.expected_rows.proofs.expecting.expected_rows.Goals as goal

pub rows-init : goal.rows-init
rows-init g c =
    let q = c.requires in
    let archive = c.args.archive.now in
    let start = state g.S.Store archive.conn in
    let known = source_of g.R.Read.remaining c.args.rows.now in
    let out = g.W.Write.contents c.args.output.now in
    let so = SoFar g.S.Store g.W.Write.contents g.F.Write.contents c.args.stops 0 (left c.args.expected)
    (left c.args.expected)
    (record { archive = archive; output = c.args.output.now; faults = c.args.faults.now })
    (record { archive = archive; output = c.args.output.now; faults = c.args.faults.now }) in
    record {
      ready = q.ready;
      plain = q.plain;
      config = q.config;
      flexible = q.flexible;
      way = subst (λ (s : State). OnTheWayWith g.S.Store known known s out out archive archive so) (sym q.start)
          (at_start g.S.Store known out archive so
          (λ clean sure. performs_none start
          (λ rows was t l. only_committed start rows t was
          (g.met.S.Store.settled archive.conn.store t was.is_open l)) clean)
          (record {
            turn = turn_none g.S.Store g.W.Write.contents g.F.Write.contents
                (record { archive = archive; output = c.args.output.now; faults = c.args.faults.now });
            accepted = λ is. tt;
            expected = tt;
            remains = λ other. refl;
          }));
    }

pub returns-in-Err-meet_row-clause-ended : goal.returns-in-Err-meet_row-clause-ended
returns-in-Err-meet_row-clause-ended g c =
    let v = c.rows.invariant in
    let way = v.way.0 in
    let f = fields_of c.read_byte_record.new.row in
    let r = rw c.in-Ok-true.field-0-test at (c.in-Ok-true.ensures.reads v.plain v.ready) in
    let t = took_more g.R.Read.remaining c.rows.rows c.read_byte_record.new.self f way.rows v.config _ r way.took in
    let P = λ (rows : List Row) (served : List Served). ServesExpected g.S.Store
    g.W.Write.contents g.F.Write.contents c.args.stops
    (left c.args.expected) rows served
    (record { archive = c.args.archive.now; output = c.args.output.now; faults = c.args.faults.now })
    (record { archive = c.meet_row.new.archive; output = c.meet_row.new.output; faults = c.meet_row.new.faults }) in
    let same = ap g.F.Write.contents c.in-Err-meet_row.ensures.untold in
    ended_expected g.S.Store g.W.Write.contents g.F.Write.contents _ c.args.stops (left c.args.expected)
    (record { archive = c.args.archive.now; output = c.args.output.now; faults = c.args.faults.now })
    (record { archive = c.meet_row.new.archive; output = c.meet_row.new.output; faults = c.meet_row.new.faults })
    c.in-Err-meet_row.kind
    (elim c.in-Err-meet_row.ensures.ended [
      | inl h ↦ rw h.0 (rw h.2 (
          let looked = looked_way g.S.Store _ _ _ _ _ _ _ _ h.1 way P
          (up_to g.S.Store g.W.Write.contents g.F.Write.contents c.args.stops _ _ _
          (record { archive = c.args.archive.now; output = c.args.output.now; faults = c.args.faults.now })
          (record { archive = c.rows.archive; output = c.rows.output; faults = c.rows.faults })
          (record {
            archive = c.meet_row.new.archive;
            output = c.meet_row.new.output;
            faults = c.meet_row.new.faults;
          }) way.rows way.served v.way.1 same) in
          ended_unread g.S.Store _ _ _ _ _ _ _ looked.0 P looked.1 refusal.OutOfMemory (inl refl)))
      | inr h ↦ ended_row g.S.Store _ _ _ _ _ _ _ way P c.in-Err-meet_row.kind f _ _ _ h.0.0 _
          (up_to_last g.S.Store g.W.Write.contents g.F.Write.contents c.args.stops _ _ _
          (record { archive = c.args.archive.now; output = c.args.output.now; faults = c.args.faults.now })
          (record { archive = c.rows.archive; output = c.rows.output; faults = c.rows.faults })
          (record {
            archive = c.meet_row.new.archive;
            output = c.meet_row.new.output;
            faults = c.meet_row.new.faults;
          }) way.rows way.served
          v.way.1 f h.0.0 same h.1)
          t h.0.1 h.0.2 h.0.3 h.0.4
    ])

pub returns-in-Ok-false-clause-applied : goal.returns-in-Ok-false-clause-applied
returns-in-Ok-false-clause-applied g c =
    let v = c.rows.invariant in
    let way = v.way.0 in
    let f = fields_of c.read_byte_record.new.row in
    let r = rw c.in-Ok-false.field-0-test at (c.in-Ok-false.ensures.reads v.plain v.ready) in
    let P = AllSo g.S.Store g.W.Write.contents g.F.Write.contents c.args.stops (left c.args.expected)
    (record { archive = c.args.archive.now; output = c.args.output.now; faults = c.args.faults.now })
    (record { archive = c.rows.archive; output = c.rows.output; faults = c.rows.faults }) in
    all_expected g.S.Store g.W.Write.contents g.F.Write.contents _ c.args.stops (left c.args.expected)
    (record { archive = c.args.archive.now; output = c.args.output.now; faults = c.args.faults.now })
    (record { archive = c.rows.archive; output = c.rows.output; faults = c.rows.faults })
    (all_applied g.S.Store _ _ _ _ _ _ _ way AreRows P
    (record { all = v.way.1.turn.all; answered = (v.way.1.expected, v.way.1.accepted) })
    (took_all g.R.Read.remaining c.rows.rows c.read_byte_record.new.self f way.rows v.config _ r way.took))

pub returns-in-Some-clause-applied : goal.returns-in-Some-clause-applied
returns-in-Some-clause-applied g c =
    let v = c.rows.invariant in
    let way = v.way.0 in
    let so = v.way.1 in
    let f = fields_of c.read_byte_record.new.row in
    let r = rw c.in-Ok-true.field-0-test at (c.in-Ok-true.ensures.reads v.plain v.ready) in
    let t = took_more g.R.Read.remaining c.rows.rows c.read_byte_record.new.self f way.rows v.config _ r way.took in
    let s = subst (λ (m : Met). Meets g.S.Store g.W.Write.contents g.F.Write.contents (c.rows.number + 1) f
    (left c.rows.still) (left c.meet_row.new.still) m
    (record { archive = c.rows.archive; output = c.rows.output; faults = c.rows.faults })
    (record {
      archive = c.meet_row.new.archive;
      output = c.meet_row.new.output;
      faults = c.meet_row.new.faults;
    })) c.in-Ok-Served.field-0-is c.in-Ok-Served.ensures.met in
    let turn = turn_more g.S.Store g.W.Write.contents g.F.Write.contents _ _ _ f s.0 _ _ _ so.turn s.2 in
    let P = UpToRefused g.S.Store g.W.Write.contents g.F.Write.contents c.args.stops (left c.args.expected)
    c.in-Some.stop
    (record { archive = c.args.archive.now; output = c.args.output.now; faults = c.args.faults.now })
    (record { archive = c.meet_row.new.archive; output = c.meet_row.new.output; faults = c.meet_row.new.faults }) in
    let more = one_more g.S.Store _ _ _ _ _ _ _ way f _ _ _ s.0 _ t s.1 s.2.asked s.2.performed s.2.certain
    s.2.answered P
    (record {
      all = turn.all;
      expected = expected_more (left c.args.expected) way.served s.0 so.expected
          (sym (expected_same (left c.rows.still) (left_after (left c.args.expected) way.served) s.0 so.remains) ∙ s.4);
      last = refused_last c.args.stops way.served s.0 c.in-Ok-Served.refused c.in-Some.stop (c.rows.number + 1)
          so.accepted s.3 turn.counted c.in-Some.ensures.stops;
    }) in
    refused_expected g.S.Store g.W.Write.contents g.F.Write.contents _ c.args.stops (left c.args.expected)
    (record { archive = c.args.archive.now; output = c.args.output.now; faults = c.args.faults.now })
    (record { archive = c.meet_row.new.archive; output = c.meet_row.new.output; faults = c.meet_row.new.faults })
    c.in-Some.stop c.in-Some.ensures.stops.0
    (all_applied g.S.Store _ _ _ _ _ _ _ more.0 AreFirstRows P more.1 (took_first _ _ more.0.rows _ more.0.took))

pub returns-in-Ok-Unexpected-clause-applied : goal.returns-in-Ok-Unexpected-clause-applied
returns-in-Ok-Unexpected-clause-applied g c =
    let v = c.rows.invariant in
    let way = v.way.0 in
    let so = v.way.1 in
    let f = fields_of c.read_byte_record.new.row in
    let r = rw c.in-Ok-true.field-0-test at (c.in-Ok-true.ensures.reads v.plain v.ready) in
    let t = took_more g.R.Read.remaining c.rows.rows c.read_byte_record.new.self f way.rows v.config _ r way.took in
    let is = subst (λ (m : Met). Meets g.S.Store g.W.Write.contents g.F.Write.contents (c.rows.number + 1) f
    (left c.rows.still) (left c.meet_row.new.still) m
    (record { archive = c.rows.archive; output = c.rows.output; faults = c.rows.faults })
    (record { archive = c.meet_row.new.archive; output = c.meet_row.new.output; faults = c.meet_row.new.faults })
    ) c.in-Ok-Unexpected.field-0-is c.in-Ok-Unexpected.ensures.met in
    let P = UpToUnexpected g.S.Store g.W.Write.contents g.F.Write.contents
    (source_of g.R.Read.remaining c.args.rows.now)
    c.args.stops (left c.args.expected) c.row_place.result f
    (record { archive = c.args.archive.now; output = c.args.output.now; faults = c.args.faults.now })
    (record { archive = c.rows.archive; output = c.rows.output; faults = c.rows.faults })
    (record { archive = c.meet_row.new.archive; output = c.meet_row.new.output; faults = c.meet_row.new.faults }) in
    unexpected_expected g.S.Store g.W.Write.contents g.F.Write.contents _ c.args.stops (left c.args.expected)
    (record { archive = c.args.archive.now; output = c.args.output.now; faults = c.args.faults.now })
    (record { archive = c.meet_row.new.archive; output = c.meet_row.new.output; faults = c.meet_row.new.faults })
    c.row_place.result f
    (record { archive = c.rows.archive; output = c.rows.output; faults = c.rows.faults })
    (all_applied g.S.Store _ _ _ _ _ _ _ way AreFirstRows P
    (record {
      all = so.turn.all;
      answered = (so.expected, so.accepted);
      first = took_first _ _ (way.rows ++ f ∷ []) _ t;
      named = c.row_place.ensures ∙ ap (λ n. row_place (n + 1)) so.turn.counted;
      is = unexpected g.S.Store g.W.Write.contents g.F.Write.contents c.args.stops _ _ _
          (record { archive = c.args.archive.now; output = c.args.output.now; faults = c.args.faults.now })
          (record { archive = c.rows.archive; output = c.rows.output; faults = c.rows.faults })
          (record {
            archive = c.meet_row.new.archive;
            output = c.meet_row.new.output;
            faults = c.meet_row.new.faults;
          }) way.rows way.served so f is.0;
    }) (took_first _ _ way.rows _ way.took)) is.1 is.2

pub returns-in-Err-clause-ended : goal.returns-in-Err-clause-ended
returns-in-Err-clause-ended g c =
    let v = c.rows.invariant in
    let P = λ (rows : List Row) (served : List Served). ServesExpected g.S.Store
    g.W.Write.contents g.F.Write.contents c.args.stops
    (left c.args.expected) rows served
    (record { archive = c.args.archive.now; output = c.args.output.now; faults = c.args.faults.now })
    (record { archive = c.rows.archive; output = c.rows.output; faults = c.rows.faults }) in
    ended_expected g.S.Store g.W.Write.contents g.F.Write.contents _ c.args.stops (left c.args.expected)
    (record { archive = c.args.archive.now; output = c.args.output.now; faults = c.args.faults.now })
    (record { archive = c.rows.archive; output = c.rows.output; faults = c.rows.faults })
    c.reading_failed.result
    (ended_unread g.S.Store _ _ _ _ _ _ _ v.way.0 P
    (up_to g.S.Store g.W.Write.contents g.F.Write.contents c.args.stops _ _ _
    (record { archive = c.args.archive.now; output = c.args.output.now; faults = c.args.faults.now })
    (record { archive = c.rows.archive; output = c.rows.output; faults = c.rows.faults })
    (record { archive = c.rows.archive; output = c.rows.output; faults = c.rows.faults })
    v.way.0.rows v.way.0.served v.way.1
    refl)
    c.reading_failed.result c.reading_failed.ensures)

pub rows-preserved : goal.rows-preserved
rows-preserved g c =
    let v = c.rows.invariant in
    let way = v.way.0 in
    let so = v.way.1 in
    let f = fields_of c.read_byte_record.new.row in
    let r = rw c.in-Ok-true.field-0-test at (c.in-Ok-true.ensures.reads v.plain v.ready) in
    let t = took_more g.R.Read.remaining c.rows.rows c.read_byte_record.new.self f way.rows v.config _ r way.took in
    let s = subst (λ (m : Met). Meets g.S.Store g.W.Write.contents g.F.Write.contents (c.rows.number + 1) f
    (left c.rows.still) (left c.meet_row.new.still) m
    (record { archive = c.rows.archive; output = c.rows.output; faults = c.rows.faults })
    (record {
      archive = c.meet_row.new.archive;
      output = c.meet_row.new.output;
      faults = c.meet_row.new.faults;
    })) c.in-Ok-Served.field-0-is c.in-Ok-Served.ensures.met in
    let P = SoFar g.S.Store g.W.Write.contents g.F.Write.contents c.args.stops (c.rows.number + 1)
    (left c.args.expected) (left c.meet_row.new.still)
    (record { archive = c.args.archive.now; output = c.args.output.now; faults = c.args.faults.now })
    (record { archive = c.meet_row.new.archive; output = c.meet_row.new.output; faults = c.meet_row.new.faults }) in
    record {
      ready = inl (c.in-Ok-true.ensures.ready v.plain);
      plain = r.3 ∙ v.plain;
      config = r.2 ∙ v.config;
      flexible = c.in-Ok-true.ensures.flexible ∙ v.flexible;
      way = one_more g.S.Store _ _ _ _ _ _ _ way f _ _ _ s.0 _ t s.1 s.2.asked s.2.performed s.2.certain
          s.2.answered P
          (record {
            turn = turn_more g.S.Store g.W.Write.contents g.F.Write.contents _ _ _ f s.0 _ _ _ so.turn s.2;
            accepted = accepted_more c.args.stops way.served s.0 c.in-Ok-Served.refused so.accepted s.3
                (c.in-None.ensures.goes_on refl);
            expected = expected_more (left c.args.expected) way.served s.0 so.expected
                (sym (expected_same (left c.rows.still) (left_after (left c.args.expected) way.served) s.0 so.remains)
                ∙ s.4);
            remains = left_then (left c.rows.still) (left c.meet_row.new.still) (left c.args.expected) way.served s.0
                so.remains s.5;
          });
    }

pub returns-clause-ended : goal.returns-clause-ended
returns-clause-ended g c =
    let v = c.rows.invariant in
    let P = λ (rows : List Row) (served : List Served). ServesExpected g.S.Store
    g.W.Write.contents g.F.Write.contents c.args.stops
    (left c.args.expected) rows served
    (record { archive = c.args.archive.now; output = c.args.output.now; faults = c.args.faults.now })
    (record { archive = c.rows.archive; output = c.rows.output; faults = c.rows.faults }) in
    ended_expected g.S.Store g.W.Write.contents g.F.Write.contents _ c.args.stops (left c.args.expected)
    (record { archive = c.args.archive.now; output = c.args.output.now; faults = c.args.faults.now })
    (record { archive = c.rows.archive; output = c.rows.output; faults = c.rows.faults })
    refusal.OutOfMemory
    (ended_unread g.S.Store _ _ _ _ _ _ _ v.way.0 P
    (up_to g.S.Store g.W.Write.contents g.F.Write.contents c.args.stops _ _ _
    (record { archive = c.args.archive.now; output = c.args.output.now; faults = c.args.faults.now })
    (record { archive = c.rows.archive; output = c.rows.output; faults = c.rows.faults })
    (record { archive = c.rows.archive; output = c.rows.output; faults = c.rows.faults })
    v.way.0.rows v.way.0.served v.way.1
    refl)
    refusal.OutOfMemory (inl refl))

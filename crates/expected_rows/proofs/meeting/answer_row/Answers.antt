use Rattle.std.proofs.Common.{subst}
use Rattle.std.proofs.lemmas.Result.{IfErr-weaker, IfOk-weaker}
use Rattle.csv.specs.Records.{fields_of}
use Rattle.expected_answers.specs.Expected.{left}
use Rattle.sqlite.specs.Held.{state}
use Rattle.store.proofs.Running.{performs_none}
use Rattle.store_tables.proofs.Queries.{only_committed}
use Rattle.archive_input.specs.Requests.{Asked}
use Rattle.expected_rows.specs.Meeting.{AsksOf}
use Rattle.expected_rows.proofs.Answered.{asking_ended, performed, performing_ended, refused_so, refusing_ended}
use Rattle.expected_rows.proofs.Looked.{asked_looked}
use Rattle.expected_rows.proofs.meeting.answer_row.Goals as goal

pub returns-in-Ok-Ok-clause-answers : goal.returns-in-Ok-Ok-clause-answers
returns-in-Ok-Ok-clause-answers g c =
    let row = fields_of c.args.row.now in
    let old = c.args.archive.now in
    let start = state g.S.Store old.conn in
    let asks = subst (λ (a : Asked). AsksOf g.S.Store row a old c.ask_row.new.archive) c.in-Ok-Ok.field-0-is
    c.in-Ok-Ok.ensures.asks in
    let looked = asked_looked g.S.Store row old c.ask_row.new.archive
    (λ clean was. performs_none start (λ rows was t l. only_committed start rows t was
    (g.met.S.Store.settled old.conn.store t was.is_open l)) clean) asks.looked in
    IfOk-weaker c.perform_expected.result _ _ (λ met h. performed g.S.Store row c.in-Ok-Ok.request old
    c.ask_row.new.archive c.perform_expected.new.archive (left c.args.still.now) (left c.perform_expected.new.still)
    (g.W.Write.contents c.args.output.now) (g.W.Write.contents c.perform_expected.new.output) asks looked met h)
    c.perform_expected.ensures.performs

pub returns-in-Ok-Ok-clause-ended : goal.returns-in-Ok-Ok-clause-ended
returns-in-Ok-Ok-clause-ended g c =
    let row = fields_of c.args.row.now in
    let old = c.args.archive.now in
    let start = state g.S.Store old.conn in
    let asks = subst (λ (a : Asked). AsksOf g.S.Store row a old c.ask_row.new.archive) c.in-Ok-Ok.field-0-is
    c.in-Ok-Ok.ensures.asks in
    let looked = asked_looked g.S.Store row old c.ask_row.new.archive
    (λ clean was. performs_none start (λ rows was t l. only_committed start rows t was
    (g.met.S.Store.settled old.conn.store t was.is_open l)) clean) asks.looked in
    IfErr-weaker c.perform_expected.result _ _ (λ kind h. performing_ended g.S.Store row c.in-Ok-Ok.request old
    c.ask_row.new.archive c.perform_expected.new.archive (left c.args.still.now) (left c.perform_expected.new.still)
    (g.W.Write.contents c.args.output.now) (g.W.Write.contents c.perform_expected.new.output) asks looked kind h)
    c.perform_expected.ensures.ended

pub returns-in-Ok-Err-clause-answers : goal.returns-in-Ok-Err-clause-answers
returns-in-Ok-Err-clause-answers g c =
    let row = fields_of c.args.row.now in
    let old = c.args.archive.now in
    let start = state g.S.Store old.conn in
    let asks = subst (λ (a : Asked). AsksOf g.S.Store row a old c.ask_row.new.archive) c.in-Ok-Err.field-0-is
    c.in-Ok-Err.ensures.asks in
    let looked = asked_looked g.S.Store row old c.ask_row.new.archive
    (λ clean was. performs_none start (λ rows was t l. only_committed start rows t was
    (g.met.S.Store.settled old.conn.store t was.is_open l)) clean) asks.looked in
    IfOk-weaker c.refuse_expected.result _ _ (λ met h. refused_so g.S.Store row c.in-Ok-Err.bad old
    c.ask_row.new.archive (left c.args.still.now) (left c.refuse_expected.new.still)
    (g.W.Write.contents c.args.output.now) (g.W.Write.contents c.refuse_expected.new.output) asks looked met h)
    c.refuse_expected.ensures.answered

pub returns-in-Ok-Err-clause-ended : goal.returns-in-Ok-Err-clause-ended
returns-in-Ok-Err-clause-ended g c =
    let row = fields_of c.args.row.now in
    let old = c.args.archive.now in
    let start = state g.S.Store old.conn in
    let asks = subst (λ (a : Asked). AsksOf g.S.Store row a old c.ask_row.new.archive) c.in-Ok-Err.field-0-is
    c.in-Ok-Err.ensures.asks in
    let looked = asked_looked g.S.Store row old c.ask_row.new.archive
    (λ clean was. performs_none start (λ rows was t l. only_committed start rows t was
    (g.met.S.Store.settled old.conn.store t was.is_open l)) clean) asks.looked in
    IfErr-weaker c.refuse_expected.result _ _ (λ kind h. refusing_ended g.S.Store row c.in-Ok-Err.bad old
    c.ask_row.new.archive (left c.args.still.now) (left c.refuse_expected.new.still)
    (g.W.Write.contents c.args.output.now) (g.W.Write.contents c.refuse_expected.new.output) asks looked kind h)
    c.refuse_expected.ensures.ended

pub returns-in-Err-clause-ended : goal.returns-in-Err-clause-ended
returns-in-Err-clause-ended g c =
    asking_ended g.S.Store (fields_of c.args.row.now) c.args.archive.now c.ask_row.new.archive (left c.args.still.now)
    (g.W.Write.contents c.args.output.now) c.in-Err.kind c.in-Err.ensures.ended

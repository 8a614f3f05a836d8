use Rattle.std.proofs.Common.{◌∙◌, Err, None, Ok, Some, ap, refl, subst, sym, true≢false}
use Rattle.std.specs.Prelude.{Option, option_map}
use Rattle.std.proofs.lemmas.Result.{IfErr-weaker, IfOk-weaker}
use Rattle.sqlite.specs.Held.{state}
use Rattle.sqlite.specs.State.{HasCleanDisk}
use Rattle.csv.specs.Records.{Row as Record, fields_of}
use Rattle.record_text.specs.declared.refusal.RefusalKind.TheVariants.{NoSuch}
use Rattle.request_csv.specs.Input.{Row}
use Rattle.row_references.specs.References.{IsNumbered, any_number, kept_number, numbered}
use Rattle.store.proofs.Viewed.{seen_of}
use Rattle.store.specs.Histories.{is_storage}
use Rattle.archive_input.specs.Applying.{IsServedBy, failing}
use Rattle.archive_input.specs.Answers.{Served}
use Rattle.archive_input.specs.Requests.{refused_under}
use Rattle.archive_input.proofs.Asked.{
  form_ok,
  served_missing,
  served_own,
  served_unread,
  served_wanting,
  served_with,
  unread_any,
  with_any,
}
use Rattle.archive_input.proofs.Outcomes.{by_bool}
use Rattle.archive_input.proofs.Stepped.{
  clean_of,
  free_of,
  shut_lost,
  steps_failing,
  steps_looked,
  steps_refused,
}
use Rattle.archive_input.proofs.serving.serve_looked.Goals as goal

pub returns-in-Ok-Some-clause-served : goal.returns-in-Ok-Some-clause-served
returns-in-Ok-Some-clause-served g c =
    let row = fields_of c.args.row.now in
    let old = c.args.archive.now in
    let mid = c.look_up.new.archive in
    let new = c.serve_numbered-served.new.archive in
    let r = c.args.request in
    let found = c.in-Ok-Some.ensures in
    let sure = sym found.lost in
    let free = free_of g.S.Store old mid c.requires.takes sure found.aside in
    let looks = λ (clean : HasCleanDisk (state g.S.Store mid.conn)). (found.looked clean).0 in
    let own = fields_of c.in-Ok-Some.own in
    let is = ap (λ (o : Option Record). option_map fields_of o) c.in-Ok-Some.field-0-is in
    let form = subst (IsNumbered row) is found.form in
    IfOk-weaker c.serve_numbered-served.result _ _ (λ refused h. (
      h.0,
      (
        Some own,
        form,
        served_with (Some own) row h.0 (served_own row r c.requires.asks own h.0 c.requires.refers h.1),
      ),
      (λ clean _ society k rows settled keeps _.
          subst (λ (o : Option Row). IsServedBy o row h.0)
          (sym is ∙ ((found.looked (clean_of g.S.Store mid new h.0 free h.2 clean)).1 rows k settled (seen_of keeps)).0)
          (served_own row r c.requires.asks own h.0 c.requires.refers h.1)),
      steps_looked g.S.Store row old mid c.requires.refers c.requires.takes looks new h.0 sure free h.2,
      h.3,
      h.4,
      h.5,
    )) c.serve_numbered-served.ensures.served

pub returns-in-Ok-Some-clause-ended : goal.returns-in-Ok-Some-clause-ended
returns-in-Ok-Some-clause-ended g c =
    let row = fields_of c.args.row.now in
    let old = c.args.archive.now in
    let mid = c.look_up.new.archive in
    let new = c.serve_numbered-served.new.archive in
    let r = c.args.request in
    let found = c.in-Ok-Some.ensures in
    let sure = sym found.lost in
    let free = free_of g.S.Store old mid c.requires.takes sure found.aside in
    let looks = λ (clean : HasCleanDisk (state g.S.Store mid.conn)). (found.looked clean).0 in
    let own = fields_of c.in-Ok-Some.own in
    let is = ap (λ (o : Option Record). option_map fields_of o) c.in-Ok-Some.field-0-is in
    let form = subst (IsNumbered row) is found.form in
    IfErr-weaker c.serve_numbered-served.result _ _ (λ kind h. (
      h.0,
      (
        Some own,
        form,
        served_with (Some own) row h.0 (served_own row r c.requires.asks own h.0 c.requires.refers h.1),
      ),
      (λ clean _ society k rows settled keeps _.
          subst (λ (o : Option Row). IsServedBy o row h.0)
          (sym is ∙ ((found.looked (clean_of g.S.Store mid new h.0 free h.2 clean)).1 rows k settled (seen_of keeps)).0)
          (served_own row r c.requires.asks own h.0 c.requires.refers h.1)),
      steps_looked g.S.Store row old mid c.requires.refers c.requires.takes looks new h.0 sure free h.2,
      h.3,
    )) c.serve_numbered-served.ensures.ended

pub returns-in-Ok-None-clause-served : goal.returns-in-Ok-None-clause-served
returns-in-Ok-None-clause-served g c =
    let row = fields_of c.args.row.now in
    let old = c.args.archive.now in
    let mid = c.look_up.new.archive in
    let r = c.args.request in
    let found = c.in-Ok-None.ensures in
    let sure = sym found.lost in
    let free = free_of g.S.Store old mid c.requires.takes sure found.aside in
    let looks = λ (clean : HasCleanDisk (state g.S.Store mid.conn)). (found.looked clean).0 in
    let is = ap (λ (o : Option Record). option_map fields_of o) c.in-Ok-None.field-0-is in
    let form = subst (IsNumbered row) is found.form in
    let s : Served = Err (refused_under r.token NoSuch) in
    IfOk-weaker c.answer_under.result _ _ (λ refused h. (
      s,
      (None, form, served_with None row s (served_missing row r c.requires.asks)),
      (λ clean _ society k rows settled keeps _.
          subst (λ (o : Option Row). IsServedBy o row s)
          (sym is ∙ ((found.looked clean).1 rows k settled (seen_of keeps)).0)
          (served_missing row r c.requires.asks)),
      steps_refused g.S.Store row old mid c.requires.refers c.requires.takes looks (refused_under r.token NoSuch) sure
          free,
      refl,
      h.0,
      h.1,
    )) c.answer_under.ensures.served

pub returns-in-Ok-None-clause-ended : goal.returns-in-Ok-None-clause-ended
returns-in-Ok-None-clause-ended g c =
    let row = fields_of c.args.row.now in
    let old = c.args.archive.now in
    let mid = c.look_up.new.archive in
    let r = c.args.request in
    let found = c.in-Ok-None.ensures in
    let sure = sym found.lost in
    let free = free_of g.S.Store old mid c.requires.takes sure found.aside in
    let looks = λ (clean : HasCleanDisk (state g.S.Store mid.conn)). (found.looked clean).0 in
    let is = ap (λ (o : Option Record). option_map fields_of o) c.in-Ok-None.field-0-is in
    let form = subst (IsNumbered row) is found.form in
    let s : Served = Err (refused_under r.token NoSuch) in
    IfErr-weaker c.answer_under.result _ _ (λ kind h. (
      s,
      (None, form, served_with None row s (served_missing row r c.requires.asks)),
      (λ clean _ society k rows settled keeps _.
          subst (λ (o : Option Row). IsServedBy o row s)
          (sym is ∙ ((found.looked clean).1 rows k settled (seen_of keeps)).0)
          (served_missing row r c.requires.asks)),
      steps_refused g.S.Store row old mid c.requires.refers c.requires.takes looks (refused_under r.token NoSuch) sure
          free,
      h,
    )) c.answer_under.ensures.ended

pub returns-in-Err-clause-served : goal.returns-in-Err-clause-served
returns-in-Err-clause-served g c =
    let row = fields_of c.args.row.now in
    let old = c.args.archive.now in
    let mid = c.look_up.new.archive in
    let r = c.args.request in
    let kind = c.in-Err.kind in
    let found = c.in-Err.ensures in
    let looks = λ (clean : HasCleanDisk (state g.S.Store mid.conn)). (found.looked clean).0 in
    let s : Served = Err (refused_under r.token kind) in
    IfOk-weaker c.answer_unread.result _ _ (λ refused h.
    let sure = sym found.lost ∙ h.0 in
    let free = free_of g.S.Store old mid c.requires.takes sure found.aside in
    let is = λ (o : Option Row). served_unread row r c.requires.asks o kind c.requires.refers (found.stops h.0) in (
      s,
      unread_any row s (is (numbered any_number row)),
      (λ clean _ society k rows settled keeps _.
          served_wanting row r c.requires.asks (numbered (kept_number k) row) kind c.requires.refers
          (((found.looked clean).1 rows k settled (seen_of keeps)).1 h.0)),
      steps_refused g.S.Store row old mid c.requires.refers c.requires.takes looks (refused_under r.token kind) sure
          free,
      refl,
      h.1,
      h.2,
    )) c.answer_unread.ensures.served

pub returns-in-Err-clause-ended : goal.returns-in-Err-clause-ended
returns-in-Err-clause-ended g c =
    let row = fields_of c.args.row.now in
    let old = c.args.archive.now in
    let mid = c.look_up.new.archive in
    let r = c.args.request in
    let kind = c.in-Err.kind in
    let found = c.in-Err.ensures in
    let looks = λ (clean : HasCleanDisk (state g.S.Store mid.conn)). (found.looked clean).0 in
    let s : Served = Err (refused_under r.token kind) in
    IfErr-weaker c.answer_unread.result _ _ (λ e h. by_bool (is_storage kind) h
    (λ failed a. (
      Ok (r, failing),
      with_any row (Ok (r, failing)) (form_ok row r c.requires.asks (r, failing) refl),
      (λ clean _ society k rows settled keeps sure. absurd (true≢false sure)),
      steps_failing g.S.Store row old mid c.requires.refers c.requires.takes looks r
          (shut_lost g.S.Store mid (sym found.lost ∙ failed)),
      a,
    ))
    (λ sound w.
    let sure = sym found.lost ∙ sound in
    let free = free_of g.S.Store old mid c.requires.takes sure found.aside in
    let is = λ (o : Option Row). served_unread row r c.requires.asks o kind c.requires.refers (found.stops sound) in (
      s,
      unread_any row s (is (numbered any_number row)),
      (λ clean _ society k rows settled keeps _.
          served_wanting row r c.requires.asks (numbered (kept_number k) row) kind c.requires.refers
          (((found.looked clean).1 rows k settled (seen_of keeps)).1 sound)),
      steps_refused g.S.Store row old mid c.requires.refers c.requires.takes looks (refused_under r.token kind) sure
          free,
      w,
    ))) c.answer_unread.ensures.ended

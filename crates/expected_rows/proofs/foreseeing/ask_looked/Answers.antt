use Rattle.std.proofs.Common.{◌≡◌, ◌∙◌, Err, None, Some, ap, false, inl, refl, subst, sym}
use Rattle.std.specs.Prelude.{Option, not, option_map}
use Rattle.std.proofs.lemmas.Result.{IfErr-weaker, IfOk-weaker}
use Rattle.csv.specs.Records.{Row as Record, fields_of}
use Rattle.record_text.specs.declared.refusal.RefusalKind.{RefusalKind}
use Rattle.record_text.specs.declared.refusal.RefusalKind.TheVariants.{NoSuch}
use Rattle.request_csv.specs.Input.{Row}
use Rattle.row_references.specs.References.{IsNumbered, any_number, kept_number, numbered}
use Rattle.sqlite.specs.Held.{state}
use Rattle.sqlite.specs.State.{HasCleanDisk}
use Rattle.store.proofs.Viewed.{seen_of}
use Rattle.store.specs.Histories.{Outcome, is_storage}
use Rattle.archive_input.specs.Answers.{Served}
use Rattle.archive_input.specs.Applying.{IsServedBy}
use Rattle.archive_input.specs.Requests.{Asked, Asks, OrWants, refused_under}
use Rattle.archive_input.proofs.Asked.{
  served_missing,
  served_own,
  served_unread,
  served_wanting,
  served_with,
  unread_any,
}
use Rattle.archive_input.proofs.Stepped.{free_of, steps_refused}
use Rattle.expected_rows.specs.Meeting.{AsksOf, EndsAsking, as_served}
use Rattle.expected_rows.proofs.Asking.{read_known, read_own, unread_ends}
use Rattle.expected_rows.proofs.Looked.{looks_only}
use Rattle.expected_rows.proofs.foreseeing.ask_looked.Goals as goal

pub returns-in-Ok-Some-clause-asks : goal.returns-in-Ok-Some-clause-asks
returns-in-Ok-Some-clause-asks g c =
    let row = fields_of c.args.row.now in
    let old = c.args.archive.now in
    let mid = c.look_up.new.archive in
    let r = c.args.request in
    let found = c.in-Ok-Some.ensures in
    let sure = sym found.lost in
    let free = free_of g.S.Store old mid c.requires.takes sure found.aside in
    let looks = λ (clean : HasCleanDisk (state g.S.Store mid.conn)). (found.looked clean).0 in
    let own = fields_of c.in-Ok-Some.own in
    let is = ap (λ (o : Option Record). option_map fields_of o) c.in-Ok-Some.field-0-is in
    let form = subst (IsNumbered row) is found.form in
    let read = c.read_request-read.result in
    let served = λ (asked : Asked) (same : asked ≡ read) (o : Outcome).
    served_own row r c.requires.asks own (as_served asked o) c.requires.refers
    (read_own own asked (subst (λ (a : Asked). OrWants a (Asks own)) (sym same) c.read_request-read.ensures) o) in
    IfOk-weaker c.unless_wanted.result _ _ (λ asked h. record {
      is = λ o. (
        Some own,
        form,
        served_with (Some own) row (as_served asked o) (served asked h.0 o),
      );
      within = λ o clean _ society k rows settled keeps _.
          subst (λ (n : Option Row). IsServedBy n row (as_served asked o))
          (sym is ∙ ((found.looked clean).1 rows k settled (seen_of keeps)).0) (served asked h.0 o);
      known = read_known asked read h.0 h.1;
      looked = steps_refused g.S.Store row old mid c.requires.refers c.requires.takes looks
          (refused_under r.token NoSuch) sure free;
    }) c.unless_wanted.ensures.same

pub returns-in-Ok-Some-clause-ended : goal.returns-in-Ok-Some-clause-ended
returns-in-Ok-Some-clause-ended g c =
    let old = c.args.archive.now in
    let mid = c.look_up.new.archive in
    let found = c.in-Ok-Some.ensures in
    let sure = sym found.lost in
    let free = free_of g.S.Store old mid c.requires.takes sure found.aside in
    let looks = λ (clean : HasCleanDisk (state g.S.Store mid.conn)). (found.looked clean).0 in
    IfErr-weaker c.unless_wanted.result _ _
    (λ kind h. inl (h.0, looks_only g.S.Store old mid c.requires.takes free sure looks)) c.unless_wanted.ensures.wanted

pub returns-in-Ok-None-clause-asks : goal.returns-in-Ok-None-clause-asks
returns-in-Ok-None-clause-asks g c =
    let row = fields_of c.args.row.now in
    let old = c.args.archive.now in
    let mid = c.look_up.new.archive in
    let r = c.args.request in
    let found = c.in-Ok-None.ensures in
    let sure = sym found.lost in
    let free = free_of g.S.Store old mid c.requires.takes sure found.aside in
    let looks = λ (clean : HasCleanDisk (state g.S.Store mid.conn)). (found.looked clean).0 in
    let is = ap (λ (o : Option Record). option_map fields_of o) c.in-Ok-None.field-0-is in
    let form = subst (IsNumbered row) is found.form in
    let s : Served = Err (refused_under r.token NoSuch) in
    rw c.refused_as.ensures (record {
      is = λ o. (None, form, served_with None row s (served_missing row r c.requires.asks));
      within = λ o clean _ society k rows settled keeps _.
          subst (λ (n : Option Row). IsServedBy n row s)
          (sym is ∙ ((found.looked clean).1 rows k settled (seen_of keeps)).0)
          (served_missing row r c.requires.asks);
      known = refl;
      looked = steps_refused g.S.Store row old mid c.requires.refers c.requires.takes looks
          (refused_under r.token NoSuch) sure free;
    })

pub returns-in-Err-clause-asks : goal.returns-in-Err-clause-asks
returns-in-Err-clause-asks g c =
    let row = fields_of c.args.row.now in
    let old = c.args.archive.now in
    let mid = c.look_up.new.archive in
    let r = c.args.request in
    let kind = c.in-Err.kind in
    let found = c.in-Err.ensures in
    let looks = λ (clean : HasCleanDisk (state g.S.Store mid.conn)). (found.looked clean).0 in
    let is = λ (sound : is_storage kind ≡ false) (o : Option Row).
    served_unread row r c.requires.asks o kind c.requires.refers (found.stops sound) in
    let s : Served = Err (refused_under r.token kind) in
    IfOk-weaker c.refused_unread.result _ _ (λ asked h. subst (λ (a : Asked). AsksOf g.S.Store row a old mid) (sym h.0)
    (record {
      is = λ o. unread_any row s (is h.1 (numbered any_number row));
      within = λ o clean _ society k rows settled keeps _. served_wanting row r c.requires.asks
          (numbered (kept_number k) row) kind c.requires.refers
          (((found.looked clean).1 rows k settled (seen_of keeps)).1 h.1);
      known = ap not h.2;
      looked = steps_refused g.S.Store row old mid c.requires.refers c.requires.takes looks
          (refused_under r.token kind) (sym found.lost ∙ h.1)
          (free_of g.S.Store old mid c.requires.takes (sym found.lost ∙ h.1) found.aside);
    })) c.refused_unread.ensures.refused

pub returns-in-Err-clause-ended : goal.returns-in-Err-clause-ended
returns-in-Err-clause-ended g c =
    let row = fields_of c.args.row.now in
    let old = c.args.archive.now in
    let mid = c.look_up.new.archive in
    let found = c.in-Err.ensures in
    let looks = λ (clean : HasCleanDisk (state g.S.Store mid.conn)). (found.looked clean).0 in
    IfErr-weaker c.refused_unread.result _ _ (λ e h. subst (λ (k : RefusalKind). EndsAsking g.S.Store row old mid k)
    (sym h.0) (unread_ends g.S.Store row old mid c.args.request c.requires.refers c.requires.asks c.requires.takes looks
    c.in-Err.kind found.lost found.aside h.1)) c.refused_unread.ensures.ended

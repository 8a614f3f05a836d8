use Rattle.std.proofs.Common.{sym, subst, false, ◌∙◌}
use Rattle.std.specs.Prelude.{IfOk, MatchOption}
use Rattle.record_shapes.specs.Lists.{Ascends}
use Rattle.sound_records.specs.Knowing.{HasAll}
use Rattle.sound_records.specs.Parts.{AreWhole, IsBreach}
use Rattle.archive_state.proofs.MapKeys.{keys_ascend}
use Rattle.audit.proofs.Whole.{has_all}
use Rattle.audit.proofs.searching.broken_record.Goals as goal

pub returns : goal.returns
returns c =
    let m = c.args.state.now.records in
    let same = sym (c.as_slice.ensures.value ∙ c.in_ok-numbers.ensures) in
    let rise : Ascends c.as_slice.result.now = subst Ascends same (keys_ascend m) in
    let all : HasAll c.as_slice.result.now m = subst (λ ns. HasAll ns m) same (has_all c.args.state.now) in
    subst (λ x. IfOk c.first_breach.result (λ o. MatchOption o (AreWhole x false m) (IsBreach x false m)))
    c.next.ensures (c.first_breach.ensures rise all)

use Rattle.std.proofs.Common.{subst}
use Rattle.std.specs.Prelude.{MatchOption}
use Rattle.sound_records.specs.Knowing.{AreWithin, IsTooLong, KnowsPaths}
use Rattle.sound_records.specs.Keys.{AreApart, HasTaken}
use Rattle.sound_records.specs.Parts.{AllKeep, IsBreach}
use Rattle.sound_records.proofs.Whole.{whole}
use Rattle.sound_records.proofs.searching.first_breach.Goals as goal

pub returns-in-Some-3 : goal.returns-in-Some-3
returns-in-Some-3 c = λ asc all. subst (λ o. MatchOption o (AreApart c.args.state.now.records)
    (HasTaken c.args.state.now.records)) c.in-Some-3.is (c.in_ok-number.ensures asc all)

pub returns : goal.returns
returns c = λ asc all.
    let m = c.args.state.now.records in
    let paths = c.in_ok-survey.survey.paths in
    let known = subst (λ o. MatchOption o (KnowsPaths m paths × AreWithin m) (IsTooLong m)) c.in_default.is
    (c.in_ok-survey.ensures asc all) in
    let keep = subst (λ o. MatchOption o (AllKeep c.args.next c.args.may_miss m c.args.numbers.now)
    (IsBreach c.args.next c.args.may_miss m)) c.in_default-2.is (c.in_ok-breach.ensures known.0) in
    let apart = subst (λ o. MatchOption o (AreApart m) (HasTaken m)) c.in-None.is (c.in_ok-number.ensures asc all) in
    whole c.args.next c.args.may_miss m c.args.numbers.now all known.1 keep apart

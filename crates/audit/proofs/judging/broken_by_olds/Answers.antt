use Rattle.std.proofs.Common.{subst, true}
use Rattle.std.specs.Prelude.{MatchOption}
use Rattle.sound_records.specs.Parts.{AreWhole, IsBreach}
use Rattle.audit.specs.Parts.{BreaksPersons, KeepsPersons}
use Rattle.audit.proofs.judging.broken_by_olds.Goals as goal

pub returns-in-Some-2 : goal.returns-in-Some-2
returns-in-Some-2 c = λ asc all. subst (λ o. MatchOption o (AreWhole c.args.next true c.args.olds.now.records)
    (IsBreach c.args.next true c.args.olds.now.records)) c.in-Some-2.is (c.in_ok-breach.ensures asc all)

pub returns-in-None : goal.returns-in-None
returns-in-None c = λ asc all.
    let m = c.args.olds.now.records in
    record {
      persons = subst (λ o. MatchOption o (KeepsPersons m c.args.keep c.args.gone)
          (BreaksPersons m c.args.keep c.args.gone)) c.in_default.is (c.broken_by_persons.ensures all);
      merges = c.in_ok-are_merges.ensures.0 c.if-not-branch.false;
      whole = subst (λ o. MatchOption o (AreWhole c.args.next true m) (IsBreach c.args.next true m)) c.in-None.is
          (c.in_ok-breach.ensures asc all);
    }

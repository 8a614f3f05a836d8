use Rattle.std.proofs.Common.{ap, filter, ◌∙◌}
use Rattle.staged_rows.specs.Removing.{is_from}
use Rattle.staging.proofs.Owned.{filter_alike}
use Rattle.staging.proofs.finding.links_of.Goals as goal

pub returns-clause-looks : goal.returns-clause-looks
returns-clause-looks g c =
    let looks = c.in_ok-all.ensures.looks in
    record {
      read = λ clean rows was.
          c.in_ok-links_among.ensures
          ∙ filter_alike c.args.numbers.now c.in_ok-numbers.numbers c.in_ok-numbers.ensures c.in_ok-all.all.items
          ∙ ap (filter (is_from c.args.numbers.now)) (looks.read clean rows was);
      same = looks.same;
      refused = λ clean. tt;
      crash = looks.crash;
      clean = looks.clean;
    }

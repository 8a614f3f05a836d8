use Rattle.std.proofs.Common.{refl}
use Rattle.past_values.proofs.reading.with_answers.Goals as goal

pub returns-in-Ok-clause-looks : goal.returns-in-Ok-clause-looks
returns-in-Ok-clause-looks g c =
    let looks = c.in-Ok.ensures.looks in
    record {
      read = λ clean rows was. (refl, looks.read clean rows was);
      same = looks.same;
      refused = looks.refused;
      crash = looks.crash;
      clean = looks.clean;
    }

pub returns-in-Err-clause-looks : goal.returns-in-Err-clause-looks
returns-in-Err-clause-looks g c =
    let looks = c.in-Err.ensures.looks in
    record {
      read = λ clean. tt;
      same = λ clean. tt;
      refused = looks.refused;
      crash = looks.crash;
      clean = looks.clean;
    }

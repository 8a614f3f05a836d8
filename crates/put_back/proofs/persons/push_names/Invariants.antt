use Rattle.std.proofs.Common.{◌≡◌, ◌++◌, drop}
use Rattle.put_back.specs.Persons.{names_back}
use Rattle.put_back.proofs.persons.push_names.Given as goal

abbrev pub invariant-each : goal.invariant-each
invariant-each l = l.out.items ++ names_back l.number l.place (drop l.place l.old) l.now
    ≡ l.fn.out.items ++ names_back l.number 0 l.old l.now

use Rattle.std.proofs.Common.{◌≡◌, inl, inr, rules, true}
use Rattle.store.specs.Shut.{is_shut}
use Rattle.archive_tables.proofs.row_batches.enter_rows.Goals as goal

pub returns-then-is_shut : goal.returns-then-is_shut
returns-then-is_shut g c = λ input all.
    let shut : is_shut c.args.archive.now ≡ true = search rules in
    inr (shut, λ n. c.enter_shut.ensures n input)

pub returns : goal.returns
returns g c = λ input all. inl (c.enter_open.ensures input all)

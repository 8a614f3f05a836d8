use Rattle.std.proofs.Common.{rules, ◌≡◌, Err, List, Option, Some, codes, subst, sym, true}
use Rattle.clap.specs.Words.{Row, Text, found_of, rows_of}
use Rattle.command_line.specs.Asking.{is_form_fit, is_table}
use Rattle.command_line.specs.Meanings.{is_number}
use Rattle.command_line.proofs.Fitting.{form_fits, source_fits}
use Rattle.command_line.proofs.entering.entries_asked.Goals as goal

pub returns-in_err-source-clause-taken : goal.returns-in_err-source-clause-taken
returns-in_err-source-clause-taken c = λ fit.
    let found : Option (Text × List Row) = Some (codes "entries", rows_of (found_of c.args.given.now)) in
    let given = subst (λ (word : Text). is_number word ≡ true) (sym c.word_of-3.ensures) (source_fits found fit) in
    let same : c.from_residual.result ≡ Err c.in_err-source.field-0.0 = search rules in
    rw same (c.in_err-source.ensures.taken given)

pub returns-in_err-form-clause-taken : goal.returns-in_err-form-clause-taken
returns-in_err-form-clause-taken c = λ fit.
    let found : Option (Text × List Row) = Some (codes "entries", rows_of (found_of c.args.given.now)) in
    let table : is_table found ≡ true = search rules in
    let form : is_form_fit found ≡ true = form_fits found table fit in
    let same : c.from_residual-in_err-form.result ≡ Err c.in_err-form.field-0.0 = search rules in
    rw same (c.in_err-form.ensures.taken form)

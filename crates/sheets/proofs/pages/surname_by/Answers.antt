use Rattle.std.proofs.Common.{ap, string_bytes}
use Rattle.archive_state.specs.Content.{Content}
use Rattle.record_text.specs.Naming.{key_of}
use Rattle.sheets.proofs.Called.{page_is}
use Rattle.sheets.proofs.pages.surname_by.Goals as goal

pub returns : goal.returns
returns c = λ called. page_is c.args.shown.now.records c.as_state.result.now.records c.args.surnames.now
    (key_of c.args.of.now) c.in_ok-numbers.numbers.now (string_bytes c.new-out.result) _
    (ap (λ (x : Content). x.records) c.as_state.ensures) called c.in_ok-numbers.ensures c.new-out.ensures.bytes
    c.in_ok-push_persons.ensures

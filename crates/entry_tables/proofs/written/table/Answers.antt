use Rattle.std.proofs.Common.{ℕ, List, ◌∙◌, ap}
use Rattle.std.proofs.lemmas.Result.{IfOk-weaker}
use Rattle.record_fields.specs.declared.entry_words.Role.{Role}
use Rattle.entry_tables.specs.Tables as tables
use Rattle.entry_tables.proofs.written.table.Goals as goal

pub returns : goal.returns
returns c = IfOk-weaker c.rows.result _ _
    (λ bytes e. e ∙ ap (λ (ws : List (Role × ℕ)). tables.rows ws c.args.entries.now)
    (c.deref.ensures.value ∙ c.in_ok-widths.ensures)) c.rows.ensures

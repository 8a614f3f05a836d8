use Rattle.std.proofs.Common.{sym, ◌∙◌, length}
use Rattle.gedcom_line.proofs.Counts.{window_short, few_bytes}
use Rattle.gedcom_line.proofs.Fronts.{all_chars}
use Rattle.gedcom_line.proofs.Steps.{eqb_false}
use Rattle.gedcom_line.proofs.splitting.is_short.Goals as goal

pub returns-else-window-text : goal.returns-else-window-text
returns-else-window-text c = eqb_false c.window.result (length c.args.text.now) (λ e. c.if-window-text.false e)
    ∙ sym (window_short c.args.text.now (λ e. c.if-window-text.false (c.window.ensures ∙ e)))

pub written_count-requires : goal.written_count-requires
written_count-requires c = all_chars 200 c.args.text.now (sym c.window.ensures ∙ c.if-window-text.true)

pub returns-then-text : goal.returns-then-text
returns-then-text c = few_bytes c.args.text.now c.if-text.true

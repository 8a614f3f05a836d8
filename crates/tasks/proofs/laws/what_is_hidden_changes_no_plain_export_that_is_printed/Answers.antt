use Rattle.std.proofs.Common.{◌∙◌, ap, List, subst, sym}
use Rattle.std.specs.Io.KnownBytes.{Appends}
use Rattle.gedcom_export.specs.Forest.{exported}
use Rattle.gedcom_tree.specs.Forest.{Item}
use Rattle.gedcom_tree.specs.Text.{text}
use Rattle.plain_reports.specs.Texts.{left_out_text}
use Rattle.tasks.proofs.laws.what_is_hidden_changes_no_plain_export_that_is_printed.Goals as goal

pub returns : goal.returns
returns c = λ a b today society x y v w left_out more differ (s, shown, ((p, plain, whole), left))
    (t, other, ((q, also_plain, also), rest)).
    let same = c.what_is_hidden_changes_no_plain_export.ensures a b today s t p q society differ.first differ.second
    differ.alike shown.masked other.masked plain also_plain in
    let records = c.what_is_hidden_changes_nothing.ensures a b today s t differ.first differ.second differ.alike
    shown.masked other.masked in (
      (
        text (exported p society),
        whole.written,
        subst (λ (f : List Item). Appends v w (text f)) (sym same) also.written,
      ),
      left ∙ (ap left_out_text records ∙ sym rest),
    )

use Rattle.std.proofs.Common.{inl, inr, sym, subst}
use Rattle.std.specs.Io.KnownBytes.{Appends}
use Rattle.archive_state.specs.Content.{Records}
use Rattle.gedcom_export.specs.Forest.{exported}
use Rattle.gedcom_tree.specs.Text.{text}
use Rattle.archive_output.specs.Writing.{IsCut}
use Rattle.tasks.proofs.Publishing.{both_cut, whole_and_cut}
use Rattle.tasks.proofs.laws.what_is_hidden_changes_no_export_that_is_printed.Goals as goal

pub returns : goal.returns
returns c =
    let same = c.what_is_hidden_changes_nothing.ensures in
    record {
      printed = λ a b today society x y v w differ (s, shown, whole) (t, other, also).
          let alike = same a b today s t differ.first differ.second differ.alike shown.masked other.masked in (
            text (exported s.records society),
            whole.written,
            subst (λ (m : Records). Appends v w (text (exported m society))) (sym alike) also.written,
          );
      cut = λ a b today society x y v w kind differ (s, shown, whole) part. elim part [
        | inl unread ↦ inl unread.0
        | inr (t, other, cut) ↦
            let alike = same a b today s t differ.first differ.second differ.alike shown.masked other.masked in
            whole_and_cut (text (exported s.records society)) x y v w kind whole
            (subst (λ (m : Records). IsCut kind v w (text (exported m society))) (sym alike) cut)
      ];
      refused = λ a b today society x y v w kind other_kind differ first second. elim first [
        | inl unread ↦ inr (inl (inl unread.0))
        | inr (s, shown, part) ↦ elim second [
          | inl unread ↦ inr (inr (inl unread.0))
          | inr (t, other, cut) ↦ both_cut _ _ x y v w kind other_kind part cut
        ]
      ];
    }

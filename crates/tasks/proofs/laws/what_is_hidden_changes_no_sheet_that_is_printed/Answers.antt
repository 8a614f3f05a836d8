use Rattle.std.proofs.Common.{inl, inr, sym, subst}
use Rattle.archive_state.specs.Content.{Records}
use Rattle.archive_output.specs.Sheets.{sheet_text}
use Rattle.archive_output.specs.Writing.{GotNoText, GotText}
use Rattle.tasks.proofs.Hiding.{both_got, none_got, one_got}
use Rattle.tasks.proofs.laws.what_is_hidden_changes_no_sheet_that_is_printed.Goals as goal

pub returns : goal.returns
returns c =
    let same = c.what_is_hidden_changes_nothing.ensures in
    record {
      printed = λ a b today sheet x y v w differ (s, shown, got) (t, other, also).
          let alike = same a b today s t differ.first differ.second differ.alike shown.masked other.masked in
          both_got (sheet_text s.records sheet) x y v w got
          (subst (λ (m : Records). GotText v w (sheet_text m sheet)) (sym alike) also);
      cut = λ a b today sheet x y v w kind differ (s, shown, got) none. elim none [
        | inl unread ↦ inl unread.0
        | inr (t, other, also) ↦
            let alike = same a b today s t differ.first differ.second differ.alike shown.masked other.masked in
            one_got (sheet_text s.records sheet) x y v w kind got
            (subst (λ (m : Records). GotNoText kind v w (sheet_text m sheet)) (sym alike) also)
      ];
      refused = λ a b today sheet x y v w kind other_kind differ first second. elim first [
        | inl unread ↦ inr (inl (inl unread.0))
        | inr (s, shown, none) ↦ elim second [
          | inl unread ↦ inr (inr (inl unread.0))
          | inr (t, other, also) ↦
              let alike = same a b today s t differ.first differ.second differ.alike shown.masked other.masked in
              none_got (sheet_text s.records sheet) x y v w kind other_kind none
              (subst (λ (m : Records). GotNoText other_kind v w (sheet_text m sheet)) (sym alike) also)
        ]
      ];
    }

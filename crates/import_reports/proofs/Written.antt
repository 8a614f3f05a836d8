-- How the writing of what was foreseen ends.
use Rattle.std.proofs.Common.{ℕ, List, true, false, Ok, Err, inr, subst}
use Rattle.std.specs.Prelude.{Option, None, Some}
use Rattle.std.specs.Io.KnownBytes.{Appends}
use Rattle.archive_state.specs.Content.{Content}
use Rattle.gedcom_tree.specs.Forest.{Item}
use Rattle.import_reports.specs.Reports.{IsForeseen}
use Rattle.import_reports.specs.Writing.{EndsReport, EndsText, IsCut, Written}

module _ (before after : Option (List ℕ)) (token : List ℕ) (f : List Item) (c : Content) where
  pub report_ends : (r : Written) (text : Option (List ℕ)) → EndsText r before after text → IsForeseen c token f text
      → EndsReport r before after token f c
  report_ends (Ok true) (Some text) ends is = (is.0, subst (Appends before after) is.1 ends)
  report_ends (Ok true) None ends is = absurd ends
  report_ends (Ok false) (Some text) ends is = absurd ends
  report_ends (Ok false) None ends is = (is, ends)
  report_ends (Err kind) (Some text) ends is = inr (is.0, subst (IsCut kind before after) is.1 ends)
  report_ends (Err kind) None ends is = absurd ends

-- The text of an archive as a file, and a beginning of it. Rules of our own.
use Rattle.std.specs.Prelude.{◌≢◌, ℕ, List, Option}
use Rattle.archive_state.specs.Content.{Content}
use Rattle.gedcom_export.specs.Forest.{exported}
use Rattle.gedcom_export.specs.Ends.{IsBegun}
use Rattle.gedcom_tree.specs.Text.{text}
use Rattle.record_text.specs.declared.refusal.RefusalKind.{RefusalKind}
use Rattle.record_text.specs.declared.refusal.RefusalKind.TheVariants.{BadStored}

-- the text of a society's archive as a file
abbrev pub export_text : List ℕ → Content → List ℕ
export_text society c = text (exported c.records society)

-- a beginning of a text was written, for a reason that may stop an export; not 40, since an archive can be read
abbrev pub IsPart : RefusalKind → Option (List ℕ) → Option (List ℕ) → List ℕ → Type 0
IsPart kind before after bytes = IsBegun before after bytes kind × (kind ≢ BadStored)

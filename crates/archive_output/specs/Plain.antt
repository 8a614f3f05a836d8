-- How the writing of the plain archive of an archive ends. Rules of our own.
use Rattle.std.specs.Prelude.{◌≡◌, ◌⊎◌, ℕ, ℤ, false, List, Option}
use Rattle.archive_state.specs.Content.{Content, Records}
use Rattle.archive_state.specs.Looks.{is_failure}
use Rattle.gedcom_export.specs.Ends.{IsWhole}
use Rattle.gedcom_export.specs.Forest.{exported}
use Rattle.gedcom_tree.specs.Text.{text}
use Rattle.plain_export.specs.Fitting.{IsPlainBegun}
use Rattle.plain_export.specs.Plain.{IsPlain}
use Rattle.plain_reports.specs.Texts.{left_out_text}
use Rattle.record_text.specs.declared.refusal.RefusalKind.{RefusalKind}
use Rattle.archive_output.specs.Showing.{OnShown}
use Rattle.archive_output.specs.Writing.{IsNotBegun}

-- P of the text of the plain archive of a society's archive as a file
abbrev pub OnPlain : List ℕ → (List ℕ → Type 0) → Content → Type 0
OnPlain society P c = (plain : Records) × IsPlain c.records plain × P (text (exported plain society))

-- it was written, and these are the lines of what it leaves out
abbrev pub IsPlainWhole : Option (List ℕ) → Option (List ℕ) → List ℕ → List ℕ → Content → Type 0
IsPlainWhole before after left_out society c =
    OnPlain society (IsWhole before after) c × (left_out ≡ left_out_text c.records)

-- a prefix of it was, for a reason that stops a plain export: memory was refused, the writer failed, or, at 70, the
-- text has more than 67,108,864 bytes or the plain archive cannot be made. The archive was read before, so it is
-- neither 40 nor 80
abbrev pub IsPlainCut : RefusalKind → Option (List ℕ) → Option (List ℕ) → List ℕ → Content → Type 0
IsPlainCut kind before after society c = (is_failure kind ≡ false)
    × OnPlain society (λ bytes. IsPlainBegun before after c.records bytes kind) c

-- the same, or memory was refused or the database failed before anything was written
abbrev pub IsPlainPart : RefusalKind → Option (List ℕ) → Option (List ℕ) → List ℕ → Content → Type 0
IsPlainPart kind before after society c = IsNotBegun kind before after ⊎ IsPlainCut kind before after society c

-- ---- of what is shown on a day
abbrev pub IsPlainPublished : Option (List ℕ) → Option (List ℕ) → List ℕ → ℤ → List ℕ → Content → Type 0
IsPlainPublished before after left_out today society c = OnShown c today (IsPlainWhole before after left_out society)

abbrev pub IsPartPlainPublished : RefusalKind → Option (List ℕ) → Option (List ℕ) → ℤ → List ℕ → Content → Type 0
IsPartPlainPublished kind before after today society c = IsNotBegun kind before after
    ⊎ OnShown c today (IsPlainCut kind before after society)

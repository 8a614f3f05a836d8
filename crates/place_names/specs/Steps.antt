-- What a correction makes of an archive, or the refusal that it gets: what the record by itself and others say of it
-- (`field_changes`), and of a place also what its new name does to paths. Rules of our own.
use Rattle.std.specs.Prelude.{ℕ, List, not, Option, Some, None, Result, Ok, Err}
use Rattle.record_text.specs.declared.refusal.RefusalKind.{RefusalKind}
use Rattle.record_text.specs.declared.refusal.RefusalKind.TheVariants.{BadText, StillCarried}
use Rattle.record_kinds.specs.Model as model
use Rattle.record_kinds.specs.declared.record.Record.{Record}
use Rattle.record_kinds.specs.declared.record.Record.TheVariants as kind
use Rattle.archive_state.specs.Content.{Content}
use Rattle.commands.specs.Rows.{and_then}
use Rattle.command_checks.specs.Checks.{need}
use Rattle.command_checks.specs.Fits.{new_path}
use Rattle.record_changes.specs.Steps.{Step, replaced}
use Rattle.field_changes.specs.Steps.{changed, retagged}
use Rattle.commands.specs.declared.correction.GivenCorrection.{GivenCorrection}
use Rattle.commands.specs.declared.correction.GivenCorrection.TheVariants as given
use Rattle.place_names.specs.Naming.{all_may, is_read_anew}

-- ---- a place of another name
-- what the path forbids, and then what would be read otherwise
abbrev pub with_path_passes : Content → ℕ → model.Place → List ℕ → Result (Unit {0}) RefusalKind
with_path_passes c n p path =
    and_then (need (all_may 32 c n path) BadText) (λ _.
    need (not (is_read_anew c n p path)) StillCarried)

abbrev pub path_passes : Content → ℕ → model.Place → Option (List ℕ) → Result (Unit {0}) RefusalKind
path_passes c n p None = Err BadText
path_passes c n p (Some path) = with_path_passes c n p path

-- the path of the place is that of a new one of its name, within the same one
abbrev pub name_passes : Content → ℕ → model.Place → Result (Unit {0}) RefusalKind
name_passes c n p = path_passes c n p (new_path c.records p.name p.parent)

-- of other records no path changes
abbrev pub paths_pass : Content → ℕ → Record → Result (Unit {0}) RefusalKind
paths_pass c n (kind.Place p) = name_passes c n p
paths_pass c n _ = Ok tt

-- ---- corrections
abbrev pub corrected_record : Content → ℕ → GivenCorrection → Result Record RefusalKind
corrected_record c n (given.Tag words) = retagged c n words
corrected_record c n (given.Value v) = changed c n v

abbrev pub correct : Content → ℕ → GivenCorrection → Step
correct c n x =
    and_then (corrected_record c n x) (λ r.
    and_then (paths_pass c n r) (λ _.
    Ok (replaced c n r)))

-- What holds of a correction of an archive.
use Rattle.std.specs.Prelude.{ℕ, ◌≡◌, IfOk, Ok, Err}
use Rattle.std.specs.Str.{IsUtf8}
use Rattle.record_text.specs.declared.refusal.RefusalKind.TheVariants.{StillCarried}
use Rattle.record_kinds.specs.declared.record.Record.{Record}
use Rattle.record_shapes.specs.Untaken.{HasUntaken}
use Rattle.archive_state.specs.Content.{Content, Records}
use Rattle.archive_state.specs.Known.{known_before, known_of}
use Rattle.archive_state.specs.Sound.{EachIn, HasOwnShape, IsSound}
use Rattle.field_changes.specs.Laws.{IsUtf8Value}
use Rattle.commands.specs.declared.correction.GivenCorrection.{GivenCorrection}
use Rattle.commands.specs.declared.correction.GivenCorrection.TheVariants as given
use Rattle.record_changes.specs.Laws.{ChangesOnly}
use Rattle.record_changes.specs.Steps.{replaced}
use Rattle.place_names.specs.Steps.{correct, corrected_record}

-- what the type of a correction keeps of its words, from what a `String` can hold
abbrev pub IsUtf8Given : GivenCorrection → Type 0
IsUtf8Given (given.Tag words) = IsUtf8 words
IsUtf8Given (given.Value v) = IsUtf8Value v

-- a sound archive stays sound
abbrev pub KeepsSound : Type 0
KeepsSound = (c : Content) (n : ℕ) (x : GivenCorrection) → IsUtf8Given x → IsSound c
    → IfOk (correct c n x) (λ done. IsSound done.0)

-- all but the record is as it was
abbrev pub LeavesAllElse : Type 0
LeavesAllElse = (c : Content) (n : ℕ) (x : GivenCorrection) → IfOk (correct c n x) (ChangesOnly c n)

-- no carried line would be read as a field, and no record of no other kind as one of another
abbrev pub IsReadAlike : Records → Type 0
IsReadAlike m = EachIn m (λ k r. HasUntaken (known_before m k) (known_of m) r) × EachIn m (λ k r. HasOwnShape m r)

-- a record that would be taken but for what is still carried is refused only if something would be read otherwise
abbrev pub RefusesOnlyIfRead : Type 0
RefusesOnlyIfRead = (c : Content) (n : ℕ) (x : GivenCorrection) (r : Record) → IsSound c → corrected_record c n x ≡ Ok r
    → correct c n x ≡ Err StillCarried → ¬ (IsReadAlike (replaced c n r).0.records)

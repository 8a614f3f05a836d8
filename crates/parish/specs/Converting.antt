-- How `convert` ends.
use Rattle.std.specs.Prelude.{◌≡◌, ◌⊎◌, ℕ, List, Option, None, Some, if◌then◌else◌, nat_lt}
use Rattle.character_sets.specs.declared.set.CharacterSet.{CharacterSet}
use Rattle.character_sets.specs.declared.set.CharacterSet.TheVariants as set
use Rattle.command_line.specs.declared.tasks.SetName.{SetName}
use Rattle.command_line.specs.declared.tasks.SetName.TheVariants as named
use Rattle.conversion_reports.specs.Hints.{hint_of}
use Rattle.conversion_reports.specs.Streams.{ConvertedAloud, NotConvertedAloud}
use Rattle.devices.specs.Devices.{Rose}
use Rattle.file_conversion.specs.declared.fault.ConversionError.{ConversionError}
use Rattle.file_conversion.specs.declared.fault.ConversionError.TheVariants as error
use Rattle.record_text.specs.declared.refusal.RefusalKind.TheVariants as kind
use Rattle.record_text.specs.declared.refusal.RefusalText.{RefusalText}
use Rattle.record_text.specs.declared.refusal.Unit.TheVariants as unit
use Rattle.std.specs.Prelude.{IfSome}
use Rattle.tasks.specs.Hints.{advice}
use Rattle.tasks.specs.Status.{IsRefused, placeless_text}

abbrev pub set_of : SetName → CharacterSet
set_of named.Utf8 = set.Utf8
set_of named.Utf16Le = set.Utf16Le
set_of named.Utf16Be = set.Utf16Be
set_of named.Windows1252 = set.Windows1252
set_of named.CodePage437 = set.CodePage437
set_of named.CodePage850 = set.CodePage850
set_of named.Macintosh = set.Macintosh
set_of named.Ansel = set.Ansel

-- a line as a refusal has it; none above the greatest number
abbrev pub line_at : ℕ → Option ℕ
line_at line = if nat_lt line 4294967296 then Some line else None

-- why a file was not converted, as it is printed
abbrev pub refusal_of : ConversionError → RefusalText
refusal_of error.OutOfMemory = placeless_text kind.OutOfMemory
refusal_of error.ReadFailed = placeless_text kind.ReadFailed
refusal_of error.WriteFailed = placeless_text kind.WriteFailed
refusal_of error.TooLarge = placeless_text kind.FileTooLarge
refusal_of (error.UnknownSet line) = record {
  refusal = record { kind = kind.Charset; at = line_at line };
  unit = unit.Line;
}

-- the hint of a set that is not known is that of the bytes
abbrev pub hint_by : ConversionError → List ℕ → List ℕ
hint_by (error.UnknownSet line) hint = hint
hint_by e hint = advice (refusal_of e).refusal.kind

-- `said` is what the faults have got, `failed` how often they failed
module _ {F : Type 0} (said : F → Option (List ℕ)) (failed : F → ℕ) where
  -- the line of the refusal is printed and then its hint, each whole but where the faults failed, by their count
  abbrev pub Refuses : ConversionError → List ℕ → F → F → Type 0
  Refuses e hint old new = IsRefused said failed (refusal_of e) (hint_by e hint) old new

  -- it was not done: what was written and reported, and why; then the refusal, with the hint of the bytes
  pub record Unconverts (asked : Option CharacterSet) (known old new : Option (List ℕ)) (faults_old faults_new : F)
      (ReadFailed WriteFailed : Type 0) : Type 0 where
    pub why : ConversionError
    pub hint : List ℕ
    pub reported : F
    pub left : NotConvertedAloud asked known old new (said faults_old) (said reported) ReadFailed WriteFailed why
    pub hint_is : IfSome known (λ bytes. hint ≡ hint_of why bytes)
    pub refuses : Refuses why hint reported faults_new

  -- it was done, with 0, or was not, with 1
  abbrev pub Converts : Option CharacterSet → Option (List ℕ) → Option (List ℕ) → Option (List ℕ) → F → F → Type 0
      → Type 0 → ℕ → Type 0
  Converts asked known old new faults_old faults_new ReadFailed WriteFailed status =
      ((status ≡ 0) × ((read_as : CharacterSet) × ConvertedAloud asked read_as known old new (said faults_old)
      (said faults_new) (Rose (failed faults_old) (failed faults_new))))
      ⊎ ((status ≡ 1) × Unconverts asked known old new faults_old faults_new ReadFailed WriteFailed)

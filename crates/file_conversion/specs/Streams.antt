-- A file that comes from a reader in its own set, and goes to a writer in UTF-8.
use Rattle.std.specs.Prelude.{◌≡◌, ◌⊎◌, ℕ, ◌<◌, ◌≤◌, List, Option, IfSome, Ok, Err, length}
use Rattle.std.specs.Io.KnownBytes.{Appends}
use Rattle.devices.specs.Devices.{AppendsBeginning}
use Rattle.character_sets.specs.declared.set.CharacterSet.{CharacterSet}
use Rattle.file_conversion.specs.declared.fault.ConversionError.{ConversionError}
use Rattle.file_conversion.specs.declared.fault.ConversionError.TheVariants.{
  OutOfMemory,
  ReadFailed,
  WriteFailed,
  TooLarge,
  UnknownSet,
}
use Rattle.file_conversion.specs.Conversion.{set_of_file, text_of_file}

-- the most bytes that are read, and that are written
abbrev pub max_read : ℕ
max_read = 134217728

abbrev pub max_written : ℕ
max_written = 67108864

-- the bytes of a file, the set that it was read in, and its text, which the writer has got
pub record Converted (asked : Option CharacterSet) (set : CharacterSet) (known old new : Option (List ℕ)) : Type 0 where
  pub bytes : List ℕ
  pub read : IfSome known (λ b. b ≡ bytes)
  pub is : set_of_file asked bytes ≡ Ok set
  pub small : length (text_of_file set bytes) ≤ max_written
  pub written : Appends old new (text_of_file set bytes)

-- the bytes of a file of this set have a text that is too large
abbrev pub IsTooLong : Option CharacterSet → List ℕ → Type 0
IsTooLong asked bytes = (set : CharacterSet) × (set_of_file asked bytes ≡ Ok set)
    × (max_written < length (text_of_file set bytes))

-- why no byte of a file was written: memory, or the reader, which has failed in this call; too many bytes, of the file
-- or of its text; or a line that leaves the set open
abbrev pub NotConverted : Option CharacterSet → Option (List ℕ) → Type 0 → ConversionError → Type 0
NotConverted asked known Failed OutOfMemory = Unit {0}
NotConverted asked known Failed ReadFailed = Failed
NotConverted asked known Failed WriteFailed = ⊥
NotConverted asked known Failed TooLarge = IfSome known (λ b. (max_read < length b) ⊎ IsTooLong asked b)
NotConverted asked known Failed (UnknownSet n) = IfSome known (λ b. set_of_file asked b ≡ Err n)

-- why no file was read: memory, or the reader, which has failed in this call, or too many bytes
abbrev pub NotRead : Option (List ℕ) → Type 0 → ConversionError → Type 0
NotRead known Failed OutOfMemory = Unit {0}
NotRead known Failed ReadFailed = Failed
NotRead known Failed WriteFailed = ⊥
NotRead known Failed TooLarge = IfSome known (λ b. max_read < length b)
NotRead known Failed (UnknownSet n) = ⊥

-- why not all was written, where a beginning was
abbrev pub NotWritten : Type 0 → ConversionError → Type 0
NotWritten Failed e = (e ≡ OutOfMemory) ⊎ ((e ≡ WriteFailed) × Failed)

-- the set of a file is known, and the writer has got a beginning of its text
pub record Begun (asked : Option CharacterSet) (known old new : Option (List ℕ)) (Failed : Type 0)
    (e : ConversionError) : Type 0 where
  pub bytes : List ℕ
  pub read : IfSome known (λ b. b ≡ bytes)
  pub set : CharacterSet
  pub is : set_of_file asked bytes ≡ Ok set
  pub why : NotWritten Failed e
  pub written : AppendsBeginning old new (text_of_file set bytes)

-- why no text was made of units: memory, or it would be too large
abbrev pub NoText : List ℕ → ConversionError → Type 0
NoText text OutOfMemory = Unit {0}
NoText text ReadFailed = ⊥
NoText text WriteFailed = ⊥
NoText text TooLarge = max_written < length text
NoText text (UnknownSet n) = ⊥

-- why no text was made of a file: that, or a line that leaves its set open
abbrev pub NoFileText : Option CharacterSet → List ℕ → ConversionError → Type 0
NoFileText asked bytes OutOfMemory = Unit {0}
NoFileText asked bytes ReadFailed = ⊥
NoFileText asked bytes WriteFailed = ⊥
NoFileText asked bytes TooLarge = IsTooLong asked bytes
NoFileText asked bytes (UnknownSet n) = set_of_file asked bytes ≡ Err n

-- the set of a file, and its text
pub record HasText (asked : Option CharacterSet) (bytes : List ℕ) (set : CharacterSet) (text : List ℕ) : Type 0 where
  pub is : set_of_file asked bytes ≡ Ok set
  pub text_is : text ≡ text_of_file set bytes
  pub small : length text ≤ max_written

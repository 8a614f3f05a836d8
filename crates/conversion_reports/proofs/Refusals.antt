-- A file of which no text was made.
use Rattle.std.proofs.Common.{◌≡◌, IfSome, List, None, Err, Option, Some, inr, refl, subst, sym, ℕ}
use Rattle.std.specs.Io.KnownBytes.{Keeps}
use Rattle.character_sets.specs.declared.set.CharacterSet.{CharacterSet}
use Rattle.file_conversion.specs.declared.fault.ConversionError.{ConversionError}
use Rattle.file_conversion.specs.declared.fault.ConversionError.TheVariants.{
  OutOfMemory,
  ReadFailed,
  WriteFailed,
  TooLarge,
  UnknownSet,
}
use Rattle.file_conversion.specs.Conversion.{set_of_file}
use Rattle.file_conversion.specs.Streams.{IsTooLong, NoFileText, NotConverted}

pub kept : (known : Option (List ℕ)) → Keeps known known
kept None = tt
kept (Some k) = refl

pub not_made : (asked : Option CharacterSet) (known : Option (List ℕ)) (bytes : List ℕ) (Failed : Type 0)
    (e : ConversionError) → IfSome known (λ k. k ≡ bytes) → NoFileText asked bytes e → NotConverted asked known Failed e
not_made asked known bytes Failed OutOfMemory r h = tt
not_made asked known bytes Failed ReadFailed r h = absurd h
not_made asked known bytes Failed WriteFailed r h = h
not_made asked None bytes Failed TooLarge r h = tt
not_made asked (Some k) bytes Failed TooLarge r h = inr (subst (IsTooLong asked) (sym r) h)
not_made asked None bytes Failed (UnknownSet n) r h = tt
not_made asked (Some k) bytes Failed (UnknownSet n) r h = subst (λ b. set_of_file asked b ≡ Err n) (sym r) h

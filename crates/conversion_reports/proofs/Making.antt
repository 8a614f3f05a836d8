-- The text of a file and its report, made of the same units.
use Rattle.std.proofs.Common.{
  ◌≡◌,
  ◌∙◌,
  ◌<◌,
  ◌≤◌,
  List,
  Ok,
  Option,
  Result,
  ap,
  length,
  subst,
  ℕ,
}
use Rattle.character_sets.specs.declared.set.CharacterSet.{CharacterSet}
use Rattle.character_sets.specs.Lines.{lines}
use Rattle.file_conversion.specs.declared.deciding.Reason.{Reason}
use Rattle.file_conversion.specs.declared.fault.ConversionError.{ConversionError}
use Rattle.file_conversion.specs.declared.fault.ConversionError.TheVariants.{
  OutOfMemory,
  ReadFailed,
  WriteFailed,
  TooLarge,
  UnknownSet,
}
use Rattle.file_conversion.specs.Charsets.{said}
use Rattle.file_conversion.specs.Conversion.{
  IsDecided,
  file_units,
  reason,
  set_of_file,
  text_of_file,
  text_of_units,
}
use Rattle.file_conversion.specs.Streams.{NoFileText, NoText, max_written}
use Rattle.conversion_reports.specs.Report.{report_by}
use Rattle.conversion_reports.specs.Streams.{IsMade}
use Rattle.conversion_reports.proofs.Pieces.{report_for}

decided : (set : Result CharacterSet ℕ) (why : Reason) (found : Result (CharacterSet × Reason) ℕ)
    (f : CharacterSet × Reason) → IsDecided set why found → found ≡ Ok f → (set ≡ Ok f.0) × (f.1 ≡ why)
decided set why found f d e = subst (IsDecided set why) e d

same_text : (set : CharacterSet) (bytes told shown : List ℕ) → told ≡ said (lines (file_units set bytes))
    → shown ≡ told → text_of_units set shown ≡ text_of_file set bytes
unfolding text_of_file
same_text set bytes told shown t s = ap (text_of_units set) (s ∙ t)

pub is_made : (asked : Option CharacterSet) (bytes told shown text report : List ℕ)
    (found : Result (CharacterSet × Reason) ℕ) (f : CharacterSet × Reason)
    → IsDecided (set_of_file asked bytes) (reason asked bytes) found → found ≡ Ok f
    → told ≡ said (lines (file_units f.0 bytes)) → shown ≡ told → text ≡ text_of_units f.0 shown
    → length text ≤ max_written → report ≡ report_by f.1 f.0 bytes → IsMade asked bytes f.0 text report
is_made asked bytes told shown text report found f d e t s x l r =
    let both = decided (set_of_file asked bytes) (reason asked bytes) found f d e in record {
      text_is = record { is = both.0; text_is = x ∙ same_text f.0 bytes told shown t s; small = l };
      report_is = report_for asked f.0 f.1 bytes report both.1 r;
    }

refused : (asked : Option CharacterSet) (set : CharacterSet) (bytes text : List ℕ) (e : ConversionError)
    → set_of_file asked bytes ≡ Ok set → text ≡ text_of_file set bytes → NoText text e → NoFileText asked bytes e
refused asked set bytes text OutOfMemory d t h = tt
refused asked set bytes text ReadFailed d t h = h
refused asked set bytes text WriteFailed d t h = h
refused asked set bytes text TooLarge d t h = (set, d, subst (λ x. max_written < length x) t h)
refused asked set bytes text (UnknownSet n) d t h = absurd h

pub is_refused : (asked : Option CharacterSet) (bytes told shown : List ℕ)
    (found : Result (CharacterSet × Reason) ℕ) (f : CharacterSet × Reason) (e : ConversionError)
    → IsDecided (set_of_file asked bytes) (reason asked bytes) found → found ≡ Ok f
    → told ≡ said (lines (file_units f.0 bytes)) → shown ≡ told → NoText (text_of_units f.0 shown) e
    → NoFileText asked bytes e
is_refused asked bytes told shown found f e d o t s h =
    refused asked f.0 bytes (text_of_units f.0 shown) e
    (decided (set_of_file asked bytes) (reason asked bytes) found f d o).0 (same_text f.0 bytes told shown t s) h

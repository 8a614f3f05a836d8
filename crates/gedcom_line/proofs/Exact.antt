-- What `read_line` answers, from what reading is.
use Rattle.std.proofs.Common.{◌≡◌, ℕ, List, refl, Option, Some, None, Ok, Err, Result}
use Rattle.std.specs.Prelude.{◌↔◌, IfOk, IfErr, IfSome, IsOkAnd, IsErrAnd}
use Rattle.std.specs.Option.{option_map}
use Rattle.gedcom_line.specs.Line.{IsPiece, IsBlank, Line, Fault}
use Rattle.gedcom_line.specs.Reading.{Parts, parts, reading, Answers}
use Rattle.gedcom_line.specs.declared.line.LineRef.{LineRef}
use Rattle.gedcom_line.specs.declared.fault.LineFault.{LineFault}
use Rattle.gedcom_line.specs.declared.fault.LineKind.{LineKind}
use Rattle.gedcom_line.proofs.Whole.{
  reading_line,
  line_reading,
  reading_blank,
  blank_reading,
  reading_fault,
  fault_reading,
}

pub answers_line : (b : List ℕ) (r : Result (Option LineRef) LineFault) → IsPiece b
    → Answers (option_map parts) r (reading b) → IfOk r (λ o. IfSome o (λ l. Line b (parts l)))
answers_line b (Ok (Some l)) p e = reading_line b (parts l) p e
answers_line b (Ok None) p e = tt
answers_line b (Err f) p e = tt

pub answers_every : (b : List ℕ) (r : Result (Option LineRef) LineFault) → Answers (option_map parts) r (reading b)
    → (l : Parts) → Line b l → IsOkAnd r (λ o. option_map parts o ≡ Some l)
answers_every b (Ok o) e l h = let k = line_reading b l h in cc
answers_every b (Err f) e l h = let k = line_reading b l h in absurd cc

pub answers_blank : (b : List ℕ) (r : Result (Option LineRef) LineFault) → Answers (option_map parts) r (reading b)
    → (r ≡ Ok None) ↔ IsBlank b
answers_blank b (Ok (Some l)) e = (λ h. absurd cc, λ h. let k = blank_reading b h in absurd cc)
answers_blank b (Ok None) e = (λ h. reading_blank b e, λ h. refl)
answers_blank b (Err f) e = (λ h. absurd cc, λ h. let k = blank_reading b h in absurd cc)

pub answers_fault : (b : List ℕ) (r : Result (Option LineRef) LineFault) → IsPiece b
    → Answers (option_map parts) r (reading b) → IfErr r (λ f. Fault b f.kind)
answers_fault b (Ok o) p e = tt
answers_fault b (Err f) p e = reading_fault b f.kind p e

pub answers_first : (b : List ℕ) (r : Result (Option LineRef) LineFault) → Answers (option_map parts) r (reading b)
    → (k : LineKind) → Fault b k → IsErrAnd r (λ f. f.kind ≡ k)
answers_first b (Ok o) e k h = let j = fault_reading b k h in absurd cc
answers_first b (Err f) e k h = let j = fault_reading b k h in cc

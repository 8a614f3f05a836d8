-- The lines of persons that count, one after the other.
use Rattle.std.proofs.Common.{◌≡◌, ℕ, ◌+◌, Bool, List, ◌∷◌, ◌++◌, sym, ap, ◌∙◌, append_assoc}
use Rattle.std.specs.Prelude.{Option}
use Rattle.stored_lines.specs.Tree.{label}
use Rattle.receipts.specs.declared.report.ReportLine.{ReportLine}
use Rattle.import_definitions.specs.Nodes.{FileNode}
use Rattle.file_records.specs.Taken.{
  said_by,
  said_by_members,
  said_from,
  said_on,
  side_by,
  sides_by_members,
  sides_from,
  sides_on,
  taken_by,
}
use Rattle.file_records.specs.Told.{side_told}
use Rattle.file_records.specs.declared.sides.Side.{Side}

-- ---- lines of a person
module _ (ks : List FileNode) (n : ℕ) (member : ℕ → Option Bool) (t : FileNode) (rest ts : List FileNode)
    (old new : ℕ → Bool) (e : ts ≡ t ∷ rest)
    (more : (k : ℕ) → new k ≡ taken_by member old (side_told ks t) k) where
  new_is : new ≡ taken_by member old (side_told ks t)
  new_is = λ i k. more k i

  pub sides_step : (i j : ℕ) (sides after all : List Side) → j ≡ i + 1
      → after ≡ sides ++ side_by n member old i (side_told ks t)
      → sides ++ sides_on ks n member old i ts ≡ all → after ++ sides_on ks n member new j rest ≡ all
  sides_step i j sides after all next one so =
      ap (λ us. us ++ sides_on ks n member new j rest) one
      ∙ ap (λ k. (sides ++ side_by n member old i (side_told ks t)) ++ sides_on ks n member new k rest) next
      ∙ ap (λ taken. (sides ++ side_by n member old i (side_told ks t)) ++ sides_on ks n member taken (i + 1) rest)
      new_is
      ∙ append_assoc sides (side_by n member old i (side_told ks t))
      (sides_on ks n member (taken_by member old (side_told ks t)) (i + 1) rest)
      ∙ ap (λ us. sides ++ sides_on ks n member old i us) (sym e) ∙ so

  pub said_step : (said after all : List ReportLine) → after ≡ said ++ said_by member old (label t) (side_told ks t)
      → said ++ said_on ks member old ts ≡ all → after ++ said_on ks member new rest ≡ all
  said_step said after all one so =
      ap (λ us. us ++ said_on ks member new rest) one
      ∙ ap (λ taken. (said ++ said_by member old (label t) (side_told ks t)) ++ said_on ks member taken rest) new_is
      ∙ append_assoc said (said_by member old (label t) (side_told ks t))
      (said_on ks member (taken_by member old (side_told ks t)) rest)
      ∙ ap (λ us. said ++ said_on ks member old us) (sym e) ∙ so

-- ---- nodes
module _ (ks : List FileNode) (member : ℕ → ℕ → Option Bool) (t : FileNode) (rest ts : List FileNode)
    (e : ts ≡ t ∷ rest) (i j : ℕ) (next : j ≡ i + 1) where
  pub sides_more : (sides after all : List Side) → after ≡ sides ++ sides_by_members ks member i t
      → sides ++ sides_from ks member i ts ≡ all → after ++ sides_from ks member j rest ≡ all
  sides_more sides after all one so =
      ap (λ us. us ++ sides_from ks member j rest) one
      ∙ ap (λ k. (sides ++ sides_by_members ks member i t) ++ sides_from ks member k rest) next
      ∙ append_assoc sides (sides_by_members ks member i t) (sides_from ks member (i + 1) rest)
      ∙ ap (λ us. sides ++ sides_from ks member i us) (sym e) ∙ so

  pub said_more : (said after all : List ReportLine) → after ≡ said ++ said_by_members ks member i t
      → said ++ said_from ks member i ts ≡ all → after ++ said_from ks member j rest ≡ all
  said_more said after all one so =
      ap (λ us. us ++ said_from ks member j rest) one
      ∙ ap (λ k. (said ++ said_by_members ks member i t) ++ said_from ks member k rest) next
      ∙ append_assoc said (said_by_members ks member i t) (said_from ks member (i + 1) rest)
      ∙ ap (λ us. said ++ said_from ks member i us) (sym e) ∙ so

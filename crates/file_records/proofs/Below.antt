-- A node of the code, by what it is and by the nodes right below it.
use Rattle.std.proofs.Common.{◌≡◌, ℕ, Bool, true, false, List, [], sym, ap, ◌∙◌, cond}
use Rattle.std.specs.Prelude.{Option, None, bytes_eq, codes}
use Rattle.stored_lines.specs.Tree.{children, label, list_of}
use Rattle.import_definitions.specs.Nodes.{FileNode}
use Rattle.file_records.specs.Members.{doubled, doubled_in, first_as, members_told, membership_of}
use Rattle.file_records.specs.Taken.{said_by_members, said_on, sides_by_members, sides_on}

-- ---- where a node is a family or a person, its lines count
if_true : {A : Type 0} (b : Bool) (x y : A) → b ≡ true → x ≡ cond b x y
if_true b x y e = ap (λ c. cond c x y) (sym e)

module _ (ks : List FileNode) (t : FileNode) (cs : List FileNode) (all : cs ≡ list_of (children t)) where
  pub family_members : (n : ℕ) → bytes_eq (label t).tag (codes "FAM") ≡ true
      → first_as n (members_told ks cs) ≡ membership_of ks t n
  family_members n e = ap (λ us. first_as n (members_told ks us)) all
      ∙ if_true (bytes_eq (label t).tag (codes "FAM")) (first_as n (members_told ks (list_of (children t)))) None e

  pub family_doubled : bytes_eq (label t).tag (codes "FAM") ≡ true → doubled ks (λ n. false) cs ≡ doubled_in ks t
  family_doubled e = ap (doubled ks (λ n. false)) all
      ∙ if_true (bytes_eq (label t).tag (codes "FAM")) (doubled ks (λ n. false) (list_of (children t))) [] e

  pub person_sides : (member : ℕ → ℕ → Option Bool) (n : ℕ) → bytes_eq (label t).tag (codes "INDI") ≡ true
      → sides_on ks n (λ k. member k n) (λ k. false) 0 cs ≡ sides_by_members ks member n t
  person_sides member n e = ap (sides_on ks n (λ k. member k n) (λ k. false) 0) all
      ∙ if_true (bytes_eq (label t).tag (codes "INDI"))
      (sides_on ks n (λ k. member k n) (λ k. false) 0 (list_of (children t))) [] e

  pub person_said : (member : ℕ → ℕ → Option Bool) (n : ℕ) → bytes_eq (label t).tag (codes "INDI") ≡ true
      → said_on ks (λ k. member k n) (λ k. false) cs ≡ said_by_members ks member n t
  person_said member n e = ap (said_on ks (λ k. member k n) (λ k. false)) all
      ∙ if_true (bytes_eq (label t).tag (codes "INDI"))
      (said_on ks (λ k. member k n) (λ k. false) (list_of (children t))) [] e

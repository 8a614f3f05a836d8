-- Each side that a node tells is of the person at its position.
use Rattle.std.proofs.Common.{◌≡◌, ℕ, ◌+◌, Bool, true, false, List, [], ◌∷◌, ◌++◌, refl, sym, ap, ◌∙◌, cond}
use Rattle.std.specs.Prelude.{Option, Some, None, bytes_eq, codes}
use Rattle.std.specs.List.{filter}
use Rattle.std.proofs.lemmas.List.Elements.{filter-append}
use Rattle.stored_lines.specs.Tree.{children, label, list_of}
use Rattle.receipts.specs.declared.report.ReportWord.{ReportWord}
use Rattle.import_definitions.specs.Nodes.{FileNode}
use Rattle.file_records.specs.Taken.{side_by, side_if, sides_by_members, sides_on, taken_by, word_at}
use Rattle.file_records.specs.Told.{side_told}
use Rattle.file_records.specs.declared.sides.Side.{Side}
use Rattle.file_records.specs.declared.told.Told.{Told}
use Rattle.list_laws.proofs.Booleans.{cond_same}

cond_append : {A : Type 0} (b : Bool) (xs ys : List A) → cond b xs [] ++ cond b ys [] ≡ cond b (xs ++ ys) []
cond_append true xs ys = refl
cond_append false xs ys = refl

module _ (ks : List FileNode) (q : ℕ → Bool) where
  of_word : (n i : ℕ) (t : Told) (m : Option Bool) (w : Option ReportWord)
      → filter (λ (s : Side). q s.person) (side_if n i t m w) ≡ cond (q n) (side_if n i t m w) []
  of_word n i t m None = refl
  of_word n i t m (Some w) = sym (cond_same (q n) [])

  of_told : (n : ℕ) (member : ℕ → Option Bool) (taken : ℕ → Bool) (i : ℕ) (o : Option Told)
      → filter (λ (s : Side). q s.person) (side_by n member taken i o) ≡ cond (q n) (side_by n member taken i o) []
  of_told n member taken i None = sym (cond_same (q n) [])
  of_told n member taken i (Some t) = of_word n i t (member t.other) (word_at member taken t)

  of_lines : (n : ℕ) (member : ℕ → Option Bool) (cs : List FileNode) (taken : ℕ → Bool) (i : ℕ)
      → filter (λ (s : Side). q s.person) (sides_on ks n member taken i cs)
      ≡ cond (q n) (sides_on ks n member taken i cs) []
  of_lines n member [] taken i = sym (cond_same (q n) [])
  of_lines n member (c ∷ cs) taken i =
      let a : List Side = side_by n member taken i (side_told ks c) in
      let b : List Side = sides_on ks n member (taken_by member taken (side_told ks c)) (i + 1) cs in
      filter-append (λ (s : Side). q s.person) a b
      ∙ ap (λ us. us ++ filter (λ (s : Side). q s.person) b) (of_told n member taken i (side_told ks c))
      ∙ ap (λ us. cond (q n) a [] ++ us)
      (of_lines n member cs (taken_by member taken (side_told ks c)) (i + 1))
      ∙ cond_append (q n) a b

  pub of_node : (member : ℕ → ℕ → Option Bool) (n : ℕ) (t : FileNode)
      → filter (λ (s : Side). q s.person) (sides_by_members ks member n t)
      ≡ cond (q n) (sides_by_members ks member n t) []
  of_node member n t =
      elim (bytes_eq (label t).tag (codes "INDI")) as (λ b. filter (λ (s : Side). q s.person)
      (cond b (sides_on ks n (λ k. member k n) (λ k. false) 0 (list_of (children t))) [])
      ≡ cond (q n) (cond b (sides_on ks n (λ k. member k n) (λ k. false) 0 (list_of (children t))) []) []) [
        | true ↦ of_lines n (λ k. member k n) (list_of (children t)) (λ k. false) 0
        | false ↦ sym (cond_same (q n) [])
      ]

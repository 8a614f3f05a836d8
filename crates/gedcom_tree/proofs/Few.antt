-- A file has no more nodes than bytes and one.
use Rattle.std.proofs.Common.{
  ◌≡◌,
  ℕ,
  ◌+◌,
  ◌<◌,
  ◌≤◌,
  ◌^◌,
  List,
  [],
  ◌∷◌,
  ◌++◌,
  length,
  inl,
  inr,
  ap,
  arith,
  length-append,
}
use Rattle.std.proofs.lemmas.List.{length-take}
use Rattle.gedcom_line.specs.Words.{is_end}
use Rattle.gedcom_line.specs.Reading.{Parts}
use Rattle.gedcom_rules.specs.Faults.{Clean}
use Rattle.gedcom_rules.specs.Pieces.{pieces, onto_first, skip_mark, file_pieces, all_pieces}
use Rattle.std.proofs.lemmas.Bool.{cases_Bool}
use Rattle.gedcom_tree.specs.Forest.{Item, Reads}
use Rattle.gedcom_tree.specs.File.{ReadsFile, untrailed}
use Rattle.gedcom_rules.proofs.Marks.{skip_le}

onto_few : (b : ℕ) (ps : List (List ℕ)) (rest : List ℕ) → length (onto_first b ps rest).ended ≡ length ps
onto_few b [] rest = omega arith
onto_few b (p ∷ ps) rest = omega arith

pieces_few : (b : List ℕ) → length (pieces b).ended ≤ length b
unfolding pieces
pieces_few [] = omega arith
pieces_few (b ∷ bs) = elim (cases_Bool (is_end b)) [
  | inl e ↦ rw e (omega (arith, pieces_few bs))
  | inr e ↦ rw e (omega (arith, pieces_few bs, onto_few b (pieces bs).ended (pieces bs).open_))
]

all_few : (b : List ℕ) → length (all_pieces b) ≤ length b + 1
all_few b = omega (
  arith,
  length-append (file_pieces b).ended ((file_pieces b).open_ ∷ []),
  pieces_few (skip_mark b),
  skip_le b,
)

clean_few : (before : List Parts) (ps : List (List ℕ)) (lines : List Parts) → Clean before ps lines
    → length lines ≤ length before + length ps
clean_few before [] lines h = omega (arith, ap length h)
clean_few before (p ∷ ps) lines h = elim h.1 [
  | inl r ↦ omega (arith, clean_few before ps lines r.1)
  | inr r ↦ omega (arith, clean_few (before ++ r.0 ∷ []) ps lines r.1.1.1, length-append before (r.0 ∷ []))
]

reads_few : (n : ℕ) (ls : List Parts) (f : List Item) → Reads n ls f → length f ≤ length ls
reads_few n [] f h = omega (arith, ap length h)
reads_few n (l ∷ ls) f h = elim h [
  | inl r ↦ omega (arith, reads_few (n + 1) ls f r.1)
  | inr r ↦ omega (arith, ap length r.1.1.1.0, reads_few (n + 1) ls r.1.1.0 r.1.1.1.1.1)
]

front_few : (ls : List Parts) → length (untrailed ls) ≤ length ls
front_few ls = simp length-take (omega arith)

pub file_few : (b : List ℕ) (f : List Item) → ReadsFile b f → length f < 2 ^ 32
file_few b f r = omega (
  arith,
  r.size,
  all_few b,
  clean_few [] (all_pieces b) r.lines r.clean,
  front_few r.lines,
  reads_few 1 (untrailed r.lines) f r.forest,
)

-- Two forests of one text differ only in the numbers of their lines, however long the text is.
use Rattle.std.proofs.Common.{
  ◌≡◌,
  ℕ,
  ◌+◌,
  ◌≤◌,
  List,
  [],
  ◌∷◌,
  ◌++◌,
  map,
  refl,
  sym,
  ap,
  ◌∙◌,
  subst,
  arith,
  append_assoc,
}
use Rattle.std.proofs.lemmas.List.{append_cancel_right}
use Rattle.gedcom_line.specs.Reading.{Parts}
use Rattle.gedcom_line.specs.Line.{Line}
use Rattle.gedcom_line.specs.Spelling.{spelling}
use Rattle.gedcom_line.specs.Split.{Part}
use Rattle.gedcom_line.proofs.Again.{line_again}
use Rattle.gedcom_line.proofs.Whole.{line_same}
use Rattle.gedcom_rules.specs.Pieces.{all_pieces}
use Rattle.gedcom_tree.specs.Forest.{Item, forest_of, lines_of, more_parts, own_line, part_line}
use Rattle.gedcom_tree.specs.Text.{EachNode, IsForest, IsSame, text, trailer, unnumbered}
use Rattle.gedcom_tree.proofs.Again.{text_pieces, trailer_written}
use Rattle.gedcom_tree.proofs.Computed.{reads_computed}
use Rattle.gedcom_tree.proofs.Numbered.{lines_cons, lines_nil, lines_read, numbered, numbered_same}
use Rattle.gedcom_tree.proofs.Parted.{PartsFit, Written, more_fit, own_written, part_written}

-- ---- the lines of a forest can be read again
abbrev EachWritten : List Parts → Type 0
EachWritten [] = Unit {0}
EachWritten (l ∷ ls) = Written l × EachWritten ls

parts_written : (level : ℕ) (ps : List Part) (rest : List Parts) → level ≤ 99 → PartsFit ps → EachWritten rest
    → EachWritten (map (part_line level) ps ++ rest)
parts_written level [] rest low f k = k
parts_written level (p ∷ ps) rest low f k = (
  part_written level p low f.inner.0 f.short.0,
  parts_written level ps rest low (record { inner = f.inner.1; short = f.short.1 }) k,
)

lines_written : (f : List Item) → EachNode f → EachWritten (lines_of f ++ trailer ∷ [])
lines_written [] h = rw lines_nil (trailer_written, tt)
lines_written (i ∷ is) h =
    let ps : List Part = more_parts i.value in
    let all : lines_of (i ∷ is) ++ trailer ∷ [] ≡ own_line i
    ∷ (map (part_line (i.level + 1)) ps ++ (lines_of is ++ trailer ∷ [])) =
    ap (λ (x : List Parts). x ++ trailer ∷ []) (lines_cons i is)
    ∙ append_assoc (own_line i ∷ map (part_line (i.level + 1)) ps) (lines_of is) (trailer ∷ []) in
    subst EachWritten (sym all) (
      own_written i h.0,
      parts_written (i.level + 1) ps (lines_of is ++ trailer ∷ []) (omega (arith, h.0.low)) (more_fit i.value h.0.value)
          (lines_written is h.1),
    )

-- ---- lines that are spelled alike are the same
one_line : (l m : Parts) → Written l → Written m → spelling l ≡ spelling m → l ≡ m
one_line l m x y e = line_same (spelling m) l m
    (subst (λ (b : List ℕ). Line b l) e (line_again l x.line)) (line_again m y.line)

abbrev head_of : List (List ℕ) → List ℕ
head_of [] = []
head_of (x ∷ xs) = x

abbrev tail_of : List (List ℕ) → List (List ℕ)
tail_of [] = []
tail_of (x ∷ xs) = xs

one_spelling : (ls ms : List Parts) → EachWritten ls → EachWritten ms → map spelling ls ≡ map spelling ms → ls ≡ ms
one_spelling [] [] x y e = refl
one_spelling [] (m ∷ ms) x y e = absurd cc
one_spelling (l ∷ ls) [] x y e = absurd cc
one_spelling (l ∷ ls) (m ∷ ms) x y e =
    ap (λ (k : Parts). k ∷ ls) (one_line l m x.0 y.0 (ap head_of e))
    ∙ ap (λ (ks : List Parts). m ∷ ks) (one_spelling ls ms x.1 y.1 (ap tail_of e))

one_lines : (f g : List Item) → IsForest f → IsForest g → text f ≡ text g → lines_of f ≡ lines_of g
one_lines f g x y e =
    append_cancel_right (lines_of f) (lines_of g) (trailer ∷ [])
    (one_spelling (lines_of f ++ trailer ∷ []) (lines_of g ++ trailer ∷ []) (lines_written f x.nodes)
    (lines_written g y.nodes)
    (append_cancel_right (map spelling (lines_of f ++ trailer ∷ [])) (map spelling (lines_of g ++ trailer ∷ []))
    ([] ∷ []) (sym (text_pieces f x) ∙ ap all_pieces e ∙ text_pieces g y)))

-- ---- and so are the forests that they are read as
pub one_forest : (f g : List Item) → IsForest f → IsForest g → text f ≡ text g → IsSame f g
one_forest f g x y e =
    let same : numbered 1 f ≡ numbered 1 g =
    sym (reads_computed 1 (lines_of f) (numbered 1 f) (lines_read 1 f x.nodes))
    ∙ ap (forest_of 1) (one_lines f g x y e)
    ∙ reads_computed 1 (lines_of g) (numbered 1 g) (lines_read 1 g y.nodes) in
    numbered_same 1 f ∙ ap (map unnumbered) same ∙ sym (numbered_same 1 g)

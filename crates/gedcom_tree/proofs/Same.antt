-- Forests that differ only in the numbers of their lines have one text, whose lines are short.
use Rattle.std.proofs.Common.{
  ◌≡◌,
  ℕ,
  ◌+◌,
  ◌≤◌,
  List,
  [],
  ◌∷◌,
  ◌++◌,
  map,
  refl,
  sym,
  ap,
  ◌∙◌,
  subst,
  arith,
  append_assoc,
}
use Rattle.std.specs.List.{flat_map}
use Rattle.gedcom_line.specs.Reading.{Parts}
use Rattle.gedcom_line.specs.Spelling.{spelling}
use Rattle.gedcom_line.specs.Split.{char_count, Part}
use Rattle.gedcom_tree.specs.File.{ReadsFile}
use Rattle.gedcom_tree.specs.Forest.{Item, part_line, more_parts, own_line, node_lines, lines_of}
use Rattle.gedcom_tree.specs.Text.{line_text, trailer, node_text, text, EachNode, IsForest, unnumbered, IsSame}
use Rattle.gedcom_line.proofs.Lengths.{spelling_chars}
use Rattle.gedcom_tree.proofs.Numbered.{lines_nil, lines_cons}
use Rattle.gedcom_tree.proofs.Parted.{Written, own_written, part_written, PartsFit, more_fit}
use Rattle.gedcom_tree.proofs.Again.{text_again, trailer_written}

-- the numbers of lines are not written
unnumbered_text : (f : List Item) → flat_map node_text (map unnumbered f) ≡ flat_map node_text f
unnumbered_text [] = refl
unnumbered_text (i ∷ is) = ap (λ (x : List ℕ). node_text i ++ x) (unnumbered_text is)

pub text_same : (f g : List Item) → IsSame f g → text f ≡ text g
unfolding text
text_same f g h = ap (λ (x : List ℕ). x ++ line_text trailer)
    (sym (unnumbered_text f) ∙ ap (flat_map node_text) h ∙ unnumbered_text g)

-- what is read of the text of a forest has that text again
pub text_settles : (one : (b : List ℕ) (f g : List Item) → ReadsFile b f → ReadsFile b g → f ≡ g) → (f g : List Item)
    → IsForest f → ReadsFile (text f) g → text g ≡ text f
text_settles one f g h r =
    let a = text_again f h r.size in
    let same : g ≡ a.0 = one (text f) g a.0 r a.1.0 in
    ap text same ∙ sym (text_same f a.0 a.1.1)

-- each line has 300 characters at most
abbrev pub EachShort : List Parts → Type 0
EachShort [] = Unit {0}
EachShort (l ∷ ls) = (char_count (spelling l) ≤ 300) × EachShort ls

short_line : (l : Parts) → Written l → char_count (spelling l) ≤ 300
short_line l w = spelling_chars l w.line w.chars

short_parts : (level : ℕ) (ps : List Part) (rest : List Parts) → level ≤ 99 → PartsFit ps → EachShort rest
    → EachShort (map (part_line level) ps ++ rest)
short_parts level [] rest low f k = k
short_parts level (p ∷ ps) rest low f k = (
  short_line (part_line level p) (part_written level p low f.inner.0 f.short.0),
  short_parts level ps rest low (record { inner = f.inner.1; short = f.short.1 }) k,
)

short_items : (f : List Item) → EachNode f → EachShort (lines_of f ++ trailer ∷ [])
short_items [] h = rw lines_nil (short_line trailer trailer_written, tt)
short_items (i ∷ is) h =
    let ps : List Part = more_parts i.value in
    let all : lines_of (i ∷ is) ++ trailer ∷ [] ≡ own_line i
    ∷ (map (part_line (i.level + 1)) ps ++ (lines_of is ++ trailer ∷ [])) =
    ap (λ (x : List Parts). x ++ trailer ∷ []) (lines_cons i is) ∙ append_assoc (node_lines i) (lines_of is)
    (trailer ∷ []) in
    subst EachShort (sym all) (
      short_line (own_line i) (own_written i h.0),
      short_parts (i.level + 1) ps (lines_of is ++ trailer ∷ []) (omega (arith, h.0.low)) (more_fit i.value h.0.value)
          (short_items is h.1),
    )

pub lines_short : (f : List Item) → IsForest f → EachShort (lines_of f ++ trailer ∷ [])
lines_short f h = short_items f h.nodes

-- The text of lines is cut into these lines again.
use Rattle.std.proofs.Common.{
  ◌≡◌,
  ℕ,
  ◌≤◌,
  List,
  [],
  ◌∷◌,
  ◌++◌,
  length,
  map,
  refl,
  sym,
  ap,
  ◌∙◌,
  subst,
  inl,
  inr,
  append_assoc,
  append-nil,
  None,
}
use Rattle.std.specs.List.{flat_map}
use Rattle.std.proofs.lemmas.Fmt.{decimal_digit}
use Rattle.std.proofs.Common.{arith}
use Rattle.std.proofs.lemmas.List.Concat.{flat_map-append}
use Rattle.std.proofs.lemmas.Bool.{or_parts}
use Rattle.gedcom_line.specs.Words.{is_end}
use Rattle.gedcom_line.specs.Reading.{Parts}
use Rattle.gedcom_line.specs.Line.{IsPiece}
use Rattle.gedcom_line.specs.Spelling.{spelling, xref_text, raw_text, IsLine}
use Rattle.gedcom_line.proofs.Again.{line_again, spelling_inner, inner_piece}
use Rattle.gedcom_rules.specs.Pieces.{Pieces, pieces, skip_mark, file_pieces, all_pieces}
use Rattle.gedcom_rules.specs.Rules.{Progress, progress_of, first_broken}
use Rattle.gedcom_rules.specs.Faults.{max_line, Clean}
use Rattle.gedcom_tree.specs.Forest.{Item, node_lines, lines_of}
use Rattle.gedcom_rules.specs.Judging.{after}
use Rattle.gedcom_tree.specs.Text.{line_text, trailer, node_text, text}
use Rattle.gedcom_rules.proofs.Runs.{progress-push}

-- each line is one of the grammar, not too long, and breaks no rule after those before it
abbrev pub Keeps : Progress → List Parts → Type 0
Keeps q [] = Unit {0}
Keeps q (l ∷ ls) = IsLine l × ((length (spelling l) ≤ max_line) × ((first_broken q l ≡ None) × Keeps (after q l) ls))

-- such lines as pieces, with an empty one at the end, are clean
pub keeps_clean : (before ls : List Parts) → Keeps (progress_of before) ls
    → Clean before (map spelling ls ++ [] ∷ []) (before ++ ls)
keeps_clean before [] k = (omega arith, inl (refl, append-nil before))
keeps_clean before (l ∷ ls) k = (
  k.1.0,
  inr (
    l,
    (
      line_again l k.0,
      (
        k.1.1.0,
        subst (Clean (before ++ l ∷ []) (map spelling ls ++ [] ∷ [])) (append_assoc before (l ∷ []) ls)
            (keeps_clean (before ++ l ∷ []) ls
            (subst (λ (q : Progress). Keeps q ls) (sym (progress-push before l)) k.1.1.1)),
      ),
    ),
  ),
)

-- a line and its LF
pieces_line : (t rest : List ℕ) → IsPiece t → pieces (t ++ 10 ∷ rest) ≡ record {
  ended = t ∷ (pieces rest).ended;
  open_ = (pieces rest).open_;
}
unfolding pieces
pieces_line [] rest h = refl
pieces_line (x ∷ xs) rest h =
    let n = or_parts (is_end x) _ h in
    rw (n.0, pieces_line xs rest n.1) refl

pieces_lines : (q : Progress) (ls : List Parts) → Keeps q ls → pieces (flat_map line_text ls)
    ≡ record { ended = map spelling ls; open_ = [] }
unfolding pieces
pieces_lines q [] k = refl
pieces_lines q (l ∷ ls) k =
    ap pieces (append_assoc (spelling l) (10 ∷ []) (flat_map line_text ls))
    ∙ pieces_line (spelling l) (flat_map line_text ls) (inner_piece (spelling l) (spelling_inner l k.0).each)
    ∙ ap (λ (p : Pieces). record { ended = spelling l ∷ p.ended; open_ = p.open_ })
    (pieces_lines (after q l) ls k.1.1.1)

-- a text that begins with a digit has no byte order mark
digit_unmarked : (t : List ℕ) → skip_mark (48 ∷ t) ≡ 48 ∷ t
digit_unmarked [] = refl
digit_unmarked (x ∷ []) = refl
digit_unmarked (x ∷ y ∷ t) = refl

zero_spelled : (l : Parts) → l.level ≡ 0 → spelling l ≡ 48 ∷ 32 ∷ (xref_text l.xref ++ (l.tag ++ raw_text l.raw))
unfolding spelling
zero_spelled l h = rw (h, decimal_digit 0 (omega arith)) refl

zero_unmarked : (l : Parts) (ls : List Parts) → l.level ≡ 0 → skip_mark (flat_map line_text (l ∷ ls))
    ≡ flat_map line_text (l ∷ ls)
zero_unmarked l ls h = rw (zero_spelled l h) (digit_unmarked _)

pub lines_pieces : (l : Parts) (ls : List Parts) (q : Progress) → l.level ≡ 0 → Keeps q (l ∷ ls)
    → all_pieces (flat_map line_text (l ∷ ls)) ≡ map spelling (l ∷ ls) ++ [] ∷ []
lines_pieces l ls q h k =
    let p : file_pieces (flat_map line_text (l ∷ ls)) ≡ record { ended = map spelling (l ∷ ls); open_ = [] } =
    ap pieces (zero_unmarked l ls h) ∙ pieces_lines q (l ∷ ls) k in
    ap (λ (x : Pieces). x.ended ++ x.open_ ∷ []) p

-- the text of a forest is that of its lines
nodes_text : (f : List Item) → flat_map line_text (lines_of f) ≡ flat_map node_text f
unfolding lines_of
nodes_text [] = refl
nodes_text (i ∷ is) = flat_map-append line_text (node_lines i) (lines_of is)
    ∙ ap (λ (x : List ℕ). node_text i ++ x) (nodes_text is)

pub text_lines : (f : List Item) → text f ≡ flat_map line_text (lines_of f ++ trailer ∷ [])
unfolding text
text_lines f =
    sym (flat_map-append line_text (lines_of f) (trailer ∷ [])
    ∙ ap (λ (x : List ℕ). x ++ flat_map line_text (trailer ∷ [])) (nodes_text f)
    ∙ ap (λ (x : List ℕ). flat_map node_text f ++ x) (append-nil (line_text trailer)))

-- A packed text has one list of lines at the most.
use Rattle.std.proofs.Common.{◌≡◌, ◌∙◌, ◌∷◌, [], List, Option, IfSome, ap, option_map, refl, sym, ℕ}
use Rattle.std.specs.List.{AllByRecursion}
use Rattle.stored_lines.specs.Line.{Label}
use Rattle.record_text.specs.Text.{IsText}
use Rattle.packed_rows.specs.Packed.{
  StoredLines,
  on_one_line,
  text_part,
  lines_text,
  packed,
  IsTypedLine,
  ArePackedAs,
  HaveText,
}
use Rattle.packed_rows.proofs.Parted.{parted, parts_same}
use Rattle.packed_rows.proofs.Texts.{texts_same}
use Rattle.packed_rows.proofs.Lines.{text_lacks, line_is, lines_same}

text_part_same : (t u : Option (List ℕ)) → IfSome t IsText → IfSome u IsText → text_part t ≡ text_part u → t ≡ u
text_part_same t u ht hu e = texts_same t u ht hu
    (parts_same 32 [] [] (option_map on_one_line t) (option_map on_one_line u) refl refl e).1

pub same_lines : (tag : List ℕ) (target : Option ℕ) (text : List ℕ) (ls ms : StoredLines)
    → ArePackedAs tag target text ls → ArePackedAs tag target text ms → ls ≡ ms
same_lines tag target text [] ms hl hm = absurd hl.first
same_lines tag target text (l ∷ ls) [] hl hm = absurd hm.first
same_lines tag target text (l ∷ ls) (m ∷ ms) hl hm =
    let both = parted 10 (text_part l.1.text) (text_part m.1.text) (lines_text ls) (lines_text ms)
    (text_lacks l.1.text) (text_lacks m.1.text) (sym hl.tell ∙ hm.tell) in
    let first : l ≡ m = line_is l m (hl.first.0 ∙ sym hm.first.0) (hl.first.1 ∙ sym hm.first.1)
    (text_part_same l.1.text m.1.text hl.typed.0.2 hm.typed.0.2 both.0) (hl.first.2 ∙ sym hm.first.2) in
    ap (λ x. x ∷ ls) first ∙ ap (λ xs. m ∷ xs) (lines_same ls ms hl.typed.1 hm.typed.1 both.1)

pub same_whole : (text : List ℕ) (ls ms : StoredLines) → HaveText text ls → HaveText text ms → ls ≡ ms
same_whole text ls ms hl hm = lines_same ls ms hl.typed hm.typed (sym hl.tell ∙ hm.tell)

pub read_again : (l : ℕ × Label) (ls ms : StoredLines) → AllByRecursion IsTypedLine (l ∷ ls) → l.0 ≡ 0
    → ArePackedAs l.1.tag l.1.target (packed (l ∷ ls)) ms → ms ≡ l ∷ ls
read_again l ls ms h low is = same_lines l.1.tag l.1.target (packed (l ∷ ls)) ms (l ∷ ls) is
    (record { typed = h; first = (low, refl, refl); tell = refl })

-- A line and its pieces: the text of a line tells them.
use Rattle.std.proofs.Common.{
  ◌≡◌,
  ◌==◌,
  ◌<◌,
  ◌≤◌,
  ◌∙◌,
  ◌++◌,
  ◌∷◌,
  [],
  List,
  Option,
  Some,
  None,
  IfSome,
  ap,
  append_assoc,
  arith,
  decimal,
  length,
  option_map,
  refl,
  subst,
  sym,
  ℕ,
}
use Rattle.std.specs.Char.{digit_value}
use Rattle.std.specs.List.{AllByRecursion, list_any}
use Rattle.list_laws.proofs.Booleans.{or_second}
use Rattle.record_text.specs.Text.{IsText}
use Rattle.stored_lines.specs.Line.{Label}
use Rattle.packed_rows.specs.Packed.{
  ArePackedAs,
  StoredLines,
  behind,
  on_one_line,
  text_part,
  number_part,
  line_text,
  lines_text,
  IsTypedLine,
  IsU32,
  HaveText,
}
use Rattle.packed_rows.specs.Pieces.{Lacks, HasPieces, IsFirstLine, IsLineOf}
use Rattle.packed_rows.proofs.Parted.{
  parted,
  parts_same,
  lacks_both,
  lacks_behind,
  no_mark,
  piece_lacks,
  rest_lacks,
}
use Rattle.packed_rows.proofs.Decimals.{decimal_lacks, decimal_same, numbers_same}
use Rattle.packed_rows.proofs.Texts.{tag_lacks, words_lack, texts_same}

digits_lack : (s : ℕ) → 10 ≤ digit_value s → (o : Option ℕ) → IfSome o IsU32 → IfSome (option_map decimal o) (Lacks s)
digits_lack s big None h = tt
digits_lack s big (Some n) h = decimal_lacks s big n h

-- what stands in front of the text has no space
head_lacks : (l : ℕ × Label) → IsTypedLine l → Lacks 32 (l.1.tag ++ number_part l.1.target)
head_lacks l h = lacks_both 32 l.1.tag (number_part l.1.target) (tag_lacks 32 refl l.1.tag h.1)
    (lacks_behind 32 62 (option_map decimal l.1.target) refl (digits_lack 32 (omega arith) l.1.target h.3))

pub text_lacks : (t : Option (List ℕ)) → Lacks 10 (text_part t)
text_lacks t = lacks_behind 10 32 (option_map on_one_line t) refl (words_lack t)

-- a line has no LF
pub line_lacks : (l : ℕ × Label) → IsTypedLine l → Lacks 10 (line_text l)
line_lacks l h =
    lacks_both 10 (decimal l.0) (32 ∷ (l.1.tag ++ (number_part l.1.target ++ text_part l.1.text)))
    (decimal_lacks 10 (omega arith) l.0 h.0)
    (lacks_both 10 l.1.tag (number_part l.1.target ++ text_part l.1.text) (tag_lacks 10 refl l.1.tag h.1)
    (lacks_both 10 (number_part l.1.target) (text_part l.1.text)
    (lacks_behind 10 62 (option_map decimal l.1.target) refl (digits_lack 10 (omega arith) l.1.target h.3))
    (text_lacks l.1.text)))

-- a text in pieces: a line that has the text has the pieces
pub pieces_found : (text depth rest head tag : List ℕ) (number words : Option (List ℕ)) → text ≡ depth ++ 32 ∷ rest
    → Lacks 32 depth → rest ≡ head ++ behind 32 words → Lacks 32 head → head ≡ tag ++ behind 62 number → Lacks 62 tag
    → (l : ℕ × Label) → IsLineOf text l → HasPieces depth tag number words l
pieces_found text depth rest head tag number words e hd f hh g ht l is =
    let typed : IsTypedLine l = is.typed in
    let one = parted 32 depth (decimal l.0) rest (l.1.tag ++ (number_part l.1.target ++ text_part l.1.text)) hd
    (decimal_lacks 32 (omega arith) l.0 typed.0) (sym e ∙ is.tell) in
    let two = parts_same 32 head (l.1.tag ++ number_part l.1.target) words (option_map on_one_line l.1.text) hh
    (head_lacks l typed)
    (sym f ∙ (one.1 ∙ sym (append_assoc l.1.tag (number_part l.1.target) (text_part l.1.text)))) in
    let three = parts_same 62 tag l.1.tag number (option_map decimal l.1.target) ht (tag_lacks 62 refl l.1.tag typed.1)
    (sym g ∙ two.0) in
    record { typed = typed; depth = one.0; tag = three.0; number = three.1; words = two.1 }

-- and a line that has the pieces has the text
pub line_found : (text depth rest head tag : List ℕ) (number words : Option (List ℕ)) → text ≡ depth ++ 32 ∷ rest
    → rest ≡ head ++ behind 32 words → head ≡ tag ++ behind 62 number → (l : ℕ × Label)
    → HasPieces depth tag number words l → IsLineOf text l
line_found text depth rest head tag number words e f g l is =
    let front : head ≡ l.1.tag ++ number_part l.1.target = g ∙ ap (λ (t : List ℕ). t ++ behind 62 number) is.tag
    ∙ ap (λ o. l.1.tag ++ behind 62 o) is.number in
    let more : rest ≡ l.1.tag ++ (number_part l.1.target ++ text_part l.1.text) =
    f ∙ ap (λ (t : List ℕ). t ++ behind 32 words) front
    ∙ ap (λ o. (l.1.tag ++ number_part l.1.target) ++ behind 32 o) is.words
    ∙ append_assoc l.1.tag (number_part l.1.target) (text_part l.1.text) in
    record {
      typed = is.typed;
      tell = e ∙ ap (λ (d : List ℕ). d ++ 32 ∷ rest) is.depth ∙ ap (λ (t : List ℕ). decimal l.0 ++ 32 ∷ t) more;
    }

-- two lines are one where all of their values are
pub line_is : (l m : ℕ × Label) → l.0 ≡ m.0 → l.1.tag ≡ m.1.tag → l.1.text ≡ m.1.text → l.1.target ≡ m.1.target → l ≡ m
line_is l m d g t o = λ i. (d i, record { tag = g i; text = t i; target = o i })

-- a text has one line at the most
pub line_same : (l m : ℕ × Label) → IsTypedLine l → IsTypedLine m → line_text l ≡ line_text m → l ≡ m
line_same l m hl hm e =
    let is = pieces_found (line_text l) (decimal l.0) (l.1.tag ++ (number_part l.1.target ++ text_part l.1.text))
    (l.1.tag ++ number_part l.1.target) l.1.tag (option_map decimal l.1.target) (option_map on_one_line l.1.text) refl
    (decimal_lacks 32 (omega arith) l.0 hl.0) (sym (append_assoc l.1.tag (number_part l.1.target) (text_part l.1.text)))
    (head_lacks l hl) refl (tag_lacks 62 refl l.1.tag hl.1) m (record { typed = hm; tell = e }) in
    line_is l m (decimal_same l.0 m.0 hl.0 hm.0 is.depth) is.tag (texts_same l.1.text m.1.text hl.2 hm.2 is.words)
    (numbers_same l.1.target m.1.target hl.3 hm.3 is.number)

-- ---- lines, each with LF after it
no_start : (a p : List ℕ) → [] ≡ a ++ 10 ∷ p → ⊥
no_start [] p e = absurd cc
no_start (x ∷ a) p e = absurd cc

pub lines_same : (ls ms : StoredLines) → AllByRecursion IsTypedLine ls → AllByRecursion IsTypedLine ms
    → lines_text ls ≡ lines_text ms → ls ≡ ms
lines_same [] [] hl hm e = refl
lines_same [] (m ∷ ms) hl hm e = absurd (no_start (line_text m) (lines_text ms) e)
lines_same (l ∷ ls) [] hl hm e = absurd (no_start (line_text l) (lines_text ls) (sym e))
lines_same (l ∷ ls) (m ∷ ms) hl hm e =
    let both = parted 10 (line_text l) (line_text m) (lines_text ls) (lines_text ms) (line_lacks l hl.0)
    (line_lacks m hm.0) e in
    let first : l ≡ m = line_same l m hl.0 hm.0 both.0 in
    ap (λ x. x ∷ ls) first ∙ ap (λ xs. m ∷ xs) (lines_same ls ms hl.1 hm.1 both.1)

-- lines that have a text have its first line, and what is left has the others
pub lines_left : (rest line after : List ℕ) → rest ≡ line ++ 10 ∷ after → Lacks 10 line → (more : StoredLines)
    → HaveText rest more → ((l : ℕ × Label) × IsLineOf line l) × ((ms : StoredLines) × HaveText after ms)
lines_left rest line after e h [] is = absurd (no_start line after (sym is.tell ∙ e))
lines_left rest line after e h (m ∷ ms) is =
    let both = parted 10 line (line_text m) after (lines_text ms) h (line_lacks m is.typed.0) (sym e ∙ is.tell) in
    ((m, record { typed = is.typed.0; tell = both.0 }), (ms, record { typed = is.typed.1; tell = both.1 }))

-- none is left in a text without LF
pub none_left : (rest : List ℕ) → Lacks 10 rest → (more : StoredLines) → HaveText rest more → rest ≡ []
none_left rest h [] is = is.tell
none_left rest h (m ∷ ms) is = absurd (no_mark 10 rest (line_text m) (lines_text ms) h is.tell)

-- ---- a packed text, cut at its first LF
pub packed_left : (tag : List ℕ) (target : Option ℕ) (text head below : List ℕ) → text ≡ head ++ 10 ∷ below
    → Lacks 10 head → (lines : StoredLines) → ArePackedAs tag target text lines
    → ((l : ℕ × Label) × IsFirstLine tag target head l) × ((ms : StoredLines) × HaveText below ms)
packed_left tag target text head below e h [] is = absurd is.first
packed_left tag target text head below e h (l ∷ ls) is =
    let both = parted 10 head (text_part l.1.text) below (lines_text ls) h (text_lacks l.1.text) (sym e ∙ is.tell) in (
      (
        l,
        record {
          typed = is.typed.0;
          depth = is.first.0;
          tag = is.first.1;
          target = is.first.2;
          tell = both.0;
        },
      ),
      (ls, record { typed = is.typed.1; tell = both.1 }),
    )

pub packed_found : (tag : List ℕ) (target : Option ℕ) (text head below : List ℕ) → text ≡ head ++ 10 ∷ below
    → (l : ℕ × Label) → IsFirstLine tag target head l → (ms : StoredLines) → HaveText below ms → (lines : StoredLines)
    → lines ≡ (l ∷ []) ++ ms → ArePackedAs tag target text lines
packed_found tag target text head below e l is ms more lines same =
    subst (ArePackedAs tag target text) (sym same) (record {
      typed = (is.typed, more.typed);
      first = (is.depth, is.tag, is.target);
      tell = e ∙ ap (λ (t : List ℕ). t ++ 10 ∷ below) is.tell
          ∙ ap (λ (t : List ℕ). text_part l.1.text ++ 10 ∷ t) more.tell;
    })

-- each packed text has LF
pub no_packed : (tag : List ℕ) (target : Option ℕ) (text : List ℕ) → Lacks 10 text → (lines : StoredLines)
    → ArePackedAs tag target text lines → ⊥
no_packed tag target text h [] is = is.first
no_packed tag target text h (l ∷ ls) is = no_mark 10 text (text_part l.1.text) (lines_text ls) h is.tell

-- each line has a space
pub no_line : (text : List ℕ) → Lacks 32 text → (l : ℕ × Label) × IsLineOf text l → ⊥
no_line text h x = no_mark 32 text (decimal x.0.0)
    (x.0.1.tag ++ (number_part x.0.1.target ++ text_part x.0.1.text)) h x.1.tell

-- the words of a line have no LF
pub words_of : (text depth rest head : List ℕ) (words : Option (List ℕ)) → Lacks 10 text → text ≡ depth ++ 32 ∷ rest
    → rest ≡ head ++ behind 32 words → IfSome words (Lacks 10)
words_of text depth rest head words h e f =
    let behind_depth : Lacks 10 (32 ∷ rest) = rest_lacks 10 depth (32 ∷ rest) (subst (Lacks 10) e h) in
    let more : Lacks 10 rest = or_second (32 == 10) (list_any (λ b. b == 10) rest) behind_depth in
    piece_lacks 10 32 words (rest_lacks 10 head (behind 32 words) (subst (Lacks 10) f more))

-- ---- the first line
pub own_words : (rest front : List ℕ) (words : Option (List ℕ)) → Lacks 10 rest → rest ≡ front ++ behind 32 words
    → IfSome words (Lacks 10)
own_words rest front words h e = piece_lacks 10 32 words (rest_lacks 10 front (behind 32 words) (subst (Lacks 10) e h))

first_parts : (tag : List ℕ) (target : Option ℕ) (rest front : List ℕ) (words : Option (List ℕ)) → Lacks 32 front
    → rest ≡ front ++ behind 32 words → (l : ℕ × Label) → IsFirstLine tag target rest l
    → (front ≡ []) × (words ≡ option_map on_one_line l.1.text)
first_parts tag target rest front words h e l is =
    parts_same 32 front [] words (option_map on_one_line l.1.text) h refl (sym e ∙ is.tell)

pub no_first : (tag : List ℕ) (target : Option ℕ) (rest front : List ℕ) (words : Option (List ℕ)) → Lacks 32 front
    → rest ≡ front ++ behind 32 words → 0 < length front → (l : ℕ × Label) × IsFirstLine tag target rest l → ⊥
no_first tag target rest front words h e some x =
    let none : length front ≡ 0 = ap length (first_parts tag target rest front words h e x.0 x.1).0 in
    omega (arith, some, none)

pub first_words : (tag : List ℕ) (target : Option ℕ) (rest front : List ℕ) (words : Option (List ℕ)) → Lacks 32 front
    → rest ≡ front ++ behind 32 words → (l : ℕ × Label) × IsFirstLine tag target rest l
    → (t : Option (List ℕ)) × (words ≡ option_map on_one_line t) × IfSome t IsText
first_words tag target rest front words h e x =
    (x.0.1.text, (first_parts tag target rest front words h e x.0 x.1).1, x.1.typed.2)

pub first_tells : (rest front : List ℕ) (words t : Option (List ℕ)) → rest ≡ front ++ behind 32 words
    → length front ≡ 0 → words ≡ option_map on_one_line t → rest ≡ text_part t
first_tells rest [] words t e n is = e ∙ ap (behind 32) is
first_tells rest (x ∷ xs) words t e n is = absurd (omega (arith, n))

-- The lines of a node are lines, and none is too long.
use Rattle.std.proofs.Common.{◌≡◌, ℕ, ◌<◌, ◌≤◌, true, ltb, leb, ◌&&◌, List, [], ◌∷◌, length, refl, inl, inr, arith}
use Rattle.std.specs.List.{list_all}
use Rattle.std.proofs.lemmas.Bool.{leb-true, ltb-true, and_parts}
use Rattle.gedcom_line.specs.Words.{is_word}
use Rattle.gedcom_line.specs.Line.{IsContinuation}
use Rattle.gedcom_line.specs.Reading.{Parts}
use Rattle.gedcom_line.specs.Spelling.{spelling, IsInner, IsLine}
use Rattle.gedcom_line.specs.Split.{char_count, IsShort, Part, canonical, EachPart}
use Rattle.gedcom_line.specs.Value.{Meaning, Text, Pointer}
use Rattle.gedcom_line.specs.declared.splitting.Mark.{Mark}
use Rattle.gedcom_line.specs.declared.splitting.Mark.TheVariants.{Conc, Cont}
use Rattle.gedcom_line.proofs.Again.{inner_nil}
use Rattle.gedcom_line.proofs.Counts.{char_count-nil}
use Rattle.gedcom_line.proofs.Inner.{escaped_inner, canonical_inner}
use Rattle.gedcom_line.proofs.Lengths.{xref_chars, canonical_short}
use Rattle.gedcom_rules.specs.Faults.{max_line}
use Rattle.gedcom_tree.specs.Forest.{Item, mark_tag, part_line, first_text, rest_parts, own_raw, more_parts, own_line}
use Rattle.gedcom_tree.specs.Text.{is_tag, IsNodeValue, IsNodeOf}
use Rattle.gedcom_tree.proofs.Measured.{line_fits}

-- the first part, and the others
first_each : (P : List ℕ → Type 0) (ps : List Part) → P [] → EachPart P ps → P (first_text ps)
first_each P [] z h = z
first_each P (p ∷ ps) z h = h.0

rest_each : (P : List ℕ → Type 0) (ps : List Part) → EachPart P ps → EachPart P (rest_parts ps)
rest_each P [] h = tt
rest_each P (p ∷ ps) h = h.1

own_inner : (v : Meaning) → IsNodeValue v → IsInner (own_raw v)
own_inner (Text t) h = escaped_inner (first_text (canonical t))
    (first_each IsInner (canonical t) inner_nil (canonical_inner (length t) t h.0 h.1.0 (omega arith)))
own_inner (Pointer p) h = h.1.1.0

own_short : (v : Meaning) → IsNodeValue v → char_count (own_raw v) ≤ 200
own_short (Text t) h = first_each IsShort (canonical t) (omega (arith, char_count-nil)) (canonical_short t)
own_short (Pointer p) h = omega (arith, xref_chars p h)

-- what each continuation of a value has
pub record PartsFit (ps : List Part) : Type 0 where
  pub inner : EachPart IsInner ps
  pub short : EachPart IsShort ps

pub more_fit : (v : Meaning) → IsNodeValue v → PartsFit (more_parts v)
more_fit (Text t) h =
    record {
      inner = rest_each IsInner (canonical t) (canonical_inner (length t) t h.0 h.1.0 (omega arith));
      short = rest_each IsShort (canonical t) (canonical_short t);
    }
more_fit (Pointer p) h = record { inner = tt; short = tt }

-- a line that can be written, and is not too long
pub record Written (l : Parts) : Type 0 where
  pub line : IsLine l
  pub chars : char_count l.raw ≤ 200

pub written_fits : (l : Parts) → Written l → length (spelling l) ≤ max_line
written_fits l w = line_fits l w.line w.chars

record Tag (tag : List ℕ) : Type 0 where
  words : list_all is_word tag ≡ true
  some : 0 < length tag
  short : length tag ≤ 31

tag_is : (tag : List ℕ) → is_tag tag ≡ true → Tag tag
tag_is tag h =
    let a = and_parts (list_all is_word tag && ltb 0 (length tag)) (leb (length tag) 31) h in
    let b = and_parts (list_all is_word tag) (ltb 0 (length tag)) a.0 in
    record { words = b.0; some = ltb-true 0 (length tag) b.1; short = leb-true (length tag) 31 a.1 }

pub own_written : (i : Item) → IsNodeOf i → Written (own_line i)
own_written i n =
    let t = tag_is i.tag n.tag in
    record {
      line = record {
        level = omega (arith, n.low);
        high = λ e. absurd (omega (arith, n.low, e));
        xref = n.xref;
        tag = t.words;
        some = t.some;
        short = t.short;
        raw = own_inner i.value n.value;
      };
      chars = own_short i.value n.value;
    }

mark_is : (m : Mark) → IsContinuation (mark_tag m)
mark_is Conc = inl refl
mark_is Cont = inr refl

mark_is_tag : (m : Mark) → Tag (mark_tag m)
mark_is_tag Conc = record { words = refl; some = omega arith; short = omega arith }
mark_is_tag Cont = record { words = refl; some = omega arith; short = omega arith }

pub part_written : (level : ℕ) (p : Part) → level ≤ 99 → IsInner p.text → IsShort p.text → Written (part_line level p)
part_written level p low i s =
    let t = mark_is_tag p.mark in
    record {
      line = record {
        level = low;
        high = λ e. mark_is p.mark;
        xref = tt;
        tag = t.words;
        some = t.some;
        short = t.short;
        raw = escaped_inner p.text i;
      };
      chars = s;
    }

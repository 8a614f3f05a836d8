-- What is said of the lines of families is what the report says of them.
use Rattle.std.proofs.Common.{◌≡◌, ℕ, Bool, true, false, List, [], ◌∷◌, ◌++◌, refl, sym, ap, ◌∙◌, subst, cond, map}
use Rattle.std.specs.Prelude.{◌&&◌, ◌||◌, ◌==◌, not, Option, Some, None, option_map, bytes_eq, codes, if◌then◌else◌}
use Rattle.std.specs.List.{list_any, flat_map}
use Rattle.stored_lines.specs.Tree.{Tree, Forest, node, none, more, list_of, relabel_all}
use Rattle.stored_lines.specs.Line.{Line, Lines}
use Rattle.stored_lines.specs.declared.carried.Value.{Value}
use Rattle.stored_lines.specs.declared.carried.Value.TheVariants as value
use Rattle.gedcom_line.specs.Value.{Meaning, Text, Pointer}
use Rattle.receipts.specs.declared.report.ReportWord.TheVariants as word
use Rattle.record_shapes.specs.Fields.{a_member, family_field, is_citation, is_same}
use Rattle.record_shapes.specs.Tags.{family_tags}
use Rattle.record_shapes.specs.Forms.{is_among, is_text, number_of}
use Rattle.import_definitions.specs.Nodes.{FileLine, FileNode}
use Rattle.import_definitions.specs.Lines.{Lined, lined_root, place_in, put, resolve, resolved, roots}
use Rattle.import_definitions.specs.Positions.{known, tag_at}
use Rattle.import_definitions.specs.Report.{judge_member, judged, names_member, said_of_family, said_on}
use Rattle.file_records.specs.Members.{doubled, doubled_by, doubled_in, seen_by}
use Rattle.file_records.specs.Told.{is_member_tag, member_as, position_in, with_tag}
use Rattle.file_records.specs.declared.told.Told.{Told}
use Rattle.file_records.proofs.FieldRows.{member_row, none_told, one_told, told_if}
use Rattle.list_laws.proofs.Booleans.{and_never}

-- one line, which names person k where m holds
said_one : (m seen was : Bool) (as_partner : Bool) (k : ℕ) (s : ℕ → Bool) (l : FileLine) → s k ≡ seen → seen ≡ was
    → doubled_by s l (told_if m as_partner k)
    ≡ said_on l.line (if m && was then Some word.Doubled else None)
said_one true true true p k s l e f = ap (λ b. if b then record { line = l.line; word = word.Doubled } ∷ [] else []) e
said_one true false false p k s l e f = ap (λ b. if b then record { line = l.line; word = word.Doubled } ∷ [] else []) e
said_one true true false p k s l e f = absurd cc
said_one true false true p k s l e f = absurd cc
said_one false seen was p k s l e f = refl

seen_one : (m b : Bool) (s : ℕ → Bool) (k n : ℕ) → seen_by s (told_if m b k) n ≡ ((m && (k == n)) || s n)
seen_one true b s k n = refl
seen_one false b s k n = refl

abbrev pub as_partner : FileLine → Bool
as_partner l = not (bytes_eq l.tag (codes "CHIL"))

-- a line as it is read
abbrev pub line_with : FileLine → Value → Forest Lined → Tree Line
line_with l v below = node (record { tag = l.tag; value = v }) (relabel_all (λ (x : Lined). x.1) below)

module _ (ks : List FileNode) where
  -- the lines before are those that were seen
  abbrev IsSeen : (ℕ → Bool) → Lines → Type 0
  IsSeen s before = (n : ℕ) → s n ≡ list_any (names_member (known (roots ks)) n) before

  -- what is said of a line with those after it, where its value is that
  abbrev Says : (ℕ → Bool) → Lines → Option Told → FileLine → Option Value → Forest FileLine → Forest FileLine → Type 0
  Says s before told l v g ts = doubled_by s l told ++ doubled ks (seen_by s told) (list_of ts)
      ≡ judged (judge_member (known (roots ks))) before
      (list_of (put l v (resolved (place_in ks) g) (resolved (place_in ks) ts)))

  module _ (ts : Forest FileLine)
      (rest : (s : ℕ → Bool) (before : Lines) → IsSeen s before → doubled ks s (list_of ts)
      ≡ judged (judge_member (known (roots ks))) before (list_of (resolved (place_in ks) ts)))
      (s : ℕ → Bool) (before : Lines) (so : IsSeen s before) (l : FileLine) (g : Forest FileLine) where
    -- a line that tells what its field says
    says : (t : Tree Line) (m b : Bool) → is_same (family_field (known (roots ks)) t) a_member ≡ m
        → doubled_by s l (told_if m b (number_of t)) ++ doubled ks (seen_by s (told_if m b (number_of t))) (list_of ts)
        ≡ said_on l.line (judge_member (known (roots ks)) before t)
        ++ judged (judge_member (known (roots ks))) (t ∷ before) (list_of (resolved (place_in ks) ts))
    says t m b e =
        let k : ℕ = number_of t in
        let was : Bool = list_any (names_member (known (roots ks)) k) before in
        ap (λ us. us ++ doubled ks (seen_by s (told_if m b k)) (list_of ts))
        (said_one m (s k) was b k s l refl (so k)
        ∙ ap (λ f. said_on l.line (if f && was then Some word.Doubled else None)) (sym e))
        ∙ ap (λ us. said_on l.line (judge_member (known (roots ks)) before t) ++ us)
        (rest (seen_by s (told_if m b k)) (t ∷ before)
        (λ n. seen_one m b s k n ∙ ap (λ f. (f && (k == n)) || s n) (sym e)
        ∙ ap (λ f. (is_same (family_field (known (roots ks)) t) a_member && (k == n)) || f) (so n)))

    text_says : (t : List ℕ) → Says s before (member_as l.tag None) l (Some (value.Text t)) g ts
    text_says t =
        let u : Tree Line = line_with l (value.Text t) (resolved (place_in ks) g) in
        subst (λ told. Says s before told l (Some (value.Text t)) g ts)
        (sym (none_told (is_member_tag l.tag) (as_partner l)))
        (says u false false (member_row (is_member_tag l.tag && false) (is_among family_tags u && is_text u)
        (is_citation (known (roots ks)) u) ∙ and_never (is_member_tag l.tag)))

    pointer_says : (o : Option ℕ) → Says s before (member_as l.tag (with_tag (roots ks) (codes "INDI") o)) l
        (option_map value.Ref o) g ts
    pointer_says None = subst (λ told. Says s before told l None g ts)
        (sym (none_told (is_member_tag l.tag) (as_partner l)))
        (rest s before so)
    pointer_says (Some p) =
        let u : Tree Line = line_with l (value.Ref p) (resolved (place_in ks) g) in
        let d : Bool = bytes_eq (tag_at (roots ks) p) (codes "INDI") in
        subst (λ told. Says s before told l (Some (value.Ref p)) g ts)
        (sym (one_told (is_member_tag l.tag) (as_partner l) d p))
        (says u (is_member_tag l.tag && d) (as_partner l)
        (member_row (is_member_tag l.tag && d) (is_among family_tags u && is_text u)
        (is_citation (known (roots ks)) u)))

    value_says : (v : Meaning) → Says s before (member_as l.tag (with_tag (roots ks) (codes "INDI")
        (position_in (place_in ks) v))) l (resolve (place_in ks) v) g ts
    value_says (Text t) = text_says t
    value_says (Pointer name) = pointer_says (place_in ks name)

  doubled_is : (f : Forest FileLine) (s : ℕ → Bool) (before : Lines) → IsSeen s before
      → doubled ks s (list_of f) ≡ judged (judge_member (known (roots ks))) before (list_of (resolved (place_in ks) f))
  doubled_is none s before so = refl
  doubled_is (more (node l g) ts) s before so = value_says ts (doubled_is ts) s before so l g l.value

  family_is : (t : FileNode) → doubled_in ks t ≡ said_of_family (roots ks) (lined_root (place_in ks) t)
  family_is (node l f) = ap (λ us. cond (bytes_eq l.tag (codes "FAM")) us [])
      (doubled_is f (λ n. false) [] (λ n. refl))

  -- of all nodes
  pub families_are : (ts : List FileNode)
      → flat_map (doubled_in ks) ts ≡ flat_map (said_of_family (roots ks)) (map (lined_root (place_in ks)) ts)
  families_are [] = refl
  families_are (t ∷ ts) = (λ i. family_is t i ++ families_are ts i)

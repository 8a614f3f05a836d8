-- What is said of the lines of persons is what the report says of them.
use Rattle.std.proofs.Common.{◌≡◌, ℕ, ◌+◌, Bool, true, false, List, [], ◌∷◌, ◌++◌, refl, sym, ap, ◌∙◌, subst, cond, map}
use Rattle.std.specs.Prelude.{◌&&◌, ◌||◌, ◌==◌, not, Option, Some, None, option_map, bytes_eq, codes}
use Rattle.std.specs.List.{list_any}
use Rattle.std.proofs.lemmas.Bool.{eqb-true}
use Rattle.std.proofs.lemmas.Slice.Eq.{bytes_eq-Decides}
use Rattle.stored_lines.specs.Tree.{Tree, Forest, node, none, more, list_of}
use Rattle.stored_lines.specs.Line.{Line, Lines}
use Rattle.stored_lines.specs.declared.carried.Value.{Value}
use Rattle.stored_lines.specs.declared.carried.Value.TheVariants as value
use Rattle.gedcom_line.specs.Value.{Meaning, Text, Pointer}
use Rattle.receipts.specs.declared.report.ReportWord.{ReportWord}
use Rattle.receipts.specs.declared.report.ReportWord.TheVariants as word
use Rattle.record_fields.specs.Words.{sex_of}
use Rattle.record_shapes.specs.Fields.{a_side, is_citation, is_same, person_field}
use Rattle.record_shapes.specs.Forms.{is_among, is_bare, is_some, is_text, number_of, tag_of, tagged, text_of}
use Rattle.record_shapes.specs.Tags.{person_tags}
use Rattle.import_definitions.specs.Nodes.{FileLine, FileNode}
use Rattle.import_definitions.specs.Lines.{lined_root, lined_roots, place_in, put, resolve, resolved, roots}
use Rattle.import_definitions.specs.Positions.{known, tag_at}
use Rattle.import_definitions.specs.Report as report
use Rattle.import_definitions.specs.Report.{is_partner, is_sided, judge_side, judged, said_of_person, said_of_persons}
use Rattle.import_definitions.specs.Sides.{names_family}
use Rattle.file_records.specs.Lookups.{fit_tag}
use Rattle.file_records.specs.Taken.{
  fits,
  named_in,
  said_by,
  said_by_members,
  said_from,
  said_if,
  said_of_sides,
  said_on,
  taken_by,
  taken_if,
  word_of,
}
use Rattle.file_records.specs.Told.{is_side_tag, position_in, side_as, with_tag}
use Rattle.file_records.specs.declared.told.Told.{Told}
use Rattle.file_records.proofs.FieldRows.{none_told, one_told, pointer_side, text_no_side, told_if}
use Rattle.file_records.proofs.Partners.{is_partner_told, partner_in}
use Rattle.file_records.proofs.SaidMembers.{line_with}
use Rattle.list_laws.proofs.Booleans.{and_first}

-- ---- the tag of the lines that count
-- a line of the other tag
other_tag : (tag : List ℕ) (b : Bool) → bytes_eq tag (codes "FAMS") ≡ b → is_side_tag tag ≡ true
    → bytes_eq tag (codes "FAMC") ≡ not b
other_tag tag true e s =
    ap (λ t. bytes_eq t (codes "FAMC")) ((bytes_eq-Decides tag (codes "FAMS")).0 e)
other_tag tag false e s = elim (bytes_eq tag (codes "FAMC")) as (λ c. (c || bytes_eq tag (codes "FAMS")) ≡ true
    → c ≡ true) [
      | true ↦ λ h. refl
      | false ↦ λ h. absurd (let both : false ≡ true = sym e ∙ h in cc)
    ] s

-- a line counts exactly where it has that tag
pub fit_is : (tag : List ℕ) (b : Bool) (m : Option Bool) → bytes_eq tag (codes "FAMS") ≡ b → is_side_tag tag ≡ true
    → bytes_eq tag (fit_tag m) ≡ fits b m
fit_is tag true (Some true) e s = e
fit_is tag false (Some true) e s = e
fit_is tag true (Some false) e s = other_tag tag true e s
fit_is tag false (Some false) e s = other_tag tag false e s
fit_is tag true None e s = other_tag tag true e s
fit_is tag false None e s = other_tag tag false e s

sided_is : (b : Bool) (m : Option Bool) → cond (partner_in m) b (not b) ≡ fits b m
sided_is true (Some true) = refl
sided_is false (Some true) = refl
sided_is true (Some false) = refl
sided_is false (Some false) = refl
sided_is true None = refl
sided_is false None = refl

-- ---- the word of a line
word_same : (f seen was : Bool) → (f ≡ true → seen ≡ was)
    → cond f (cond seen (Some word.Doubled) None) (Some word.OneSided)
    ≡ cond f (cond was (Some word.Doubled) None) (Some word.OneSided)
word_same true seen was h = ap (λ b. cond b (Some word.Doubled) None) (h refl)
word_same false seen was h = refl

said_same : (l : FileLine) (w : Option ReportWord) → said_if l w ≡ report.said_on l.line w
said_same l None = refl
said_same l (Some w) = refl

-- ---- what was taken before
taken_word : (f w : Bool) (t : Told) (taken : ℕ → Bool) (q : ℕ)
    → taken_if t (cond f (cond w (Some word.Doubled) None) (Some word.OneSided)) taken q
    ≡ ((f && (not w && (t.other == q))) || taken q)
taken_word true true t taken q = refl
taken_word true false t taken q = refl
taken_word false w t taken q = refl

absorbs : (f w x y : Bool) → (x ≡ true → y ≡ w) → ((f && (not w && x)) || y) ≡ ((f && x) || y)
absorbs false w x y h = refl
absorbs true false x y h = refl
absorbs true true false y h = refl
absorbs true true true y h = h refl

pub same_and : (x f g : Bool) → (x ≡ true → f ≡ g) → (f && x) ≡ (g && x)
same_and true f g h = ap (λ v. v && true) (h refl)
same_and false true true h = refl
same_and false true false h = refl
same_and false false true h = refl
same_and false false false h = refl

both_second : (a b : Bool) → (a && b) ≡ true → b ≡ true
both_second true b e = e
both_second false b e = absurd cc

module _ (ks : List FileNode) (n : ℕ) where
  abbrev member : ℕ → Option Bool
  member k = named_in ks k n

  -- the lines before that count are those that were taken
  abbrev IsTaken : (ℕ → Bool) → Lines → Type 0
  IsTaken taken before = (q : ℕ)
      → taken q ≡ list_any (names_family (known (roots ks)) (fit_tag (member q)) q) before

  abbrev Says : (ℕ → Bool) → Lines → Option Told → FileLine → Option Value → Forest FileLine → Forest FileLine → Type 0
  Says taken before told l v g ts = said_by member taken l told
      ++ said_on ks member (taken_by member taken told) (list_of ts)
      ≡ judged (judge_side (roots ks) n) before
      (list_of (put l v (resolved (place_in ks) g) (resolved (place_in ks) ts)))

  -- a line that names a family as one of its members does
  pub record Sided (u : Tree Line) (m b : Bool) : Type 0 where
    pub field_is : is_same (person_field (known (roots ks)) u) a_side ≡ m
    pub tag_is : bytes_eq (tag_of u) (codes "FAMS") ≡ b
    pub side : m ≡ true → is_side_tag (tag_of u) ≡ true
    pub family : m ≡ true → bytes_eq (tag_at (roots ks) (number_of u)) (codes "FAM") ≡ true

  module _ (l : FileLine) (g : Forest FileLine) where
    pub text_sided : (t : List ℕ) → Sided (line_with l (value.Text t) (resolved (place_in ks) g)) false
        (bytes_eq l.tag (codes "FAMS"))
    text_sided t =
        let u : Tree Line = line_with l (value.Text t) (resolved (place_in ks) g) in
        record {
          field_is = text_no_side (tagged (codes "NAME") u && is_text u)
              (tagged (codes "SEX") u && (is_bare u && is_some (sex_of (text_of u))))
              (is_among person_tags u && is_text u)
              (is_side_tag l.tag) (is_citation (known (roots ks)) u);
          tag_is = refl;
          side = λ e. absurd cc;
          family = λ e. absurd cc;
        }

    pub pointer_sided : (p : ℕ) → Sided (line_with l (value.Ref p) (resolved (place_in ks) g))
        (is_side_tag l.tag && bytes_eq (tag_at (roots ks) p) (codes "FAM")) (bytes_eq l.tag (codes "FAMS"))
    pointer_sided p =
        let u : Tree Line = line_with l (value.Ref p) (resolved (place_in ks) g) in
        let d : Bool = bytes_eq (tag_at (roots ks) p) (codes "FAM") in
        record {
          field_is = pointer_side (tagged (codes "NAME") u) (tagged (codes "SEX") u) (is_among person_tags u)
              (is_side_tag l.tag && d) (is_citation (known (roots ks)) u);
          tag_is = refl;
          side = λ e. and_first (is_side_tag l.tag) d e;
          family = λ e. both_second (is_side_tag l.tag) d e;
        }

  module _ (taken : ℕ → Bool) (before : Lines) (so : IsTaken taken before) (l : FileLine) (u : Tree Line)
      (b : Bool) where
    said_one : (m : Bool) → Sided u m b → said_by member taken l (told_if m b (number_of u))
        ≡ report.said_on l.line (judge_side (roots ks) n before u)
    said_one false s = ap (λ f. report.said_on l.line (cond f (cond (is_sided (is_partner (roots ks) n (number_of u)) u)
        (cond (list_any (names_family (known (roots ks)) (tag_of u) (number_of u)) before) (Some word.Doubled) None)
        (Some word.OneSided)) None)) (sym s.field_is)
    said_one true s =
        let k : ℕ = number_of u in
        let f : Bool = fits b (member k) in
        let was : List ℕ → Bool = λ tag. list_any (names_family (known (roots ks)) tag k) before in
        said_same l (word_of (record { other = k; as_partner = b }) (member k) (taken k))
        ∙ ap (report.said_on l.line) (
        word_same f (taken k) (was (tag_of u)) (λ h. so k ∙ ap was (sym ((bytes_eq-Decides (tag_of u)
        (fit_tag (member k))).0 (fit_is (tag_of u) b (member k) s.tag_is (s.side refl) ∙ h))))
        ∙ ap (λ c. cond c (cond (was (tag_of u)) (Some word.Doubled) None) (Some word.OneSided))
        (sym (ap (λ p. is_sided p u) (is_partner_told ks n k (s.family refl))
        ∙ ap (λ c. cond (partner_in (member k)) c (not c)) s.tag_is ∙ sided_is b (member k)))
        ∙ ap (λ c. cond c (cond (is_sided (is_partner (roots ks) n k) u)
        (cond (was (tag_of u)) (Some word.Doubled) None)
        (Some word.OneSided)) None) (sym s.field_is)
        )

    taken_one : (m : Bool) → Sided u m b → IsTaken (taken_by member taken (told_if m b (number_of u))) (u ∷ before)
    taken_one false s q = so q ∙ ap (λ f. (f && (bytes_eq (tag_of u) (fit_tag (member q)) && (number_of u == q)))
        || list_any (names_family (known (roots ks)) (fit_tag (member q)) q) before) (sym s.field_is)
    taken_one true s q =
        let k : ℕ = number_of u in
        let behind : Bool = list_any (names_family (known (roots ks)) (fit_tag (member q)) q) before in
        taken_word (fits b (member k)) (taken k) (record { other = k; as_partner = b }) taken q
        ∙ absorbs (fits b (member k)) (taken k) (k == q) (taken q) (λ h. ap taken (sym (eqb-true k q h)))
        ∙ ap (λ v. (fits b (member k) && (k == q)) || v) (so q)
        ∙ ap (λ v. v || behind) (same_and (k == q) (fits b (member k)) (bytes_eq (tag_of u) (fit_tag (member q)))
        (λ h. sym (fit_is (tag_of u) b (member k) s.tag_is (s.side refl))
        ∙ ap (λ j. bytes_eq (tag_of u) (fit_tag (member j))) (eqb-true k q h)))
        ∙ ap (λ f. (f && (bytes_eq (tag_of u) (fit_tag (member q)) && (k == q))) || behind) (sym s.field_is)

  module _ (ts : Forest FileLine)
      (rest : (taken : ℕ → Bool) (before : Lines) → IsTaken taken before → said_on ks member taken (list_of ts)
      ≡ judged (judge_side (roots ks) n) before (list_of (resolved (place_in ks) ts)))
      (taken : ℕ → Bool) (before : Lines) (so : IsTaken taken before) (l : FileLine) (g : Forest FileLine) where
    says : (u : Tree Line) (m b : Bool) → Sided u m b
        → said_by member taken l (told_if m b (number_of u))
        ++ said_on ks member (taken_by member taken (told_if m b (number_of u))) (list_of ts)
        ≡ report.said_on l.line (judge_side (roots ks) n before u)
        ++ judged (judge_side (roots ks) n) (u ∷ before) (list_of (resolved (place_in ks) ts))
    says u m b s =
        ap (λ us. us ++ said_on ks member (taken_by member taken (told_if m b (number_of u))) (list_of ts))
        (said_one taken before so l u b m s)
        ∙ ap (λ us. report.said_on l.line (judge_side (roots ks) n before u) ++ us)
        (rest (taken_by member taken (told_if m b (number_of u))) (u ∷ before) (taken_one taken before so l u b m s))

    text_says : (t : List ℕ) → Says taken before (side_as l.tag None) l (Some (value.Text t)) g ts
    text_says t =
        let u : Tree Line = line_with l (value.Text t) (resolved (place_in ks) g) in
        let b : Bool = bytes_eq l.tag (codes "FAMS") in
        subst (λ told. Says taken before told l (Some (value.Text t)) g ts) (sym (none_told (is_side_tag l.tag) b))
        (says u false b (text_sided l g t))

    pointer_says : (o : Option ℕ) → Says taken before (side_as l.tag (with_tag (roots ks) (codes "FAM") o)) l
        (option_map value.Ref o) g ts
    pointer_says None =
        subst (λ told. Says taken before told l None g ts)
        (sym (none_told (is_side_tag l.tag) (bytes_eq l.tag (codes "FAMS")))) (rest taken before so)
    pointer_says (Some p) =
        let u : Tree Line = line_with l (value.Ref p) (resolved (place_in ks) g) in
        let b : Bool = bytes_eq l.tag (codes "FAMS") in
        let d : Bool = bytes_eq (tag_at (roots ks) p) (codes "FAM") in
        subst (λ told. Says taken before told l (Some (value.Ref p)) g ts) (sym (one_told (is_side_tag l.tag) b d p))
        (says u (is_side_tag l.tag && d) b (pointer_sided l g p))

    value_says : (v : Meaning) → Says taken before (side_as l.tag (with_tag (roots ks) (codes "FAM")
        (position_in (place_in ks) v))) l (resolve (place_in ks) v) g ts
    value_says (Text t) = text_says t
    value_says (Pointer name) = pointer_says (place_in ks name)

  said_is : (f : Forest FileLine) (taken : ℕ → Bool) (before : Lines) → IsTaken taken before
      → said_on ks member taken (list_of f)
      ≡ judged (judge_side (roots ks) n) before (list_of (resolved (place_in ks) f))
  said_is none taken before so = refl
  said_is (more (node l g) ts) taken before so = value_says ts (said_is ts) taken before so l g l.value

  person_is : (t : FileNode) → said_by_members ks (named_in ks) n t
      ≡ said_of_person (roots ks) n (lined_root (place_in ks) t)
  person_is (node l f) = ap (λ us. cond (bytes_eq l.tag (codes "INDI")) us [])
      (said_is f (λ k. false) [] (λ q. refl))

-- of all nodes
persons_are : (ks : List FileNode) (n : ℕ) (ts : List FileNode) → said_from ks (named_in ks) n ts
    ≡ said_of_persons (roots ks) n (map (lined_root (place_in ks)) ts)
persons_are ks n [] = refl
persons_are ks n (t ∷ ts) = (λ i. person_is ks n t i ++ persons_are ks (n + 1) ts i)

pub sides_said : (ks : List FileNode) → said_of_sides ks ≡ said_of_persons (roots ks) 0 (lined_roots ks)
unfolding said_of_sides
sides_said ks = persons_are ks 0 ks

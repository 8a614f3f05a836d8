-- The lines of the side of a person in a family are those that an import reads there.
use Rattle.std.proofs.Common.{
  ◌≡◌,
  ℕ,
  ◌+◌,
  Bool,
  true,
  false,
  List,
  [],
  ◌∷◌,
  ◌++◌,
  length,
  refl,
  sym,
  ap,
  ◌∙◌,
  subst,
  cond,
  append_assoc,
}
use Rattle.std.specs.Prelude.{◌&&◌, ◌||◌, ◌==◌, Option, Some, None, option_map, bytes_eq, codes}
use Rattle.std.specs.List.{filter, slice_get}
use Rattle.std.proofs.lemmas.Bool.{eqb-true}
use Rattle.std.proofs.lemmas.List.Elements.{filter-append}
use Rattle.stored_lines.specs.Tree.{Tree, Forest, node, none, more, children, label, list_of, relabel_all}
use Rattle.stored_lines.specs.Line.{Line, Lines}
use Rattle.stored_lines.specs.declared.carried.Value.{Value}
use Rattle.stored_lines.specs.declared.carried.Value.TheVariants as value
use Rattle.gedcom_line.specs.Value.{Meaning, Text, Pointer}
use Rattle.receipts.specs.declared.report.ReportWord.TheVariants as word
use Rattle.record_shapes.specs.Entries.{below_on}
use Rattle.record_shapes.specs.Forms.{number_of, tag_of}
use Rattle.record_shapes.specs.Picking.{first}
use Rattle.import_definitions.specs.Nodes.{FileLine, FileNode}
use Rattle.import_definitions.specs.Lines.{Lined, lined_root, place_in, put, resolve, resolved, roots, unlined}
use Rattle.import_definitions.specs.Positions.{known, tag_at}
use Rattle.import_definitions.specs.Sides.{names_family, side_of}
use Rattle.file_records.specs.Lookups.{fit_tag, lines_in, lines_of}
use Rattle.file_records.specs.Taken.{
  fits,
  is_none,
  named_in,
  side_by,
  side_if,
  sides_by_members,
  sides_on,
  taken_by,
  taken_if,
}
use Rattle.file_records.specs.Told.{is_side_tag, position_in, side_as, with_tag}
use Rattle.file_records.specs.declared.sides.Side.{Side}
use Rattle.file_records.specs.declared.told.Told.{Told}
use Rattle.file_records.proofs.FieldRows.{none_told, one_told, told_if}
use Rattle.file_records.proofs.Partners.{root_at}
use Rattle.file_records.proofs.SaidMembers.{line_with}
use Rattle.file_records.proofs.SaidSides.{Sided, fit_is, pointer_sided, same_and, text_sided}
use Rattle.list_laws.proofs.Lists.{at_end, more_behind}

module _ (ks : List FileNode) (n k : ℕ) where
  abbrev pub member : ℕ → Option Bool
  member q = named_in ks q n

  abbrev pub ours : List Side → List Side
  ours ss = filter (λ (s : Side). s.family == k) ss

  abbrev pub side_among : Lines → Option (Tree Line)
  side_among us = first (filter (names_family (known (roots ks)) (fit_tag (member k)) k) us)

  -- a side that is taken, where none of the family was
  ours_of : (f w : Bool) (i : ℕ) (t : Told) (m : Option Bool) → ((t.other == k) ≡ true → w ≡ false)
      → ours (side_if n i t m (cond f (cond w (Some word.Doubled) None) (Some word.OneSided)))
      ≡ cond (f && (t.other == k)) ((record { family = t.other; person = n; line = i; is_late = is_none m }) ∷ []) []
  ours_of false w i t m h = refl
  ours_of true false i t m h = refl
  ours_of true true i t m h = elim (t.other == k) as (λ x. (x ≡ true → true ≡ false)
      → ◌≡◌ {A = List Side} [] (cond x ((record { family = t.other; person = n; line = i; is_late = is_none m }) ∷ [])
      [])) [
        | true ↦ λ g. absurd (let e : true ≡ false = g refl in cc)
        | false ↦ λ g. refl
      ] h

  -- what is taken of the family after a line that is not its side
  untaken_of : (f w : Bool) (t : Told) (taken : ℕ → Bool) → (f && (t.other == k)) ≡ false → taken k ≡ false
      → taken_if t (cond f (cond w (Some word.Doubled) None) (Some word.OneSided)) taken k ≡ false
  untaken_of false w t taken e h = h
  untaken_of true true t taken e h = h
  untaken_of true false t taken e h = ap (λ b. b || taken k) e ∙ h

  module _ (taken : ℕ → Bool) (free : taken k ≡ false) (u : Tree Line) (b : Bool) where
    abbrev pub is_ours : Bool → Bool
    is_ours m = m && (fits b (member (number_of u)) && (number_of u == k))

    abbrev pub here : ℕ → Side
    here i = record { family = number_of u; person = n; line = i; is_late = is_none (member (number_of u)) }

    pub not_taken : (number_of u == k) ≡ true → taken (number_of u) ≡ false
    not_taken h = ap taken (eqb-true (number_of u) k h) ∙ free

    pub sides_one : (m : Bool) (i : ℕ) → ours (side_by n member taken i (told_if m b (number_of u)))
        ≡ cond (is_ours m) (here i ∷ []) []
    sides_one true i = ours_of (fits b (member (number_of u))) (taken (number_of u)) i
        (record { other = number_of u; as_partner = b }) (member (number_of u)) not_taken
    sides_one false i = refl

    pub taken_one : (m : Bool) → is_ours m ≡ false → taken_by member taken (told_if m b (number_of u)) k ≡ false
    taken_one true e = untaken_of (fits b (member (number_of u))) (taken (number_of u))
        (record { other = number_of u; as_partner = b }) taken e free
    taken_one false e = free

    pub names_one : (m : Bool) → Sided ks n u m b → names_family (known (roots ks)) (fit_tag (member k)) k u ≡ is_ours m
    names_one true s = ap (λ f. f && (bytes_eq (tag_of u) (fit_tag (member k)) && (number_of u == k))) s.field_is
        ∙ same_and (number_of u == k) (bytes_eq (tag_of u) (fit_tag (member k))) (fits b (member (number_of u)))
        (λ h. ap (λ q. bytes_eq (tag_of u) (fit_tag (member q))) (sym (eqb-true (number_of u) k h))
        ∙ fit_is (tag_of u) b (member (number_of u)) s.tag_is (s.side refl))
    names_one false s = ap (λ f. f && (bytes_eq (tag_of u) (fit_tag (member k)) && (number_of u == k))) s.field_is

  -- the lines of the side are those below the first line of the person that names the family so
  abbrev Finds : Option Told → Option Value → FileLine → Forest FileLine → Forest FileLine → (ℕ → Bool) → List FileNode
      → Type 0
  Finds told v l g ts taken pre =
      lines_in ks (pre ++ (node l g ∷ list_of ts)) (ours (side_by n member taken (length pre) told
      ++ sides_on ks n member (taken_by member taken told) (length pre + 1) (list_of ts)))
      ≡ below_on (side_among (list_of (relabel_all (λ (x : Lined). x.1)
      (put l v (resolved (place_in ks) g) (resolved (place_in ks) ts)))))

  abbrev pub behind : Forest FileLine → Lines
  behind ts = list_of (relabel_all (λ (x : Lined). x.1) (resolved (place_in ks) ts))

  module _ (ts : Forest FileLine)
      (rest : (taken : ℕ → Bool) (pre : List FileNode) → taken k ≡ false
      → lines_in ks (pre ++ list_of ts) (ours (sides_on ks n member taken (length pre) (list_of ts)))
      ≡ below_on (side_among (behind ts)))
      (taken : ℕ → Bool) (pre : List FileNode) (free : taken k ≡ false) (l : FileLine) (g : Forest FileLine) where
    -- a line that is no side of the family
    passes : (told : Option Told) → ours (side_by n member taken (length pre) told) ≡ []
        → taken_by member taken told k ≡ false
        → lines_in ks (pre ++ (node l g ∷ list_of ts)) (ours (side_by n member taken (length pre) told
        ++ sides_on ks n member (taken_by member taken told) (length pre + 1) (list_of ts)))
        ≡ below_on (side_among (behind ts))
    passes told e f =
        ap (lines_in ks (pre ++ (node l g ∷ list_of ts)))
        (filter-append (λ (s : Side). s.family == k) (side_by n member taken (length pre) told)
        (sides_on ks n member (taken_by member taken told) (length pre + 1) (list_of ts))
        ∙ ap (λ us. us ++ ours (sides_on ks n member (taken_by member taken told) (length pre + 1) (list_of ts))) e
        ∙ ap (λ i. ours (sides_on ks n member (taken_by member taken told) i (list_of ts)))
        (sym (more_behind pre (node l g))))
        ∙ ap (λ cs. lines_in ks cs (ours (sides_on ks n member (taken_by member taken told)
        (length (pre ++ (node l g ∷ []))) (list_of ts)))) (sym (append_assoc pre (node l g ∷ []) (list_of ts)))
        ∙ rest (taken_by member taken told) (pre ++ (node l g ∷ [])) f

    finds : (v : Value) (m b : Bool) → Sided ks n (line_with l v (resolved (place_in ks) g)) m b
        → Finds (told_if m b (number_of (line_with l v (resolved (place_in ks) g)))) (Some v) l g ts taken pre
    finds v m b s =
        let u : Tree Line = line_with l v (resolved (place_in ks) g) in
        let told : Option Told = told_if m b (number_of u) in
        let one = sides_one taken free u b m (length pre) in
        let names = names_one taken free u b m s in
        elim (is_ours taken free u b m) as (λ f. is_ours taken free u b m ≡ f
        → lines_in ks (pre ++ (node l g ∷ list_of ts)) (ours (side_by n member taken (length pre) told
        ++ sides_on ks n member (taken_by member taken told) (length pre + 1) (list_of ts)))
        ≡ below_on (first (cond f (u ∷ filter (names_family (known (roots ks)) (fit_tag (member k)) k) (behind ts))
        (filter (names_family (known (roots ks)) (fit_tag (member k)) k) (behind ts))))) [
          | true ↦ λ e.
              ap (lines_in ks (pre ++ (node l g ∷ list_of ts)))
              (filter-append (λ (s : Side). s.family == k) (side_by n member taken (length pre) told)
              (sides_on ks n member (taken_by member taken told) (length pre + 1) (list_of ts))
              ∙ ap (λ us. us ++ ours (sides_on ks n member (taken_by member taken told) (length pre + 1) (list_of ts)))
              (one ∙ ap (λ f. cond f (here taken free u b (length pre) ∷ []) []) e))
              ∙ ap (lines_of ks) (at_end pre (node l g) (list_of ts))
          | false ↦ λ e. passes told (one ∙ ap (λ f. cond f (here taken free u b (length pre) ∷ []) []) e)
              (taken_one taken free u b m e)
        ] refl ∙ ap (λ f. below_on (first (cond f (u ∷ filter (names_family (known (roots ks)) (fit_tag (member k)) k)
        (behind ts)) (filter (names_family (known (roots ks)) (fit_tag (member k)) k) (behind ts))))) (sym names)

    text_finds : (t : List ℕ) → Finds (side_as l.tag None) (Some (value.Text t)) l g ts taken pre
    text_finds t = subst (λ told. Finds told (Some (value.Text t)) l g ts taken pre)
        (sym (none_told (is_side_tag l.tag) (bytes_eq l.tag (codes "FAMS"))))
        (finds (value.Text t) false (bytes_eq l.tag (codes "FAMS")) (text_sided ks n l g t))

    pointer_finds : (o : Option ℕ) → Finds (side_as l.tag (with_tag (roots ks) (codes "FAM") o))
        (option_map value.Ref o)
        l g ts taken pre
    pointer_finds None = subst (λ told. Finds told None l g ts taken pre)
        (sym (none_told (is_side_tag l.tag) (bytes_eq l.tag (codes "FAMS")))) (passes None refl free)
    pointer_finds (Some p) = subst (λ told. Finds told (Some (value.Ref p)) l g ts taken pre)
        (sym (one_told (is_side_tag l.tag) (bytes_eq l.tag (codes "FAMS"))
        (bytes_eq (tag_at (roots ks) p) (codes "FAM")) p))
        (finds (value.Ref p) (is_side_tag l.tag && bytes_eq (tag_at (roots ks) p) (codes "FAM"))
        (bytes_eq l.tag (codes "FAMS")) (pointer_sided ks n l g p))

    value_finds : (v : Meaning) → Finds (side_as l.tag (with_tag (roots ks) (codes "FAM")
        (position_in (place_in ks) v))) (resolve (place_in ks) v) l g ts taken pre
    value_finds (Text t) = text_finds t
    value_finds (Pointer name) = pointer_finds (place_in ks name)

  found_on : (f : Forest FileLine) (taken : ℕ → Bool) (pre : List FileNode) → taken k ≡ false
      → lines_in ks (pre ++ list_of f) (ours (sides_on ks n member taken (length pre) (list_of f)))
      ≡ below_on (side_among (behind f))
  found_on none taken pre free = refl
  found_on (more (node l g) ts) taken pre free = value_finds ts (found_on ts) taken pre free l g l.value

-- ---- the side of a person at a position
pub if_person : (b : Bool) (ss : List Side) → b ≡ true → cond b ss [] ≡ ss
if_person b ss e = ap (λ c. cond c ss []) e

pub side_is : (ks : List FileNode) (n k : ℕ) (t : FileNode) → slice_get ks n ≡ Some t
    → bytes_eq (label t).tag (codes "INDI") ≡ true
    → lines_in ks (list_of (children t))
    (filter (λ (s : Side). s.family == k) (sides_by_members ks (named_in ks) n t))
    ≡ side_of (roots ks) (fit_tag (named_in ks k n)) k n
side_is ks n k (node l f) at is =
    ap (λ ss. lines_in ks (list_of f) (filter (λ (s : Side). s.family == k) ss))
    (if_person (bytes_eq l.tag (codes "INDI")) (sides_on ks n (λ q. named_in ks q n) (λ q. false) 0 (list_of f)) is)
    ∙ found_on ks n k f (λ q. false) [] refl
    ∙ ap (λ o. below_on (first (filter (names_family (known (roots ks)) (fit_tag (named_in ks k n)) k) (below_on o))))
    (sym (root_at ks n n ∙ ap (λ o. option_map unlined (option_map (lined_root (place_in ks)) o)) at))

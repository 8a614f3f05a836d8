-- A person has one side in a family at the most, and has one exactly where a line names the family.
use Rattle.std.proofs.Common.{
  ◌≡◌,
  ℕ,
  ◌+◌,
  Bool,
  true,
  false,
  List,
  [],
  ◌∷◌,
  ◌++◌,
  refl,
  sym,
  ap,
  ◌∙◌,
  subst,
  cond,
}
use Rattle.std.specs.Prelude.{◌&&◌, ◌||◌, ◌==◌, Option, Some, None, option_map, bytes_eq, codes}
use Rattle.std.specs.List.{filter, slice_get}
use Rattle.std.proofs.lemmas.Bool.{eqb-true, and_parts}
use Rattle.std.proofs.lemmas.List.Elements.{filter-append}
use Rattle.stored_lines.specs.Tree.{Tree, Forest, node, none, more, label, list_of, relabel_all}
use Rattle.stored_lines.specs.Line.{Line}
use Rattle.stored_lines.specs.declared.carried.Value.{Value}
use Rattle.stored_lines.specs.declared.carried.Value.TheVariants as value
use Rattle.gedcom_line.specs.Value.{Meaning, Text, Pointer}
use Rattle.receipts.specs.declared.report.ReportWord.TheVariants as word
use Rattle.record_shapes.specs.Entries.{below_on}
use Rattle.record_shapes.specs.Forms.{is_some, number_of}
use Rattle.record_shapes.specs.Picking.{first}
use Rattle.import_definitions.specs.Nodes.{FileLine, FileNode}
use Rattle.import_definitions.specs.Lines.{Lined, lined_root, place_in, put, resolve, resolved, roots, unlined}
use Rattle.import_definitions.specs.Positions.{known, tag_at}
use Rattle.import_definitions.specs.Sides.{names_family, side_line}
use Rattle.file_records.specs.Lookups.{fit_tag}
use Rattle.file_records.specs.Taken.{
  fits,
  is_none,
  named_in,
  side_by,
  side_if,
  sides_by_members,
  sides_on,
  taken_by,
  taken_if,
}
use Rattle.file_records.specs.Told.{is_side_tag, position_in, side_as, side_told, with_tag}
use Rattle.file_records.specs.declared.sides.Side.{Side}
use Rattle.file_records.specs.declared.told.Told.{Told}
use Rattle.file_records.proofs.FieldRows.{none_told, one_told, told_if}
use Rattle.file_records.proofs.Found.{
  behind,
  here,
  if_person,
  is_ours,
  member,
  names_one,
  not_taken,
  ours,
  side_among,
  sides_one,
  taken_one,
}
use Rattle.file_records.proofs.Partners.{root_at}
use Rattle.file_records.proofs.SaidMembers.{line_with}
use Rattle.file_records.proofs.SaidSides.{Sided, pointer_sided, text_sided}
use Rattle.list_laws.proofs.Booleans.{or_right}

-- the one side of person n, who is a member of the family as m says
pub record IsSideOf (n : ℕ) (m : Option Bool) (ss : List Side) : Type 0 where
  pub side : Side
  pub alone : ss ≡ side ∷ []
  pub person : side.person ≡ n
  pub late : side.is_late ≡ is_none m

-- that one, or none where has is false
pub record IsOne (n : ℕ) (m : Option Bool) (has : Bool) (ss : List Side) : Type 0 where
  pub none : has ≡ false → ss ≡ []
  pub one : has ≡ true → IsSideOf n m ss

none_there : (n : ℕ) (m : Option Bool) (ss : List Side) → ss ≡ [] → IsOne n m false ss
none_there n m ss e = record { none = λ h. e; one = λ h. absurd cc }

module _ (ks : List FileNode) (n k : ℕ) where
  -- ---- once a side in the family is taken, no other is
  none_of : (f w : Bool) (i : ℕ) (t : Told) (m : Option Bool) → ((t.other == k) ≡ true → w ≡ true)
      → ours ks n k (side_if n i t m (cond f (cond w (Some word.Doubled) None) (Some word.OneSided))) ≡ []
  none_of false w i t m h = refl
  none_of true true i t m h = refl
  none_of true false i t m h = elim (t.other == k) as (λ x. (x ≡ true → false ≡ true)
      → ◌≡◌ {A = List Side}
      (cond x ((record { family = t.other; person = n; line = i; is_late = is_none m }) ∷ []) []) []) [
        | true ↦ λ g. absurd (let e : false ≡ true = g refl in cc)
        | false ↦ λ g. refl
      ] h

  none_by : (taken : ℕ → Bool) (i : ℕ) (o : Option Told) → taken k ≡ true
      → ours ks n k (side_by n (member ks n k) taken i o) ≡ []
  none_by taken i None e = refl
  none_by taken i (Some t) e = none_of (fits t.as_partner (member ks n k t.other)) (taken t.other) i t
      (member ks n k t.other) (λ h. ap taken (eqb-true t.other k h) ∙ e)

  still_if : (f w : Bool) (t : Told) (taken : ℕ → Bool) → taken k ≡ true
      → taken_if t (cond f (cond w (Some word.Doubled) None) (Some word.OneSided)) taken k ≡ true
  still_if false w t taken e = e
  still_if true true t taken e = e
  still_if true false t taken e = or_right (t.other == k) (taken k) e

  still_by : (taken : ℕ → Bool) (o : Option Told) → taken k ≡ true
      → taken_by (member ks n k) taken o k ≡ true
  still_by taken None e = e
  still_by taken (Some t) e = still_if (fits t.as_partner (member ks n k t.other)) (taken t.other) t taken e

  none_behind : (cs : List FileNode) (taken : ℕ → Bool) (i : ℕ) → taken k ≡ true
      → ours ks n k (sides_on ks n (member ks n k) taken i cs) ≡ []
  none_behind [] taken i e = refl
  none_behind (c ∷ cs) taken i e =
      filter-append (λ (s : Side). s.family == k) (side_by n (member ks n k) taken i (side_told ks c))
      (sides_on ks n (member ks n k) (taken_by (member ks n k) taken (side_told ks c)) (i + 1) cs)
      ∙ ap (λ us. us ++ ours ks n k (sides_on ks n (member ks n k)
      (taken_by (member ks n k) taken (side_told ks c)) (i + 1) cs))
      (none_by taken i (side_told ks c) e)
      ∙ none_behind cs (taken_by (member ks n k) taken (side_told ks c)) (i + 1)
      (still_by taken (side_told ks c) e)

  -- ---- a line that is the side in the family
  taken_yes : (taken : ℕ → Bool) (free : taken k ≡ false) (u : Tree Line) (b m : Bool)
      → is_ours ks n k taken free u b m ≡ true
      → taken_by (member ks n k) taken (told_if m b (number_of u)) k ≡ true
  taken_yes taken free u b true e =
      let p = and_parts (fits b (member ks n k (number_of u))) (number_of u == k) e in
      ap (λ f. taken_if (record { other = number_of u; as_partner = b }) (cond f (cond (taken (number_of u))
      (Some word.Doubled) None) (Some word.OneSided)) taken k) p.0
      ∙ ap (λ w. taken_if (record { other = number_of u; as_partner = b }) (cond w (Some word.Doubled) None) taken k)
      (not_taken ks n k taken free u b p.1)
      ∙ ap (λ x. x || taken k) p.1
  taken_yes taken free u b false e = absurd cc

  abbrev Finds : Option Told → Option Value → FileLine → Forest FileLine → Forest FileLine → (ℕ → Bool) → ℕ → Type 0
  Finds told v l g ts taken i = IsOne n (member ks n k k)
      (is_some (side_among ks n k (list_of (relabel_all (λ (x : Lined). x.1)
      (put l v (resolved (place_in ks) g) (resolved (place_in ks) ts))))))
      (ours ks n k (side_by n (member ks n k) taken i told
      ++ sides_on ks n (member ks n k) (taken_by (member ks n k) taken told) (i + 1) (list_of ts)))

  module _ (ts : Forest FileLine)
      (rest : (taken : ℕ → Bool) (i : ℕ) → taken k ≡ false
      → IsOne n (member ks n k k) (is_some (side_among ks n k (behind ks n k ts)))
      (ours ks n k (sides_on ks n (member ks n k) taken i (list_of ts))))
      (taken : ℕ → Bool) (i : ℕ) (free : taken k ≡ false) (l : FileLine) (g : Forest FileLine) where
    abbrev all : Option Told → List Side
    all told = ours ks n k (side_by n (member ks n k) taken i told
        ++ sides_on ks n (member ks n k) (taken_by (member ks n k) taken told) (i + 1) (list_of ts))

    split : (told : Option Told) (first_ones : List Side)
        → ours ks n k (side_by n (member ks n k) taken i told) ≡ first_ones
        → all told ≡ first_ones ++ ours ks n k (sides_on ks n (member ks n k) (taken_by (member ks n k) taken told)
        (i + 1) (list_of ts))
    split told first_ones e =
        filter-append (λ (s : Side). s.family == k) (side_by n (member ks n k) taken i told)
        (sides_on ks n (member ks n k) (taken_by (member ks n k) taken told) (i + 1) (list_of ts))
        ∙ ap (λ us. us ++ ours ks n k (sides_on ks n (member ks n k) (taken_by (member ks n k) taken told) (i + 1)
        (list_of ts))) e

    -- a line that is no side of the family
    passes : (told : Option Told) → ours ks n k (side_by n (member ks n k) taken i told) ≡ []
        → taken_by (member ks n k) taken told k ≡ false
        → IsOne n (member ks n k k) (is_some (side_among ks n k (behind ks n k ts))) (all told)
    passes told e f = subst (IsOne n (member ks n k k) (is_some (side_among ks n k (behind ks n k ts))))
        (sym (split told [] e)) (rest (taken_by (member ks n k) taken told) (i + 1) f)

    takes : (told : Option Told) (s : Side) → ours ks n k (side_by n (member ks n k) taken i told) ≡ s ∷ []
        → taken_by (member ks n k) taken told k ≡ true → s.person ≡ n → s.is_late ≡ is_none (member ks n k k)
        → IsOne n (member ks n k k) true (all told)
    takes told s e f p late = record {
      none = λ h. absurd cc;
      one = λ h. record {
        side = s;
        alone = split told (s ∷ []) e ∙ ap (λ us. s ∷ us) (none_behind (list_of ts)
            (taken_by (member ks n k) taken told) (i + 1) f);
        person = p;
        late = late;
      };
    }

    finds : (v : Value) (m b : Bool) → Sided ks n (line_with l v (resolved (place_in ks) g)) m b
        → Finds (told_if m b (number_of (line_with l v (resolved (place_in ks) g)))) (Some v) l g ts taken i
    finds v m b s =
        let u : Tree Line = line_with l v (resolved (place_in ks) g) in
        let told : Option Told = told_if m b (number_of u) in
        let one = sides_one ks n k taken free u b m i in
        let names = names_one ks n k taken free u b m s in
        let hit : Bool → Bool = λ f. is_some (first (cond f
        (u ∷ filter (names_family (known (roots ks)) (fit_tag (member ks n k k)) k) (behind ks n k ts))
        (filter (names_family (known (roots ks)) (fit_tag (member ks n k k)) k) (behind ks n k ts)))) in
        subst (λ f. IsOne n (member ks n k k) (hit f) (all told)) (sym names)
        (elim (is_ours ks n k taken free u b m) as (λ f. is_ours ks n k taken free u b m ≡ f
        → IsOne n (member ks n k k) (hit f) (all told)) [
          | true ↦ λ e. takes told (here ks n k taken free u b i)
              (one ∙ ap (λ f. cond f (here ks n k taken free u b i ∷ []) []) e)
              (taken_yes taken free u b m e) refl (late_is m e)
          | false ↦ λ e. passes told (one ∙ ap (λ f. cond f (here ks n k taken free u b i ∷ []) []) e)
              (taken_one ks n k taken free u b m e)
        ] refl)
      where
        late_is : (q : Bool) → is_ours ks n k taken free (line_with l v (resolved (place_in ks) g)) b q ≡ true
            → is_none (member ks n k (number_of (line_with l v (resolved (place_in ks) g))))
            ≡ is_none (member ks n k k)
        late_is true e = ap (λ x. is_none (member ks n k x)) (eqb-true
            (number_of (line_with l v (resolved (place_in ks) g))) k
            (and_parts (fits b (member ks n k (number_of (line_with l v (resolved (place_in ks) g)))))
            (number_of (line_with l v (resolved (place_in ks) g)) == k) e).1)
        late_is false e = absurd cc

    text_finds : (t : List ℕ) → Finds (side_as l.tag None) (Some (value.Text t)) l g ts taken i
    text_finds t = subst (λ told. Finds told (Some (value.Text t)) l g ts taken i)
        (sym (none_told (is_side_tag l.tag) (bytes_eq l.tag (codes "FAMS"))))
        (finds (value.Text t) false (bytes_eq l.tag (codes "FAMS")) (text_sided ks n l g t))

    pointer_finds : (o : Option ℕ) → Finds (side_as l.tag (with_tag (roots ks) (codes "FAM") o))
        (option_map value.Ref o)
        l g ts taken i
    pointer_finds None = subst (λ told. Finds told None l g ts taken i)
        (sym (none_told (is_side_tag l.tag) (bytes_eq l.tag (codes "FAMS")))) (passes None refl free)
    pointer_finds (Some p) = subst (λ told. Finds told (Some (value.Ref p)) l g ts taken i)
        (sym (one_told (is_side_tag l.tag) (bytes_eq l.tag (codes "FAMS"))
        (bytes_eq (tag_at (roots ks) p) (codes "FAM")) p))
        (finds (value.Ref p) (is_side_tag l.tag && bytes_eq (tag_at (roots ks) p) (codes "FAM"))
        (bytes_eq l.tag (codes "FAMS")) (pointer_sided ks n l g p))

    value_finds : (v : Meaning) → Finds (side_as l.tag (with_tag (roots ks) (codes "FAM")
        (position_in (place_in ks) v))) (resolve (place_in ks) v) l g ts taken i
    value_finds (Text t) = text_finds t
    value_finds (Pointer name) = pointer_finds (place_in ks name)

  one_on : (f : Forest FileLine) (taken : ℕ → Bool) (i : ℕ) → taken k ≡ false
      → IsOne n (member ks n k k) (is_some (side_among ks n k (behind ks n k f)))
      (ours ks n k (sides_on ks n (member ks n k) taken i (list_of f)))
  one_on none taken i free = none_there n (member ks n k k) [] refl
  one_on (more (node l g) ts) taken i free = value_finds ts (one_on ts) taken i free l g l.value

-- ---- the side of a person at a position
pub one_is : (ks : List FileNode) (n k : ℕ) (t : FileNode) → slice_get ks n ≡ Some t
    → bytes_eq (label t).tag (codes "INDI") ≡ true
    → IsOne n (named_in ks k n) (is_some (side_line (roots ks) (fit_tag (named_in ks k n)) k n))
    (filter (λ (s : Side). s.family == k) (sides_by_members ks (named_in ks) n t))
one_is ks n k (node l f) at is =
    let lines = root_at ks n n ∙ ap (λ o. option_map unlined (option_map (lined_root (place_in ks)) o)) at in
    subst (λ ss. IsOne n (named_in ks k n) (is_some (side_line (roots ks) (fit_tag (named_in ks k n)) k n))
    (filter (λ (s : Side). s.family == k) ss))
    (sym (if_person (bytes_eq l.tag (codes "INDI")) (sides_on ks n (λ q. named_in ks q n) (λ q. false) 0 (list_of f))
    is))
    (subst (λ o. IsOne n (named_in ks k n)
    (is_some (first (filter (names_family (known (roots ks)) (fit_tag (named_in ks k n)) k) (below_on o))))
    (filter (λ (s : Side). s.family == k) (sides_on ks n (λ q. named_in ks q n) (λ q. false) 0 (list_of f))))
    (sym lines) (one_on ks n k f (λ q. false) 0 refl))

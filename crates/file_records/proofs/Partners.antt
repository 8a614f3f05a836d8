-- How a family names a person, by the lines that are read of it.
use Rattle.std.proofs.Common.{◌≡◌, ℕ, Bool, true, false, List, [], ◌∷◌, refl, sym, ap, ◌∙◌, subst, cond, map}
use Rattle.std.specs.Prelude.{◌&&◌, ◌||◌, ◌==◌, not, Option, Some, None, option_map, bytes_eq, codes}
use Rattle.std.specs.List.{filter, list_any, slice_get}
use Rattle.std.proofs.lemmas.Bool.{eqb-true}
use Rattle.std.proofs.lemmas.Option.{slice_get-map}
use Rattle.stored_lines.specs.Tree.{Tree, Forest, node, none, more, list_of, relabel_all}
use Rattle.stored_lines.specs.Line.{Line, Lines}
use Rattle.stored_lines.specs.declared.carried.Value.{Value}
use Rattle.stored_lines.specs.declared.carried.Value.TheVariants as value
use Rattle.gedcom_line.specs.Value.{Meaning, Text, Pointer}
use Rattle.record_kinds.specs.Model as model
use Rattle.record_shapes.specs.Entries.{below_on}
use Rattle.record_shapes.specs.Fields.{a_member, family_field, is_citation, is_same}
use Rattle.record_shapes.specs.Forms.{Known, is_among, is_text, number_of}
use Rattle.record_shapes.specs.Picking.{all_of}
use Rattle.record_shapes.specs.Reading.{is_child_line, once_behind, partner_from}
use Rattle.record_shapes.specs.Tags.{family_tags}
use Rattle.import_definitions.specs.Nodes.{FileLine, FileNode}
use Rattle.import_definitions.specs.Lines.{
  Lined,
  lined_root,
  lined_roots,
  place_in,
  put,
  resolve,
  resolved,
  roots,
  unlined,
}
use Rattle.import_definitions.specs.Numbers.{or_else}
use Rattle.import_definitions.specs.Positions.{known, tag_at}
use Rattle.import_definitions.specs.Report.{is_partner}
use Rattle.import_definitions.specs.Sides.{lines_at}
use Rattle.file_records.proofs.Tags.{tag_at_root, tag_in}
use Rattle.file_records.specs.Members.{first_as, members_told, membership, names_as}
use Rattle.file_records.specs.Taken.{named_in}
use Rattle.file_records.specs.Told.{is_member_tag, member_as, position_in, with_tag}
use Rattle.file_records.specs.declared.told.Told.{Told}
use Rattle.file_records.proofs.FieldRows.{member_row, none_told, one_told, told_if}
use Rattle.file_records.proofs.SaidMembers.{as_partner, line_with}
use Rattle.list_laws.proofs.Booleans.{and_never}

-- as a partner, where it does
abbrev pub partner_in : Option Bool → Bool
partner_in None = false
partner_in (Some b) = b

-- ---- the first line that names a person, of lines that are read
module _ (k : Known) (n : ℕ) where
  abbrev pub line_as : Tree Line → Option Bool
  line_as t = cond (is_same (family_field k t) a_member && (number_of t == n)) (Some (not (is_child_line t))) None

  abbrev pub line_first : Lines → Option Bool
  line_first [] = None
  line_first (t ∷ ts) = or_else (line_as t) (line_first ts)

  -- whether a partner among these lines is the person
  abbrev among : List ℕ → Lines → Bool
  among seen ts = list_any (λ (p : model.Partner). p.person == n)
      (map partner_from (filter (λ t. not (is_child_line t)) (once_behind seen ts)))

  -- a further line of a person is no other
  dropped_one : (x s v : Bool) (rest : Option Bool) → (x ≡ true → s ≡ true)
      → (not s && partner_in rest) ≡ (not s && partner_in (or_else (cond x (Some v) None) rest))
  dropped_one true s v rest h = ap (λ b. not b && partner_in rest) (h refl)
      ∙ ap (λ b. not b && partner_in (or_else (Some v) rest)) (sym (h refl))
  dropped_one false s v rest h = refl

  -- the first line of a person, as a partner or not
  kept_one : (x s b : Bool) (rest : Option Bool) → (x ≡ true → s ≡ false)
      → cond b (x || (not (x || s) && partner_in rest)) (not (x || s) && partner_in rest)
      ≡ (not s && partner_in (or_else (cond x (Some b) None) rest))
  kept_one true s true rest h = ap (λ b. not b && true) (sym (h refl))
  kept_one true s false rest h = ap (λ b. not b && false) (sym (h refl))
  kept_one false s true rest h = refl
  kept_one false s false rest h = refl

  pick : (b : Bool) (t : Tree Line) (us : Lines) → list_any (λ (p : model.Partner). p.person == n)
      (map partner_from (cond b (t ∷ us) us)) ≡ cond b ((number_of t == n) || list_any (λ (p : model.Partner).
      p.person == n) (map partner_from us)) (list_any (λ (p : model.Partner). p.person == n) (map partner_from us))
  pick true t us = refl
  pick false t us = refl

  once_has : (ts : Lines) (seen : List ℕ) → among seen (all_of (family_field k) a_member ts)
      ≡ (not (list_any (λ m. m == n) seen) && partner_in (line_first ts))
  once_has [] seen = sym (and_never (not (list_any (λ m. m == n) seen)))
  once_has (t ∷ ts) seen =
      let rest : Lines = all_of (family_field k) a_member ts in
      let s : Bool = list_any (λ m. m == n) seen in
      let x : Bool = number_of t == n in
      let b : Bool = not (is_child_line t) in
      elim (is_same (family_field k t) a_member) as (λ f. among seen (cond f (t ∷ rest) rest)
      ≡ (not s && partner_in (or_else (cond (f && x) (Some b) None) (line_first ts)))) [
        | true ↦ elim (list_any (λ m. m == number_of t) seen) as (λ w. list_any (λ m. m == number_of t) seen ≡ w
            → list_any (λ (p : model.Partner). p.person == n) (map partner_from (filter (λ u. not (is_child_line u))
            (cond w (once_behind seen rest) (t ∷ once_behind (number_of t ∷ seen) rest))))
            ≡ (not s && partner_in (or_else (cond x (Some b) None) (line_first ts)))) [
              | true ↦ λ e. once_has ts seen ∙ dropped_one x s b (line_first ts)
                  (λ h. ap (λ q. list_any (λ m. m == q) seen) (sym (eqb-true (number_of t) n h)) ∙ e)
              | false ↦ λ e. pick b t (filter (λ u. not (is_child_line u)) (once_behind (number_of t ∷ seen) rest))
                  ∙ ap (λ v. cond b (x || v) v) (once_has ts (number_of t ∷ seen))
                  ∙ kept_one x s b (line_first ts)
                  (λ h. ap (λ q. list_any (λ m. m == q) seen) (sym (eqb-true (number_of t) n h)) ∙ e)
            ] refl
        | false ↦ once_has ts seen
      ]

names_one : (m b : Bool) (q n : ℕ) → names_as n (told_if m b q) ≡ cond (m && (q == n)) (Some b) None
names_one true b q n = refl
names_one false b q n = refl

module _ (ks : List FileNode) (n : ℕ) where
  abbrev Names : Option Told → FileLine → Option Value → Forest FileLine → Forest FileLine → Type 0
  Names told l v g ts = or_else (names_as n told) (first_as n (members_told ks (list_of ts)))
      ≡ line_first (known (roots ks)) n
      (list_of (relabel_all (λ (x : Lined). x.1) (put l v (resolved (place_in ks) g) (resolved (place_in ks) ts))))

  module _ (ts : Forest FileLine) (rest : first_as n (members_told ks (list_of ts)) ≡ line_first (known (roots ks)) n
      (list_of (relabel_all (λ (x : Lined). x.1) (resolved (place_in ks) ts)))) (l : FileLine)
      (g : Forest FileLine) where
    names : (u : Tree Line) (m : Bool) → is_same (family_field (known (roots ks)) u) a_member ≡ m
        → or_else (names_as n (told_if m (not (is_child_line u)) (number_of u)))
        (first_as n (members_told ks (list_of ts)))
        ≡ or_else (cond (is_same (family_field (known (roots ks)) u) a_member && (number_of u == n))
        (Some (not (is_child_line u))) None)
        (line_first (known (roots ks)) n (list_of (relabel_all (λ (x : Lined). x.1) (resolved (place_in ks) ts))))
    names u m e =
        ap (λ o. or_else o (first_as n (members_told ks (list_of ts))))
        (names_one m (not (is_child_line u)) (number_of u) n
        ∙ ap (λ f. cond (f && (number_of u == n)) (Some (not (is_child_line u))) None) (sym e))
        ∙ ap (or_else (cond (is_same (family_field (known (roots ks)) u) a_member && (number_of u == n))
        (Some (not (is_child_line u))) None)) rest

    text_names : (t : List ℕ) → Names (member_as l.tag None) l (Some (value.Text t)) g ts
    text_names t =
        let u : Tree Line = line_with l (value.Text t) (resolved (place_in ks) g) in
        subst (λ told. Names told l (Some (value.Text t)) g ts) (sym (none_told (is_member_tag l.tag) (as_partner l)))
        (names u false (member_row (is_member_tag l.tag && false) (is_among family_tags u && is_text u)
        (is_citation (known (roots ks)) u) ∙ and_never (is_member_tag l.tag)))

    pointer_names : (o : Option ℕ) → Names (member_as l.tag (with_tag (roots ks) (codes "INDI") o)) l
        (option_map value.Ref o) g ts
    pointer_names None = subst (λ told. Names told l None g ts) (sym (none_told (is_member_tag l.tag) (as_partner l)))
        rest
    pointer_names (Some p) =
        let u : Tree Line = line_with l (value.Ref p) (resolved (place_in ks) g) in
        let d : Bool = bytes_eq (tag_at (roots ks) p) (codes "INDI") in
        subst (λ told. Names told l (Some (value.Ref p)) g ts) (sym (one_told (is_member_tag l.tag) (as_partner l) d p))
        (names u (is_member_tag l.tag && d) (member_row (is_member_tag l.tag && d) (is_among family_tags u && is_text u)
        (is_citation (known (roots ks)) u)))

    value_names : (v : Meaning) → Names (member_as l.tag (with_tag (roots ks) (codes "INDI")
        (position_in (place_in ks) v))) l (resolve (place_in ks) v) g ts
    value_names (Text t) = text_names t
    value_names (Pointer name) = pointer_names (place_in ks name)

  first_told : (f : Forest FileLine) → first_as n (members_told ks (list_of f))
      ≡ line_first (known (roots ks)) n (list_of (relabel_all (λ (x : Lined). x.1) (resolved (place_in ks) f)))
  first_told none = refl
  first_told (more (node l g) ts) = value_names ts (first_told ts) l g l.value

  -- ---- the person in the family at a position
  if_family : (b : Bool) (o : Option Bool) → b ≡ true → o ≡ cond b o None
  if_family b o e = ap (λ c. cond c o None) (sym e)

  named_at : (o : Option FileNode) → bytes_eq (tag_in o) (codes "FAM") ≡ true
      → line_first (known (roots ks)) n (below_on (option_map unlined (option_map (lined_root (place_in ks)) o)))
      ≡ membership ks o n
  named_at None e = absurd cc
  named_at (Some (node l f)) e = sym (first_told f)
      ∙ if_family (bytes_eq l.tag (codes "FAM")) (first_as n (members_told ks (list_of f))) e

  pub root_at : (k : ℕ) → slice_get (roots ks) k
      ≡ option_map unlined (option_map (lined_root (place_in ks)) (slice_get ks k))
  unfolding roots
  root_at k = slice_get-map unlined (lined_roots ks) k
      ∙ ap (option_map unlined) (slice_get-map (lined_root (place_in ks)) ks k)

  -- by the nodes it is named as it is by the lines that are read
  pub named_told : (k : ℕ) → bytes_eq (tag_at (roots ks) k) (codes "FAM") ≡ true
      → line_first (known (roots ks)) n (lines_at (roots ks) k) ≡ named_in ks k n
  named_told k e = ap (λ o. line_first (known (roots ks)) n (below_on o)) (root_at k)
      ∙ named_at (slice_get ks k) (ap (λ tag. bytes_eq tag (codes "FAM")) (sym (tag_at_root ks k)) ∙ e)

  -- so it is a partner exactly where it is by these
  pub is_partner_told : (k : ℕ) → bytes_eq (tag_at (roots ks) k) (codes "FAM") ≡ true
      → is_partner (roots ks) n k ≡ partner_in (named_in ks k n)
  is_partner_told k e = once_has (known (roots ks)) n (lines_at (roots ks) k) [] ∙ ap partner_in (named_told k e)

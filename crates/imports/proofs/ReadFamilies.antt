-- Families that are read from lines, with both sides of their memberships, keep the rules on one record.
use Rattle.std.proofs.Common.{
  ◌≡◌,
  ℕ,
  zero,
  suc,
  ◌<◌,
  ◌==◌,
  Bool,
  true,
  false,
  not,
  cond,
  List,
  [],
  ◌∷◌,
  ◌++◌,
  length,
  refl,
  sym,
  ap,
  ◌∙◌,
  subst,
  arith,
}
use Rattle.std.specs.Prelude.{Option, Some, None, IfSome, ◌&&◌, ◌||◌, codes, map}
use Rattle.std.specs.List.{filter, flat_map, slice_get}
use Rattle.std.proofs.lemmas.Bool.{and_parts, eq-eqb, eqb-true}
use Rattle.std.proofs.lemmas.Bool.Decides.{nat_tests}
use Rattle.std.proofs.lemmas.List.{append_assoc, map-append}
use Rattle.stored_lines.specs.Tree.{Tree, forest_of}
use Rattle.stored_lines.specs.Line.{Line, Lines}
use Rattle.record_kinds.specs.Model as model
use Rattle.record_kinds.specs.declared.record.Record.{Record}
use Rattle.record_kinds.specs.declared.record.Record.TheVariants as kind
use Rattle.record_shapes.specs.declared.field.Field.{Field}
use Rattle.record_shapes.specs.Entries.{below_on}
use Rattle.record_shapes.specs.Fields.{a_citation, a_member, an_event, carried, family_field, is_citation, is_same, row}
use Rattle.record_shapes.specs.Forms.{Known, is_among, is_text, names_a, number_of, tag_of, tagged, value_of}
use Rattle.record_shapes.specs.Levels.{AreWithin}
use Rattle.record_shapes.specs.Lists.{EachOf, IsOnce}
use Rattle.record_shapes.specs.Members.{members}
use Rattle.record_shapes.specs.Picking.{all_of, is_left}
use Rattle.record_shapes.specs.Reading.{
  child_from,
  draft_if,
  family_from,
  is_child_line,
  member_lines,
  once_behind,
  partner_from,
}
use Rattle.record_shapes.specs.Tags.{family_tags, is_event_tag}
use Rattle.record_shapes.specs.Untaken.{family_leaves}
use Rattle.import_definitions.specs.Positions.{known, positions}
use Rattle.import_definitions.specs.Sides.{
  child_with_side,
  family_with_sides,
  late,
  late_child,
  lines_at,
  names_family,
  names_parents,
  partner_with_side,
  side_of,
}
use Rattle.imports.specs.Read.{AllRead, IsLine, IsNode, IsRead}
use Rattle.imports.proofs.Fine.{
  AreLines,
  below_lines,
  each_left,
  each_of,
  lines_deeper,
  lines_tags,
  lines_texts,
  lines_within,
  mapped_lines,
}
use Rattle.imports.proofs.Left.{all_find, left_untaken, row_is, row_next, row_not}
use Rattle.imports.proofs.SoundLists.{each_filter, filter_holds, if_first}
use Rattle.imports.proofs.Once.{once_apart, once_both, once_filter}
use Rattle.imports.proofs.ReadPersons.{owned_read}
use Rattle.record_shapes.proofs.Each.{each_both, each_more, each_flat, each_mapped, has}
use Rattle.list_laws.proofs.Booleans.{not_true, or_none}

-- ---- each person once
-- a number that was seen is not there
seen_gone : (n : ℕ) (seen : List ℕ) (ts : Lines) → has n seen ≡ true
    → has n (map number_of (once_behind seen ts)) ≡ false
seen_gone n seen [] e = refl
seen_gone n seen (t ∷ ts) e =
    elim (has (number_of t) seen) as (λ b. has (number_of t) seen ≡ b → has n (map number_of
    (cond b (once_behind seen ts) (t ∷ once_behind (number_of t ∷ seen) ts))) ≡ false) [
      | true ↦ λ f. seen_gone n seen ts e
      | false ↦ λ f.
          let other : (number_of t == n) ≡ false = apart (number_of t) n seen e f in
          or_none (number_of t == n) (has n (map number_of (once_behind (number_of t ∷ seen) ts))) other
          (seen_gone n (number_of t ∷ seen) ts (ap (λ b. b || has n seen) other ∙ e))
    ] refl
  where
    apart : (k n : ℕ) (seen : List ℕ) → has n seen ≡ true → has k seen ≡ false → (k == n) ≡ false
    apart k n seen e f = elim (k == n) as (λ b. (k == n) ≡ b → b ≡ false) [
      | true ↦ λ g. let same : k ≡ n = eqb-true k n g in
          let no : true ≡ false = sym e ∙ ap (λ m. has m seen) (sym same) ∙ f in absurd cc
      | false ↦ λ g. refl
    ] refl

once_seen : (seen : List ℕ) (ts : Lines) → IsOnce (map number_of (once_behind seen ts))
once_seen seen [] = tt
once_seen seen (t ∷ ts) =
    elim (has (number_of t) seen) as (λ b. IsOnce (map number_of
    (cond b (once_behind seen ts) (t ∷ once_behind (number_of t ∷ seen) ts)))) [
      | true ↦ once_seen seen ts
      | false ↦ (
        seen_gone (number_of t) (number_of t ∷ seen) ts
            (ap (λ b. b || has (number_of t) seen) (eq-eqb (number_of t) (number_of t) refl)),
        once_seen (number_of t ∷ seen) ts,
      )
    ]

pub each_once : (P : Tree Line → Type 0) (seen : List ℕ) (ts : Lines) → EachOf P ts → EachOf P (once_behind seen ts)
each_once P seen [] h = tt
each_once P seen (t ∷ ts) h =
    elim (has (number_of t) seen) as (λ b. EachOf P
    (cond b (once_behind seen ts) (t ∷ once_behind (number_of t ∷ seen) ts))) [
      | true ↦ each_once P seen ts h.1
      | false ↦ (h.0, each_once P (number_of t ∷ seen) ts h.1)
    ]

pub map_by : {A B C : Type 0} (g : B → C) (f : A → B) (h : A → C) → ((a : A) → g (f a) ≡ h a) → (xs : List A)
    → map g (map f xs) ≡ map h xs
map_by g f h e [] = refl
map_by g f h e (x ∷ xs) = λ i. e x i ∷ map_by g f h e xs i

-- the members that the family's own lines name
pub own_members : (known : Known) (ts : Lines) → IsOnce (members (family_from known ts))
own_members known ts =
    let ms : Lines = member_lines known ts in
    subst IsOnce
    (λ i. sym (map_by (λ (p : model.Partner). p.person) partner_from number_of (λ t. refl)
    (filter (λ t. not (is_child_line t)) ms)) i
    ++ sym (map_by (λ (c : model.Child). c.person) child_from number_of (λ t. refl) (filter is_child_line ms)) i)
    (once_apart number_of is_child_line ms (once_seen [] (all_of (family_field known) a_member ts)))

-- ---- with those that only name it
below_all : (n : ℕ) → EachOf (λ k. k < n) (positions n)
below_all zero = tt
below_all (suc n) = each_both (λ k. k < suc n) (positions n) (n ∷ [])
    (each_more (λ k. k < n) (λ k. k < suc n) (λ k h. let low : k < n = h in omega arith) (positions n) (below_all n))
    (let low : n < suc n = omega arith in (low, tt))

pub positions_once : (n : ℕ) → IsOnce (positions n)
positions_once zero = tt
positions_once (suc n) = once_both (positions n) (n ∷ []) (positions_once n) (refl, tt)
    (none_yet n (positions n) (below_all n), tt)
  where
    none_yet : (n : ℕ) (ks : List ℕ) → EachOf (λ k. k < n) ks → has n ks ≡ false
    none_yet n [] h = refl
    none_yet n (k ∷ ks) h =
        let low : k < n = h.0 in
        let other : (k == n) ≡ false = grind (arith, nat_tests) in
        or_none (k == n) (has n ks) other (none_yet n ks h.1)

-- with both sides the members are those of its own lines, and then those that only name it
members_are : (rs : Lines) (k : ℕ) (f : model.Family) → members (family_with_sides rs k f) ≡ members f ++ late rs k f
members_are rs k f =
    let ps : List ℕ = map (λ (p : model.Partner). p.person) f.partners in
    let cs : List ℕ = map (λ (c : model.Child). c.person) f.children in
    (λ i. map_by (λ (p : model.Partner). p.person) (partner_with_side rs k) (λ (p : model.Partner). p.person)
    (λ p. refl) f.partners i
    ++ (map-append (λ (c : model.Child). c.person) (map (child_with_side rs k) f.children)
    (map (late_child rs k) (late rs k f)) i))
    ∙ (λ i. ps ++ (map_by (λ (c : model.Child). c.person) (child_with_side rs k) (λ (c : model.Child). c.person)
    (λ c. refl) f.children i
    ++ map_by (λ (c : model.Child). c.person) (late_child rs k) (λ n. n) (λ n. refl) (late rs k f) i))
    ∙ (λ i. ps ++ (cs ++ same (late rs k f) i))
    ∙ sym (append_assoc ps cs (late rs k f))
  where
    same : (ns : List ℕ) → map (λ n. n) ns ≡ ns
    same [] = refl
    same (n ∷ ns) = λ i. n ∷ same ns i

pub members_once : (rs : Lines) (k : ℕ) (ts : Lines)
    → IsOnce (members (family_with_sides rs k (family_from (known rs) ts)))
members_once rs k ts =
    let f : model.Family = family_from (known rs) ts in
    let test : ℕ → Bool = λ n. names_parents rs k n && not (has n (members f)) in
    let new : List ℕ = late rs k f in
    subst IsOnce (sym (members_are rs k f)) (once_both (members f) new (own_members (known rs) ts)
    (once_filter test (positions (length rs)) (positions_once (length rs)))
    (each_more (λ n. test n ≡ true) (λ n. has n (members f) ≡ false)
    (λ n e. not_true (has n (members f)) (and_parts (names_parents rs k n) (not (has n (members f))) e).1) new
    (filter_holds test (positions (length rs)))))

-- ---- lines of the other side
pub each_get : {A : Type 0} (P : A → Type 0) (xs : List A) (k : ℕ) → EachOf P xs → IfSome (slice_get xs k) P
each_get P [] k h = tt
each_get P (x ∷ xs) zero h = h.0
each_get P (x ∷ xs) (suc k) h = each_get P xs k h.1

pub node_lines : (o : Option (Tree Line)) → IfSome o IsNode → AreLines 98 (below_on o)
node_lines None h = tt
node_lines (Some t) h = below_lines 98 99 refl t h.line

line_lines : (o : Option (Tree Line)) → IfSome o (IsLine 98) → AreLines 97 (below_on o)
line_lines None h = tt
line_lines (Some t) h = below_lines 97 98 refl t h

side_lines : (rs : Lines) → EachOf IsNode rs → (tag : List ℕ) (family person : ℕ)
    → AreLines 97 (side_of rs tag family person)
side_lines rs nodes tag family person =
    let ts : Lines = lines_at rs person in
    let kept : Lines = filter (names_family (known rs) tag family) ts in
    line_lines _ (if_first (IsLine 98) kept (each_filter (IsLine 98) (names_family (known rs) tag family) ts
    (node_lines (slice_get rs person) (each_get IsNode rs person nodes))))

-- ---- families
family_leaves_it : (x : Field) → is_left [] x ≡ true → family_leaves x ≡ true
family_leaves_it carried e = refl
family_leaves_it _ e = absurd cc

family_event : (known : Known) (f : model.Family) (t : Tree Line) → is_same (family_field known t) an_event ≡ true
    → is_event_tag (tag_of t) (kind.Family f) ≡ true
family_event known f t e =
    let member = (tagged (codes "HUSB") t ||
    (tagged (codes "WIFE") t || tagged (codes "CHIL") t)) && names_a (codes "INDI") known (value_of t) in
    let fits = is_among family_tags t && is_text t in
    let rest : Field = row (is_citation known t) a_citation carried in
    (and_parts (is_among family_tags t) (is_text t) (row_is fits an_event rest an_event
    (row_next member a_member (row fits an_event rest) an_event e refl)
    (row_not (is_citation known t) a_citation carried an_event refl refl))).0

-- lines of a member on both sides
abbrev Both : Lines → Lines → Type 0
Both one other = AreLines 97 one × AreLines 97 other

both_lines : (one other : Lines) → Both one other → AreLines 98 (one ++ other)
both_lines one other h = each_both (IsLine 98) one other (lines_deeper 97 98 (omega arith) one h.0)
    (lines_deeper 97 98 (omega arith) other h.1)

each_to : {A B : Type 0} (P : B → Type 0) (f : A → B) → ((a : A) → P (f a)) → (xs : List A) → EachOf P (map f xs)
each_to P f h [] = tt
each_to P f h (x ∷ xs) = (h x, each_to P f h xs)

pub family_read : (earlier : Known) (owner : Option Record) (rs : Lines) → EachOf IsNode rs → (k : ℕ) (ts : Lines)
    → AreLines 98 ts
    → IsRead earlier (known rs) owner (kind.Family (family_with_sides rs k (family_from (known rs) ts)))
family_read earlier owner rs nodes k ts h =
    let field : Tree Line → Field = family_field (known rs) in
    let f : model.Family = family_from (known rs) ts in
    let x : model.Family = family_with_sides rs k f in
    let ms : Lines = member_lines (known rs) ts in
    let kept : AreLines 98 ms = each_once (IsLine 98) [] (all_of field a_member ts)
    (each_of (IsLine 98) field a_member ts h) in
    let ps : Lines = filter (λ t. not (is_child_line t)) ms in
    let cs : Lines = filter is_child_line ms in
    let OfPartner : model.Partner → Type 0 = λ p. Both p.carried p.carried_by_person in
    let OfChild : model.Child → Type 0 = λ c. Both c.carried c.carried_by_person in
    let partners : EachOf OfPartner x.partners = each_mapped OfPartner (partner_with_side rs k) f.partners
    (mapped_lines 98 (λ p. OfPartner (partner_with_side rs k p)) partner_from
    (λ t l. (below_lines 97 98 refl t l, side_lines rs nodes (codes "FAMS") k (number_of t))) ps
    (each_filter (IsLine 98) (λ t. not (is_child_line t)) ms kept)) in
    let children : EachOf OfChild x.children = each_both OfChild (map (child_with_side rs k) f.children)
    (map (late_child rs k) (late rs k f))
    (each_mapped OfChild (child_with_side rs k) f.children
    (mapped_lines 98 (λ c. OfChild (child_with_side rs k c)) child_from
    (λ t l. (below_lines 97 98 refl t l, side_lines rs nodes (codes "FAMC") k (number_of t))) cs
    (each_filter (IsLine 98) is_child_line ms kept)))
    (each_to OfChild (late_child rs k) (λ n. (tt, side_lines rs nodes (codes "FAMC") k n)) (late rs k f)) in
    let lines : AreLines 98 x.carried = each_left (IsLine 98) field [] ts h in
    let all : AreLines 98 (flat_map (λ (p : model.Partner). p.carried ++ p.carried_by_person) x.partners
    ++ (flat_map (λ (c : model.Child). c.carried ++ c.carried_by_person) x.children ++ x.carried)) =
    each_both (IsLine 98) (flat_map (λ (p : model.Partner). p.carried ++ p.carried_by_person) x.partners) _
    (each_flat (IsLine 98) (λ (p : model.Partner). p.carried ++ p.carried_by_person) x.partners
    (each_more OfPartner (λ (p : model.Partner). AreLines 98 (p.carried ++ p.carried_by_person))
    (λ p l. both_lines p.carried p.carried_by_person l) x.partners partners))
    (each_both (IsLine 98) (flat_map (λ (c : model.Child). c.carried ++ c.carried_by_person) x.children) x.carried
    (each_flat (IsLine 98) (λ (c : model.Child). c.carried ++ c.carried_by_person) x.children
    (each_more OfChild (λ (c : model.Child). AreLines 98 (c.carried ++ c.carried_by_person))
    (λ c l. both_lines c.carried c.carried_by_person l) x.children children)) lines) in
    record {
      normal = tt;
      once = members_once rs k ts;
      of_tags = lines_tags 98 _ all;
      trailers = tt;
      of_texts = lines_texts 98 _ all;
      events = tt;
      mentions = tt;
      untaken = left_untaken field [] (λ y. family_leaves y) ts ts
          (λ t finds e. family_leaves_it (field t) e) (all_find field ts);
      shapes = tt;
      room = (
        each_more OfPartner (λ (p : model.Partner). AreWithin 97 p.carried × AreWithin 97 p.carried_by_person)
            (λ p l. (lines_within 97 p.carried l.0, lines_within 97 p.carried_by_person l.1)) x.partners partners,
        each_more OfChild (λ (c : model.Child). AreWithin 97 c.carried × AreWithin 97 c.carried_by_person)
            (λ c l. (lines_within 97 c.carried l.0, lines_within 97 c.carried_by_person l.1)) x.children children,
        lines_within 98 x.carried lines,
      );
    }

pub family_owned : (earlier known : Known) (f : model.Family) (ts : Lines) → AreLines 98 ts
    → AllRead (IsRead earlier known) (Some (kind.Family f))
    (forest_of (flat_map (λ t. draft_if known (family_field known t) t) ts))
family_owned earlier known f ts h = owned_read earlier known (kind.Family f) refl (family_field known)
    (family_event known f) ts h

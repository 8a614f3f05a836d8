-- The links of two persons that become one, and of a family whose two children become one.
use Rattle.std.proofs.Common.{◌≡◌, ℕ, List, [], ◌∷◌, ◌++◌, Bool, true, false, refl, sym, subst, ◌∙◌}
use Rattle.std.specs.Prelude.{Option, Some, None, ◌==◌, if◌then◌else◌}
use Rattle.std.specs.List.{flat_map}
use Rattle.std.proofs.lemmas.Bool.{eqb-true}
use Rattle.std.proofs.lemmas.Grind.{flat_map-append}
use Rattle.stored_lines.specs.Line.{Lines}
use Rattle.record_kinds.specs.Model as model
use Rattle.record_fields.specs.declared.words.Sex.{Sex}
use Rattle.record_kinds.specs.declared.record.Record.{Record}
use Rattle.record_kinds.specs.declared.record.Record.TheVariants as kind
use Rattle.archive_state.specs.Links.{
  Link,
  a_person,
  links,
  line_links,
  carried_links,
  name_links,
  person_links,
  partner_links,
  child_links,
}
use Rattle.archive_state.specs.Merging.{
  joined_person,
  joined_child,
  child_of_all,
  others,
  once_child,
  once_in,
  second_sex,
}
use Rattle.record_shapes.specs.Lists.{EachOf}
use Rattle.record_shapes.proofs.Each.{each_of_flat, each_flat, each_both, each_front, each_back}

pub number_other : (a b : ℕ) → (a ≡ b → ⊥) → (a == b) ≡ false
number_other a b h = elim (a == b) as (λ x. (a == b) ≡ x → (a == b) ≡ false) [
  | true ↦ λ e. absurd (h (eqb-true a b e))
  | false ↦ λ e. e
] refl

-- one of two, by a test
pub chosen : {A : Type 0} (P : A → Type 0) (b : Bool) (x y : A) → (b ≡ true → P x) → (b ≡ false → P y)
    → P (if b then x else y)
chosen P true x y f g = f refl
chosen P false x y f g = g refl

pub choice : {A : Type 0} (P : A → Type 0) (Q : Type 0) (b : Bool) (x y : A) → (b ≡ true → P x → Q)
    → (b ≡ false → P y → Q) → P (if b then x else y) → Q
choice P Q true x y f g h = f refl h
choice P Q false x y f g h = g refl h

module _ (P : Link → Type 0) where
  -- lines of two, joined
  both_lines : (a b : Lines) → EachOf P (carried_links a) → EachOf P (carried_links b)
      → EachOf P (carried_links (a ++ b))
  both_lines a b h k = subst (EachOf P) (sym (flat_map-append line_links a b))
      (each_both P (carried_links a) (carried_links b) h k)

  front_lines : (a b : Lines) → EachOf P (carried_links (a ++ b)) → EachOf P (carried_links a)
  front_lines a b h = each_front P (carried_links a) (carried_links b)
      (subst (EachOf P) (flat_map-append line_links a b) h)

  back_lines : (a b : Lines) → EachOf P (carried_links (a ++ b)) → EachOf P (carried_links b)
  back_lines a b h = each_back P (carried_links a) (carried_links b)
      (subst (EachOf P) (flat_map-append line_links a b) h)

  -- ---- persons
  sex_links : (s t : Option Sex) → EachOf P (carried_links (second_sex s t))
  sex_links None t = tt
  sex_links (Some s) None = tt
  sex_links (Some s) (Some t) = tt

  pub join_links : (k g : model.Person) → EachOf P (person_links k) → EachOf P (person_links g)
      → EachOf P (person_links (joined_person k g))
  join_links k g h i =
      each_both P (flat_map name_links (k.names ++ g.names))
      (carried_links (k.carried ++ (g.carried ++ second_sex k.sex g.sex)))
      (subst (EachOf P) (sym (flat_map-append name_links k.names g.names))
      (each_both P (flat_map name_links k.names) (flat_map name_links g.names)
      (each_front P (flat_map name_links k.names) (carried_links k.carried) h)
      (each_front P (flat_map name_links g.names) (carried_links g.carried) i)))
      (both_lines k.carried (g.carried ++ second_sex k.sex g.sex)
      (each_back P (flat_map name_links k.names) (carried_links k.carried) h)
      (both_lines g.carried (second_sex k.sex g.sex)
      (each_back P (flat_map name_links g.names) (carried_links g.carried) i) (sex_links k.sex g.sex)))

  pub joined_links : (k g : model.Person) → EachOf P (person_links (joined_person k g)) → EachOf P (person_links k)
      × EachOf P (person_links g)
  joined_links k g h =
      let names : EachOf P (flat_map name_links (k.names ++ g.names)) = each_front P
      (flat_map name_links (k.names ++ g.names))
      (carried_links (k.carried ++ (g.carried ++ second_sex k.sex g.sex))) h in
      let lines : EachOf P (carried_links (k.carried ++ (g.carried ++ second_sex k.sex g.sex))) = each_back P
      (flat_map name_links (k.names ++ g.names))
      (carried_links (k.carried ++ (g.carried ++ second_sex k.sex g.sex))) h in
      let two : EachOf P (flat_map name_links k.names ++ flat_map name_links g.names) = subst (EachOf P)
      (flat_map-append name_links k.names g.names) names in
      let more : EachOf P (carried_links (g.carried ++ second_sex k.sex g.sex)) = back_lines k.carried
      (g.carried ++ second_sex k.sex g.sex) lines in (
        each_both P (flat_map name_links k.names) (carried_links k.carried)
            (each_front P (flat_map name_links k.names) (flat_map name_links g.names) two)
            (front_lines k.carried (g.carried ++ second_sex k.sex g.sex) lines),
        each_both P (flat_map name_links g.names) (carried_links g.carried)
            (each_back P (flat_map name_links k.names) (flat_map name_links g.names) two)
            (front_lines g.carried (second_sex k.sex g.sex) more),
      )

  -- ---- children
  abbrev OfChild : model.Child → Type 0
  OfChild c = EachOf P (child_links c)

  child_into : (c d : model.Child) → OfChild c → OfChild d → OfChild (joined_child c d)
  child_into c d h k = (
    h.0,
    each_both P (carried_links (c.carried ++ d.carried)) (carried_links (c.carried_by_person ++ d.carried_by_person))
        (both_lines c.carried d.carried (each_front P (carried_links c.carried) (carried_links c.carried_by_person) h.1)
        (each_front P (carried_links d.carried) (carried_links d.carried_by_person) k.1))
        (both_lines c.carried_by_person d.carried_by_person
        (each_back P (carried_links c.carried) (carried_links c.carried_by_person) h.1)
        (each_back P (carried_links d.carried) (carried_links d.carried_by_person) k.1)),
  )

  child_out : (c d : model.Child) → c.person ≡ d.person → OfChild (joined_child c d) → OfChild c × OfChild d
  child_out c d same h =
      let ours : EachOf P (carried_links (c.carried ++ d.carried)) = each_front P
      (carried_links (c.carried ++ d.carried)) (carried_links (c.carried_by_person ++ d.carried_by_person)) h.1 in
      let theirs : EachOf P (carried_links (c.carried_by_person ++ d.carried_by_person)) = each_back P
      (carried_links (c.carried ++ d.carried)) (carried_links (c.carried_by_person ++ d.carried_by_person)) h.1 in (
        (
          h.0,
          each_both P (carried_links c.carried) (carried_links c.carried_by_person)
              (front_lines c.carried d.carried ours) (front_lines c.carried_by_person d.carried_by_person theirs),
        ),
        (
          subst (λ n. P (n, a_person)) same h.0,
          each_both P (carried_links d.carried)
              (carried_links d.carried_by_person) (back_lines c.carried d.carried ours)
              (back_lines c.carried_by_person d.carried_by_person theirs),
        ),
      )

  all_into : (n : ℕ) (c : model.Child) (ds : List model.Child) → OfChild c → EachOf OfChild ds
      → OfChild (child_of_all n c ds) × EachOf OfChild (others n ds)
  all_into n c [] h k = (h, tt)
  all_into n c (d ∷ ds) h k = (
    chosen OfChild (d.person == n) (child_of_all n (joined_child c d) ds) (child_of_all n c ds)
        (λ e. (all_into n (joined_child c d) ds (child_into c d h k.0) k.1).0) (λ e. (all_into n c ds h k.1).0),
    chosen (EachOf OfChild) (d.person == n) (others n ds) (d ∷ others n ds) (λ e. (all_into n c ds h k.1).1)
        (λ e. (k.0, (all_into n c ds h k.1).1)),
  )

  all_out : (n : ℕ) (c : model.Child) (ds : List model.Child) → c.person ≡ n → OfChild (child_of_all n c ds)
      → EachOf OfChild (others n ds) → OfChild c × EachOf OfChild ds
  all_out n c [] is h k = (h, tt)
  all_out n c (d ∷ ds) is h k =
      choice OfChild (OfChild c × EachOf OfChild (d ∷ ds)) (d.person == n) (child_of_all n (joined_child c d) ds)
      (child_of_all n c ds)
      (λ e i.
      let rest : EachOf OfChild (others n ds) = choice (EachOf OfChild) (EachOf OfChild (others n ds)) (d.person == n)
      (others n ds) (d ∷ others n ds) (λ f j. j) (λ f j. j.1) k in
      let all = all_out n (joined_child c d) ds is i rest in
      let two = child_out c d (is ∙ sym (eqb-true d.person n e)) all.0 in
      (two.0, (two.1, all.1)))
      (λ e i.
      let rest : EachOf OfChild (d ∷ others n ds) = choice (EachOf OfChild) (EachOf OfChild (d ∷ others n ds))
      (d.person == n) (others n ds) (d ∷ others n ds)
      (λ f j. absurd (let no : true ≡ false = sym f ∙ e in cc)) (λ f j. j) k in
      let all = all_out n c ds is i rest.1 in
      (all.0, (rest.0, all.1)))
      h

  children_into : (n : ℕ) (cs : List model.Child) → EachOf OfChild cs → EachOf OfChild (once_child n cs)
  children_into n [] h = tt
  children_into n (c ∷ cs) h = chosen (EachOf OfChild) (c.person == n) (child_of_all n c cs ∷ others n cs)
      (c ∷ once_child n cs)
      (λ e. all_into n c cs h.0 h.1) (λ e. (h.0, children_into n cs h.1))

  children_out : (n : ℕ) (cs : List model.Child) → EachOf OfChild (once_child n cs) → EachOf OfChild cs
  children_out n [] h = tt
  children_out n (c ∷ cs) h = choice (EachOf OfChild) (EachOf OfChild (c ∷ cs)) (c.person == n)
      (child_of_all n c cs ∷ others n cs) (c ∷ once_child n cs)
      (λ e i. all_out n c cs (eqb-true c.person n e) i.0 i.1) (λ e i. (i.0, children_out n cs i.1)) h

  family_into : (n : ℕ) (x : model.Family) → EachOf P (links (kind.Family x))
      → EachOf P (links (once_in n (kind.Family x)))
  family_into n x h =
      let rest : EachOf P (flat_map child_links x.children ++ carried_links x.carried) = each_back P
      (flat_map partner_links x.partners) (flat_map child_links x.children ++ carried_links x.carried) h in
      each_both P (flat_map partner_links x.partners)
      (flat_map child_links (once_child n x.children) ++ carried_links x.carried)
      (each_front P (flat_map partner_links x.partners) (flat_map child_links x.children ++ carried_links x.carried) h)
      (each_both P (flat_map child_links (once_child n x.children)) (carried_links x.carried)
      (each_flat P child_links (once_child n x.children)
      (children_into n x.children
      (each_of_flat P child_links x.children
      (each_front P (flat_map child_links x.children) (carried_links x.carried) rest))))
      (each_back P (flat_map child_links x.children) (carried_links x.carried) rest))

  family_out : (n : ℕ) (x : model.Family) → EachOf P (links (once_in n (kind.Family x)))
      → EachOf P (links (kind.Family x))
  family_out n x h =
      let rest : EachOf P (flat_map child_links (once_child n x.children) ++ carried_links x.carried) = each_back P
      (flat_map partner_links x.partners)
      (flat_map child_links (once_child n x.children) ++ carried_links x.carried) h in
      each_both P (flat_map partner_links x.partners) (flat_map child_links x.children ++ carried_links x.carried)
      (each_front P (flat_map partner_links x.partners)
      (flat_map child_links (once_child n x.children) ++ carried_links x.carried) h)
      (each_both P (flat_map child_links x.children) (carried_links x.carried)
      (each_flat P child_links x.children
      (children_out n x.children
      (each_of_flat P child_links (once_child n x.children)
      (each_front P (flat_map child_links (once_child n x.children)) (carried_links x.carried) rest))))
      (each_back P (flat_map child_links (once_child n x.children)) (carried_links x.carried) rest))

  pub once_into : (n : ℕ) (r : Record) → EachOf P (links r) → EachOf P (links (once_in n r))
  once_into n (kind.Family x) h = family_into n x h
  once_into n (kind.Place x) h = h
  once_into n (kind.Repo x) h = h
  once_into n (kind.Source x) h = h
  once_into n (kind.Person x) h = h
  once_into n (kind.Citation x) h = h
  once_into n (kind.Event x) h = h
  once_into n (kind.Entry x) h = h
  once_into n (kind.Other x) h = h

  pub once_out : (n : ℕ) (r : Record) → EachOf P (links (once_in n r)) → EachOf P (links r)
  once_out n (kind.Family x) h = family_out n x h
  once_out n (kind.Place x) h = h
  once_out n (kind.Repo x) h = h
  once_out n (kind.Source x) h = h
  once_out n (kind.Person x) h = h
  once_out n (kind.Citation x) h = h
  once_out n (kind.Event x) h = h
  once_out n (kind.Entry x) h = h
  once_out n (kind.Other x) h = h

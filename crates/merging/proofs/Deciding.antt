-- What looks in a row show, and what they find of a merge.
use Rattle.std.proofs.Common.{
  ◌≡◌,
  ℕ,
  ◌+◌,
  ◌<◌,
  inl,
  inr,
  List,
  [],
  ◌∷◌,
  ◌++◌,
  Bool,
  true,
  false,
  cond,
  refl,
  sym,
  ap,
  ◌∙◌,
  length,
  take,
  get_or,
  arith,
  zero,
  suc,
}
use Rattle.std.specs.Prelude.{Some, map, not, ◌||◌, ◌&&◌, ◌==◌}
use Rattle.std.specs.List.{list_any, filter, flat_map}
use Rattle.std.specs.FinMap.{get, entries}
use Rattle.std.proofs.lemmas.List.{take_more}
use Rattle.std.proofs.lemmas.List.Folds.{list_any-append}
use Rattle.std.proofs.lemmas.Bool.{and_parts, or_right, or_left, or_cases}
use Rattle.record_kinds.specs.Model as model
use Rattle.record_kinds.specs.declared.record.Record.{Record}
use Rattle.record_kinds.specs.declared.record.Record.TheVariants as kind
use Rattle.archive_state.specs.Links.{Link, links, is_among, partner_links, child_links, family_links, carried_links}
use Rattle.record_shapes.specs.Lists.{EachOf}
use Rattle.archive_state.specs.Content.{Content, Records}
use Rattle.archive_state.specs.Merging.{clashes, has_member, has_child}
use Rattle.archive_state.specs.Referrers.{referrers, naming}
use Rattle.archive_state.specs.declared.slip.Change.{Change}
use Rattle.merging.specs.Comparing.{is_now, is_same_record}
use Rattle.merging.specs.Looks.{clashes_in, clashes_among, change_of, changes_of}
use Rattle.merging.specs.Merges.{is_clash, change_at, merge_changes, changed_numbers, is_changed}
use Rattle.merging.proofs.Merge.{entries_there}
use Rattle.merging.proofs.Numbers.{numbers_found}
use Rattle.list_laws.proofs.Booleans.{and_never}

-- ---- tests of one number after the other

module _ {A : Type 0} where
  any_front : (P : A → Bool) (xs ys : List A) → list_any P xs ≡ true → list_any P (xs ++ ys) ≡ true
  any_front P xs ys e = list_any-append P xs ys ∙ or_left (list_any P xs) (list_any P ys) e

  any_back : (P : A → Bool) (xs ys : List A) → list_any P ys ≡ true → list_any P (xs ++ ys) ≡ true
  any_back P xs ys e = list_any-append P xs ys ∙ or_right (list_any P xs) (list_any P ys) e

module _ {A B : Type 0} where
  any_flat : (P : B → Bool) (p : A → Bool) (h : A → List B) → ((a : A) → p a ≡ true → list_any P (h a) ≡ true)
      → (xs : List A) → list_any p xs ≡ true → list_any P (flat_map h xs) ≡ true
  any_flat P p h f [] e = absurd cc
  any_flat P p h f (x ∷ xs) e =
      elim (or_cases (p x) (list_any p xs) e) as (λ _. list_any P (h x ++ flat_map h xs) ≡ true) [
        | inl y ↦ any_front P (h x) (flat_map h xs) (f x y)
        | inr y ↦ any_back P (h x) (flat_map h xs) (any_flat P p h f xs y)
      ]

-- ---- families of both
module _ (n : ℕ) where
  abbrev is_it : Link → Bool
  is_it l = l.0 == n

  partner_named : (p : model.Partner) → (p.person == n) ≡ true → list_any is_it (partner_links p) ≡ true
  partner_named p e = or_left (p.person == n) _ e

  child_named : (p : model.Child) → (p.person == n) ≡ true → list_any is_it (child_links p) ≡ true
  child_named p e = or_left (p.person == n) _ e

  member_named : (x : model.Family) → has_member n x ≡ true → is_among n (links (kind.Family x)) ≡ true
  member_named x e = elim (or_cases (list_any (λ (p : model.Partner). p.person == n) x.partners)
      (has_child n x) e) as (λ _. list_any is_it (family_links x) ≡ true) [
        | inl y ↦ any_front is_it (flat_map partner_links x.partners)
            (flat_map child_links x.children ++ carried_links x.carried)
            (any_flat is_it (λ (p : model.Partner). p.person == n) partner_links partner_named x.partners y)
        | inr y ↦ any_back is_it (flat_map partner_links x.partners)
            (flat_map child_links x.children ++ carried_links x.carried)
            (any_front is_it (flat_map child_links x.children) (carried_links x.carried)
            (any_flat is_it (λ (p : model.Child). p.person == n) child_links child_named x.children y))
      ]

module _ (keep gone : ℕ) (m : Records) where
  -- a family of both names the one that is gone
  clash_names : (r : Record) → clashes keep gone r ≡ true → is_among gone (links r) ≡ true
  clash_names (kind.Family x) e =
      let a = and_parts (has_member keep x && has_member gone x) (not (has_child keep x && has_child gone x)) e in
      let b = and_parts (has_member keep x) (has_member gone x) a.0 in
      member_named gone x b.1
  clash_names (kind.Place x) e = absurd cc
  clash_names (kind.Repo x) e = absurd cc
  clash_names (kind.Source x) e = absurd cc
  clash_names (kind.Person x) e = absurd cc
  clash_names (kind.Citation x) e = absurd cc
  clash_names (kind.Event x) e = absurd cc
  clash_names (kind.Entry x) e = absurd cc
  clash_names (kind.Other x) e = absurd cc

  no_clash : (r : Record) → is_among gone (links r) ≡ false → clashes keep gone r ≡ false
  no_clash r e = elim (clashes keep gone r) as (λ b. clashes keep gone r ≡ b → b ≡ false) [
    | true ↦ λ h. let both : true ≡ false = sym (clash_names r h) ∙ e in absurd cc
    | false ↦ λ h. refl
  ] refl

  abbrev names_gone : ℕ × Record → Bool
  names_gone e = is_among gone (links e.1)

  among_named : (es : List (ℕ × Record)) → EachOf (λ (d : ℕ × Record). get m d.0 ≡ Some d.1) es
      → clashes_among keep gone m (naming gone es) ≡ list_any (λ e. clashes keep gone e.1) es
  among_named [] h = refl
  among_named (e ∷ es) h = elim (names_gone e) as (λ b. names_gone e ≡ b
      → clashes_among keep gone m
      (map (λ (d : ℕ × Record). d.0) (cond b (e ∷ filter names_gone es) (filter names_gone es)))
      ≡ (clashes keep gone e.1 || list_any (λ e. clashes keep gone e.1) es)) [
        | true ↦ λ q. ap (λ o. clashes_in keep gone o || clashes_among keep gone m (naming gone es)) h.0
            ∙ ap (λ b. clashes keep gone e.1 || b) (among_named es h.1)
        | false ↦ λ q. among_named es h.1 ∙ ap (λ b. b || list_any (λ e. clashes keep gone e.1) es)
            (sym (no_clash e.1 q))
      ] refl

-- the records that name the one that is gone are enough to look at
pub clashes_named : (keep gone : ℕ) (c : Content) → clashes_among keep gone c.records (referrers c gone)
    ≡ is_clash keep gone c.records
clashes_named keep gone c = among_named keep gone c.records (entries c.records) (entries_there c.records)

-- ---- the changes of the numbers that were found
module _ (keep gone : ℕ) (m : Records) where
  filtered : (Q : ℕ × Record → Type 0) (test : ℕ × Record → Bool) (es : List (ℕ × Record)) → EachOf Q es
      → EachOf Q (filter test es)
  filtered Q test [] h = tt
  filtered Q test (e ∷ es) h = elim (test e) as (λ b. EachOf Q (cond b (e ∷ filter test es) (filter test es))) [
    | true ↦ (h.0, filtered Q test es h.1)
    | false ↦ filtered Q test es h.1
  ]

  changes_there : (es : List (ℕ × Record)) → EachOf (λ (d : ℕ × Record). get m d.0 ≡ Some d.1) es
      → changes_of keep gone m (map (λ (x : Change). x.number) (map (change_at keep gone m) es))
      ≡ map (change_at keep gone m) es
  changes_there [] h = refl
  changes_there (e ∷ es) h =
      ap (λ o. change_of keep gone m e.0 o ++ changes_of keep gone m
      (map (λ (x : Change). x.number) (map (change_at keep gone m) es))) h.0
      ∙ ap (λ l. change_at keep gone m e ∷ l) (changes_there es h.1)

pub changes_found : (keep gone : ℕ) (c : Content) (k g : Record) → get c.records keep ≡ Some k
    → get c.records gone ≡ Some g
    → changes_of keep gone c.records (changed_numbers keep gone c) ≡ merge_changes keep gone c.records
changes_found keep gone c k g at_k at_g =
    ap (changes_of keep gone c.records) (sym (numbers_found keep gone c k g at_k at_g))
    ∙ changes_there keep gone c.records (filter (λ e. is_changed keep gone c.records e.0 e.1) (entries c.records))
    (filtered keep gone c.records (λ (d : ℕ × Record). get c.records d.0 ≡ Some d.1)
    (λ e. is_changed keep gone c.records e.0 e.1) (entries c.records) (entries_there c.records))

-- ---- families that are looked at
pub clash_found : (keep gone : ℕ) (c : Content) (ns : List ℕ) (b : Bool) → ns ≡ referrers c gone
    → b ≡ clashes_among keep gone c.records ns → b ≡ is_clash keep gone c.records
clash_found keep gone c ns b e f = f ∙ ap (clashes_among keep gone c.records) e ∙ clashes_named keep gone c

-- ---- new records, one change after the other
grouped : (a b c : Bool) → (a && (b && c)) ≡ ((a && b) && c)
grouped true b c = refl
grouped false b c = refl

module _ (m : Records) where
  now_more : (cs ds : List Change) → is_now m (cs ++ ds) ≡ (is_now m cs && is_now m ds)
  now_more [] ds = refl
  now_more (c ∷ cs) ds = ap (λ b. is_same_record (get m c.number) c.new && b) (now_more cs ds)
      ∙ grouped (is_same_record (get m c.number) c.new) (is_now m cs) (is_now m ds)

  pub still_now : (cs : List Change) (i : ℕ) (c : Change) → i < length cs → c ≡ get_or cs i c
      → is_now m (take i cs) ≡ true → is_same_record (get m c.number) c.new ≡ true → is_now m (take (i + 1) cs) ≡ true
  still_now cs i c h e was is =
      ap (is_now m) (take_more cs i c h) ∙ now_more (take i cs) (get_or cs i c ∷ [])
      ∙ ap (λ (d : Change). is_now m (take i cs) && (is_same_record (get m d.number) d.new && true)) (sym e)
      ∙ ap (λ b. b && (is_same_record (get m c.number) c.new && true)) was ∙ ap (λ b. b && true) is

  pub one_changed : (cs : List Change) (i : ℕ) (c : Change) → i < length cs → c ≡ get_or cs i c
      → is_same_record (get m c.number) c.new ≡ false → is_now m cs ≡ false
  one_changed [] i c h e is = absurd (omega arith)
  one_changed (d ∷ cs) zero c h e is = ap (λ b. b && is_now m cs)
      (ap (λ (x : Change). is_same_record (get m x.number) x.new) (sym e) ∙ is)
  one_changed (d ∷ cs) (suc i) c h e is = ap (λ b. is_same_record (get m d.number) d.new && b)
      (one_changed cs i c (omega arith) e is) ∙ and_never (is_same_record (get m d.number) d.new)

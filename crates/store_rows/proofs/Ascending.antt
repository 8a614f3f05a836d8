-- The referrers of a number, from the links to it: two ascending lists with the same members are one.
use Rattle.std.proofs.Common.{
  ◌≡◌,
  ℕ,
  Bool,
  true,
  false,
  List,
  [],
  ◌∷◌,
  ◌++◌,
  append_assoc,
  map,
  filter,
  cond,
  refl,
  sym,
  ap,
  subst,
  ◌∙◌,
  ◌<◌,
  arith,
  Less,
}
use Rattle.std.specs.Prelude.{◌==◌, ◌&&◌, ◌||◌, Option, Some, None, T}
use Rattle.std.specs.List.{list_any, AllByRecursion}
use Rattle.std.specs.List.Sorted.{IsStrictlySortedBy}
use Rattle.std.specs.BTreeSet as set
use Rattle.std.specs.BTreeSet.{BTreeSet}
use Rattle.std.specs.FinMap.{entries, entries_sorted, get, get-entries, is_sorted}
use Rattle.std.specs.FinMap.Entries.{below_all}
use Rattle.std.specs.Ordering.{nat_cmp, is_eq, is_lt}
use Rattle.std.specs.Cmp.{nat_cmp_total, unsigned_tied}
use Rattle.std.proofs.lemmas.Bool.Decides.{nat_tests}
use Rattle.std.proofs.lemmas.List.{append-nil}
use Rattle.std.proofs.lemmas.List.Kept.{IsStrictlySortedBy-filter}
use Rattle.std.proofs.lemmas.Map.Lookups.{btree_set_from_contains}
use Rattle.std.specs.FinMap.{nat_cmp-IsAntisymmetric}
use Rattle.record_kinds.specs.declared.record.Record.{Record}
use Rattle.archive_state.specs.Links.{is_among, links}
use Rattle.archive_state.specs.Content.{Content}
use Rattle.archive_state.specs.Referrers.{referrers, naming}
use Rattle.sqlite.specs.Tree.{IsAscending}
use Rattle.store_tables.specs.Keyed.{links_to}
use Rattle.store_tables.specs.Rows.{Rows, LinkRow, link_place, pair_place}
use Rattle.store_rows.specs.Links.{AreLinked, KeepsLinks, has_link, linked_naming, names_at}
use Rattle.store_rows.proofs.Naming.{named_found}
use Rattle.store_rows.proofs.Own.{either_way}
use Rattle.archive_state.proofs.Rising.{less_is}
use Rattle.list_laws.proofs.Numbers.{it}
use Rattle.list_laws.proofs.Booleans.{first_holds, rest_holds}
use Rattle.list_laws.proofs.Lists.{any_alike, any_kept, any_mapped}

-- ---- the referrers ascend
below_named : (n x : ℕ) (es : List (ℕ × Record)) → T (below_all nat_cmp x es)
    → AllByRecursion (λ y. nat_cmp x y ≡ Less) (naming n es)
below_named n x [] h = tt
below_named n x (e ∷ es) h =
    elim (is_among n (links e.1)) as (λ a. AllByRecursion (λ y. nat_cmp x y ≡ Less)
    (map (λ (k : ℕ × Record). k.0) (cond a (e ∷ filter (λ (k : ℕ × Record). is_among n (links k.1)) es)
    (filter (λ (k : ℕ × Record). is_among n (links k.1)) es)))) [
      | true ↦ (
        less_is (nat_cmp x e.0) (first_holds (is_lt (nat_cmp x e.0)) (below_all nat_cmp x es) h),
        below_named n x es (rest_holds (is_lt (nat_cmp x e.0)) (below_all nat_cmp x es) h),
      )
      | false ↦ below_named n x es (rest_holds (is_lt (nat_cmp x e.0)) (below_all nat_cmp x es) h)
    ]

named_rises : (n : ℕ) (es : List (ℕ × Record)) → T (is_sorted nat_cmp es) → IsStrictlySortedBy nat_cmp (naming n es)
unfolding IsStrictlySortedBy
named_rises n [] h = tt
named_rises n (e ∷ es) h =
    elim (is_among n (links e.1)) as (λ a. IsStrictlySortedBy nat_cmp
    (map (λ (k : ℕ × Record). k.0) (cond a (e ∷ filter (λ (k : ℕ × Record). is_among n (links k.1)) es)
    (filter (λ (k : ℕ × Record). is_among n (links k.1)) es)))) [
      | true ↦ (
        below_named n e.0 es (first_holds (below_all nat_cmp e.0 es) (is_sorted nat_cmp es) h),
        named_rises n es (rest_holds (below_all nat_cmp e.0 es) (is_sorted nat_cmp es) h),
      )
      | false ↦ named_rises n es (rest_holds (below_all nat_cmp e.0 es) (is_sorted nat_cmp es) h)
    ]

-- ---- what a set has, as its list has it
abbrev pub as_set : List ℕ → BTreeSet ℕ
as_set ks = record { keys = ks }

pub has_it : (ks : List ℕ) (q : ℕ) → set.contains nat_cmp (as_set ks) q ≡ list_any (λ k. k == q) ks
has_it ks q = any_alike (λ k. is_eq (nat_cmp q k)) (λ k. k == q) (λ k. unsigned_tied q k ∙ either_way q k) ks

-- those of a list that pass a test
any_passed : (p : ℕ → Bool) (q : ℕ) (ks : List ℕ) → list_any (λ k. k == q) (filter p ks)
    ≡ (p q && list_any (λ k. k == q) ks)
any_passed p q [] = sym (and_none (p q))
  where
    and_none : (b : Bool) → (b && false) ≡ false
    and_none true = refl
    and_none false = refl
any_passed p q (k ∷ ks) =
    elim (k == q) as (λ b. (k == q) ≡ b → list_any (λ k. k == q) (cond (p k) (k ∷ filter p ks) (filter p ks))
    ≡ (p q && (b || list_any (λ k. k == q) ks))) [
      | true ↦ λ here.
          let same : p k ≡ p q = ap p (it k q here) in
          elim (p k) as (λ a. p k ≡ a → list_any (λ k. k == q) (cond a (k ∷ filter p ks) (filter p ks))
          ≡ (p q && true)) [
            | true ↦ λ passed. ap (λ b. b || list_any (λ k. k == q) (filter p ks)) here
                ∙ sym (ap (λ b. b && true) (sym same ∙ passed))
            | false ↦ λ failed. let none : p q ≡ false = sym same ∙ failed in
                any_passed p q ks ∙ ap (λ b. b && list_any (λ k. k == q) ks) none ∙ sym (ap (λ b. b && true) none)
          ] refl
      | false ↦ λ off.
          elim (p k) as (λ a. list_any (λ k. k == q) (cond a (k ∷ filter p ks) (filter p ks))
          ≡ (p q && list_any (λ k. k == q) ks)) [
            | true ↦ ap (λ b. b || list_any (λ k. k == q) (filter p ks)) off ∙ any_passed p q ks
            | false ↦ any_passed p q ks
          ]
    ] refl

-- ---- those whose records name a number, one link after the other
module _ (n : ℕ) (c : Content) (all : List LinkRow) (found : List ℕ) (before rest : List LinkRow) (l : LinkRow)
    (b : Bool) (so_far : found ++ linked_naming n c before ≡ linked_naming n c all)
    (steps : before ≡ l ∷ rest) (is : b ≡ names_at n (get c.records l.no)) where
  abbrev after_it : Bool → List ℕ
  after_it there = found ++ cond there (l.no ∷ linked_naming n c rest) (linked_naming n c rest)

  step : after_it b ≡ linked_naming n c all
  step = ap after_it is ∙ sym (ap (λ ls. found ++ linked_naming n c ls) steps) ∙ so_far

  pub one_more : (now : List ℕ) → b ≡ true → now ≡ found ++ l.no ∷ [] → now ++ linked_naming n c rest
      ≡ linked_naming n c all
  one_more now there pushed = ap (λ ks. ks ++ linked_naming n c rest) pushed
      ∙ append_assoc found (l.no ∷ []) (linked_naming n c rest) ∙ ap after_it (sym there) ∙ step

  pub none_more : b ≡ false → found ++ linked_naming n c rest ≡ linked_naming n c all
  none_more off = ap after_it (sym off) ∙ step

pub all_found : (n : ℕ) (c : Content) (all : List LinkRow) (found : List ℕ) (rest : List LinkRow)
    → found ++ linked_naming n c rest ≡ linked_naming n c all → rest ≡ [] → found ≡ linked_naming n c all
all_found n c all found rest so_far done =
    sym (ap (λ ls. found ++ linked_naming n c ls) done ∙ append-nil found) ∙ so_far

-- ---- the links to a number are in the order of the records that name it
lower_no : (n m k : ℕ) → pair_place n m < pair_place n k → nat_cmp m k ≡ Less
lower_no n m k low = let under : m < k = omega (arith, low) in grind (arith, nat_tests, under)

all_higher : (n m : ℕ) (ls : List LinkRow) → AllByRecursion (λ l. pair_place n m < link_place l) ls
    → AllByRecursion (λ k. nat_cmp m k ≡ Less)
    (map (λ (l : LinkRow). l.no) (filter (λ (l : LinkRow). l.target == n) ls))
all_higher n m [] h = tt
all_higher n m (l ∷ ls) h =
    elim (l.target == n) as (λ b. (l.target == n) ≡ b → AllByRecursion (λ k. nat_cmp m k ≡ Less)
    (map (λ (l : LinkRow). l.no) (cond b (l ∷ filter (λ (l : LinkRow). l.target == n) ls)
    (filter (λ (l : LinkRow). l.target == n) ls)))) [
      | true ↦ λ here. (
        lower_no n m l.no (subst (λ t. pair_place n m < pair_place t l.no) (it l.target n here) h.0),
        all_higher n m ls h.1,
      )
      | false ↦ λ off. all_higher n m ls h.1
    ] refl

links_ascend : (n : ℕ) (ls : List LinkRow) → IsAscending (λ a b. link_place a < link_place b) ls
    → IsStrictlySortedBy nat_cmp (map (λ (l : LinkRow). l.no) (filter (λ (l : LinkRow). l.target == n) ls))
unfolding IsStrictlySortedBy
links_ascend n [] h = tt
links_ascend n (l ∷ ls) h =
    elim (l.target == n) as (λ b. (l.target == n) ≡ b → IsStrictlySortedBy nat_cmp
    (map (λ (l : LinkRow). l.no) (cond b (l ∷ filter (λ (l : LinkRow). l.target == n) ls)
    (filter (λ (l : LinkRow). l.target == n) ls)))) [
      | true ↦ λ here. (
        all_higher n l.no ls (subst (λ t. AllByRecursion (λ m. pair_place t l.no < link_place m) ls)
            (it l.target n here) h.0),
        links_ascend n ls h.1,
      )
      | false ↦ λ off. links_ascend n ls h.1
    ] refl

-- ---- all together: the records of the links to a number, of which those that name it are kept
linked : (n q : ℕ) (o : Option Record) (ls : List LinkRow) → AreLinked q o ls
    → (names_at n o
    && list_any (λ k. k == q) (map (λ (l : LinkRow). l.no) (filter (λ (l : LinkRow). l.target == n) ls)))
    ≡ names_at n o
linked n q None ls h = refl
linked n q (Some r) ls h =
    let there : list_any (λ k. k == q) (map (λ (l : LinkRow). l.no) (filter (λ (l : LinkRow). l.target == n) ls))
    ≡ has_link n q ls =
    any_mapped (λ k. k == q) (λ (l : LinkRow). l.no) (filter (λ (l : LinkRow). l.target == n) ls)
    ∙ sym (any_kept (λ (l : LinkRow). l.target == n) (λ (l : LinkRow). l.no == q) ls) in
    elim (is_among n (links r)) as (λ b. is_among n (links r) ≡ b → (b && list_any (λ k. k == q)
    (map (λ (l : LinkRow). l.no) (filter (λ (l : LinkRow). l.target == n) ls))) ≡ b) [
      | true ↦ λ named. there ∙ h n named
      | false ↦ λ off. refl
    ] refl

pub same_referrers : (rows : Rows) (c : Content) (n : ℕ) → KeepsLinks rows c
    → IsAscending (λ a b. link_place a < link_place b) rows.links → linked_naming n c (links_to n rows) ≡ referrers c n
same_referrers rows c n keeps rise =
    let all = map (λ (l : LinkRow). l.no) (links_to n rows) in
    let kept = linked_naming n c (links_to n rows) in
    btree_set_from_contains nat_cmp_total (as_set kept) (as_set (referrers c n))
    (IsStrictlySortedBy-filter nat_cmp _ all (links_ascend n rows.links rise))
    (named_rises n (entries c.records) (entries_sorted c.records))
    (λ q. has_it kept q ∙ any_passed (λ m. names_at n (get c.records m)) q all
    ∙ linked n q (get c.records q) rows.links (keeps q)
    ∙ ap (names_at n) (get-entries c.records q)
    ∙ sym (named_found n q (entries c.records) (entries_sorted c.records)) ∙ sym (has_it (referrers c n) q))
    nat_cmp-IsAntisymmetric

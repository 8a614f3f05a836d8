-- A place of another name: each path is that of before, or a place within it has it, which was looked at.
use Rattle.std.proofs.Common.{
  ◌≡◌,
  ◌⊎◌,
  ℕ,
  zero,
  suc,
  ◌<◌,
  List,
  true,
  false,
  refl,
  sym,
  ap,
  ◌∙◌,
  inl,
  inr,
  subst,
  arith,
}
use Rattle.std.specs.Prelude.{Option, Some, None, option_map, not, nat_lt, ◌&&◌, ◌||◌, ◌==◌, IfSome, if◌then◌else◌}
use Rattle.std.specs.FinMap.{get, insert}
use Rattle.std.specs.List.{list_all, list_any}
use Rattle.std.proofs.lemmas.Bool.{and_parts, cases_eq, ltb-true, lt-ltb}
use Rattle.list_laws.proofs.Booleans.{neither, not_true, or_left}
use Rattle.list_laws.proofs.Numbers.{same_self}
use Rattle.record_kinds.specs.Model as model
use Rattle.record_kinds.specs.declared.record.Record.{Record}
use Rattle.record_kinds.specs.declared.record.Record.TheVariants as kind
use Rattle.record_shapes.specs.Fields.{path_below}
use Rattle.record_shapes.specs.Lists.{EachOf}
use Rattle.record_shapes.specs.Paths.{has_part, is_within_limits}
use Rattle.record_shapes.proofs.Each.{each_more}
use Rattle.archive_state.specs.Content.{Content, Records}
use Rattle.archive_state.specs.Known.{path_of, path_under, path_with}
use Rattle.archive_state.specs.Links.{Link, carried_links, is_among, links}
use Rattle.archive_state.specs.Referrers.{referrers}
use Rattle.archive_state.proofs.PathsAlike.{path_there, with_alike}
use Rattle.archive_state.proofs.Putting.{put_elsewhere, put_here}
use Rattle.command_checks.specs.Fits.{new_path}
use Rattle.place_names.specs.Naming.{
  all_may,
  any_reads,
  is_at,
  is_number,
  is_of,
  may_at,
  may_have,
  place_in,
  place_within,
  reads_anew,
  reads_at,
  where_place,
}
use Rattle.place_names.proofs.Climbed.{a_place, no_place}
use Rattle.place_names.proofs.Referring.{each_among, each_false, each_true, of_referrers}

-- number k has this path afterwards, and it was looked at
pub record Reaches (c : Content) (after : Records) (k : ℕ) (q : List ℕ) : Type 0 where
  pub steps : ℕ
  pub may : all_may steps c k q ≡ true
  pub unread : any_reads steps c k q ≡ false
  pub path : path_of after k ≡ Some q

-- number j, which the record r of number k names, has this path afterwards; an event or an entry may have that place,
-- and the record is read as before
pub record Named (c : Content) (after : Records) (k : ℕ) (r : Record) (j : ℕ) (q : List ℕ) : Type 0 where
  pub path : path_of after j ≡ Some q
  pub said : is_of j (Some r) ≡ true → has_part q ≡ true
  pub unread : reads_anew c j q k (Some r) ≡ false

is_place : (o : Option Record) (q : model.Place) → place_in o ≡ Some q → o ≡ Some (kind.Place q)
is_place (Some (kind.Place x)) q e = let same : x ≡ q = cc in ap (λ y. Some (kind.Place y)) same
is_place None q e = absurd cc
is_place (Some (kind.Repo x)) q e = absurd cc
is_place (Some (kind.Source x)) q e = absurd cc
is_place (Some (kind.Person x)) q e = absurd cc
is_place (Some (kind.Family x)) q e = absurd cc
is_place (Some (kind.Event x)) q e = absurd cc
is_place (Some (kind.Citation x)) q e = absurd cc
is_place (Some (kind.Entry x)) q e = absurd cc
is_place (Some (kind.Other x)) q e = absurd cc

-- a place names the one that it is within
names_parent : (q : model.Place) (j : ℕ) (o : Option ℕ) → o ≡ Some j
    → is_among j (links (kind.Place (record q { parent = o }))) ≡ true
names_parent q j (Some x) e =
    let same : x ≡ j = cc in
    or_left (x == j) (is_among j (carried_links q.carried)) (ap (λ y. y == j) same ∙ same_self j)
names_parent q j None e = absurd cc

within_it : (j k : ℕ) (q : model.Place) → nat_lt j k ≡ true → q.parent ≡ Some j
    → place_within j k (Some (kind.Place q)) ≡ Some q
within_it j k q less e =
    ap (λ b. if b then Some q else None) (ap (λ b. b && is_number j q.parent) less ∙ ap (is_number j) e ∙ same_self j)

module _ (c : Content) (n : ℕ) (p : model.Place) where
  abbrev pub after : Records
  after = insert c.records n (kind.Place p)

  -- ---- paths of the places before it
  before_by : (s q : ℕ) → q < s → q < n → path_of after q ≡ path_of c.records q
  before_by zero q h less = absurd (omega arith)
  before_by (suc s) q h less =
      path_there after q
      ∙ with_alike q (path_of after) (path_of c.records) (get after q)
      (λ x lower. before_by s x (omega arith) (omega arith))
      ∙ ap (path_with q (path_of c.records))
      (put_elsewhere c.records n (kind.Place p) q (λ same. absurd (omega arith)))
      ∙ sym (path_there c.records q)

  pub before : (q : ℕ) → q < n → path_of after q ≡ path_of c.records q
  before q less = before_by (suc q) q (omega arith) less

  -- the record of another number is the one that was there
  pub same_record : (k : ℕ) → (k ≡ n → ⊥) → path_of after k ≡ path_with k (path_of after) (get c.records k)
  same_record k other = path_there after k
      ∙ ap (path_with k (path_of after)) (put_elsewhere c.records n (kind.Place p) k other)

  -- a place directly within one of that path
  pub path_on : (k j : ℕ) (x : model.Place) (q : List ℕ) → (k ≡ n → ⊥) → nat_lt j k ≡ true
      → get c.records k ≡ Some (kind.Place x) → x.parent ≡ Some j → path_of after j ≡ Some q
      → path_of after k ≡ Some (path_below x.name q)
  path_on k j x q other less at parent above =
      same_record k other ∙ ap (path_with k (path_of after)) at ∙ ap (path_under k (path_of after) x.name) parent
      ∙ ap (λ b. if b then option_map (path_below x.name) (path_of after j) else None) less
      ∙ ap (option_map (path_below x.name)) above

  module _ (path : List ℕ) (smaller : IfSome p.parent (λ q. q < n))
      (is_new : new_path c.records p.name p.parent ≡ Some path) where
    under_new : (o : Option ℕ) → IfSome o (λ q. q < n) → path_under n (path_of after) p.name o
        ≡ new_path c.records p.name o
    under_new None h = refl
    under_new (Some q) h =
        ap (λ b. if b then option_map (path_below p.name) (path_of after q) else None) (lt-ltb q n h)
        ∙ ap (option_map (path_below p.name)) (before q h)

    pub own_path : path_of after n ≡ Some path
    own_path = path_there after n ∙ ap (path_with n (path_of after)) (put_here c.records n (kind.Place p))
        ∙ under_new p.parent smaller ∙ is_new

    module _ (may : all_may 32 c n path ≡ true) (unread : any_reads 32 c n path ≡ false) where
      -- ---- of each number
      abbrev pub Either : ℕ → Type 0
      Either k = (path_of after k ≡ path_of c.records k) ⊎ ((q : List ℕ) × Reaches c after k q)

      -- a place directly within one that was looked at
      reaches_on : (k j : ℕ) (x : model.Place) (q : List ℕ) → nat_lt j k ≡ true → get c.records k ≡ Some (kind.Place x)
          → x.parent ≡ Some j → path_of after k ≡ Some (path_below x.name q) → (s : ℕ) → all_may s c j q ≡ true
          → any_reads s c j q ≡ false → Reaches c after k (path_below x.name q)
      reaches_on k j x q less at parent there zero m u = absurd cc
      reaches_on k j x q less at parent there (suc s) m u =
          let named : is_among j (links (kind.Place x)) ≡ true = names_parent x j x.parent parent in
          let inside : place_within j k (get c.records k) ≡ Some x =
          ap (place_within j k) at ∙ within_it j k x less parent in
          let each = (and_parts (may_have c j q) (list_all (may_at s c j q) (referrers c j)) m).1 in
          let one : may_at s c j q k ≡ true = of_referrers (λ y. may_at s c j q y ≡ true) j c k (kind.Place x) at named
          (each_true (may_at s c j q) (referrers c j) each) in
          let other : reads_at s c j q k ≡ false = of_referrers (λ y. reads_at s c j q y ≡ false) j c k (kind.Place x)
          at named (each_false (reads_at s c j q) (referrers c j) u) in
          let parts = neither (reads_anew c j q k (get c.records k))
          (where_place false (λ y. any_reads s c k (path_below y.name q)) (place_within j k (get c.records k))) other in
          record {
            steps = s;
            may = sym (ap (where_place true (λ y. all_may s c k (path_below y.name q))) inside) ∙ one;
            unread = sym (ap (where_place false (λ y. any_reads s c k (path_below y.name q))) inside) ∙ parts.1;
            path = there;
          }

      module _ (k : ℕ) (other : k ≡ n → ⊥) where
        of_none : place_in (get c.records k) ≡ None → path_of after k ≡ path_of c.records k
        of_none e =
            same_record k other ∙ no_place k (path_of after) (get c.records k) e
            ∙ sym (path_there c.records k ∙ no_place k (path_of c.records) (get c.records k) e)

        of_place : (x : model.Place) → place_in (get c.records k) ≡ Some x
            → ((j : ℕ) → j < k → Either j) → (o : Option ℕ) → x.parent ≡ o → Either k
        of_place x e below None parent = inl
            (same_record k other ∙ a_place k (path_of after) (get c.records k) x e
            ∙ ap (path_under k (path_of after) x.name) parent
            ∙ sym (path_there c.records k ∙ a_place k (path_of c.records) (get c.records k) x e
            ∙ ap (path_under k (path_of c.records) x.name) parent))
        of_place x e below (Some j) parent =
            let now : path_of after k ≡ path_under k (path_of after) x.name (Some j) =
            same_record k other ∙ a_place k (path_of after) (get c.records k) x e
            ∙ ap (path_under k (path_of after) x.name) parent in
            let once : path_of c.records k ≡ path_under k (path_of c.records) x.name (Some j) =
            path_there c.records k ∙ a_place k (path_of c.records) (get c.records k) x e
            ∙ ap (path_under k (path_of c.records) x.name) parent in
            elim (nat_lt j k) as (λ b. nat_lt j k ≡ b
            → path_of after k ≡ (if b then option_map (path_below x.name) (path_of after j) else None)
            → path_of c.records k ≡ (if b then option_map (path_below x.name) (path_of c.records j) else None)
            → Either k) [
              | true ↦ λ less here was. elim (below j (ltb-true j k less)) as (λ _. Either k) [
                | inl same ↦ inl (here ∙ ap (option_map (path_below x.name)) same ∙ sym was)
                | inr found ↦ inr (
                  path_below x.name found.0,
                  reaches_on k j x found.0 less (is_place (get c.records k) x e) parent
                      (here ∙ ap (option_map (path_below x.name)) found.1.path) found.1.steps found.1.may
                      found.1.unread,
                )
              ]
              | false ↦ λ less here was. inl (here ∙ sym was)
            ] refl now once

        by_record : ((j : ℕ) → j < k → Either j) → (o : Option model.Place) → place_in (get c.records k) ≡ o → Either k
        by_record below None e = inl (of_none e)
        by_record below (Some x) e = of_place x e below x.parent refl

      reached_by : (s k : ℕ) → k < s → Either k
      reached_by zero k h = absurd (omega arith)
      reached_by (suc s) k h = elim (cases_eq k n) as (λ _. Either k) [
        | inl same ↦ subst Either (sym same) (inr (
          path,
          record {
            steps = 32;
            may = may;
            unread = unread;
            path = own_path;
          },
        ))
        | inr other ↦ by_record k other (λ j less. reached_by s j (omega arith)) (place_in (get c.records k)) refl
      ]

      pub reached : (k : ℕ) → Either k
      reached k = reached_by (suc k) k (omega arith)

      -- ---- what a record names
      abbrev pub Is : ℕ → Record → ℕ → Type 0
      Is k r j = (path_of after j ≡ path_of c.records j) ⊎ ((q : List ℕ) × Named c after k r j q)

      part_said : (j k : ℕ) (r : Record) (q : List ℕ) → get c.records k ≡ Some r → is_among j (links r) ≡ true
          → may_have c j q ≡ true → is_of j (Some r) ≡ true → has_part q ≡ true
      part_said j k r q at named m one =
          let rest = (and_parts (is_within_limits q) (has_part q || not (list_any (is_at c j) (referrers c j))) m).1 in
          elim (has_part q) as (λ b. (b || not (list_any (is_at c j) (referrers c j))) ≡ true → b ≡ true) [
            | true ↦ λ e. refl
            | false ↦ λ e.
                let none : is_at c j k ≡ false = of_referrers (λ y. is_at c j y ≡ false) j c k r at named
                (each_false (is_at c j) (referrers c j) (not_true (list_any (is_at c j) (referrers c j)) e)) in
                let both : true ≡ false = sym one ∙ ap (is_of j) (sym at) ∙ none in
                absurd cc
          ] rest

      named_on : (j k : ℕ) (r : Record) (q : List ℕ) → get c.records k ≡ Some r → is_among j (links r) ≡ true
          → path_of after j ≡ Some q → (s : ℕ) → all_may s c j q ≡ true → any_reads s c j q ≡ false
          → Named c after k r j q
      named_on j k r q at named there zero m u = absurd cc
      named_on j k r q at named there (suc s) m u =
          let here = (and_parts (may_have c j q) (list_all (may_at s c j q) (referrers c j)) m).0 in
          let other : reads_at s c j q k ≡ false = of_referrers (λ y. reads_at s c j q y ≡ false) j c k r at named
          (each_false (reads_at s c j q) (referrers c j) u) in
          let parts = neither (reads_anew c j q k (get c.records k))
          (where_place false (λ y. any_reads s c k (path_below y.name q)) (place_within j k (get c.records k))) other in
          record {
            path = there;
            said = part_said j k r q at named here;
            unread = ap (reads_anew c j q k) (sym at) ∙ parts.0;
          }

      pub named_is : (k : ℕ) (r : Record) → get c.records k ≡ Some r → (j : ℕ) → is_among j (links r) ≡ true → Is k r j
      named_is k r at j named = elim (reached j) as (λ _. Is k r j) [
        | inl same ↦ inl same
        | inr found ↦ inr (
          found.0,
          named_on j k r found.0 at named found.1.path found.1.steps found.1.may found.1.unread,
        )
      ]

      pub all_named : (k : ℕ) (r : Record) → get c.records k ≡ Some r → EachOf (λ (l : Link). Is k r l.0) (links r)
      all_named k r at = each_more (λ (l : Link). is_among l.0 (links r) ≡ true) (λ (l : Link). Is k r l.0)
          (λ l named. named_is k r at l.0 named) (links r) (each_among (links r))

      -- the path of each place is within the limits, if it was
      reached_short : (k : ℕ) (q : List ℕ) (s : ℕ) → all_may s c k q ≡ true → is_within_limits q ≡ true
      reached_short k q zero m = absurd cc
      reached_short k q (suc s) m =
          let here = (and_parts (may_have c k q) (list_all (may_at s c k q) (referrers c k)) m).0 in
          (and_parts (is_within_limits q) (has_part q || not (list_any (is_at c k) (referrers c k))) here).0

      pub short_paths : (k : ℕ) (q : List ℕ) → path_of after k ≡ Some q
          → (path_of c.records k ≡ Some q) ⊎ (is_within_limits q ≡ true)
      short_paths k q e = elim (reached k) as (λ _. (path_of c.records k ≡ Some q) ⊎ (is_within_limits q ≡ true)) [
        | inl same ↦ inl (sym same ∙ e)
        | inr found ↦
            let both : Some found.0 ≡ Some q = sym found.1.path ∙ e in
            let is : found.0 ≡ q = cc in
            inr (ap is_within_limits (sym is) ∙ reached_short k found.0 found.1.steps found.1.may)
      ]

-- Changes of records that keep an archive sound: some records more, and one less.
use Rattle.std.proofs.Common.{
  ◌≡◌,
  ◌⊎◌,
  ℕ,
  ◌+◌,
  zero,
  suc,
  ◌≤◌,
  List,
  [],
  ◌∷◌,
  true,
  false,
  cond,
  refl,
  nat_lt,
  sym,
  ap,
  ◌∙◌,
  inl,
  inr,
  arith,
}
use Rattle.std.specs.Prelude.{Option, Some, None, option_map, ◌==◌, if◌then◌else◌}
use Rattle.std.specs.FinMap.{get, remove, get-remove}
use Rattle.std.specs.Ordering.{nat_cmp, eq_by_cmp}
use Rattle.std.specs.Cmp.{nat_cmp_total}
use Rattle.std.proofs.lemmas.Bool.{or_parts, eqb-false}
use Rattle.record_kinds.specs.Model as model
use Rattle.record_kinds.specs.declared.record.Record.{Record}
use Rattle.record_kinds.specs.declared.record.Record.TheVariants as kind
use Rattle.archive_state.specs.Links.{Link, a_place, links, field_links, carried_links, is_wanted, is_among}
use Rattle.record_shapes.specs.Fields.{path_below}
use Rattle.record_shapes.specs.Lists.{EachOf}
use Rattle.record_shapes.specs.Paths.{IsWithinLimits}
use Rattle.archive_state.specs.Content.{Content, Records}
use Rattle.archive_state.specs.Entries.{IsEntryAt}
use Rattle.archive_state.specs.Known.{path_under, path_with, path_by, path_of}
use Rattle.archive_state.specs.Paths.{HasPath}
use Rattle.archive_state.specs.Sound.{EachIn, Stands, IsPerson, IsSound}
use Rattle.archive_state.proofs.Climbing.{stands_there}
use Rattle.archive_state.proofs.Keeping.{
  alike_itself,
  StaysAlike,
  Stays,
  KeepsRules,
  stands_as,
  keeps_sound,
  slip_later,
  if_there,
  no_slip_from,
  stays_below,
  stayed_at,
}
use Rattle.archive_state.proofs.Known.{path_known}
use Rattle.archive_state.proofs.Putting.{one_number}
use Rattle.record_shapes.proofs.Each.{each_more, each_zip, each_front}
use Rattle.list_laws.proofs.Numbers.{itself}

-- ---- paths in a part of the records
-- all records of the part are there, and what they name is in the part
module _ (part all : Records) (within : (n : ℕ) (r : Record) → get part n ≡ Some r → get all n ≡ Some r)
    (closed : EachIn part (λ n r. EachOf (Stands part) (links r))) where
  above_same : (n : ℕ) (one other : ℕ → Option (List ℕ))
      → ((k : ℕ) (r : Record) → get part k ≡ Some r → one k ≡ other k) → (name : List ℕ) (o : Option ℕ)
      → EachOf (Stands part) (field_links a_place o) → path_under n one name o ≡ path_under n other name o
  above_same n one other same name None h = refl
  above_same n one other same name (Some q) h =
      let up = stands_as a_place (get part q) h.0 in
      ap (λ x. if nat_lt q n then option_map (path_below name) x else None) (same q up.0 up.1)

  record_same : (n : ℕ) (one other : ℕ → Option (List ℕ))
      → ((k : ℕ) (r : Record) → get part k ≡ Some r → one k ≡ other k) → (r : Record) → EachOf (Stands part) (links r)
      → path_with n one (Some r) ≡ path_with n other (Some r)
  record_same n one other same (kind.Place p) h = above_same n one other same p.name p.parent
      (each_front (Stands part) (field_links a_place p.parent) (carried_links p.carried) h)
  record_same n one other same (kind.Repo p) h = refl
  record_same n one other same (kind.Source p) h = refl
  record_same n one other same (kind.Person p) h = refl
  record_same n one other same (kind.Family p) h = refl
  record_same n one other same (kind.Citation p) h = refl
  record_same n one other same (kind.Event p) h = refl
  record_same n one other same (kind.Entry p) h = refl
  record_same n one other same (kind.Other p) h = refl

  steps_same : (steps n : ℕ) (r : Record) → get part n ≡ Some r → path_by steps part n ≡ path_by steps all n
  steps_same zero n r at = refl
  steps_same (suc steps) n r at =
      ap (path_with n (path_by steps part)) at
      ∙ record_same n (path_by steps part) (path_by steps all) (steps_same steps) r (closed n r at)
      ∙ sym (ap (path_with n (path_by steps all)) (within n r at))

  -- what is in the part has the same path in it
  pub path_within : (n : ℕ) (r : Record) → get part n ≡ Some r → path_of part n ≡ path_of all n
  unfolding path_of
  path_within n r at = steps_same (n + 1) n r at

-- ---- records more
-- from some records to more: what was there is there, and of what is new all rules hold
pub record Grows (c after : Content) : Type 0 where
  pub later : c.next ≤ after.next
  pub bounded : after.next ≤ 4294967296
  pub still : (n : ℕ) (r : Record) → get c.records n ≡ Some r → get after.records n ≡ Some r
  pub slips : after.slips ≡ c.slips
  -- each new record keeps the rules, and has a number from the next one on
  pub new : (n : ℕ) (r : Record) → get c.records n ≡ None → get after.records n ≡ Some r
      → KeepsRules after.next after.records n r × (c.next ≤ n)
  -- the path of each new place is within the limits
  pub paths : (n : ℕ) (path : List ℕ) → get c.records n ≡ None → HasPath after.records n path → IsWithinLimits path
  -- no other entry agrees with a new one in source, kind, page and item
  pub keys : (n k : ℕ) (e : model.Entry) → get c.records n ≡ None → get after.records n ≡ Some (kind.Entry e)
      → IsEntryAt after.records e.source e.kind e.page e.item k → n ≡ k

-- what stands at a number was there, or is new
pub cases_of : (m : Records) (n : ℕ) → ((r : Record) × (get m n ≡ Some r)) ⊎ (get m n ≡ None)
cases_of m n = by (get m n) refl
  where
    by : (o : Option Record) → get m n ≡ o → ((r : Record) × (get m n ≡ Some r)) ⊎ (get m n ≡ None)
    by None e = inr e
    by (Some r) e = inl (r, e)

pub more_keeps : (c after : Content) → IsSound c → Grows c after → IsSound after
more_keeps c after sound grows =
    let m : Records = c.records in
    let all : Records = after.records in
    let alike : (l : Link) → Stands m l → StaysAlike m all l.0 = λ l stands.
    let old = stands_as l.1 (get m l.0) stands in record {
      alike = λ x at. (x, grows.still l.0 x at, alike_itself x);
      path = path_within m all grows.still sound.named l.0 old.0 old.1;
    } in
    keeps_sound c after sound (record {
      later = grows.later;
      bounded = grows.bounded;
      records = λ n r e. elim (cases_of m n) as (λ _. Stays m all n r ⊎ KeepsRules after.next all n r) [
        | inl was ↦
            let both : Some was.0 ≡ Some r = sym (grows.still n was.0 was.1) ∙ e in
            let same : was.0 ≡ r = cc in
            let there : get m n ≡ Some r = was.1 ∙ ap Some same in
            inl (record {
              there = there;
              named = each_more (Stands m) (λ l. StaysAlike m all l.0) alike (links r)
                  (sound.named n r there);
            })
        | inr none ↦ inr (grows.new n r none e).0
      ];
      distinct = λ n r e. ap (λ s. get s n) grows.slips ∙ elim (cases_of m n) as (λ _. get c.slips n ≡ None) [
        | inl was ↦ sound.distinct n was.0 was.1
        | inr none ↦ no_slip_from c n sound (grows.new n r none e).1
      ];
      paths = λ n path h. elim (cases_of m n) as (λ _. IsWithinLimits path) [
        | inl was ↦ sound.rules.paths n path
            ((path_known m n path).1 (path_within m all grows.still sound.named n was.0 was.1
            ∙ (path_known all n path).0 h))
        | inr none ↦ grows.paths n path none h
      ];
      keys = λ n k e at (f, there, (source, kinds, page, item)). elim (cases_of m n) as (λ _. n ≡ k) [
        | inl was ↦ elim (cases_of m k) as (λ _. n ≡ k) [
          | inl old ↦
              let a : Some was.0 ≡ Some (kind.Entry e) = sym (grows.still n was.0 was.1) ∙ at in
              let b : Some old.0 ≡ Some (kind.Entry f) = sym (grows.still k old.0 old.1) ∙ there in
              sound.rules.keys n k e (was.1 ∙ a) (f, old.1 ∙ b, (source, kinds, page, item))
          | inr none ↦ sym (grows.keys k n f none there (e, at, (sym source, sym kinds, sym page, sym item)))
        ]
        | inr none ↦ grows.keys n k e none at (f, there, (source, kinds, page, item))
      ];
      slips = λ n s e. slip_later c.next after.next grows.later n s
          (sound.slips n s (ap (λ x. get x n) (sym grows.slips) ∙ e));
      stayed = λ n s e.
          let was_slip : get c.slips n ≡ Some s = ap (λ x. get x n) (sym grows.slips) ∙ e in
          if_there (get all s.keep) IsPerson (λ r at. elim (cases_of m s.keep) as (λ _. IsPerson r) [
            | inl was ↦
                let both : Some was.0 ≡ Some r = sym (grows.still s.keep was.0 was.1) ∙ at in
                let same : was.0 ≡ r = cc in
                stayed_at c n s.keep s r sound was_slip refl (was.1 ∙ ap Some same)
            | inr none ↦ absurd (stays_below c n s sound was_slip (grows.new s.keep r none at).1)
          ]);
      free = λ n s e. ap (λ x. get x s.gone) grows.slips ∙ sound.free n s (ap (λ x. get x n) (sym grows.slips) ∙ e);
    })

-- ---- a record less
-- what is there without a number, was there
less_is : (m : Records) (k n : ℕ) (r : Record) → get (remove m k) n ≡ Some r → (n ≡ k → ⊥) × (get m n ≡ Some r)
less_is m k n r e = elim (eq_by_cmp nat_cmp n k) as (λ b. eq_by_cmp nat_cmp n k ≡ b → cond b None (get m n) ≡ Some r
    → (n ≡ k → ⊥) × (get m n ≡ Some r)) [
      | true ↦ λ x q. absurd cc
      | false ↦ λ x q. (
        (λ same. let both : true ≡ false = sym (itself k) ∙ ap (λ y. eq_by_cmp nat_cmp y k) (sym same)
            ∙ x in absurd cc),
        q,
      )
    ] refl (sym (get-remove nat_cmp_total m k n) ∙ e)

less_still : (m : Records) (k n : ℕ) → (n ≡ k → ⊥) → get (remove m k) n ≡ get m n
less_still m k n other = get-remove nat_cmp_total m k n
    ∙ elim (eq_by_cmp nat_cmp n k) as (λ b. eq_by_cmp nat_cmp n k ≡ b → cond b None (get m n) ≡ get m n) [
      | true ↦ λ x. absurd (other (one_number n k x))
      | false ↦ λ x. refl
    ] refl

-- no link is to the number
none_to : (k : ℕ) (ls : List Link) → is_among k ls ≡ false → EachOf (λ (l : Link). l.0 ≡ k → ⊥) ls
none_to k [] e = tt
none_to k (l ∷ ls) e = (
  eqb-false l.0 k (or_parts (l.0 == k) (is_among k ls) e).0,
  none_to k ls (or_parts (l.0 == k) (is_among k ls) e).1,
)

-- a record that no other names may be removed
pub less_keeps : (c : Content) (k : ℕ) → IsSound c
    → EachIn c.records (λ n r. (n ≡ k → ⊥) → is_among k (links r) ≡ false)
    → IsSound (record c { records = remove c.records k })
less_keeps c k sound free =
    let m : Records = c.records in
    let after : Records = remove m k in
    let was : (n : ℕ) (r : Record) → get after n ≡ Some r → get m n ≡ Some r = λ n r e. (less_is m k n r e).1 in
    let other : (n : ℕ) (r : Record) → get after n ≡ Some r → EachOf (λ (l : Link). l.0 ≡ k → ⊥) (links r) = λ n r e.
    let x = less_is m k n r e in none_to k (links r) (free n r x.1 x.0) in
    let named : EachIn after (λ n r. EachOf (Stands after) (links r)) = λ n r e.
    each_zip (λ (l : Link). l.0 ≡ k → ⊥) (Stands m) (Stands after)
    (λ l apart stands. ap (option_map (is_wanted l.1)) (less_still m k l.0 apart) ∙ stands) (links r) (other n r e)
    (sound.named n r (was n r e)) in
    let path : (n : ℕ) (r : Record) → get after n ≡ Some r → path_of after n ≡ path_of m n = path_within
    after m was named in
    let alike : (l : Link) → (l.0 ≡ k → ⊥) → Stands after l → StaysAlike m after l.0 = λ l apart stands.
    let left = stands_as l.1 (get after l.0) stands in record {
      alike = λ x at. (x, less_still m k l.0 apart ∙ at, alike_itself x);
      path = sym (path l.0 left.0 left.1);
    } in
    keeps_sound c (record c { records = after }) sound (record {
      later = omega arith;
      bounded = sound.bounded;
      records = λ n r e. inl
          (record {
            there = was n r e;
            named = each_zip (λ (l : Link). l.0 ≡ k → ⊥) (Stands after)
                (λ l. StaysAlike m after l.0) alike (links r) (other n r e) (named n r e);
          });
      distinct = λ n r e. sound.distinct n r (was n r e);
      paths = λ n p h. elim (cases_of after n) as (λ _. IsWithinLimits p) [
        | inl there ↦ sound.rules.paths n p
            ((path_known m n p).1 (sym (path n there.0 there.1) ∙ (path_known after n p).0 h))
        | inr none ↦ absurd (stands_there after n p h none)
      ];
      keys = λ n j e at (f, there, key). sound.rules.keys n j e (was n (kind.Entry e) at)
          (f, was j (kind.Entry f) there, key);
      slips = sound.slips;
      stayed = λ n s e. if_there (get after s.keep) IsPerson
          (λ r at. stayed_at c n s.keep s r sound e refl (was s.keep r at));
      free = sound.free;
    })

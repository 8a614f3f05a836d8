-- What an archive is after rows that have made entries: the look at one row is the command of one entry there.
use Rattle.std.proofs.Common.{
  ◌≡◌,
  ℕ,
  ◌+◌,
  ◌<◌,
  ◌≤◌,
  List,
  [],
  ◌∷◌,
  ◌++◌,
  length,
  Bool,
  true,
  false,
  not,
  ◌&&◌,
  ◌||◌,
  ◌==◌,
  refl,
  sym,
  ap,
  ◌∙◌,
  inl,
  inr,
  subst,
  arith,
  eqb,
  eqb-true,
  eq-eqb,
}
use Rattle.std.specs.Prelude.{◌≢◌, zero, suc, Option, Some, None, Result, Ok, Err, if◌then◌else◌, nat_lt, bytes_eq, map}
use Rattle.std.proofs.lemmas.Bool.Decides.{nat_tests}
use Rattle.std.specs.FinMap.{get, insert, entries}
use Rattle.std.specs.List.{list_any}
use Rattle.record_text.specs.declared.refusal.RefusalKind.{RefusalKind}
use Rattle.record_text.specs.declared.refusal.RefusalKind.TheVariants.{BadText, DuplicateEntry, NoSuch, WrongKind}
use Rattle.record_fields.specs.Words.{entry_kind_word}
use Rattle.record_fields.specs.declared.entry_words.EntryKind.{EntryKind}
use Rattle.record_fields.specs.declared.item.Item.{Item}
use Rattle.record_kinds.specs.Model as model
use Rattle.record_kinds.specs.declared.record.Record.{Record}
use Rattle.record_kinds.specs.declared.record.Record.TheVariants as kind
use Rattle.record_shapes.specs.Lists.{Ascends, EachOf}
use Rattle.archive_state.proofs.Putting.{put_cases, put_elsewhere, put_here}
use Rattle.archive_state.specs.Applied.{with_puts}
use Rattle.archive_state.specs.Content.{Content, Records}
use Rattle.archive_state.specs.Entries.{HasKey, IsEntryAt}
use Rattle.archive_state.specs.declared.changes.Numbered.{Numbered}
use Rattle.commands.specs.Rows.{and_then}
use Rattle.command_checks.proofs.Likes.{has_key, key_free, key_of, none_there}
use Rattle.command_checks.specs.Checks.{
  demanded_at,
  demanded_in,
  is_place_with,
  is_said,
  is_within_with,
  need,
  place_in,
  said_place_at,
  says_something,
}
use Rattle.command_checks.specs.Entries.{is_like, key_is_free}
use Rattle.command_checks.specs.declared.kinds.Demand.TheVariants as demand
use Rattle.entry_batches.specs.Batches.{is_drawn, is_like_row, key_is_new, place_behind, with_made}
use Rattle.entry_batches.proofs.Keyed.{any_behind}
use Rattle.list_laws.proofs.Lists.{more_behind}

-- ---- numbers that follow each other
abbrev pub IsFrom : ℕ → List Numbered → Type 0
IsFrom n [] = Unit {0}
IsFrom n (p ∷ ps) = (p.number ≡ n) × IsFrom (n + 1) ps

pub one_behind : (n : ℕ) (ps : List Numbered) (p : Numbered) → IsFrom n ps → p.number ≡ n + length ps
    → IsFrom n (ps ++ (p ∷ []))
one_behind n [] p h e = let here : p.number ≡ n + 0 = e in (omega (arith, here), tt)
one_behind n (q ∷ ps) p h e = let here : p.number ≡ n + suc (length ps) = e in
    (h.0, one_behind (n + 1) ps p h.1 (omega (arith, here)))

-- what stands below them stays
pub untouched : (m : Records) (n : ℕ) (ps : List Numbered) (k : ℕ) → IsFrom n ps → k < n
    → get (with_puts m ps) k ≡ get m k
untouched m n [] k h less = refl
untouched m n (p ∷ ps) k h less =
    let there : p.number ≡ n = h.0 in
    untouched (insert m p.number p.«record») (n + 1) ps k h.1 (omega arith) ∙ put_elsewhere m p.number p.«record» k
    (λ same. omega (arith, there, same, less))

-- each of them has a record then
pub taken : (m : Records) (n : ℕ) (ps : List Numbered) (k : ℕ) → IsFrom n ps → n ≤ k → k < n + length ps
    → get (with_puts m ps) k ≢ None
taken m n [] k h low high = λ e. let top : k < n + 0 = high in absurd (omega (arith, low, top))
taken m n (p ∷ ps) k h low high =
    elim (eqb k n) as (λ b. eqb k n ≡ b → get (with_puts (insert m p.number p.«record») ps) k ≢ None) [
      | true ↦ λ q e.
          let same : k ≡ n = eqb-true k n q in
          let here : get (with_puts (insert m p.number p.«record») ps) k ≡ Some p.«record» =
          untouched (insert m p.number p.«record») (n + 1) ps k h.1 (omega arith)
          ∙ ap (get (insert m p.number p.«record»)) (same ∙ sym h.0) ∙ put_here m p.number p.«record» in
          let both : Some p.«record» ≡ None = sym here ∙ e in absurd cc
      | false ↦ λ q.
          let other : k ≡ n → ⊥ = λ same. let wrong : true ≡ false = sym (eq-eqb k n same) ∙ q in absurd cc in
          let more : n + 1 ≤ k = grind (arith, other, low) in
          let top : k < n + suc (length ps) = high in
          taken (insert m p.number p.«record») (n + 1) ps k h.1 more (omega (arith, top))
    ] refl

-- they ascend
above : (n : ℕ) (ps : List Numbered) (k : ℕ) → IsFrom n ps → k < n → EachOf (λ m. k < m)
    (map (λ (p : Numbered). p.number) ps)
above n [] k h less = tt
above n (p ∷ ps) k h less = (subst (λ m. k < m) (sym h.0) less, above (n + 1) ps k h.1 (omega arith))

pub ascending : (n : ℕ) (ps : List Numbered) → IsFrom n ps → Ascends (map (λ (p : Numbered). p.number) ps)
ascending n [] h = tt
ascending n (p ∷ ps) h = let here : p.number ≡ n = h.0 in
    (above (n + 1) ps p.number h.1 (omega (arith, here)), ascending (n + 1) ps h.1)

-- no record is there where they are put
pub none_before : (m : Records) (n : ℕ) (ps : List Numbered) → ((k : ℕ) → n ≤ k → get m k ≡ None) → IsFrom n ps
    → EachOf (λ (p : Numbered). get m p.number ≢ Some p.«record») ps
none_before m n [] none h = tt
none_before m n (p ∷ ps) none h = (
  (λ e. let here : p.number ≡ n = h.0 in let both : None ≡ Some p.«record» = sym (none p.number (omega (arith, here)))
      ∙ e in absurd cc),
  none_before m (n + 1) ps (λ k less. none k (omega arith)) h.1,
)

pub puts_behind : (m : Records) (ps : List Numbered) (p : Numbered) → with_puts m (ps ++ (p ∷ []))
    ≡ insert (with_puts m ps) p.number p.«record»
puts_behind m [] p = refl
puts_behind m (q ∷ ps) p = puts_behind (insert m q.number q.«record») ps p

-- ---- a record in place of none
module _ (m : Records) (n : ℕ) (e : model.Entry) (free : get m n ≡ None) where
  same_place : (f : model.Place → Bool) (q : ℕ) → is_place_with f (get (insert m n (kind.Entry e)) q)
      ≡ is_place_with f (get m q)
  same_place f q = elim (put_cases m n (kind.Entry e) q (get (insert m n (kind.Entry e)) q) refl) as (λ _.
      is_place_with f (get (insert m n (kind.Entry e)) q) ≡ is_place_with f (get m q)) [
        | inl h ↦ ap (is_place_with f) (sym h.1) ∙ sym (ap (is_place_with f) (ap (get m) h.0 ∙ free))
        | inr h ↦ ap (is_place_with f) (sym h.1)
      ]

  place_with : (f g : model.Place → Bool) → ((p : model.Place) → f p ≡ g p) → (o : Option Record)
      → is_place_with f o ≡ is_place_with g o
  place_with f g h None = refl
  place_with f g h (Some (kind.Place p)) = h p
  place_with f g h (Some (kind.Repo p)) = refl
  place_with f g h (Some (kind.Source p)) = refl
  place_with f g h (Some (kind.Person p)) = refl
  place_with f g h (Some (kind.Family p)) = refl
  place_with f g h (Some (kind.Citation p)) = refl
  place_with f g h (Some (kind.Event p)) = refl
  place_with f g h (Some (kind.Entry p)) = refl
  place_with f g h (Some (kind.Other p)) = refl

  pub said_still : (steps k : ℕ) (p : model.Place) → is_said steps (insert m n (kind.Entry e)) k p ≡ is_said steps m k p
  said_still zero k p = refl
  said_still (suc steps) k p = ap (λ b. says_something p.name || b)
      (elim p.parent as (λ parent. is_within_with (insert m n (kind.Entry e)) k
      (λ q r. is_said steps (insert m n (kind.Entry e)) q r) parent ≡ is_within_with m k
      (λ q r. is_said steps m q r) parent) [
        | None ↦ refl
        | Some q ↦ ap (λ b. nat_lt q k && b)
            (place_with (λ r. is_said steps (insert m n (kind.Entry e)) q r) (λ r. is_said steps m q r)
            (λ r. said_still steps q r) (get (insert m n (kind.Entry e)) q) ∙ same_place
            (λ r. is_said steps m q r) q)
      ])

  -- the key is free where it was, and the entry has another
  module _ (source : ℕ) (k : EntryKind) (page : List ℕ) (item : Item) where
    abbrev Taken : Records → Bool
    Taken r = list_any (λ x. is_like source k page item x.1) (entries r)

    abbrev after : Records
    after = insert m n (kind.Entry e)

    still_there : (j : ℕ) → IsEntryAt m source k page item j → IsEntryAt after source k page item j
    still_there j (x, at, key) = (
      x,
      put_elsewhere m n (kind.Entry e) j (λ same. let both : None ≡ Some (kind.Entry x) = sym free
          ∙ (ap (get m) (sym same) ∙ at) in absurd cc) ∙ at,
      key,
    )

    there_before : is_like source k page item (kind.Entry e) ≡ false → (j : ℕ) → IsEntryAt after source k page item j
        → IsEntryAt m source k page item j
    there_before other j (x, at, key) =
        elim (put_cases m n (kind.Entry e) j (Some (kind.Entry x)) at) as (λ _. IsEntryAt m source k page item j) [
          | inl h ↦
              let it : e ≡ x = let f = h.1 in cc in
              let wrong : true ≡ false = sym
              (has_key source k page item e (subst (HasKey source k page item) (sym it) key)) ∙ other in absurd cc
          | inr h ↦ (x, h.1, key)
        ]

    free_or_not : (r : Records) (b : Bool) → Taken r ≡ b → key_is_free r source k page item ≡ need
        (not b) DuplicateEntry
    free_or_not r b q = ap (λ x. need (not x) DuplicateEntry) q

    pub key_put : key_is_free after source k page item ≡ and_then (key_is_free m source k page item)
        (λ _. need (not (is_like source k page item (kind.Entry e))) DuplicateEntry)
    key_put =
        elim (is_like source k page item (kind.Entry e)) as (λ b. is_like source k page item (kind.Entry e) ≡ b
        → key_is_free after source k page item ≡ and_then (key_is_free m source k page item)
        (λ _. need (not b) DuplicateEntry)) [
          | true ↦ λ q. is_here q ∙ both_refuse (Taken m)
          | false ↦ λ q. as_before q (Taken m) refl ∙ sym (none_more (key_is_free m source k page item))
        ] refl
      where
        is_here : is_like source k page item (kind.Entry e) ≡ true → key_is_free after source k page item
            ≡ Err DuplicateEntry
        is_here q =
            elim (Taken after) as (λ b. Taken after ≡ b → key_is_free after source k page item ≡ Err DuplicateEntry) [
              | true ↦ λ t. free_or_not after true t
              | false ↦ λ t. absurd (none_there source k page item after tt (free_or_not after false t) n
                  (e, put_here m n (kind.Entry e), key_of source k page item e q))
            ] refl

        both_refuse : (b : Bool) → Err DuplicateEntry ≡ and_then (need (not b) DuplicateEntry)
            (λ _. need (not true) DuplicateEntry)
        both_refuse true = refl
        both_refuse false = refl

        none_more : (r : Result (Unit {0}) RefusalKind) → and_then r (λ _. Ok tt) ≡ r
        none_more (Ok u) = refl
        none_more (Err x) = refl

        as_before : is_like source k page item (kind.Entry e) ≡ false → (b : Bool) → Taken m ≡ b
            → key_is_free after source k page item ≡ key_is_free m source k page item
        as_before q true t =
            elim (Taken after) as (λ b. Taken after ≡ b → key_is_free after source k page item
            ≡ key_is_free m source k page item) [
              | true ↦ λ a. free_or_not after true a ∙ sym (free_or_not m true t)
              | false ↦ λ a.
                  let none : key_is_free m source k page item ≡ Ok tt = key_free source k page item m
                  (λ j there. none_there source k page item after tt (free_or_not after false a) j
                  (still_there j there)) in
                  let wrong : ◌≡◌ {A = Result (Unit {0}) RefusalKind} (Ok tt) (Err DuplicateEntry) =
                  sym none ∙ free_or_not m true t in absurd cc
            ] refl
        as_before q false t =
            key_free source k page item after
            (λ j there. none_there source k page item m tt (free_or_not m false t) j (there_before q j there))
            ∙ sym (free_or_not m false t)

-- ---- after rows that made these entries
pub record IsBehind (c : Content) (source : ℕ) (made : List Numbered) : Type 0 where
  pub later : (n : ℕ) → c.next + length made ≤ n → get (with_puts c.records made) n ≡ None
  pub places : (n : ℕ) → said_place_at (with_made c made) n ≡ place_behind c (length made) n
  pub keys : (e : model.Entry) → key_is_free (with_puts c.records made) source e.kind e.page e.item
      ≡ and_then (key_is_free c.records source e.kind e.page e.item) (λ _. key_is_new made e)
  pub sourced : demanded_in demand.Source (get (with_puts c.records made) source) ≡ Ok tt

not_drawn : (next n : ℕ) → is_drawn next 0 n ≡ false
not_drawn next n = grind (arith, nat_tests)

pub behind_none : (c : Content) (source : ℕ) → ((n : ℕ) → c.next ≤ n → get c.records n ≡ None)
    → demanded_at c demand.Source source ≡ Ok tt → IsBehind c source []
behind_none c source none there = record {
  later = λ n less. none n (omega arith);
  places = λ n. sym (ap (λ b. if b then Err WrongKind else said_place_at c n) (not_drawn c.next n));
  keys = λ e. sym (always (key_is_free c.records source e.kind e.page e.item));
  sourced = there;
}
  where
    always : (r : Result (Unit {0}) RefusalKind) → and_then r (λ _. Ok tt) ≡ r
    always (Ok u) = refl
    always (Err k) = refl

-- ---- with one entry more
drawn_here : (next count : ℕ) → is_drawn next (count + 1) (next + count) ≡ true
drawn_here next count = grind (arith, nat_tests)

drawn_elsewhere : (next count n : ℕ) → (n ≡ next + count → ⊥) → is_drawn next (count + 1) n ≡ is_drawn next count n
drawn_elsewhere next count n other = grind (arith, nat_tests, other)

-- of entries of one source the keys are the same where kind, page and item are
same_test : (source : ℕ) (e f : model.Entry) → e.source ≡ source → is_like source f.kind f.page f.item (kind.Entry e)
    ≡ is_like_row f (kind.Entry e)
same_test source e f same =
    ap (λ b. b && (bytes_eq (entry_kind_word e.kind) (entry_kind_word f.kind) &&
    (bytes_eq e.page f.page && e.item.number == f.item.number))) (eq-eqb e.source source same)

both_needed : (r : Result (Unit {0}) RefusalKind) (a b : Bool)
    → and_then (and_then r (λ _. need (not a) DuplicateEntry)) (λ _. need (not b) DuplicateEntry)
    ≡ and_then r (λ _. need (not (a || b)) DuplicateEntry)
both_needed (Ok u) true b = refl
both_needed (Ok u) false b = refl
both_needed (Err k) a b = refl

abbrev pub put_of : Content → List Numbered → model.Entry → Numbered
put_of c made e = record { number = c.next + length made; «record» = kind.Entry e }

module _ (c : Content) (source : ℕ) (made : List Numbered) (e : model.Entry) (same : e.source ≡ source)
    (is : IsBehind c source made) where
  abbrev before : Records
  before = with_puts c.records made

  abbrev number : ℕ
  number = c.next + length made

  free : get before number ≡ None
  free = is.later number (omega arith)

  records_are : with_puts c.records (made ++ (put_of c made e ∷ [])) ≡ insert before number (kind.Entry e)
  records_are = puts_behind c.records made (put_of c made e)

  more_later : (n : ℕ) → c.next + length (made ++ (put_of c made e ∷ [])) ≤ n
      → get (with_puts c.records (made ++ (put_of c made e ∷ []))) n ≡ None
  more_later n less =
      let count : length (made ++ (put_of c made e ∷ [])) ≡ length made + 1 = more_behind made (put_of c made e) in
      ap (λ (m : Records). get m n) records_are ∙ put_elsewhere before number (kind.Entry e) n
      (λ here. omega (arith, here, count, less)) ∙ is.later n (omega (arith, count, less))

  abbrev look_at : Records → ℕ → Result (Unit {0}) RefusalKind
  look_at m n = and_then (place_in (get m n)) (λ p. need (is_said n m n p) BadText)

  look_same : (n : ℕ) (r : Result model.Place RefusalKind)
      → and_then r (λ p. need (is_said n (insert before number (kind.Entry e)) n p) BadText) ≡ and_then r
      (λ p. need (is_said n before n p) BadText)
  look_same n (Ok p) = ap (λ b. need b BadText) (said_still before number e free n n p)
  look_same n (Err k) = refl

  more_places : (n : ℕ) → look_at (insert before number (kind.Entry e)) n ≡ place_behind c (length made + 1) n
  more_places n =
      elim (eqb n number) as (λ b. eqb n number ≡ b → look_at (insert before number (kind.Entry e)) n
      ≡ place_behind c (length made + 1) n) [
        | true ↦ λ q.
            let here : n ≡ number = eqb-true n number q in
            ap (λ o. and_then (place_in o) (λ p. need (is_said n (insert before number (kind.Entry e)) n p) BadText))
            (ap (get (insert before number (kind.Entry e))) here ∙ put_here before number (kind.Entry e))
            ∙ sym (ap (λ b. if b then Err WrongKind else said_place_at c n)
            (ap (is_drawn c.next (length made + 1)) here ∙ drawn_here c.next (length made)))
        | false ↦ λ q.
            let other : n ≡ number → ⊥ = λ here. let wrong : true ≡ false = sym (eq-eqb n number here)
            ∙ q in absurd cc in
            ap (λ o. and_then (place_in o) (λ p. need (is_said n (insert before number (kind.Entry e)) n p) BadText))
            (put_elsewhere before number (kind.Entry e) n other)
            ∙ look_same n (place_in (get before n)) ∙ is.places n
            ∙ sym (ap (λ b. if b then Err WrongKind else said_place_at c n)
            (drawn_elsewhere c.next (length made) n other))
      ] refl

  more_keys : (f : model.Entry) → key_is_free (insert before number (kind.Entry e)) source f.kind f.page f.item
      ≡ and_then (key_is_free c.records source f.kind f.page f.item)
      (λ _. key_is_new (made ++ (put_of c made e ∷ [])) f)
  more_keys f =
      let old : Bool = list_any (λ (p : Numbered). is_like_row f p.«record») made in
      let new : Bool = is_like_row f (kind.Entry e) in
      key_put before number e free source f.kind f.page f.item
      ∙ ap (λ b. and_then (key_is_free before source f.kind f.page f.item) (λ _. need (not b) DuplicateEntry))
      (same_test source e f same)
      ∙ ap (λ r. and_then r (λ _. need (not new) DuplicateEntry)) (is.keys f)
      ∙ both_needed (key_is_free c.records source f.kind f.page f.item) old new
      ∙ ap (λ b. and_then (key_is_free c.records source f.kind f.page f.item) (λ _. need (not b) DuplicateEntry))
      (sym (any_behind (λ (p : Numbered). is_like_row f p.«record») made (put_of c made e)))

  more_sourced : demanded_in demand.Source (get (insert before number (kind.Entry e)) source) ≡ Ok tt
  more_sourced = ap (demanded_in demand.Source) (put_elsewhere before number (kind.Entry e) source not_here)
      ∙ is.sourced
    where
      not_here : source ≡ number → ⊥
      not_here here =
          let none : get before source ≡ None = ap (get before) here ∙ free in
          let wrong : ◌≡◌ {A = Result (Unit {0}) RefusalKind} (Err NoSuch) (Ok tt) =
          sym (ap (demanded_in demand.Source) none) ∙ is.sourced in absurd cc

  pub behind_one : IsBehind c source (made ++ (put_of c made e ∷ []))
  behind_one = record {
    later = more_later;
    places = λ n. ap (λ (m : Records). look_at m n) records_are ∙ more_places n ∙ ap (λ k. place_behind c k n)
        (sym (more_behind made (put_of c made e)));
    keys = λ f. ap (λ (m : Records). key_is_free m source f.kind f.page f.item) records_are ∙ more_keys f;
    sourced = ap (λ (m : Records). demanded_in demand.Source (get m source)) records_are ∙ more_sourced;
  }

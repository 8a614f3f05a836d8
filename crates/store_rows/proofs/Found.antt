-- Places found by a path, and entries by a key: which numbers an index gives, and which of them is the answer.
use Rattle.std.proofs.Common.{
  ◌+◌,
  ◌≡◌,
  ◌≢◌,
  ◌⊎◌,
  inl,
  inr,
  ℕ,
  ◌<◌,
  Bool,
  true,
  false,
  List,
  [],
  ◌∷◌,
  ◌++◌,
  filter,
  cond,
  length,
  refl,
  sym,
  ap,
  subst,
  ◌∙◌,
  arith,
  ap₂,
  map,
  ◌↔◌,
  Result,
  Ok,
  bytes_eq,
}
use Rattle.std.specs.Prelude.{◌==◌, ◌&&◌, ◌||◌, nat_lt, codes, Option, Some, None, IsTrue}
use Rattle.std.specs.List.{list_any}
use Rattle.std.specs.FinMap.{get}
use Rattle.std.proofs.lemmas.Bool.Decides.{nat_tests}
use Rattle.std.proofs.lemmas.List.{length-append}
use Rattle.std.proofs.lemmas.List.Folds.{list_any-append}
use Rattle.std.proofs.lemmas.Bool.{or_right, or_left, or_cases}
use Rattle.std.proofs.lemmas.Result.{IfErr-weaker}
use Rattle.sqlite.specs.State.{State}
use Rattle.record_text.specs.declared.refusal.RefusalKind.{RefusalKind}
use Rattle.record_fields.specs.declared.entry_words.EntryKind.{EntryKind}
use Rattle.record_fields.specs.declared.item.Item.{Item}
use Rattle.record_kinds.specs.Model as model
use Rattle.record_kinds.specs.declared.record.Record.{Record}
use Rattle.record_kinds.specs.declared.record.Record.TheVariants as kind
use Rattle.records.specs.Stored.{key_words}
use Rattle.archive_state.specs.Content.{Content, Records}
use Rattle.archive_state.specs.Entries.{IsEntryAt, HasKey}
use Rattle.archive_state.specs.Paths.{HasPath, IsPlaceAt, IsLowest}
use Rattle.archive_state.proofs.Climbing.{Goes, path_goes, none_iff}
use Rattle.store_tables.specs.Keyed.{is_number, sought_by, sought_by_of}
use Rattle.store_tables.specs.Looking.{Looks}
use Rattle.store_tables.specs.Rows.{Rows, SoughtRow}
use Rattle.store_tables.proofs.Calls.{if_ok}
use Rattle.store_rows.specs.Finding.{
  IsAmong,
  IsLowestAmong,
  IsFront,
  HasAllSaying,
  HasSaying,
  IsClimbFrom,
  IsEntryFound,
  lower,
}
use Rattle.store_rows.specs.declared.finding.Climb.TheVariants as climb
use Rattle.store_rows.specs.Looking.{Sees, SeesBy}
use Rattle.store_rows.specs.Sought.{IsSought, KeepsSought, Sought, sought_at, sought_of}
use Rattle.list_laws.proofs.Numbers.{below_is, it}

-- ---- one look after another
pub sees_then : {A B : Type 0} {P : Content → A → Type 0} {Q : Content → B
    → Type 0} {old mid new : State} {a : A} {result : Result B RefusalKind}
    → Sees P old mid (Ok a) → Sees Q mid new result → Sees (λ c b. P c a × Q c b) old new result
sees_then {result = result} h k = record {
  read = λ clean. if_ok result
      (λ b is rows was c means. (
        h.read (k.clean clean) rows was c means,
        is rows (h.same (k.clean clean) rows was) c means,
      )) (k.read clean);
  same = λ clean. if_ok result (λ b is rows was. is rows (h.same (k.clean clean) rows was)) (k.same clean);
  refused = λ clean. IfErr-weaker result _ _ (λ kind is rows was. is rows (h.same (k.clean clean) rows was))
      (k.refused clean);
  crash = λ clean rows was. k.crash clean rows (h.same (k.clean clean) rows was);
  clean = λ clean. h.clean (k.clean clean);
}

pub sees_where : {A : Type 0} {P Q : Content → A → Type 0} {old new : State} (result : Result A RefusalKind)
    → ((c : Content) (a : A) → P c a → Q c a) → Sees P old new result → Sees Q old new result
sees_where result f h = record {
  read = λ clean. if_ok result (λ a is rows was c means. f c a (is rows was c means)) (h.read clean);
  same = h.same;
  refused = h.refused;
  crash = h.crash;
  clean = h.clean;
}

-- a look after rows were read, which keep something of the content
pub sees_after : {A B : Type 0} {Keeps : Rows → Content → Type 0} {P : Rows → A → Type 0} {Q Is : Content → B → Type 0}
    {old mid new : State} {a : A} (result : Result B RefusalKind)
    → ((rows : Rows) (c : Content) (b : B) → P rows a → Keeps rows c → Q c b → Is c b) → Looks P old mid (Ok a)
    → Sees Q mid new result → SeesBy Keeps Is old new result
sees_after {a = a} result f h k = record {
  read = λ clean. if_ok result (λ b is rows was c means keeps. f rows c b (h.read (k.clean clean) rows was) keeps
      (is rows (h.same (k.clean clean) rows was) c means)) (k.read clean);
  same = λ clean. if_ok result (λ b is rows was. is rows (h.same (k.clean clean) rows was)) (k.same clean);
  refused = λ clean. IfErr-weaker result _ _ (λ kind is rows was. is rows (h.same (k.clean clean) rows was))
      (k.refused clean);
  crash = λ clean rows was. k.crash clean rows (h.same (k.clean clean) rows was);
  clean = λ clean. h.clean (k.clean clean);
}

-- ---- the lowest, one number more

-- the second numbers are the first with one more
abbrev pub IsWithOne : List ℕ → ℕ → List ℕ → Type 0
IsWithOne ns n more = (k : ℕ) → list_any (λ j. j == k) more ≡ (list_any (λ j. j == k) ns || (n == k))

pub one_found : (P : ℕ → Type 0) (ns more : List ℕ) (n : ℕ) (lowest : Option ℕ) → IsWithOne ns n more
    → IsLowestAmong P ns lowest → P n → IsLowestAmong P more (Some (lower lowest n))
one_found P ns more n None grows none here = (
  here,
  λ k among less. elim (or_cases _ _ (sym (grows k) ∙ among)) [
    | inl old ↦ none k old
    | inr is ↦ let same : n ≡ k = it n k is in absurd (omega (arith, same, less))
  ],
)
one_found P ns more n (Some m) grows (there, low) here =
    elim (nat_lt m n) as (λ b. nat_lt m n ≡ b → P (cond b m n)
    × ((k : ℕ) → IsAmong k more → k < cond b m n → ¬ (P k))) [
      | true ↦ λ e. (
        there,
        λ k among less. elim (or_cases _ _ (sym (grows k) ∙ among)) [
          | inl old ↦ low k old less
          | inr is ↦ let same : n ≡ k = it n k is in let under : m < n = below_is m n e in
              absurd (omega (arith, same, less, under))
        ],
      )
      | false ↦ λ e. (
        here,
        λ k among less. elim (or_cases _ _ (sym (grows k) ∙ among)) [
          | inl old ↦ λ p. elim (nat_lt k m) as (λ b. nat_lt k m ≡ b → ⊥) [
            | true ↦ λ f. low k old (below_is k m f) p
            | false ↦ λ f. grind (arith, nat_tests, e, f, less)
          ] refl
          | inr is ↦ let same : n ≡ k = it n k is in absurd (omega (arith, same, less))
        ],
      )
    ] refl

pub one_passed : (P : ℕ → Type 0) (ns more : List ℕ) (n : ℕ) (lowest : Option ℕ) → IsWithOne ns n more
    → IsLowestAmong P ns lowest → ¬ (P n) → IsLowestAmong P more lowest
one_passed P ns more n None grows none other = λ k among p. elim (or_cases _ _ (sym (grows k) ∙ among)) [
  | inl old ↦ none k old p
  | inr is ↦ other (subst P (sym (it n k is)) p)
]
one_passed P ns more n (Some m) grows (there, low) other = (
  there,
  λ k among less p. elim (or_cases _ _ (sym (grows k) ∙ among)) [
    | inl old ↦ low k old less p
    | inr is ↦ other (subst P (sym (it n k is)) p)
  ],
)

-- ---- what stands before comma and space
-- names that are the path, or that end before this byte
abbrev pub IsFrontBelow : ℕ → List ℕ → List ℕ → Type 0
IsFrontBelow at name path = (path ≡ name) ⊎ ((rest : List ℕ) × (path ≡ name ++ (codes ", " ++ rest))
    × (length name < at))

abbrev pub HasBelow : ℕ → List ℕ → Rows → List ℕ → Type 0
HasBelow at path rows ns = (n : ℕ) (name : List ℕ) → IsFrontBelow at name path
    → IsAmong n (sought_by name rows) → IsAmong n ns

pub first_fronts : (path : List ℕ) (rows : Rows) (ns : List ℕ) → ns ≡ sought_by path rows → HasBelow 0 path rows ns
first_fronts path rows ns is n name (inl whole) among = subst (IsAmong n) (sym is)
    (subst (λ t. IsAmong n (sought_by t rows)) (sym whole) among)
first_fronts path rows ns is n name (inr (rest, e, low)) among = absurd (omega (arith, low))

pub more_fronts : (at : ℕ) (path : List ℕ) (rows : Rows) (ns more all : List ℕ) → HasBelow at path rows ns
    → HasSaying at path rows more → all ≡ ns ++ more → HasBelow (at + 1) path rows all
more_fronts at path rows ns more all h k is n name (inl whole) among =
    ap (list_any (λ j. j == n)) is ∙ list_any-append (λ j. j == n) ns more ∙ or_left _ _ (h n name (inl whole) among)
more_fronts at path rows ns more all h k is n name (inr (rest, e, low)) among =
    ap (list_any (λ j. j == n)) is ∙ list_any-append (λ j. j == n) ns more
    ∙ (elim (nat_lt (length name) at) as (λ b. nat_lt (length name) at ≡ b
    → (list_any (λ j. j == n) ns || list_any (λ j. j == n) more) ≡ true) [
      | true ↦ λ f. or_left _ _ (h n name (inr (rest, e, below_is (length name) at f)) among)
      | false ↦ λ f. let same : length name ≡ at = grind (arith, nat_tests, f, low) in
          or_right (list_any (λ j. j == n) ns) _ (k n name rest e same among)
    ] refl)

pub all_fronts : (at : ℕ) (path : List ℕ) (rows : Rows) (ns : List ℕ) → at ≡ length path → HasBelow at path rows ns
    → HasAllSaying path rows ns
all_fronts at path rows ns is h n name (inl whole) among = h n name (inl whole) among
all_fronts at path rows ns is h n name (inr (rest, e)) among =
    let long : length path ≡ length name + length (codes ", " ++ rest) = ap length e ∙ length-append name
    (codes ", " ++ rest) in
    let low : length name < at = omega (arith, long, is) in
    h n name (inr (rest, e, low)) among

-- ---- the row of a place's name
same_bytes : (xs : List ℕ) → bytes_eq xs xs ≡ true
same_bytes [] = refl
same_bytes (x ∷ xs) = let here : (x == x) ≡ true = grind (arith, nat_tests) in rw here (same_bytes xs)

-- a number that has a row passes where its row does
found_where : (q : SoughtRow → Bool) (n : ℕ) (ss : List SoughtRow) (found : Sought)
    → ((s : SoughtRow) → (s.text, s.target) ≡ found → q s ≡ true) → sought_at n ss ≡ Some found
    → IsAmong n (map (λ (s : SoughtRow). s.no) (filter q ss))
found_where q n [] found passes at = absurd cc
found_where q n (s ∷ ss) found passes at =
    elim (s.no == n) as (λ b. (s.no == n) ≡ b → cond b (Some (s.text, s.target)) (sought_at n ss) ≡ Some found
    → list_any (λ k. k == n) (map (λ (s : SoughtRow). s.no) (cond (q s) (s ∷ filter q ss) (filter q ss))) ≡ true) [
      | true ↦ λ here e. let same : (s.text, s.target) ≡ found = cc in
          rw (passes s same) (or_left (s.no == n) _ here)
      | false ↦ λ off e. elim (q s) as (λ b. list_any (λ k. k == n)
          (map (λ (s : SoughtRow). s.no) (cond b (s ∷ filter q ss) (filter q ss))) ≡ true) [
            | true ↦ or_right (s.no == n) _ (found_where q n ss found passes e)
            | false ↦ found_where q n ss found passes e
          ]
    ] refl at

kept_by : (n : ℕ) (rows : Rows) (c : Content) (r : Record) → KeepsSought rows c → get c.records n ≡ Some r
    → sought_at n rows.soughts ≡ sought_of r
kept_by n rows c r keeps at = subst (λ o. IsSought o (sought_at n rows.soughts)) at (keeps n)

name_sought : (n : ℕ) (rows : Rows) (c : Content) (p : model.Place) → KeepsSought rows c → IsPlaceAt c.records n p
    → IsAmong n (sought_by p.name rows)
name_sought n rows c p keeps at =
    found_where (λ (s : SoughtRow). bytes_eq s.text p.name) n rows.soughts (p.name, None)
    (λ s same. let text : s.text ≡ p.name = ap (λ (f : Sought). f.0) same in rw text (same_bytes p.name))
    (kept_by n rows c (kind.Place p) keeps at)

place_there : (m : Records) (n : ℕ) (path : List ℕ) → HasPath m n path → (p : model.Place) × IsPlaceAt m n p
place_there m n path ([], h, e) = absurd h
place_there m n path ((name ∷ []), (p, at, named, none), e) = (p, at)
place_there m n path ((name ∷ (above ∷ names)), (p, at, named, up), e) = (p, at)

front_of : (m : Records) (n : ℕ) (name : List ℕ) (parent : Option ℕ) (path : List ℕ) → Goes m n name parent path
    → IsFront name path
front_of m n name None path e = inl e
front_of m n name (Some q) path (less, (rest, e, h)) = inr (rest, e)

path_among : (path : List ℕ) (rows : Rows) (c : Content) (ns : List ℕ) (n : ℕ) → KeepsSought rows c
    → HasAllSaying path rows ns → HasPath c.records n path → IsAmong n ns
path_among path rows c ns n keeps all h =
    let there = place_there c.records n path h in
    all n there.0.name (front_of c.records n there.0.name there.0.parent path
    (path_goes c.records n there.0 path there.1 h)) (name_sought n rows c there.0 keeps there.1)

-- the lowest of numbers among which each with P is, is the lowest of all
pub lowest_of_all : (P : ℕ → Type 0) (ns : List ℕ) (found : Option ℕ) → ((n : ℕ) → P n → IsAmong n ns)
    → IsLowestAmong P ns found → IsLowest P found
lowest_of_all P ns None among none = λ n p. none n (among n p) p
lowest_of_all P ns (Some k) among (there, low) = (there, λ j less p. low j (among j p) less p)

pub place_found : (path : List ℕ) (rows : Rows) (c : Content) (ns : List ℕ) (found : Option ℕ) → KeepsSought rows c
    → HasAllSaying path rows ns → IsLowestAmong (λ n. HasPath c.records n path) ns found
    → IsLowest (λ n. HasPath c.records n path) found
place_found path rows c ns found keeps all low = lowest_of_all (λ n. HasPath c.records n path) ns found
    (λ n h. path_among path rows c ns n keeps all h) low

-- ---- the row of an entry's key
key_sought : (n : ℕ) (rows : Rows) (c : Content) (e : model.Entry) → KeepsSought rows c
    → get c.records n ≡ Some (kind.Entry e) → IsAmong n (sought_by_of (key_words e.item e.page) e.source rows)
key_sought n rows c e keeps at =
    let words = key_words e.item e.page in
    let of : (e.source == e.source) ≡ true = grind (arith, nat_tests) in
    found_where (λ (s : SoughtRow). bytes_eq s.text words && is_number e.source s.target) n rows.soughts
    (words, Some e.source)
    (λ s same.
    let text : s.text ≡ words = ap (λ (f : Sought). f.0) same in
    let target : s.target ≡ Some e.source = ap (λ (f : Sought). f.1) same in
    rw (text, target) (ap₂ (λ a b. a && b) (same_bytes words) of))
    (kept_by n rows c (kind.Entry e) keeps at)

key_among : (source : ℕ) (k : EntryKind) (page : List ℕ) (item : Item) (rows : Rows) (c : Content) (ns : List ℕ) (n : ℕ)
    → KeepsSought rows c → ns ≡ sought_by_of (key_words item page) source rows
    → IsEntryAt c.records source k page item n → IsAmong n ns
key_among source k page item rows c ns n keeps is (e, at, (from, same, on, of)) =
    let words : key_words e.item e.page ≡ key_words item page = ap₂ key_words of on in
    subst (IsAmong n) (sym is) (subst (λ t. IsAmong n (sought_by_of t source rows)) words
    (subst (λ m. IsAmong n (sought_by_of (key_words e.item e.page) m rows)) from (key_sought n rows c e keeps at)))

pub key_found : (source : ℕ) (k : EntryKind) (page : List ℕ) (item : Item) (rows : Rows) (c : Content) (ns : List ℕ)
    (found : Option ℕ) → KeepsSought rows c → ns ≡ sought_by_of (key_words item page) source rows
    → IsLowestAmong (λ n. IsEntryAt c.records source k page item n) ns found
    → IsLowest (λ n. IsEntryAt c.records source k page item n) found
key_found source k page item rows c ns found keeps is low =
    lowest_of_all (λ n. IsEntryAt c.records source k page item n) ns found
    (λ n h. key_among source k page item rows c ns n keeps is h) low

-- ---- what was found is an entry of a key
pub key_seen : {b : Bool} {found : Option Record} {r : Record} (source : ℕ) (k : EntryKind) (page : List ℕ)
    (item : Item) (same : found ≡ Some r)
    → IsTrue b ↔ ((e : model.Entry) × (r ≡ kind.Entry e) × HasKey source k page item e)
    → IsTrue b ↔ IsEntryFound found source k page item
key_seen source k page item same iff = (
  λ t. let h = iff.0 t in (h.0, same ∙ ap Some h.1, h.2),
  λ h. iff.1 (h.0, (let both : Some _ ≡ Some (kind.Entry h.0) = sym same ∙ h.1 in cc), h.2),
)

pub no_key_seen : {found : Option Record} (source : ℕ) (k : EntryKind) (page : List ℕ) (item : Item) → found ≡ None
    → IsTrue false ↔ IsEntryFound found source k page item
no_key_seen source k page item none =
    (λ t. absurd cc, λ h. let both : None ≡ Some (kind.Entry h.0) = sym none ∙ h.1 in absurd cc)

-- ---- one step up
-- what is no place has no path
pub no_place_there : (found : Option Record) (n : ℕ) (path : List ℕ) → ((p : model.Place) → found ≢ Some (kind.Place p))
    → IsClimbFrom found n path (climb.Ended false)
no_place_there found n path other m at = none_iff m n path (λ p here. other p (sym at ∙ here))

-- One row more of an import: what is left of its rows, and where the cursor stands.
use Rattle.std.proofs.Common.{
  ◌≡◌,
  ℕ,
  ◌+◌,
  ◌<◌,
  ◌≤◌,
  zero,
  suc,
  List,
  [],
  ◌∷◌,
  ◌++◌,
  map,
  take,
  drop,
  length,
  get_or,
  Option,
  Some,
  None,
  refl,
  sym,
  ap,
  ap₂,
  subst,
  ◌∙◌,
  drop-cons,
  arith,
  Result,
  Ok,
  Err,
  OnOk,
  Bool,
  true,
  false,
  nat_lt,
}
use Rattle.std.specs.Option.{is_some}
use Rattle.std.proofs.lemmas.Bool.Decides.{nat_tests}
use Rattle.std.proofs.lemmas.List.{
  drop-append-le,
  drop-drop,
  drop-map,
  drop-take,
  drop_all,
  length-drop,
  length-map,
  take-append-drop,
  take-append-le,
  take-map,
  take-take,
}
use Rattle.sqlite.specs.State.{State, HasCleanDisk, Survives}
use Rattle.sqlite.proofs.StateLemmas.{survives_then}
use Rattle.record_shapes.specs.Lists.{EachOf}
use Rattle.archive_state.specs.declared.changes.Numbered.{Numbered}
use Rattle.store_tables.specs.Calls.{Follows, FollowsDated, Inside}
use Rattle.store_tables.specs.Rows.{LinkRow, Rows, with_link}
use Rattle.store_tables.proofs.Calls.{follows_then}
use Rattle.store_tables.proofs.Loops.{and_last}
use Rattle.store_rows.specs.Shallow.{IsShallowPut}
use Rattle.bulk_inserts.specs.Links.{AreNewLinks, with_links}
use Rattle.bulk_inserts.specs.Records.{with_records}
use Rattle.store_rows.proofs.Dated.{nothing_done}
use Rattle.staged_rows.specs.Staging.{
  StagedRow,
  AreNew,
  a_link,
  a_pack,
  a_record,
  a_sought,
  a_span,
  record_of,
  lines_of_put,
  with_staged,
  with_staged_row,
}
use Rattle.staged_rows.proofs.Whole.{joined}
use Rattle.staging.specs.Opened.{
  FollowsStaged,
  GoesOnLater,
  IsPlaced,
  later_left,
  left_of,
  new_record,
  row_of_sought_row,
  row_of_span,
}
use Rattle.staging.specs.declared.cursor.Cursor.{Cursor}
use Rattle.staging.specs.declared.dated.Dated.{Dated}
use Rattle.staging.specs.declared.later.Later.{Later}
use Rattle.list_laws.proofs.Numbers.{below_is}
use Rattle.record_shapes.proofs.Each.{each_both}
use Rattle.staging.proofs.Counting.{taken_next}

-- ---- lists
add_one : (k : ℕ) → suc k ≡ k + 1
add_one k = omega arith

pub left_on : {A : Type 0} (k j : ℕ) (all rest next : List A) → next ≡ drop j rest → rest ≡ drop k all
    → next ≡ drop (k + j) all
left_on k j all rest next is was = is ∙ ap (drop j) was ∙ drop-drop j k all

-- what a look into a slice has found
pub past_all : {A : Type 0} (o : Option A) (k n : ℕ) → is_some o ≡ nat_lt k n → o ≡ None → n ≤ k
past_all o k n same none =
    let off : nat_lt k n ≡ false = sym same ∙ ap is_some none in
    let past : n ≤ k = grind (arith, nat_tests, off) in
    past

pub within : {A : Type 0} (o : Option A) (k n : ℕ) (x : A) → is_some o ≡ nat_lt k n → o ≡ Some x → k < n
within o k n x same some =
    let on : nat_lt k n ≡ true = sym same ∙ ap is_some some in
    let low : k < n = grind (arith, nat_tests, on) in
    low

pub item_and_rest : {A : Type 0} (k : ℕ) (xs : List A) (x : A) → k < length xs → x ≡ get_or xs k x
    → drop k xs ≡ x ∷ drop (k + 1) xs
item_and_rest k xs x low is =
    drop-cons xs k x low ∙ ap (λ y. y ∷ drop (suc k) xs) (sym is) ∙ ap (λ n. x ∷ drop n xs) (add_one k)

-- ---- rows that are written
pub follows_as : (old new : State) (f g : Rows → Rows) → ((rows : Rows) → g rows ≡ f rows) → Follows old new f
    → Follows old new g
follows_as old new f g same did rows was =
    let done = did rows was in
    (subst (Inside new) (sym (same rows)) done.0, done.1)

pub of_any : (old new : State) (f g : Rows → Rows) → ((rows : Rows) → g rows ≡ f rows) → Follows old new f
    → FollowsDated old new g
of_any old new f g same did rows has was = follows_as old new f g same did rows was

row_has : (r : StagedRow) (rows : Rows) → (with_staged_row r rows).has_spans ≡ rows.has_spans
row_has (a_record r) rows = refl
row_has (a_pack n ls) rows = refl
row_has (a_link l) rows = refl
row_has (a_sought n s) rows = refl
row_has (a_span n span) rows = refl

pub staged_has : (rs : List StagedRow) (rows : Rows) → (with_staged rs rows).has_spans ≡ rows.has_spans
staged_has [] rows = refl
staged_has (r ∷ rs) rows = staged_has rs (with_staged_row r rows) ∙ row_has r rows

-- ---- rows of an import, each written after those before it
new_then : (xs ys : List StagedRow) (rows : Rows) → AreNew xs rows → AreNew ys (with_staged xs rows)
    → AreNew (xs ++ ys) rows
new_then [] ys rows a b = b
new_then (x ∷ xs) ys rows a b = (a.0, new_then xs ys (with_staged_row x rows) a.1 b)

taken_more : {A : Type 0} (k j : ℕ) (xs : List A) → take (k + j) xs ≡ take k xs ++ take j (drop k xs)
taken_more k j xs =
    sym (take-append-drop k (take (k + j) xs))
    ∙ ap₂ (λ ys zs. ys ++ zs) (take-take k (k + j) xs (omega arith)) (drop-take k j xs)

-- so many of all rows are written
pub record IsStaged (old now : State) (all : List StagedRow) (k : ℕ) : Type 0 where
  pub survives : Survives old now (λ _. ⊥)
  pub leads : HasCleanDisk now → FollowsStaged old now (take k all)

pub none_staged : (s : State) (all : List StagedRow) → IsStaged s s all 0
none_staged s all = record { survives = nothing_done s; leads = λ clean rows has was. (was, refl, tt) }

pub one_turn : (old mid now : State) (all rest : List StagedRow) (k j : ℕ) → rest ≡ drop k all
    → IsStaged old mid all k → (HasCleanDisk now → FollowsStaged mid now (take j rest)) → Survives mid now (λ _. ⊥)
    → IsStaged old now all (k + j)
one_turn old mid now all rest k j is way step kept = record {
  survives = survives_then old mid now _ _ (λ _. ⊥) (λ _ db none. none) (λ _ db none. none) way.survives kept;
  leads = λ clean rows has was.
      let one = way.leads (omega (arith, kept.clean)) rows has was in
      let here = with_staged (take k all) rows in
      let next = subst (λ rs. FollowsStaged mid now (take j rs)) is (step clean) here
      (staged_has (take k all) rows ∙ has) one.0 in
      let both = taken_more k j all in (
        subst (λ rs. Inside now (with_staged rs rows)) (sym both)
            (subst (Inside now) (sym (joined (take k all) (take j (drop k all)) rows)) next.0),
        next.1 ∙ one.1,
        subst (λ rs. AreNew rs rows) (sym both) (new_then (take k all) (take j (drop k all)) rows one.2 next.2),
      );
}

pub always : {A E : Type 0} {P : Type 0} (r : Result A E) → P → OnOk r P
always (Ok a) p = p
always (Err e) p = tt

-- three calls, the last of which has the result of all
pub three : {A E : Type 0} (r : Result A E) (a b c d : State) (f g h : Rows → Rows) → Survives b c (λ _. ⊥)
    → Survives c d (λ _. ⊥) → (HasCleanDisk b → Follows a b f) → (HasCleanDisk c → Follows b c g)
    → (HasCleanDisk d → OnOk r (Follows c d h)) → HasCleanDisk d → OnOk r (Follows a d (λ rows. h (g (f rows))))
three r a b c d f g h early late one two last clean =
    let clean_c : HasCleanDisk c = omega (arith, clean, late.clean) in
    let clean_b : HasCleanDisk b = omega (arith, clean_c, early.clean) in
    and_last r a c d (λ rows. g (f rows)) h (follows_then a b c f g (one clean_b) (two clean_c)) (last clean)

-- ---- whether rows are left
some_behind : {A : Type 0} (k : ℕ) (xs : List A) → k < length xs → (x : A) × (drop k xs ≡ x ∷ drop (suc k) xs)
some_behind zero [] low = absurd (omega (arith, low))
some_behind zero (x ∷ xs) low = (x, refl)
some_behind (suc k) [] low = absurd (omega (arith, low))
some_behind (suc k) (x ∷ xs) low = some_behind k xs (omega (arith, low))

front_none : {A : Type 0} (xs ys : List A) → xs ++ ys ≡ [] → xs ≡ []
front_none [] ys is = refl
front_none (x ∷ xs) ys is = absurd cc

back_none : {A : Type 0} (xs ys : List A) → xs ++ ys ≡ [] → ys ≡ []
back_none [] ys is = is
back_none (x ∷ xs) ys is = absurd cc

pub rows_more : (batch : ℕ) (ps : List Numbered) (later : Later) (c : Cursor) → c.rows < length ps
    → left_of batch ps later c ≡ [] → ⊥
rows_more batch ps later c low none =
    let found = some_behind c.rows ps low in
    let gone : map (record_of batch) (drop c.rows ps) ≡ [] = front_none _
    (map lines_of_put (drop c.done ps) ++ later_left later c) none in
    let both : record_of batch found.0 ∷ map (record_of batch) (drop (suc c.rows) ps) ≡ [] = sym
    (ap (map (record_of batch)) found.1) ∙ gone in cc

-- after the rows of `record`, nothing is left of lines and of what comes after them
behind_none : (batch : ℕ) (ps : List Numbered) (later : Later) (c : Cursor) → left_of batch ps later c ≡ []
    → map lines_of_put (drop c.done ps) ++ later_left later c ≡ []
behind_none batch ps later c none = back_none (map (record_of batch) (drop c.rows ps))
    (map lines_of_put (drop c.done ps) ++ later_left later c) none

-- where rows are left that are made of items
map_some : {A : Type 0} (f : A → StagedRow) (k : ℕ) (xs : List A) → k < length xs → map f (drop k xs) ≡ [] → ⊥
map_some f k xs low none =
    let found = some_behind k xs low in
    let both : f found.0 ∷ map f (drop (suc k) xs) ≡ [] = sym (ap (map f) found.1) ∙ none in cc

pub lines_more : (batch : ℕ) (ps : List Numbered) (later : Later) (c : Cursor) → c.done < length ps
    → left_of batch ps later c ≡ [] → ⊥
lines_more batch ps later c low none = map_some lines_of_put c.done ps low
    (front_none (map lines_of_put (drop c.done ps)) (later_left later c) (behind_none batch ps later c none))

-- what comes after the lines
module _ (later : Later) (c : Cursor) where
  abbrev links_in : List StagedRow
  links_in = map a_link (drop c.links later.links.items)

  abbrev soughts_in : List StagedRow
  soughts_in = map row_of_sought_row (drop c.soughts later.soughts.items)

  abbrev spans_in : List StagedRow
  spans_in = map row_of_span (drop c.spans later.spans.items)

  pub links_more : c.links < length later.links.items → later_left later c ≡ [] → ⊥
  links_more low none = map_some a_link c.links later.links.items low
      (front_none links_in (soughts_in ++ spans_in) none)

  pub soughts_more : c.soughts < length later.soughts.items → later_left later c ≡ [] → ⊥
  soughts_more low none = map_some row_of_sought_row c.soughts later.soughts.items low
      (front_none soughts_in spans_in (back_none links_in (soughts_in ++ spans_in) none))

  pub spans_more : c.spans < length later.spans.items → later_left later c ≡ [] → ⊥
  spans_more low none = map_some row_of_span c.spans later.spans.items low
      (back_none soughts_in spans_in (back_none links_in (soughts_in ++ spans_in) none))

  links_past : length later.links.items ≤ c.links → later_left later c ≡ soughts_in ++ spans_in
  links_past past = ap (λ ls. map a_link ls ++ (soughts_in ++ spans_in)) (drop_all c.links later.links.items past)

  pub soughts_past : length later.links.items ≤ c.links → length later.soughts.items ≤ c.soughts
      → later_left later c ≡ spans_in
  soughts_past past more = links_past past
      ∙ ap (λ ss. map row_of_sought_row ss ++ spans_in) (drop_all c.soughts later.soughts.items more)

  pub later_past : length later.links.items ≤ c.links → length later.soughts.items ≤ c.soughts
      → length later.spans.items ≤ c.spans → later_left later c ≡ []
  later_past past more last = soughts_past past more ∙ ap (map row_of_span) (drop_all c.spans later.spans.items last)

-- where all rows of `record` and all lines are written, those after them are left as they are
pub later_alone : (batch : ℕ) (ps : List Numbered) (later : Later) (c : Cursor) → length ps ≤ c.rows
    → length ps ≤ c.done → left_of batch ps later c ≡ later_left later c
later_alone batch ps later c rows done =
    ap₂ (λ qs rs. map (record_of batch) qs ++ (map lines_of_put rs ++ later_left later c))
    (drop_all c.rows ps rows) (drop_all c.done ps done)

pub at_end : (k n : ℕ) → nat_lt k n ≡ false → n ≤ k
at_end k n off = let past : n ≤ k = grind (arith, nat_tests, off) in past

-- where some rows are left, and where it is those that come after the lines, or none
pub some_first : (rs : List StagedRow) (more : Bool) → more ≡ true → (rs ≡ [] → ⊥)
    → (more ≡ false → rs ≡ []) × (rs ≡ [] → more ≡ false)
some_first rs more on never = (
  λ off. absurd (let both : true ≡ false = sym on ∙ off in cc),
  λ none. absurd (never none),
)

pub some_later : (batch : ℕ) (ps : List Numbered) (later : Later) (c : Cursor) (more : Bool) → length ps ≤ c.rows
    → length ps ≤ c.done → (more ≡ false → later_left later c ≡ []) × (later_left later c ≡ [] → more ≡ false)
    → (more ≡ false → left_of batch ps later c ≡ []) × (left_of batch ps later c ≡ [] → more ≡ false)
some_later batch ps later c more rows done is = (
  λ off. later_alone batch ps later c rows done ∙ is.0 off,
  λ none. is.1 (sym (later_alone batch ps later c rows done) ∙ none),
)

pub some_spans : (later : Later) (c : Cursor) → length later.links.items ≤ c.links
    → length later.soughts.items ≤ c.soughts
    → (nat_lt c.spans (length later.spans.items) ≡ false → later_left later c ≡ [])
    × (later_left later c ≡ [] → nat_lt c.spans (length later.spans.items) ≡ false)
some_spans later c past more = (
  λ off. later_past later c past more (at_end c.spans (length later.spans.items) off),
  λ none. unless (nat_lt c.spans (length later.spans.items)) refl none,
)
  where
    unless : (b : Bool) → nat_lt c.spans (length later.spans.items) ≡ b → later_left later c ≡ [] → b ≡ false
    unless false e none = refl
    unless true e none = absurd (spans_more later c (below_is c.spans (length later.spans.items) e) none)

-- ---- so many rows of `record`
records_new : (batch : ℕ) (ps : List Numbered) (rows : Rows) → AreNew (map (record_of batch) ps) rows
records_new batch [] rows = tt
records_new batch (p ∷ ps) rows = (tt, records_new batch ps (with_staged_row (record_of batch p) rows))

pub staged_records : (batch : ℕ) (ps : List Numbered) (rows : Rows)
    → with_staged (map (record_of batch) ps) rows ≡ with_records batch (map new_record ps) rows
staged_records batch [] rows = refl
staged_records batch (p ∷ ps) rows = staged_records batch ps (with_staged_row (record_of batch p) rows)

module _ (batch : ℕ) (ps : List Numbered) (later : Later) (old : Cursor) (n : ℕ) (few : old.rows + n ≤ length ps) where
  abbrev beside : List StagedRow
  beside = map lines_of_put (drop old.done ps) ++ later_left later old

  abbrev records_in : List StagedRow
  records_in = map (record_of batch) (drop old.rows ps)

  records_fit : n ≤ length records_in
  records_fit =
      let same = length-map (drop old.rows ps) (record_of batch) in
      let long = length-drop old.rows ps in
      omega (arith, few, long, same)

  records_first : take n (left_of batch ps later old) ≡ map (record_of batch) (take n (drop old.rows ps))
  records_first = take-append-le n records_in beside records_fit ∙ take-map (record_of batch) n (drop old.rows ps)

  pub records_written : (a b : State)
      → Follows a b (with_staged (map (record_of batch) (take n (drop old.rows ps))))
      → FollowsStaged a b (take n (left_of batch ps later old))
  records_written a b did rows has was =
      let done = did rows was in (
        subst (λ rs. Inside b (with_staged rs rows)) (sym records_first) done.0,
        done.1,
        subst (λ rs. AreNew rs rows) (sym records_first) (records_new batch (take n (drop old.rows ps)) rows),
      )

  pub records_behind : left_of batch ps later (record old { rows = old.rows + n })
      ≡ drop n (left_of batch ps later old)
  records_behind =
      ap (λ qs. map (record_of batch) qs ++ beside) (sym (drop-drop n old.rows ps))
      ∙ ap (λ rs. rs ++ beside) (sym (drop-map (record_of batch) n (drop old.rows ps)))
      ∙ sym (drop-append-le n records_in beside records_fit)

-- ---- the lines of one record more, where all rows of `record` are written
module _ (batch : ℕ) (ps : List Numbered) (later : Later) (old : Cursor) (p : Numbered) (past : length ps ≤ old.rows)
    (more : old.done < length ps) (is : p ≡ get_or ps old.done p) where
  abbrev others : List StagedRow
  others = map lines_of_put (drop (old.done + 1) ps) ++ later_left later old

  old_is : left_of batch ps later old ≡ lines_of_put p ∷ others
  old_is =
      ap₂ (λ qs rs. map (record_of batch) qs ++ (map lines_of_put rs ++ later_left later old))
      (drop_all old.rows ps past) (item_and_rest old.done ps p more is)

  pub lines_written : (a b : State) → Follows a b (with_staged (lines_of_put p ∷ []))
      → FollowsStaged a b (take 1 (left_of batch ps later old))
  lines_written a b did rows has was =
      let done = did rows was in (
        subst (λ rs. Inside b (with_staged rs rows)) (sym (ap (take 1) old_is)) done.0,
        done.1,
        subst (λ rs. AreNew rs rows) (sym (ap (take 1) old_is)) (tt, tt),
      )

  pub left_behind : left_of batch ps later (record old { done = old.done + 1 }) ≡ drop 1 (left_of batch ps later old)
  left_behind = ap (λ qs. map (record_of batch) qs ++ others) (drop_all old.rows ps past) ∙ sym (ap (drop 1) old_is)

-- ---- one row more that comes after the lines
first_of : {A : Type 0} (xs ys : List A) (x : A) (more : List A) → xs ≡ x ∷ more → take 1 (xs ++ ys) ≡ take 1 xs
first_of xs ys x more e = ap (λ zs. take 1 (zs ++ ys)) e ∙ sym (ap (take 1) e)

rest_of : {A : Type 0} (xs ys : List A) (x : A) (more : List A) → xs ≡ x ∷ more → drop 1 (xs ++ ys) ≡ more ++ ys
rest_of xs ys x more e = ap (λ zs. drop 1 (zs ++ ys)) e

-- of rows that are not all written
module _ {A : Type 0} (f : A → StagedRow) (k : ℕ) (xs : List A) (low : k < length xs) (ys : List StagedRow) where
  abbrev next_row : StagedRow
  next_row = f (some_behind k xs low).0

  rows_are : map f (drop k xs) ≡ next_row ∷ map f (drop (k + 1) xs)
  rows_are = ap (map f) ((some_behind k xs low).1
      ∙ ap (λ n. (some_behind k xs low).0 ∷ drop n xs) (add_one k))

  pub first_is : take 1 (map f (drop k xs) ++ ys) ≡ take 1 (map f (drop k xs))
  first_is = first_of (map f (drop k xs)) ys next_row (map f (drop (k + 1) xs)) rows_are

  pub rest_is : map f (drop (k + 1) xs) ++ ys ≡ drop 1 (map f (drop k xs) ++ ys)
  rest_is = sym (rest_of (map f (drop k xs)) ys next_row (map f (drop (k + 1) xs)) rows_are)

-- links as rows of an import
staged_links : (ls : List LinkRow) (rows : Rows) → with_staged (map a_link ls) rows ≡ with_links ls rows
staged_links [] rows = refl
staged_links (l ∷ ls) rows = staged_links ls (with_link l.target l.no rows)

new_links : (ls : List LinkRow) (rows : Rows) → AreNewLinks ls rows → AreNew (map a_link ls) rows
new_links [] rows new = tt
new_links (l ∷ ls) rows new = (new.0, new_links ls (with_link l.target l.no rows) new.1)

pub links_follow : (ls : List LinkRow) (a b : State) → FollowsDated a b (with_links ls)
    → ((rows : Rows) → rows.has_spans ≡ true → Inside a rows → AreNewLinks ls rows)
    → FollowsStaged a b (map a_link ls)
links_follow ls a b did fresh rows has was =
    let done = did rows has was in
    (subst (Inside b) (sym (staged_links ls rows)) done.0, done.1, new_links ls rows (fresh rows has was))

module _ (later : Later) (old : Cursor) where
  -- so many links, of which none was there
  module _ (n : ℕ) (few : old.links + n ≤ length later.links.items) where
    fit : n ≤ length (drop old.links later.links.items)
    fit = let long = length-drop old.links later.links.items in omega (arith, few, long)

    fit_as_rows : n ≤ length (links_in later old)
    fit_as_rows = let same = length-map (drop old.links later.links.items) a_link in omega (arith, fit, same)

    pub links_written : (a b : State) → FollowsStaged a b (map a_link (take n (drop old.links later.links.items)))
        → FollowsStaged a b (take n (later_left later old))
    links_written a b did = subst (FollowsStaged a b)
        (sym (take-append-le n (links_in later old) (soughts_in later old ++ spans_in later old) fit_as_rows
        ∙ take-map a_link n (drop old.links later.links.items))) did

    pub links_behind : later_left later (record old { links = old.links + n }) ≡ drop n (later_left later old)
    links_behind =
        ap (λ ls. map a_link ls ++ (soughts_in later old ++ spans_in later old))
        (sym (drop-drop n old.links later.links.items))
        ∙ ap (λ rs. rs ++ (soughts_in later old ++ spans_in later old))
        (sym (drop-map a_link n (drop old.links later.links.items)))
        ∙ sym (drop-append-le n (links_in later old) (soughts_in later old ++ spans_in later old) fit_as_rows)

  pub sought_written : length later.links.items ≤ old.links → old.soughts < length later.soughts.items → (a b : State)
      → FollowsDated a b (with_staged (take 1 (map row_of_sought_row (drop old.soughts later.soughts.items))))
      → FollowsStaged a b (take 1 (later_left later old))
  sought_written past low a b did rows has was =
      let done = did rows has was in
      let first : take 1 (later_left later old) ≡ take 1 (soughts_in later old) = ap (take 1)
      (links_past later old past)
      ∙ first_is row_of_sought_row old.soughts later.soughts.items low (spans_in later old) in
      let one : take 1 (soughts_in later old)
      ≡ row_of_sought_row (some_behind old.soughts later.soughts.items low).0 ∷ [] = ap (take 1)
      (rows_are row_of_sought_row old.soughts later.soughts.items low []) in (
        subst (λ rs. Inside b (with_staged rs rows)) (sym first) done.0,
        done.1,
        subst (λ rs. AreNew rs rows) (sym (first ∙ one)) (tt, tt),
      )

  pub sought_behind : length later.links.items ≤ old.links → old.soughts < length later.soughts.items
      → later_left later (record old { soughts = old.soughts + 1 }) ≡ drop 1 (later_left later old)
  sought_behind past low =
      links_past later (record old { soughts = old.soughts + 1 }) past
      ∙ rest_is row_of_sought_row old.soughts later.soughts.items low (spans_in later old)
      ∙ sym (ap (drop 1) (links_past later old past))

  spans_new : (k : ℕ) (ds : List Dated) (rows : Rows) → AreNew (take 1 (map row_of_span (drop k ds))) rows
  spans_new k ds rows = of_any (drop k ds)
    where
      of_any : (es : List Dated) → AreNew (take 1 (map row_of_span es)) rows
      of_any [] = tt
      of_any (e ∷ es) = (tt, tt)

  pub span_written : length later.links.items ≤ old.links → length later.soughts.items ≤ old.soughts → (a b : State)
      → FollowsDated a b (with_staged (take 1 (map row_of_span (drop old.spans later.spans.items))))
      → FollowsStaged a b (take 1 (later_left later old))
  span_written past more a b did rows has was =
      let done = did rows has was in
      let first : take 1 (later_left later old) ≡ take 1 (spans_in later old) = ap (take 1)
      (soughts_past later old past more) in (
        subst (λ rs. Inside b (with_staged rs rows)) (sym first) done.0,
        done.1,
        subst (λ rs. AreNew rs rows) (sym first) (spans_new old.spans later.spans.items rows),
      )

  pub span_behind : length later.links.items ≤ old.links → length later.soughts.items ≤ old.soughts → (new : Cursor)
      → new ≡ record old { spans = new.spans }
      → map row_of_span (drop new.spans later.spans.items) ≡ drop 1 (map row_of_span (drop old.spans later.spans.items))
      → later_left later new ≡ drop 1 (later_left later old)
  span_behind past more new is left =
      ap (later_left later) is ∙ soughts_past later (record old { spans = new.spans }) past more ∙ left
      ∙ sym (ap (drop 1) (soughts_past later old past more))

pub goes_later : (old new : Cursor) → new ≡ record old { spans = new.spans } → GoesOnLater old new
goes_later old new is = subst (λ (c : Cursor). c ≡ record old { links = c.links; soughts = c.soughts; spans = c.spans })
    (sym is) refl

-- where it is written, and the rows before it are all
module _ (batch : ℕ) (ps : List Numbered) (later : Later) (old : Cursor) (rows : length ps ≤ old.rows)
    (done : length ps ≤ old.done) where
  pub later_written : (n : ℕ) (a b : State) → FollowsStaged a b (take n (later_left later old))
      → FollowsStaged a b (take n (left_of batch ps later old))
  later_written n a b did = subst (λ rs. FollowsStaged a b (take n rs))
      (sym (later_alone batch ps later old rows done)) did

  pub later_behind : (n : ℕ) (new : Cursor) → GoesOnLater old new → later_left later new ≡ drop n (later_left later old)
      → left_of batch ps later new ≡ drop n (left_of batch ps later old)
  later_behind n new is left =
      ap (left_of batch ps later) is
      ∙ later_alone batch ps later (record old { links = new.links; soughts = new.soughts; spans = new.spans }) rows
      done
      ∙ sym (ap (later_left later) is) ∙ left ∙ sym (ap (drop n) (later_alone batch ps later old rows done))

pub later_placed : (ps : List Numbered) (old new : Cursor) → GoesOnLater old new → IsPlaced ps old → IsPlaced ps new
later_placed ps old new is placed = subst (IsPlaced ps) (sym is) placed

-- one more of the records whose lines are written can be read again
pub placed_on : (ps : List Numbered) (old : Cursor) (p : Numbered) → old.done < length ps → p ≡ get_or ps old.done p
    → IsPlaced ps old → IsShallowPut p → IsPlaced ps (record old { done = old.done + 1 })
placed_on ps old p more is placed one =
    subst (EachOf IsShallowPut) (sym (taken_next ps old.done p more is))
    (each_both IsShallowPut (take old.done ps) (p ∷ []) placed (one, tt))

-- where nothing is left, all records were written, and can be read again
take_all : {A : Type 0} (k : ℕ) (xs : List A) → length xs ≤ k → take k xs ≡ xs
take_all zero [] past = refl
take_all zero (x ∷ xs) past = absurd (omega (arith, past))
take_all (suc k) [] past = refl
take_all (suc k) (x ∷ xs) past = ap (λ ys. x ∷ ys) (take_all k xs (omega (arith, past)))

pub all_shallow : (batch : ℕ) (ps : List Numbered) (later : Later) (c : Cursor) → IsPlaced ps c
    → left_of batch ps later c ≡ [] → EachOf IsShallowPut ps
all_shallow batch ps later c placed none = past (nat_lt c.done (length ps)) refl
  where
    past : (b : Bool) → nat_lt c.done (length ps) ≡ b → EachOf IsShallowPut ps
    past true e = absurd (lines_more batch ps later c (below_is c.done (length ps) e) none)
    past false e = subst (EachOf IsShallowPut) (take_all c.done ps (at_end c.done (length ps) e)) placed

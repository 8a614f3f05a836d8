-- Open batches that are removed, one after the other.
use Rattle.std.proofs.Common.{
  ◌≡◌,
  ◌⊎◌,
  inl,
  inr,
  ℕ,
  Bool,
  true,
  false,
  not,
  List,
  [],
  ◌∷◌,
  ◌++◌,
  filter,
  cond,
  refl,
  sym,
  ap,
  ap₂,
  subst,
  ◌∙◌,
  append_assoc,
  arith,
}
use Rattle.std.specs.Prelude.{◌==◌, ◌&&◌, ◌||◌, ◌<◌}
use Rattle.std.specs.List.{AllByRecursion, list_any}
use Rattle.std.proofs.lemmas.Bool.Decides.{nat_tests}
use Rattle.std.proofs.lemmas.List.{append-nil}
use Rattle.sqlite.specs.State.{State, HasCleanDisk}
use Rattle.sqlite.specs.Tree.{IsAscending}
use Rattle.store_tables.specs.Batches.{numbers_in}
use Rattle.store_tables.specs.Calls.{Settled}
use Rattle.store_tables.specs.Rows.{LinkRow, Rows, BatchRow}
use Rattle.store_rows.specs.Meaning.{is_closed}
use Rattle.staged_rows.specs.Removing.{AreAside, AreOf, IsSeenAs, is_from, links_from, without_batch}
use Rattle.staged_rows.specs.Staging.{AreAllClosed}
use Rattle.staged_rows.proofs.Taken.{batches_stay, numbers_unrecorded, taken_out}
use Rattle.staging.specs.Clearing.{IsCleared}
use Rattle.list_laws.proofs.Numbers.{same_self, is_apart}
use Rattle.list_laws.proofs.Lists.{all_then}
use Rattle.staged_rows.proofs.Alike.{seen_then}

-- ---- batches in the order of their numbers
abbrev pub Rises : List BatchRow → Type 0
Rises = IsAscending (λ (a b : BatchRow). a.no < b.no)

abbrev pub AllClosed : List BatchRow → Type 0
AllClosed = AllByRecursion (λ (b : BatchRow). not b.is_open ≡ true)

later_no : (m n : ℕ) → m < n → (n == m) ≡ false
later_no m n low = grind (arith, nat_tests, low)

at_middle : {X : Type 0} (P : X → Type 0) (xs : List X) (y : X) (ys : List X) → AllByRecursion P (xs ++ y ∷ ys) → P y
at_middle P [] y ys all = all.0
at_middle P (x ∷ xs) y ys all = at_middle P xs y ys all.1

module _ (b : BatchRow) where
  abbrev stays : BatchRow → Bool
  stays x = not (x.no == b.no)

  abbrev is_it : BatchRow → Bool
  is_it x = (x.no == b.no) && not x.is_open

  all_stay : (bs : List BatchRow) → AllByRecursion (λ (x : BatchRow). b.no < x.no) bs → filter stays bs ≡ bs
  all_stay [] above = refl
  all_stay (x ∷ bs) above =
      ap (λ t. cond (not t) (x ∷ filter stays bs) (filter stays bs)) (later_no b.no x.no above.0)
      ∙ ap (λ ys. x ∷ ys) (all_stay bs above.1)

  none_is_it : (bs : List BatchRow) → AllByRecursion (λ (x : BatchRow). b.no < x.no) bs → list_any is_it bs ≡ false
  none_is_it [] above = refl
  none_is_it (x ∷ bs) above =
      ap₂ (λ s t. (s && not x.is_open) || t) (later_no b.no x.no above.0) (none_is_it bs above.1)

  -- only it is removed
  pub it_goes : (before left : List BatchRow) → Rises (before ++ b ∷ left)
      → filter stays (before ++ b ∷ left) ≡ before ++ left
  it_goes [] left rise =
      ap (λ t. cond (not t) (b ∷ filter stays left) (filter stays left)) (same_self b.no) ∙ all_stay left rise.0
  it_goes (x ∷ before) left rise =
      let low = at_middle (λ (y : BatchRow). x.no < y.no) before b left rise.0 in
      let rest = filter stays (before ++ b ∷ left) in
      ap (λ t. cond (not t) (x ∷ rest) rest) (is_apart x.no b.no low)
      ∙ ap (λ ys. x ∷ ys) (it_goes before left rise.1)

  -- an open one is not closed
  pub it_is_open : b.is_open ≡ true → (before left : List BatchRow) → Rises (before ++ b ∷ left)
      → is_closed b.no (before ++ b ∷ left) ≡ false
  it_is_open is [] left rise =
      ap₂ (λ s t. s || t) (ap₂ (λ s t. s && not t) (same_self b.no) is) (none_is_it left rise.0)
  it_is_open is (x ∷ before) left rise =
      let low = at_middle (λ (y : BatchRow). x.no < y.no) before b left rise.0 in
      ap₂ (λ s t. (s && not x.is_open) || t) (is_apart x.no b.no low) (it_is_open is before left rise.1)

-- numbers of a batch that is not closed have no record
pub numbers_aside : (s : State) (batch : ℕ) (ns : List ℕ) (rows : Rows) → Settled s rows
    → is_closed batch rows.batches ≡ false → ns ≡ numbers_in batch rows → AreAside ns rows
numbers_aside s batch ns rows settled unclosed all =
    subst (λ ms. AreAside ms rows) (sym all) (numbers_unrecorded batch rows s.now.trees settled.good unclosed)

-- ---- what becomes of the rows, until these batches are left
pub record HasCleared (left : List BatchRow) (rows here : Rows) : Type 0 where
  pub seen : IsSeenAs rows here
  pub before : List BatchRow
  pub closed : AllClosed before
  pub batches : here.batches ≡ before ++ left
  -- where none was open, nothing was done
  pub untouched : AreAllClosed rows → here ≡ rows

one_closed : (b : BatchRow) (left : List BatchRow) (rows here : Rows) → b.is_open ≡ false
    → HasCleared (b ∷ left) rows here → HasCleared left rows here
one_closed b left rows here is was = record {
  seen = was.seen;
  before = was.before ++ b ∷ [];
  closed = all_then (λ (x : BatchRow). not x.is_open ≡ true) was.before b was.closed (ap not is);
  batches = was.batches ∙ sym (append_assoc was.before (b ∷ []) left);
  untouched = was.untouched;
}

both_ways : (a : Bool) → a ≡ true → not a ≡ true → ⊥
both_ways true is no_more = absurd cc
both_ways false is no_more = absurd cc

-- where none was open, none is open that is left
pub none_is_open : (b : BatchRow) (left : List BatchRow) (rows here : Rows) → b.is_open ≡ true
    → HasCleared (b ∷ left) rows here → AreAllClosed rows → ⊥
none_is_open b left rows here is was all =
    let closed : AllClosed (was.before ++ b ∷ left) =
    subst AllClosed was.batches (subst AreAllClosed (sym (was.untouched all)) all) in
    both_ways b.is_open is (at_middle (λ (x : BatchRow). not x.is_open ≡ true) was.before b left closed)

-- an open batch that is next is not closed in what is here
pub next_is_open : (s : State) (b : BatchRow) (left : List BatchRow) (rows here : Rows) → b.is_open ≡ true
    → Settled s here → HasCleared (b ∷ left) rows here → is_closed b.no here.batches ≡ false
next_is_open s b left rows here is settled was =
    ap (is_closed b.no) was.batches
    ∙ it_is_open b is was.before left (subst Rises was.batches settled.good.holds.batches.rise)

-- a batch is removed with all that it has
abbrev pub without_open : ℕ → Rows → Rows
without_open batch rows =
    without_batch batch (numbers_in batch rows) (links_from (numbers_in batch rows) rows) rows

-- the links that are from some numbers are from these
pub are_from : (ns : List ℕ) (ls : List LinkRow) → AreOf ns (filter (is_from ns) ls)
are_from ns [] = tt
are_from ns (l ∷ ls) =
    elim (is_from ns l) as (λ b. is_from ns l ≡ b → AreOf ns (cond b (l ∷ filter (is_from ns) ls)
    (filter (is_from ns) ls))) [ true ↦ λ e. (e, are_from ns ls) | false ↦ λ e. are_from ns ls ] refl

one_gone : (s : State) (b : BatchRow) (left : List BatchRow) (rows here : Rows) → b.is_open ≡ true → Settled s here
    → HasCleared (b ∷ left) rows here → HasCleared left rows (without_open b.no here)
one_gone s b left rows here is settled was =
    let ns = numbers_in b.no here in
    let ls = links_from ns here in
    let rise : Rises (was.before ++ b ∷ left) = subst Rises was.batches settled.good.holds.batches.rise in
    let unclosed = next_is_open s b left rows here is settled was in
    record {
      seen = seen_then rows here (without_open b.no here) was.seen
          (taken_out b.no ns ls here (numbers_aside s b.no ns here settled unclosed refl) (are_from ns here.links)
          unclosed);
      before = was.before;
      closed = was.closed;
      batches = ap (filter (λ (x : BatchRow). not (x.no == b.no))) (batches_stay ns ls here ∙ was.batches)
          ∙ it_goes b was.before left rise;
      untouched = λ all. absurd (none_is_open b left rows here is was all);
    }

-- ---- the calls
-- tables with spans, or without, as they are said to be; or nothing is to be done
abbrev pub AreFit : Bool → Rows → Type 0
AreFit has_spans rows = (rows.has_spans ≡ has_spans) ⊎ AreAllClosed rows

pub record IsClearing (has_spans : Bool) (old now : State) (left : List BatchRow) : Type 0 where
  pub leads : HasCleanDisk now → (rows : Rows) → Settled old rows → AreFit has_spans rows
      → (here : Rows) × Settled now here × HasCleared left rows here
  pub clean : HasCleanDisk now → HasCleanDisk old

pub left_as : (has_spans : Bool) (old now : State) (left same : List BatchRow) → left ≡ same
    → IsClearing has_spans old now left → IsClearing has_spans old now same
left_as has_spans old now left same is way = subst (IsClearing has_spans old now) is way

pub goes_past : (has_spans : Bool) (old now : State) (b : BatchRow) (left : List BatchRow) → b.is_open ≡ false
    → IsClearing has_spans old now (b ∷ left) → IsClearing has_spans old now left
goes_past has_spans old now b left is way = record {
  leads = λ clean rows was fit.
      let came = way.leads clean rows was fit in
      (came.0, came.1, one_closed b left rows came.0 is came.2);
  clean = way.clean;
}

-- a batch is to be removed: the tables have spans or none, as they are said to
pub has_as_said : (has_spans : Bool) (b : BatchRow) (left : List BatchRow) (rows here : Rows) → b.is_open ≡ true
    → HasCleared (b ∷ left) rows here → AreFit has_spans rows → here.has_spans ≡ has_spans
has_as_said has_spans b left rows here is was (inl has) = was.seen.has_spans ∙ has
has_as_said has_spans b left rows here is was (inr closed) = absurd (none_is_open b left rows here is was closed)

pub takes_out : (has_spans : Bool) (old mid new : State) (b : BatchRow) (left : List BatchRow) → b.is_open ≡ true
    → IsClearing has_spans old mid (b ∷ left)
    → (HasCleanDisk new → (rows : Rows) → Settled mid rows → rows.has_spans ≡ has_spans
    → Settled new (without_open b.no rows))
    → (HasCleanDisk new → HasCleanDisk mid) → IsClearing has_spans old new left
takes_out has_spans old mid new b left is way gone kept = record {
  leads = λ clean rows was fit.
      let came = way.leads (kept clean) rows was fit in (
        without_open b.no came.0,
        gone clean came.0 came.1 (has_as_said has_spans b left rows came.0 is came.2 fit),
        one_gone mid b left rows came.0 is came.1 came.2,
      );
  clean = λ clean. way.clean (kept clean);
}

-- ---- the end
pub clears : (has_spans : Bool) (old now : State) → IsClearing has_spans old now [] → HasCleanDisk now → (rows : Rows)
    → Settled old rows → rows.has_spans ≡ has_spans → IsCleared now rows
clears has_spans old now way clean rows was has =
    let came = way.leads clean rows was (inl has) in (
      came.0,
      came.1,
      came.2.seen,
      subst AllClosed (sym (came.2.batches ∙ append-nil came.2.before)) came.2.closed,
    )

pub touches_nothing : (has_spans : Bool) (old now : State) → IsClearing has_spans old now [] → HasCleanDisk now
    → (rows : Rows) → Settled old rows → AreAllClosed rows → Settled now rows
touches_nothing has_spans old now way clean rows was closed =
    let came = way.leads clean rows was (inr closed) in
    subst (Settled now) (came.2.untouched closed) came.1

-- Where the sides of a slip stand among those of all slips: removed, and then put in one after the other.
use Rattle.std.proofs.Common.{
  ◌≡◌,
  ℕ,
  ◌<◌,
  ◌≤◌,
  ◌+◌,
  ◌==◌,
  ◌++◌,
  Bool,
  true,
  false,
  not,
  nat_lt,
  cond,
  List,
  [],
  ◌∷◌,
  filter,
  length,
  refl,
  sym,
  ap,
  subst,
  ◌∙◌,
  arith,
  append_assoc,
  Ordering,
  Less,
  Equal,
  Greater,
  nat_cmp,
}
use Rattle.std.specs.List.{AllByRecursion}
use Rattle.std.proofs.lemmas.Bool.Decides.{nat_tests}
use Rattle.std.proofs.lemmas.List.{append-nil}
use Rattle.sqlite.specs.Tree.{IsAscending}
use Rattle.sqlite.specs.State.{HasCleanDisk, State, Survives}
use Rattle.sqlite.proofs.StateLemmas.{survives_then}
use Rattle.store_tables.specs.Calls.{FollowsDated, Inside}
use Rattle.store_tables.specs.Reading.{IsTypedSlipPack, IsU32}
use Rattle.store_tables.specs.Rows.{Rows, SlipPackRow, SlipSide, pair_place, put_by, slip_place}
use Rattle.store_tables.specs.Sides.{placed, with_slip_side, with_slip_sides, without_slip_sides}
use Rattle.store_tables.proofs.Coded.{less}
use Rattle.list_laws.proofs.Lists.{more_behind}

abbrev before : ℕ → List SlipPackRow → List SlipPackRow
before n = filter (λ (s : SlipPackRow). nat_lt s.slip n)

abbrev behind : ℕ → List SlipPackRow → List SlipPackRow
behind n = filter (λ (s : SlipPackRow). nat_lt n s.slip)

abbrev others : ℕ → List SlipPackRow → List SlipPackRow
others n = filter (λ (s : SlipPackRow). not (s.slip == n))

-- ---- what stays when the sides of a slip are removed
later_slip : (n : ℕ) (s t : SlipPackRow) → n < s.slip → IsU32 t.place → slip_place s < slip_place t → n < t.slip
later_slip n s t high low over = omega (arith, high, low, over)

not_before : (m n : ℕ) → n < m → nat_lt m n ≡ false
not_before m n high = grind (arith, nat_tests, high)

none_before : (n : ℕ) (s : SlipPackRow) → n < s.slip → (ss : List SlipPackRow) → AllByRecursion IsTypedSlipPack ss
    → AllByRecursion (λ (t : SlipPackRow). slip_place s < slip_place t) ss → before n ss ≡ []
none_before n s high [] typed rise = refl
none_before n s high (t ∷ ts) typed rise =
    let off = not_before t.slip n (later_slip n s t high typed.0.place rise.0) in
    rw off (none_before n s high ts typed.1 rise.1)

-- how a number and another compare, by each test
less_tests : (m n : ℕ) → nat_cmp m n ≡ Less → ((m == n) ≡ false) × (nat_lt m n ≡ true) × (nat_lt n m ≡ false)
less_tests m n e = (grind (arith, nat_tests, e), grind (arith, nat_tests, e), grind (arith, nat_tests, e))

equal_tests : (m n : ℕ) → nat_cmp m n ≡ Equal → ((m == n) ≡ true) × (nat_lt m n ≡ false) × (nat_lt n m ≡ false)
equal_tests m n e = (grind (arith, nat_tests, e), grind (arith, nat_tests, e), grind (arith, nat_tests, e))

greater_tests : (m n : ℕ) → nat_cmp m n ≡ Greater → ((m == n) ≡ false) × (nat_lt m n ≡ false) × (nat_lt n m ≡ true)
greater_tests m n e = (grind (arith, nat_tests, e), grind (arith, nat_tests, e), grind (arith, nat_tests, e))

greater_is : (m n : ℕ) → nat_cmp m n ≡ Greater → n < m
greater_is m n e = grind (arith, nat_tests, e)

pub parted : (n : ℕ) (ss : List SlipPackRow) → AllByRecursion IsTypedSlipPack ss
    → IsAscending (λ a b. slip_place a < slip_place b) ss → others n ss ≡ before n ss ++ behind n ss
parted n [] typed rise = refl
parted n (s ∷ ss) typed rise = go (nat_cmp s.slip n) refl (parted n ss typed.1 rise.1)
  where
    go : (o : Ordering) → nat_cmp s.slip n ≡ o → others n ss ≡ before n ss ++ behind n ss
        → others n (s ∷ ss) ≡ before n (s ∷ ss) ++ behind n (s ∷ ss)
    go Less e ih = let t = less_tests s.slip n e in rw (t.0, t.1, t.2) (ap (λ xs. s ∷ xs) ih)
    go Equal e ih = let t = equal_tests s.slip n e in rw (t.0, t.1, t.2) ih
    go Greater e ih =
        let t = greater_tests s.slip n e in
        let none = none_before n s (greater_is s.slip n e) ss typed.1 rise.0 in
        rw (t.0, t.1, t.2) (ap (λ xs. s ∷ xs) (ih ∙ ap (λ xs. xs ++ behind n ss) none)
        ∙ sym (ap (λ xs. xs ++ (s ∷ behind n ss)) none))

-- ---- a side that is put between others
put_between : (p : SlipPackRow) (xs ys : List SlipPackRow)
    → AllByRecursion (λ (x : SlipPackRow). slip_place x < slip_place p) xs
    → AllByRecursion (λ (y : SlipPackRow). slip_place p < slip_place y) ys
    → put_by slip_place p (xs ++ ys) ≡ xs ++ (p ∷ ys)
put_between p [] [] low high = refl
put_between p [] (y ∷ ys) low high =
    let over : nat_cmp (slip_place y) (slip_place p) ≡ Greater = greater (slip_place y) (slip_place p) high.0 in
    rw over refl
  where
    greater : (m n : ℕ) → n < m → nat_cmp m n ≡ Greater
    greater m n h = grind (arith, nat_tests, h)
put_between p (x ∷ xs) ys low high =
    rw (less (slip_place x) (slip_place p) low.0) (ap (λ zs. x ∷ zs) (put_between p xs ys low.1 high))

all_cat : {X : Type 0} (P : X → Type 0) (xs ys : List X) → AllByRecursion P xs → AllByRecursion P ys
    → AllByRecursion P (xs ++ ys)
all_cat P [] ys p q = q
all_cat P (x ∷ xs) ys p q = (p.0, all_cat P xs ys p.1 q)

first_before : (t n u m : ℕ) → t < u → IsU32 n → pair_place t n < pair_place u m
first_before t n u m low h = omega (arith, low, h)

before_if : (m n : ℕ) → nat_lt m n ≡ true → m < n
before_if m n e = grind (arith, nat_tests, e)

-- the sides of slips before this one stand before each of its places
all_before : (n at : ℕ) (ss : List SlipPackRow) → AllByRecursion IsTypedSlipPack ss
    → AllByRecursion (λ (s : SlipPackRow). slip_place s < pair_place n at) (before n ss)
all_before n at [] typed = tt
all_before n at (s ∷ ss) typed = go (nat_lt s.slip n) refl (all_before n at ss typed.1)
  where
    go : (b : Bool) → nat_lt s.slip n ≡ b
        → AllByRecursion (λ (s : SlipPackRow). slip_place s < pair_place n at) (before n ss)
        → AllByRecursion (λ (s : SlipPackRow). slip_place s < pair_place n at) (cond b (s ∷ before n ss) (before n ss))
    go true e more = (first_before s.slip s.place n at (before_if s.slip n e) typed.0.place, more)
    go false e more = more

-- and those of slips after it after each of its places
all_behind : (n at : ℕ) → IsU32 at → (ss : List SlipPackRow)
    → AllByRecursion (λ (s : SlipPackRow). pair_place n at < slip_place s) (behind n ss)
all_behind n at low [] = tt
all_behind n at low (s ∷ ss) = go (nat_lt n s.slip) refl (all_behind n at low ss)
  where
    go : (b : Bool) → nat_lt n s.slip ≡ b
        → AllByRecursion (λ (s : SlipPackRow). pair_place n at < slip_place s) (behind n ss)
        → AllByRecursion (λ (s : SlipPackRow). pair_place n at < slip_place s) (cond b (s ∷ behind n ss) (behind n ss))
    go true e more = (first_before n at s.slip s.place (before_if n s.slip e) low, more)
    go false e more = more

all_placed : (n from at : ℕ) (ss : List SlipSide) → from + length ss ≤ at
    → AllByRecursion (λ (s : SlipPackRow). slip_place s < pair_place n at) (placed n from ss)
all_placed n from at [] h = tt
all_placed n from at (s ∷ ss) h =
    let here : pair_place n from < pair_place n at = omega (arith, h) in
    (here, all_placed n (from + 1) at ss (omega (arith, h)))

placed_more : (n from at : ℕ) (ss : List SlipSide) (s : SlipSide) → from + length ss ≡ at → placed n from (ss ++ s ∷ [])
    ≡ placed n from ss ++ record { slip = n; place = at; side = s } ∷ []
placed_more n from at [] s is =
    let here : from ≡ at = omega (arith, is) in
    ap (λ (k : ℕ). let p : SlipPackRow = record { slip = n; place = k; side = s } in p ∷ []) here
placed_more n from at (t ∷ ts) s is =
    ap (λ (ps : List SlipPackRow). let p : SlipPackRow = record { slip = n; place = from; side = t } in p ∷ ps)
    (placed_more n (from + 1) at ts s (omega (arith, is)))

one_more : (n at : ℕ) (done : List SlipSide) (s : SlipSide) (ss : List SlipPackRow) → IsU32 at → length done ≡ at
    → AllByRecursion IsTypedSlipPack ss
    → put_by slip_place (record { slip = n; place = at; side = s })
    (before n ss ++ (placed n 0 done ++ behind n ss))
    ≡ before n ss ++ (placed n 0 (done ++ s ∷ []) ++ behind n ss)
one_more n at done s ss low is typed =
    let p : SlipPackRow = record { slip = n; place = at; side = s } in
    let first = before n ss in
    let own = placed n 0 done in
    let last = behind n ss in
    let below = all_cat (λ (x : SlipPackRow). slip_place x < slip_place p) first own (all_before n at ss typed)
    (all_placed n 0 at done (omega (arith, is))) in
    let more : placed n 0 (done ++ s ∷ []) ≡ own ++ p ∷ [] = placed_more n 0 at done s (omega (arith, is)) in
    ap (put_by slip_place p) (sym (append_assoc first own last))
    ∙ put_between p (first ++ own) last below (all_behind n at low ss)
    ∙ append_assoc first own (p ∷ last)
    ∙ ap (λ (ps : List SlipPackRow). first ++ ps) (sym (append_assoc own (p ∷ []) last)
    ∙ ap (λ (ps : List SlipPackRow). ps ++ last) (sym more))

-- ---- the calls
-- what was done of all sides of a slip, and what is left
pub record IsSoFar (old now : State) (n : ℕ) (all left : List SlipSide) (at : ℕ) : Type 0 where
  pub done : List SlipSide
  pub whole : all ≡ done ++ left
  pub place : length done ≡ at
  pub survives : Survives old now (λ _. ⊥)
  pub follows : HasCleanDisk now → FollowsDated old now (with_slip_sides n done)

-- the sides of a slip were removed
pub none_so_far : (old now : State) (n : ℕ) (all : List SlipSide)
    → (HasCleanDisk now → FollowsDated old now (without_slip_sides n)) → Survives old now (λ _. ⊥)
    → ((rows : Rows) → rows.has_spans ≡ true → Inside old rows
    → IsAscending (λ (a b : SlipPackRow). slip_place a < slip_place b) rows.slip_packs)
    → IsSoFar old now n all all 0
none_so_far old now n all out kept rise = record {
  done = [];
  whole = refl;
  place = refl;
  survives = kept;
  follows = λ clean rows dated was.
      let did = out clean rows dated was in
      let same : without_slip_sides n rows ≡ with_slip_sides n [] rows =
      ap (λ (ss : List SlipPackRow). record (without_slip_sides n rows) { slip_packs = ss })
      (parted n rows.slip_packs was.good.typed.slip_packs (rise rows dated was)) in
      (subst (Inside now) same did.0, did.1);
}

-- one side more
pub one_so_far : (old mid now : State) (n : ℕ) (all left rest : List SlipSide) (at next : ℕ) (s : SlipSide)
    → IsSoFar old mid n all left at → left ≡ s ∷ rest → IsU32 at → next ≡ at + 1
    → (HasCleanDisk now → FollowsDated mid now (with_slip_side n at s)) → Survives mid now (λ _. ⊥)
    → IsSoFar old now n all rest next
one_so_far old mid now n all left rest at next s far is low after step kept = record {
  done = far.done ++ s ∷ [];
  whole = far.whole ∙ ap (λ (ls : List SlipSide). far.done ++ ls) is ∙ sym (append_assoc far.done (s ∷ []) rest);
  place = more_behind far.done s ∙ ap (λ k. k + 1) far.place ∙ sym after;
  survives = survives_then old mid now _ _ (λ _. ⊥) (λ _ db none. none) (λ _ db none. none) far.survives kept;
  follows = λ clean rows dated was.
      let came = far.follows (omega (arith, kept.clean)) rows dated was in
      let did = step clean (with_slip_sides n far.done rows) dated came.0 in
      let same : with_slip_side n at s (with_slip_sides n far.done rows) ≡ with_slip_sides n (far.done ++ s ∷ []) rows =
      ap (λ (ss : List SlipPackRow). record (without_slip_sides n rows) { slip_packs = ss })
      (one_more n at far.done s rows.slip_packs low far.place was.good.typed.slip_packs) in
      (subst (Inside now) same did.0, did.1 ∙ came.1);
}

-- all sides
pub all_so_far : (old now : State) (n : ℕ) (all left : List SlipSide) (at : ℕ) → IsSoFar old now n all left at
    → left ≡ [] → HasCleanDisk now → FollowsDated old now (with_slip_sides n all)
all_so_far old now n all left at far none clean =
    let whole : far.done ≡ all = sym (far.whole ∙ ap (λ (ls : List SlipSide). far.done ++ ls) none
    ∙ append-nil far.done) in
    subst (λ (ss : List SlipSide). FollowsDated old now (with_slip_sides n ss)) whole (far.follows clean)

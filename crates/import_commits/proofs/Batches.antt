-- Batches: which are closed.
use Rattle.std.proofs.Common.{◌≡◌, ℕ, true, false, not, List, [], ◌∷◌, Ok, refl, ap, ap₂, subst}
use Rattle.std.specs.Prelude.{◌==◌, ◌&&◌, ◌||◌}
use Rattle.std.specs.List.{AllByRecursion, list_any}
use Rattle.std.specs.Ordering.{nat_cmp, match_ordering}
use Rattle.std.specs.declared.cmp.Ordering.TheVariants.{Less, Equal, Greater}
use Rattle.sqlite.specs.State.{State}
use Rattle.store_tables.specs.Looking.{Looks}
use Rattle.store_tables.specs.Rows.{BatchRow, Rows, put_by}
use Rattle.store_rows.specs.Meaning.{is_closed}
use Rattle.import_commits.specs.Commits.{IsNextBatch}
use Rattle.list_laws.proofs.Booleans.{or_first, or_second, and_false}

pub opened_is_not_closed : (n : ℕ) (bs : List BatchRow) → is_closed n bs ≡ false
    → is_closed n (put_by (λ (b : BatchRow). b.no) (record { no = n; is_open = true }) bs) ≡ false
opened_is_not_closed n [] none = ap (λ s. s || false) (and_false (n == n) false refl)
opened_is_not_closed n (b ∷ bs) none =
    let key = λ (b : BatchRow). b.no in
    let row : BatchRow = record { no = n; is_open = true } in
    let here : ((n == n) && false) ≡ false = and_false (n == n) false refl in
    let first = or_first ((b.no == n) && not b.is_open) (is_closed n bs) none in
    let more = or_second ((b.no == n) && not b.is_open) (is_closed n bs) none in
    elim (nat_cmp b.no n) as (λ o. is_closed n
    (match_ordering o (b ∷ put_by key row bs) (row ∷ bs) (row ∷ b ∷ bs)) ≡ false) [
      | Less ↦ ap₂ (λ s t. s || t) first (opened_is_not_closed n bs more)
      | Equal ↦ ap₂ (λ s t. s || t) here more
      | Greater ↦ ap₂ (λ s t. s || t) here none
    ]

-- ---- what is looked at before a batch is opened
pub all_closed : (bs : List BatchRow) → list_any (λ (b : BatchRow). b.is_open) bs ≡ false
    → AllByRecursion (λ (b : BatchRow). not b.is_open ≡ true) bs
all_closed [] none = tt
all_closed (b ∷ bs) none = (
  ap (λ s. not s) (or_first b.is_open (list_any (λ (b : BatchRow). b.is_open) bs) none),
  all_closed bs (or_second b.is_open (list_any (λ (b : BatchRow). b.is_open) bs) none),
)

pub next_looks : {A : Type 0} {Is : Rows → A → Type 0} {old new : State} {a : A} (bs : List BatchRow) (next : ℕ)
    → Looks Is old new (Ok a) → ((rows : Rows) → Is rows a → bs ≡ rows.batches)
    → list_any (λ (b : BatchRow). b.no == next) bs ≡ false → list_any (λ (b : BatchRow). b.is_open) bs ≡ false
    → Looks (λ rows batch. IsNextBatch batch rows) old new (Ok next)
next_looks bs next look same unused closed = record {
  read = λ clean rows was.
      let is = same rows (look.read clean rows was) in
      record {
        unused = subst (λ xs. list_any (λ (b : BatchRow). b.no == next) xs ≡ false) is unused;
        closed = all_closed rows.batches (subst (λ xs. list_any (λ (b : BatchRow). b.is_open) xs ≡ false) is closed);
      };
  same = look.same;
  refused = λ clean. tt;
  crash = look.crash;
  clean = look.clean;
}

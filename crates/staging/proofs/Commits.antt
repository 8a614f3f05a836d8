-- Calls in a transaction that is committed.
use Rattle.std.proofs.Common.{◌≡◌, false, true, refl, sym, ap, subst, ◌∙◌}
use Rattle.sqlite.specs.Effect.{Database}
use Rattle.sqlite.specs.State.{Shows, State}
use Rattle.store_tables.specs.Calls.{Follows, FollowsDated, Good, Inside, Settled}
use Rattle.store_tables.specs.Rows.{Rows}

inside : (s : State) (rows : Rows) → Settled s rows → Inside (record s { in_transaction = true }) rows
inside s rows was = record { is_open = was.is_open; inside = refl; schema = was.schema; good = was.good }

pub committed : (mid new : State) (rows : Rows) → Inside mid rows → Shows mid new mid.now mid.now false
    → Settled new rows
committed mid new rows in_it shows = record {
  is_open = shows.is_open;
  autocommit = shows.mode;
  settled = shows.committed_is ∙ sym shows.now_is;
  schema = ap (λ (d : Database). d.schema) shows.now_is ∙ in_it.schema;
  good = subst (Good rows) (sym (ap (λ (d : Database). d.trees) shows.now_is)) in_it.good;
}

pub settles : (old mid new : State) (f : Rows → Rows) (rows : Rows)
    → Follows (record old { in_transaction = true }) mid f → Shows mid new mid.now mid.now false
    → Settled old rows → Settled new (f rows)
settles old mid new f rows follows shows was =
    committed mid new (f rows) (follows rows (inside old rows was)).0 shows

pub settles_dated : (old mid new : State) (f : Rows → Rows) (rows : Rows)
    → FollowsDated (record old { in_transaction = true }) mid f → Shows mid new mid.now mid.now false
    → Settled old rows → rows.has_spans ≡ true → Settled new (f rows)
settles_dated old mid new f rows follows shows was dated =
    committed mid new (f rows) (follows rows dated (inside old rows was)).0 shows

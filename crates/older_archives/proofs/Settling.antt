-- What a transaction makes of tables of the first version, when it is committed.
use Rattle.std.proofs.Common.{◌≡◌, false, true, inl, inr, [], refl, sym, ap, ◌∙◌, subst}
use Rattle.sqlite.specs.Effect.{Database}
use Rattle.sqlite.specs.State.{Shows, State}
use Rattle.sqlite.specs.Tree.{Trees}
use Rattle.archive_state.specs.Content.{Content}
use Rattle.store_tables.specs.Calls.{FollowsUndated, Good, Settled}
use Rattle.store_tables.specs.Rows.{HoldsOwn, Rows}
use Rattle.older_archives.specs.Renewing.{IsRenewed, LeavesEither, LeavesRenewed}

pub settles : (old mid new : State) (f : Rows → Rows) (rows : Rows)
    → FollowsUndated (record old { in_transaction = true }) mid f → Shows mid new mid.now mid.now false
    → rows.has_spans ≡ false → Settled old rows → Settled new (f rows)
settles old mid new f rows follows shows none was =
    let inside = (follows rows none
    (record { is_open = was.is_open; inside = refl; schema = was.schema; good = was.good })).0 in
    record {
      is_open = shows.is_open;
      autocommit = shows.mode;
      settled = shows.committed_is ∙ sym shows.now_is;
      schema = ap (λ (d : Database). d.schema) shows.now_is ∙ inside.schema;
      good = subst (Good (f rows)) (sym (ap (λ (d : Database). d.trees) shows.now_is)) inside.good;
    }

-- tables of the first schema have no spans, and nothing that is looked for
pub no_spans : (rows : Rows) (t : Trees) → Good rows t → rows.has_spans ≡ false → rows.spans ≡ []
no_spans rows t good none =
    (subst (λ b. HoldsOwn b rows.lines rows.packs rows.spans rows.links rows.soughts t) none good.holds.own).2

pub no_soughts : (rows : Rows) (t : Trees) → Good rows t → rows.has_spans ≡ false → rows.soughts ≡ []
no_soughts rows t good none =
    (subst (λ b. HoldsOwn b rows.lines rows.packs rows.spans rows.links rows.soughts t) none good.holds.own).4

-- what a stop may leave of one renewal, and of any
pub left : (s : State) (rows after : Rows) (c : Content) → IsRenewed rows c after → LeavesEither s rows after
    → LeavesRenewed s rows c
left s rows after c is either t l = elim (either t l) [ inl good ↦ inl good | inr good ↦ inr (after, is, good) ]

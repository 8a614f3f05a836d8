use Rattle.std.proofs.Common.{rules, ◌≡◌, ◌+◌, ◌∷◌, [], Err, inl, inr, drop, ◌∙◌, arith}
use Rattle.std.proofs.lemmas.List.{drop_all}
use Rattle.sqlite.specs.Held.{state}
use Rattle.store_tables.specs.Rows.{BatchRow}
use Rattle.store_tables.proofs.Loops.{item_left}
use Rattle.store_tables.proofs.Queries.{only_committed}
use Rattle.staging.proofs.Cleared.{leaves_seen, seen_on}
use Rattle.staging.proofs.Opening.{
  clears,
  goes_past,
  left_as,
  next_is_open,
  none_is_open,
  takes_out,
  touches_nothing,
}
use Rattle.staging.proofs.removing.remove_open.Goals as goal
use Rattle.staging.proofs.removing.remove_open.Goals.{then-batch+in_ok-remove_found, else-batch}
use Rattle.staged_rows.proofs.Alike.{seen_same}

pub returns-in_err-batches-clause-crash : goal.returns-in_err-batches-clause-crash
returns-in_err-batches-clause-crash g c clean rows was has =
    leaves_seen rows (state g.S.Store c.read_batches.new.conn) (c.in_err-batches.ensures.looks.crash clean rows was)

pub returns-in_err-batches-clause-stays : goal.returns-in_err-batches-clause-stays
returns-in_err-batches-clause-stays g c clean =
    let same : c.from_residual.result ≡ Err c.in_err-batches.field-0.0 = search rules in
    rw same (λ rows was has. inr (rows, c.in_err-batches.ensures.looks.crash clean rows was, seen_same rows))

pub returns-in_err-batches-clause-idle : goal.returns-in_err-batches-clause-idle
returns-in_err-batches-clause-idle g c clean rows was closed = c.in_err-batches.ensures.looks.crash clean rows was

pub returns-in_err-remove_found-clause-idle : goal.returns-in_err-remove_found-clause-idle
returns-in_err-remove_found-clause-idle g c clean rows was closed =
    let old = state g.S.Store c.args.conn.now in
    let mid = state g.S.Store c.batches.conn in
    let xs = c.deref-batch-items.result.now in
    let i = c.batches.batch-index in
    let b : BatchRow = record { no = c.batch.inside.number; is_open = c.batch.inside.is_open } in
    let left : drop i xs ≡ b ∷ drop (i + 1) xs =
    item_left xs i b c.batch-item.result c.batches-test.true (c.batch.view_is ∙ c.batch-item.is) in
    let way = left_as c.args.has_spans old mid (drop i xs) (b ∷ drop (i + 1) xs) left c.batches.invariant.way in
    let came = way.leads (c.in_err-remove_found.ensures.clean clean) rows was (inr closed) in
    absurd (none_is_open b (drop (i + 1) xs) rows came.0 c.if-batch.true came.2 closed)

pub returns-in_err-remove_found-clause-crash : goal.returns-in_err-remove_found-clause-crash
returns-in_err-remove_found-clause-crash g c clean rows was has =
    let old = state g.S.Store c.args.conn.now in
    let mid = state g.S.Store c.batches.conn in
    let xs = c.deref-batch-items.result.now in
    let i = c.batches.batch-index in
    let b : BatchRow = record { no = c.batch.inside.number; is_open = c.batch.inside.is_open } in
    let left : drop i xs ≡ b ∷ drop (i + 1) xs =
    item_left xs i b c.batch-item.result c.batches-test.true (c.batch.view_is ∙ c.batch-item.is) in
    let way = left_as c.args.has_spans old mid (drop i xs) (b ∷ drop (i + 1) xs) left c.batches.invariant.way in
    let did = c.in_err-remove_found.ensures in
    let came = way.leads (did.clean clean) rows was (inl has) in
    seen_on rows came.0 (state g.S.Store c.remove_found.new.conn) came.2.seen
    (did.crash clean came.0 came.1 (came.2.seen.has_spans ∙ has)
    (next_is_open mid b (drop (i + 1) xs) rows came.0 c.if-batch.true came.1 came.2))

pub returns-in_err-remove_found-clause-stays : goal.returns-in_err-remove_found-clause-stays
returns-in_err-remove_found-clause-stays g c clean =
    let same : c.from_residual-in_err-remove_found.result ≡ Err c.in_err-remove_found.field-0.0 = search rules in
    let did = c.in_err-remove_found.ensures in
    rw same (λ rows was has.
    let came = c.batches.invariant.way.leads (did.clean clean) rows was (inl has) in
    elim (did.stays clean) [
      | inl storage ↦ inl storage
      | inr memory ↦ inr (came.0, memory.1 came.0 came.1, came.2.seen)
    ])

pub batches-preserved : goal.batches-preserved
batches-preserved g c =
    let old = state g.S.Store c.args.conn.now in
    let mid = state g.S.Store c.batches.conn in
    let xs = c.deref-batch-items.result.now in
    let i = c.batches.batch-index in
    let b : BatchRow = record { no = c.batch.inside.number; is_open = c.batch.inside.is_open } in
    let left : drop i xs ≡ b ∷ drop (i + 1) xs =
    item_left xs i b c.batch-item.result c.batches-test.true (c.batch.view_is ∙ c.batch-item.is) in
    let way = left_as c.args.has_spans old mid (drop i xs) (b ∷ drop (i + 1) xs) left c.batches.invariant.way in
    elim c.if-batch.branch [
      | then-batch+in_ok-remove_found w ↦
          let did = w.in_ok-remove_found.ensures in
          rw w.conn-is (record {
            ended = did.ended;
            way = takes_out c.args.has_spans old mid (state g.S.Store w.remove_found.new.conn) b (drop (i + 1) xs)
                w.if-batch.true way did.gone did.clean;
          })
      | else-batch w ↦ rw w.conn-is (record {
        ended = c.batches.invariant.ended;
        way = goes_past c.args.has_spans old mid b (drop (i + 1) xs) w.if-batch.false way;
      })
    ]

pub returns-clause-cleared : goal.returns-clause-cleared
returns-clause-cleared g c clean rows was has =
    let old = state g.S.Store c.args.conn.now in
    let now = state g.S.Store c.batches.conn in
    let xs = c.deref-batch-items.result.now in
    let way = left_as c.args.has_spans old now (drop c.batches.batch-index xs) []
    (drop_all c.batches.batch-index xs (omega (arith, c.batches-test.false))) c.batches.invariant.way in
    clears c.args.has_spans old now way clean rows was has

pub returns-clause-crash : goal.returns-clause-crash
returns-clause-crash g c clean rows was has =
    let now = state g.S.Store c.batches.conn in
    let came = c.batches.invariant.way.leads clean rows was (inl has) in
    seen_on rows came.0 now came.2.seen (leaves_seen came.0 now (λ t leaves. only_committed now came.0 t came.1
    (g.met.S.Store.settled c.batches.conn.store t came.1.is_open leaves)))

pub returns-clause-idle : goal.returns-clause-idle
returns-clause-idle g c clean rows was closed t leaves =
    let old = state g.S.Store c.args.conn.now in
    let now = state g.S.Store c.batches.conn in
    let xs = c.deref-batch-items.result.now in
    let way = left_as c.args.has_spans old now (drop c.batches.batch-index xs) []
    (drop_all c.batches.batch-index xs (omega (arith, c.batches-test.false))) c.batches.invariant.way in
    let settled = touches_nothing c.args.has_spans old now way clean rows was closed in
    only_committed now rows t settled (g.met.S.Store.settled c.batches.conn.store t settled.is_open leaves)

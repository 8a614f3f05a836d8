use Rattle.std.proofs.Common.{◌≡◌, ◌++◌, [], refl, sym, ap, ◌∙◌, append_assoc, arith, rules}
use Rattle.std.proofs.lemmas.List.{append-nil}
use Rattle.sqlite.specs.Held.{state}
use Rattle.store_tables.specs.Rows.{LinkRow}
use Rattle.store_tables.proofs.Queries.{only_committed}
use Rattle.store_rows.specs.Links.{without_all_links}
use Rattle.staging.proofs.Cleared.{nothing_done}
use Rattle.staging.proofs.Spans.{all_gone, all_leave, links_go, more_gone, none_gone, part_leaves}
use Rattle.staging.proofs.Thinned.{none_left}
use Rattle.staging.proofs.removing.take_links.Goals as goal

pub links-init : goal.links-init
links-init g c = record {
  ended = c.requires.autocommit;
  taken = ([], refl, none_gone (λ (l : LinkRow). l.no) without_all_links links_go (state g.S.Store c.args.conn.now));
}

pub clear_links-requires : goal.clear_links-requires
clear_links-requires g c = record {
  autocommit = c.links.invariant.ended;
  few = omega (arith, c.split_at.ensures.by_index.1, c.min.ensures);
}

pub links-preserved : goal.links-preserved
links-preserved g c =
    let did = c.in_ok-clear_links.ensures in
    let was = c.links.invariant.taken in
    record {
      ended = c.clear_links.ensures.ended;
      taken = (
        was.0 ++ c.split_at.result.0.now,
        was.1 ∙ ap (λ r. was.0 ++ r) c.split_at.ensures.by_index.0
            ∙ sym (append_assoc was.0 c.split_at.result.0.now c.split_at.result.1.now),
        more_gone (λ (l : LinkRow). l.no) without_all_links links_go was.0 c.split_at.result.0.now
            (state g.S.Store c.args.conn.now)
            (state g.S.Store c.links.conn) (state g.S.Store c.clear_links.new.conn) was.2 did.clean did.done,
      );
    }

pub returns-in_err-clear_links-clause-done : goal.returns-in_err-clear_links-clause-done
returns-in_err-clear_links-clause-done g c clean = nothing_done _ c.from_residual.result c.from_residual.ensures.0

pub returns-in_err-clear_links-clause-crash : goal.returns-in_err-clear_links-clause-crash
returns-in_err-clear_links-clause-crash g c =
    let did = c.in_err-clear_links.ensures in
    let was = c.links.invariant.taken in
    part_leaves (λ (l : LinkRow). l.no) without_all_links links_go was.0 c.split_at.result.0.now
    (state g.S.Store c.args.conn.now)
    (state g.S.Store c.links.conn) (state g.S.Store c.clear_links.new.conn) was.2 did.clean c.args.links.now
    c.split_at.result.1.now (was.1 ∙ ap (λ r. was.0 ++ r) c.split_at.ensures.by_index.0) did.crash

pub returns-in_err-clear_links-clause-clean : goal.returns-in_err-clear_links-clause-clean
returns-in_err-clear_links-clause-clean g c clean =
    c.links.invariant.taken.2.clean (c.in_err-clear_links.ensures.clean clean)

pub returns-clause-done : goal.returns-clause-done
returns-clause-done g c =
    let was = c.links.invariant.taken in
    let none : c.links.rest.now ≡ [] = none_left c.links.rest.now (search rules) in
    all_gone (λ (l : LinkRow). l.no) without_all_links links_go c.args.links.now was.0
    (state g.S.Store c.args.conn.now) (state g.S.Store c.links.conn)
    (was.1 ∙ ap (λ r. was.0 ++ r) none ∙ append-nil was.0) was.2

pub returns-clause-crash : goal.returns-clause-crash
returns-clause-crash g c clean rows was has aside =
    let so_far = c.links.invariant.taken in
    let now = state g.S.Store c.links.conn in
    let none : c.links.rest.now ≡ [] = none_left c.links.rest.now (search rules) in
    let settled = all_gone (λ (l : LinkRow). l.no) without_all_links links_go c.args.links.now so_far.0
    (state g.S.Store c.args.conn.now) now
    (so_far.1 ∙ ap (λ r. so_far.0 ++ r) none ∙ append-nil so_far.0) so_far.2 clean rows was has in
    all_leave (λ (l : LinkRow). l.no) without_all_links links_go c.args.links.now now rows
    (λ t may. only_committed now _ t settled (g.met.S.Store.settled c.links.conn.store t settled.is_open may)) aside

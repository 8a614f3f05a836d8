use Rattle.std.proofs.Common.{
  rules,
  arith,
  ◌≡◌,
  ◌+◌,
  ◌++◌,
  ◌∷◌,
  ◌∙◌,
  [],
  ℕ,
  List,
  Vec,
  Ok,
  Err,
  inl,
  drop,
  ap,
  subst,
  sym,
}
use Rattle.std.specs.FinMap.{get}
use Rattle.std.specs.Global.{Global}
use Rattle.std.proofs.lemmas.List.{drop_all}
use Rattle.std.proofs.lemmas.Result.{err_from_is_err_and}
use Rattle.store_tables.specs.Rows.{LinkRow}
use Rattle.store_tables.proofs.Loops.{item_left}
use Rattle.store_rows.specs.Links.{linked_naming, names_at}
use Rattle.store_rows.proofs.Ascending.{all_found, none_more, one_more}
use Rattle.store_rows.proofs.Found.{sees_then}
use Rattle.store_rows.proofs.Seen.{sees_from, sees_not}
use Rattle.store_rows.proofs.looking.naming_of.Goals as goal
use Rattle.store_rows.proofs.looking.naming_of.Goals.{then-branch+in_ok-push, else-branch}

pub returns-in_err-is_naming_at-clause-sees : goal.returns-in_err-is_naming_at-clause-sees
returns-in_err-is_naming_at-clause-sees g c = sees_not c.from_residual.result (search rules)
    (sees_then c.links.invariant.1 c.in_err-is_naming_at.ensures.sees)

pub returns-clause-sees : goal.returns-clause-sees
returns-clause-sees g c =
    let links = c.args.links.now in
    sees_from (Ok _) c.links.invariant.1
    (λ content so_far. all_found c.args.number content links c.links.found.items (drop c.links.link-index links) so_far
    (drop_all c.links.link-index links (omega (arith, c.links-test.false)))) tt

pub returns-in_err-push-clause-sees : goal.returns-in_err-push-clause-sees
returns-in_err-push-clause-sees g c =
    let p = err_from_is_err_and c.from_residual-in_err-push.result c.from_residual-in_err-push.ensures.1 in
    rw p.1 (sees_from (Err _) (sees_then c.links.invariant.1 c.in_ok-is_naming_at.ensures.sees) tt (inl p.2))

pub links-preserved : goal.links-preserved
links-preserved g c =
    let n = c.args.number in
    let links = c.args.links.now in
    let link = c.link-item.result in
    let found = c.links.found.items in
    let named = c.in_ok-is_naming_at.field-0 in
    let same : c.link.inside.number ≡ link.no = ap (λ (l : LinkRow). l.no) c.link.view_is in
    let before = drop c.links.link-index links in
    let rest = drop (c.links.link-index + 1) links in
    let left = item_left links c.links.link-index link link c.links-test.true c.link-item.is in
    let seen = sees_then c.links.invariant.1 c.in_ok-is_naming_at.ensures.sees in (
      c.is_naming_at.ensures.ended,
      elim c.if-branch.branch [
        | then-branch+in_ok-push w ↦ sees_from (Ok tt) seen (λ content is. one_more n content links found before rest
            link named is.0 left (is.1 ∙ ap (λ k. names_at n (get content.records k)) same) c.if-branch.found.items
            w.if-branch.true (ap (λ (v : Vec ℕ Global). v.items) w.found-is ∙ w.in_ok-push.ensures
            ∙ ap (λ k. found ++ k ∷ []) same)) tt
        | else-branch w ↦ sees_from (Ok tt) seen (λ content is.
            subst (λ (ks : List ℕ). ks ++ linked_naming n content rest ≡ linked_naming n content links)
            (sym (ap (λ (v : Vec ℕ Global). v.items) w.found-is)) (none_more n content links found before rest link
            named is.0 left (is.1 ∙ ap (λ k. names_at n (get content.records k)) same) w.if-branch.false)) tt
      ],
    )

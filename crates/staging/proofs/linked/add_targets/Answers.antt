use Rattle.std.proofs.Common.{◌≡◌, ◌∙◌, ◌+◌, ℕ, ap, sym, drop, arith}
use Rattle.std.proofs.lemmas.List.{drop_all}
use Rattle.stored_lines.specs.Line.{Label}
use Rattle.store_tables.proofs.Loops.{item_left}
use Rattle.staged_rows.specs.Staging.{with_target, with_targets}
use Rattle.staging.specs.Opened.{pairs_as_links}
use Rattle.staging.proofs.linked.add_targets.Goals as goal

pub lines-preserved : goal.lines-preserved
lines-preserved c =
    let lines = c.args.lines.now in
    let line = c.line-item.result in
    let i = c.lines.line-index in
    let left = item_left lines i line line c.lines-test.true c.line-item.is in
    let now = pairs_as_links c.lines.pairs.keys in
    let same : c.line.inside.target ≡ line.1.target = ap (λ (l : ℕ × Label). l.1.target) c.line.view_is in
    ap (with_targets c.args.number (drop (i + 1) lines)) (c.in_ok-add_target.ensures
    ∙ ap (λ t. with_target c.args.number t now) same)
    ∙ sym (ap (λ ls. with_targets c.args.number ls now) left)
    ∙ c.lines.invariant

pub returns : goal.returns
returns c =
    sym (ap (λ ls. with_targets c.args.number ls (pairs_as_links c.lines.pairs.keys))
    (drop_all c.lines.line-index c.args.lines.now (omega (arith, c.lines-test.false))))
    ∙ c.lines.invariant

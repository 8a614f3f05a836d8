use Rattle.std.proofs.Common.{rules, ◌≡◌, ◌<◌, ◌≤◌, ◌++◌, length, true, false, arith}
use Rattle.std.proofs.lemmas.Grind.{common_steps}
use Rattle.std.proofs.lemmas.Result.{on_ok_weaker}
use Rattle.std.specs.Prelude.{OnOk}
use Rattle.searching.specs.Folding.{is_mark}
use Rattle.searching.proofs.Folds.{kept_folded, kept_itself, kept_mark}
use Rattle.searching.proofs.folding.push_folded.Goals as goal

pub returns-then-is_mark : goal.returns-then-is_mark
returns-then-is_mark c =
    let yes : is_mark c.args.c ≡ true = search rules in
    kept_mark c.args.out.now.items c.args.c yes

pub returns-then-is_empty : goal.returns-then-is_empty
returns-then-is_empty c =
    let unmarked : is_mark c.args.c ≡ false = search rules in
    let none : length c.full_folding-folded.result.now < 1 = grind (arith, common_steps) in
    kept_itself c.args.out.now.items c.push.new.self.items c.args.c c.full_folding-folded.result.now unmarked
    c.full_folding-folded.ensures.value none c.in_ok-push.ensures.items

pub returns : goal.returns
returns c =
    let unmarked : is_mark c.args.c ≡ false = search rules in
    let some : 1 ≤ length c.full_folding-folded.result.now = grind (arith, common_steps) in
    let all : OnOk c.extend_from_slice.result
    (c.extend_from_slice.new.self.items ≡ c.args.out.now.items ++ c.full_folding-folded.result.now) = search rules in
    on_ok_weaker c.extend_from_slice.result (kept_folded c.args.out.now.items
    c.extend_from_slice.new.self.items c.args.c
    c.full_folding-folded.result.now unmarked c.full_folding-folded.ensures.value some) all

use Rattle.std.proofs.Common.{◌≡◌, ◌<◌, length, rules, sym, ◌∙◌, arith}
use Rattle.std.proofs.lemmas.Grind.{common_steps}
use Rattle.record_text.proofs.Cuts.{cut_empty, cut_word, whole_empty, whole_word}
use Rattle.record_text.proofs.cutting.next_word.Goals as goal

pub returns-then-not-is_empty : goal.returns-then-not-is_empty
returns-then-not-is_empty c =
    let some : 0 < length c.in-Some.word.now = grind (arith, common_steps) in
    sym c.loop-word.invariant.1 ∙ cut_word c.loop-word.rest.now c.in-Some.word.now c.in-Some.after.now
    c.in-Some.ensures.0 c.in-Some.ensures.1 some

pub loop-word-preserved : goal.loop-word-preserved
loop-word-preserved c =
    let none : length c.in-Some.word.now ≡ 0 = grind (arith, common_steps) in (
      search rules,
      sym (cut_empty c.loop-word.rest.now c.in-Some.word.now c.in-Some.after.now c.in-Some.ensures.0
          c.in-Some.ensures.1 none) ∙ c.loop-word.invariant.1,
    )

pub returns-then-is_empty : goal.returns-then-is_empty
returns-then-is_empty c =
    let none : length c.loop-word.rest.now ≡ 0 = grind (arith, common_steps) in
    sym c.loop-word.invariant.1 ∙ whole_empty c.loop-word.rest.now none

pub returns : goal.returns
returns c =
    let some : 0 < length c.loop-word.rest.now = grind (arith, common_steps) in
    sym c.loop-word.invariant.1 ∙ whole_word c.loop-word.rest.now c.in_default.ensures some

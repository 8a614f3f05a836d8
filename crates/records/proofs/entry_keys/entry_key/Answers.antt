use Rattle.std.proofs.Common.{rules, ◌≡◌, ◌++◌, ◌≤◌, decimal, length, arith}
use Rattle.std.specs.Prelude.{codes}
use Rattle.records.proofs.Keys.{key_is_plain}
use Rattle.records.proofs.entry_keys.entry_key.Goals as goal

pub of_words-requires : goal.of_words-requires
of_words-requires c =
    let spelt : c.as_str.result.now ≡ (decimal c.args.item.number ++ codes " ") ++ c.args.page.now = search rules in
    let few : length c.args.page.now ≤ 1000 = grind (arith, c.if-page-gt-MAX_PAGE.false, c.as_str-page.ensures.same) in
    key_is_plain c.args.item c.args.page.now c.as_str.result.now spelt c.as_str-page.ensures.text few

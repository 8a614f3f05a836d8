use Rattle.std.proofs.Common.{◌≡◌, ◌<◌, true, false, length, rules, ap, sym, ◌∙◌, arith}
use Rattle.std.proofs.lemmas.Grind.{common_steps}
use Rattle.searching.specs.Scans.{occurs_in}
use Rattle.searching.proofs.Outcome.{one_fails}
use Rattle.searching.proofs.search.all_occur.Goals as goal

pub returns-then-not-occurs : goal.returns-then-not-occurs
returns-then-not-occurs c =
    let less : c.each.word-index < length c.args.words.now = grind (arith, common_steps) in
    let no : c.occurs.result ≡ false = search rules in
    one_fails c.args.text.now c.args.words.now c.each.word-index c.word-item.result less c.word-item.is
    (ap (λ l. occurs_in l true c.args.text.now) (sym c.deref.ensures.value) ∙ sym c.occurs.ensures ∙ no)

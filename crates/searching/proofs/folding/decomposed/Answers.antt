use Rattle.std.proofs.Common.{◌≡◌, ◌++◌, IfOk, ap, chars, ◌∙◌}
use Rattle.std.proofs.lemmas.Iterator.{items_from_collect, YieldsList-from_chars}
use Rattle.unicode_normalization.specs.Forms.{nfkd}
use Rattle.searching.proofs.folding.decomposed.Goals as goal

pub returns : goal.returns
returns c =
    let all : IfOk c.collect.result (λ v. v.items ≡ chars c.args.text.now) =
    items_from_collect c.collect.result c.collect.ensures.ran
    (YieldsList-from_chars c.args.text.now c.utf8.text c.chars.ensures.rest) in
    let these = rw c.in_ok-characters.was at all in
    c.in_ok-extend_nfkd.ensures.ok ∙ ap (λ l. l ++ nfkd c.deref.result.now) c.new-decomposed.ensures.items
    ∙ ap nfkd (c.deref.ensures.value ∙ these)

use Rattle.std.proofs.Common.{◌≡◌, ◌++◌, OnOk, subst, sym}
use Rattle.std.proofs.lemmas.List.{append-nil}
use Rattle.histories.specs.History.{back_at}
use Rattle.histories.proofs.page.push_back.Goals as goal

pub returns-in-None : goal.returns-in-None
returns-in-None c =
    let out = c.args.out.now.items in
    subst (λ o. out ≡ out ++ back_at c.args.answers c.args.number o c.args.now.now) c.in-None.ensures.value
    (sym (append-nil out))

pub returns-in-Some : goal.returns-in-Some
returns-in-Some c =
    subst (λ o. OnOk c.push_back_to.result (c.push_back_to.new.out.items
    ≡ c.args.out.now.items ++ back_at c.args.answers c.args.number o c.args.now.now)) c.in-Some.ensures.value
    c.push_back_to.ensures

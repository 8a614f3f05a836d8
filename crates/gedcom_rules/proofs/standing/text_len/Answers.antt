use Rattle.std.proofs.Common.{◌≡◌, sym, ap, subst, ℕ, List, length}
use Rattle.gedcom_line.specs.Escape.{unescaped}
use Rattle.gedcom_rules.proofs.Sizes.{no_pair}
use Rattle.gedcom_rules.proofs.standing.text_len.Goals as goal

pub returns-then-not-contains-clause-value : goal.returns-then-not-contains-clause-value
returns-then-not-contains-clause-value c =
    let same : unescaped c.args.raw.now ≡ c.args.raw.now = subst (λ (t : List ℕ). unescaped t ≡ t)
    c.as_bytes.ensures.value (no_pair c.as_bytes.result.now (sym c.if-not-contains.ensures.value)) in
    sym (ap length same)

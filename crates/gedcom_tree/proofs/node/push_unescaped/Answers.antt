use Rattle.std.proofs.Common.{◌≡◌, ℕ, List, sym, subst}
use Rattle.gedcom_line.specs.Escape.{unescaped}
use Rattle.gedcom_tree.proofs.Plain.{unescaped_plain}
use Rattle.gedcom_tree.proofs.node.push_unescaped.Goals as goal

pub returns-then-not-contains : goal.returns-then-not-contains
returns-then-not-contains c =
    let same : unescaped c.args.value.now ≡ c.args.value.now = subst (λ (t : List ℕ). unescaped t ≡ t)
    c.as_bytes.ensures.value (unescaped_plain c.as_bytes.result.now (sym c.if-not-contains.ensures.value)) in
    rw same c.in_ok-push_str.ensures.bytes

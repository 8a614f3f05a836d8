use Rattle.std.proofs.Common.{◌≡◌, ℕ, List, sym, subst, false}
use Rattle.gedcom_line.specs.Escape.{escaped}
use Rattle.gedcom_tree.proofs.Plain.{escaped_plain}
use Rattle.gedcom_tree.proofs.writing.push_part.Goals as goal

pub returns-then-not-contains : goal.returns-then-not-contains
returns-then-not-contains c =
    let same : escaped c.args.value.now ≡ c.args.value.now = subst (λ (t : List ℕ). escaped t ≡ t)
    c.as_bytes.ensures.value (escaped_plain false c.as_bytes.result.now (sym c.if-not-contains.ensures.value)) in
    rw same c.write_line.ensures.ok

use Rattle.std.proofs.Common.{sym}
use Rattle.gedcom_export.specs.Shown.{names_in}
use Rattle.gedcom_export.proofs.Parted.{simple_page}
use Rattle.gedcom_export.proofs.page.push_other_page.Goals as goal
use Rattle.list_laws.proofs.Outcomes.{ok_then}

pub returns : goal.returns
returns c = rw (sym c.other.view_is, sym c.as_str.ensures.same, sym c.deref.ensures.value)
    (ok_then c.push_carried.result
    (λ e. simple_page (names_in c.args.index.now) c.args.number _ _ _ _ _ _ c.in_ok-push_other_head.ensures e)
    c.push_carried.ensures)

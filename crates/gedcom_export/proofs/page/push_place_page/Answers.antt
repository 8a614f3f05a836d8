use Rattle.gedcom_export.specs.Shown.{names_in}
use Rattle.gedcom_export.proofs.Parted.{simple_page}
use Rattle.gedcom_export.proofs.page.push_place_page.Goals as goal
use Rattle.list_laws.proofs.Outcomes.{ok_then}

pub returns : goal.returns
returns c = ok_then c.push_place.result
    (λ e. simple_page (names_in c.args.index.now) c.args.number _ _ _ _ _ _ c.in_ok-push_head.ensures e)
    c.push_place.ensures

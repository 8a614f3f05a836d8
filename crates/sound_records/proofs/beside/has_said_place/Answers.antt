use Rattle.std.proofs.Common.{◌≡◌, ℕ, List, true, subst}
use Rattle.std.specs.Prelude.{IfSome}
use Rattle.std.specs.FinMap.{get}
use Rattle.std.specs.Bool.{Decides}
use Rattle.std.proofs.lemmas.Bool.Decides.{Decides-at}
use Rattle.record_shapes.specs.Paths.{has_part}
use Rattle.archive_state.specs.Paths.{HasPath}
use Rattle.record_rules.specs.Judged.{all_some}
use Rattle.sound_records.proofs.Judged.{said}
use Rattle.sound_records.proofs.beside.has_said_place.Goals as goal

pub returns-in-Some : goal.returns-in-Some
returns-in-Some c = λ m knows. subst
    (λ o. Decides c.is_said.result (IfSome o (λ p. (path : List ℕ) → HasPath m p path → has_part path ≡ true)))
    c.in-Some.ensures
    (Decides-at c.is_said.result (all_some has_part (get c.args.paths.now c.in-Some.place)) c.is_said.ensures
    (said m c.args.paths.now knows c.in-Some.place))

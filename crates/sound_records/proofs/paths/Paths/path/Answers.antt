use Rattle.std.proofs.Common.{sym, ap, ◌∙◌}
use Rattle.std.specs.Prelude.{Some}
use Rattle.std.specs.FinMap as map
use Rattle.archive_state.proofs.Maps.{get_lookup}
use Rattle.sound_records.proofs.paths.Paths.path.Goals as goal

pub returns-in-Some : goal.returns-in-Some
returns-in-Some c =
    ap Some (c.as_str.ensures.value ∙ c.path.view_is) ∙ c.in-Some.ensures.value
    ∙ sym (get_lookup c.self.inside.found.entries c.args.number) ∙ ap (λ m. map.get m c.args.number) c.self.view_is

pub returns-in-None : goal.returns-in-None
returns-in-None c =
    c.in-None.ensures.value ∙ sym (get_lookup c.self.inside.found.entries c.args.number)
    ∙ ap (λ m. map.get m c.args.number) c.self.view_is

use Rattle.std.proofs.Common.{◌≡◌, string_bytes, sym, ap, ◌∙◌}
use Rattle.std.specs.Prelude.{Some, option_map}
use Rattle.record_kinds.specs.Model as model
use Rattle.record_shapes.specs.Fields.{path_below}
use Rattle.archive_state.specs.Content.{Content}
use Rattle.archive_state.specs.Known.{path_of}
use Rattle.place_names.proofs.Climbed.{by_new, new_top, new_within}
use Rattle.place_names.proofs.correcting.check_name.Goals as goal

pub returns-in-None-clause-decides : goal.returns-in-None-clause-decides
returns-in-None-clause-decides g c = λ honest.
    let checked = c.check_path_of.ensures.decides honest in
    let fit = c.in_ok-check_path.ensures.decides checked.0 in (
      fit.0,
      λ held shown.
          let before : Content = g.V.View.content held in
          let one = fit.1 held shown in
          let two = checked.1 held one.0 in (
            two.0,
            by_new before c.args.number c.args.place.now c.as_str-in-None.result.now c.check_path_of.result
                (new_top before c.args.place.now c.as_str-in-None.result.now
                (sym (ap (λ (p : model.Place). p.parent) c.place.view_is) ∙ c.in-None.is)
                (c.as_str-in-None.ensures.same ∙ ap (λ (p : model.Place). p.name) c.place.view_is)) two.1,
          ),
    )

pub returns-in_ok-path-in-Some-2-clause-decides : goal.returns-in_ok-path-in-Some-2-clause-decides
returns-in_ok-path-in-Some-2-clause-decides g c = λ honest.
    let checked = c.check_path_of-in-Some-2.ensures.decides honest in
    let found = c.in_ok-path_at-in-Some.ensures.shows checked.0 in
    let fit = c.in_ok-check_path.ensures.decides found.0 in (
      fit.0,
      λ held shown.
          let before : Content = g.V.View.content held in
          let one = fit.1 held shown in
          let two = found.1 held one.0 in
          let three = checked.1 held two.0 in
          let above : Some (string_bytes c.in-Some-2.above) ≡ path_of before.records c.in-Some.parent =
          ap (option_map (λ s. string_bytes s)) (sym c.in-Some-2.is) ∙ two.1 in
          let name : c.as_str-in-Some-2.result.now ≡ c.args.place.now.name =
          c.as_str-in-Some-2.ensures.same ∙ ap (λ (p : model.Place). p.name) c.place.view_is in
          let made : c.as_str-in-Some-2-3.result.now
          ≡ path_below c.args.place.now.name (string_bytes c.in-Some-2.above) =
          c.as_str-in-Some-2-3.ensures.value ∙ c.in_ok-path-in-Some-2.ensures
          ∙ ap (λ x. path_below x c.as_str-in-Some-2-2.result.now) name
          ∙ ap (path_below c.args.place.now.name) c.as_str-in-Some-2-2.ensures.value in (
            three.0,
            by_new before c.args.number c.args.place.now c.as_str-in-Some-2-3.result.now
                c.check_path_of-in-Some-2.result
                (new_within before c.args.place.now c.in-Some.parent (string_bytes c.in-Some-2.above)
                c.as_str-in-Some-2-3.result.now
                (sym (ap (λ (p : model.Place). p.parent) c.place.view_is) ∙ c.in-Some.is) above made) three.1,
          ),
    )

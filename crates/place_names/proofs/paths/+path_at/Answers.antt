use Rattle.std.proofs.Common.{◌≡◌, string_bytes, sym, ap, ◌∙◌}
use Rattle.std.specs.Prelude.{Some, None, option_map}
use Rattle.record_kinds.specs.Model as model
use Rattle.record_shapes.specs.Fields.{path_below}
use Rattle.archive_state.specs.Content.{Records}
use Rattle.archive_state.specs.Known.{path_of}
use Rattle.place_names.specs.Naming.{place_in}
use Rattle.place_names.proofs.Climbed.{path_not_below, path_within}
use Rattle.place_names.proofs.paths.+path_at.Goals as goal

-- src/paths.rt:34:9
pub returns-then-parent-number-clause-shows : goal.returns-then-parent-number-clause-shows
returns-then-parent-number-clause-shows g t c = λ honest.
    let seen = c.in_ok-record_at.ensures.shows honest in (
      seen.0,
      λ held shown.
          let m : Records = (g.V.View.content held).records in
          let at = seen.1 held shown in
          let within : c.in-Some.place.parent ≡ Some c.in-Some-parent.parent =
          sym (ap (λ (p : model.Place). p.parent) c.place.view_is) ∙ c.in-Some-parent.is in (
            at.0,
            path_not_below m c.args.number c.in-Some.place c.in-Some-parent.parent
                (sym (ap place_in at.1) ∙ sym c.in-Some.ensures) within c.if-parent-number.true,
          ),
    )

-- src/paths.rt:26:1
pub returns-in-Some-2-clause-shows : goal.returns-in-Some-2-clause-shows
returns-in-Some-2-clause-shows g t c = λ honest.
    let up = c.in_ok-above.ensures.shows honest in
    let seen = c.in_ok-record_at.ensures.shows up.0 in (
      seen.0,
      λ held shown.
          let m : Records = (g.V.View.content held).records in
          let at = seen.1 held shown in
          let found = up.1 held at.0 in
          let within : c.in-Some.place.parent ≡ Some c.in-Some-parent.parent =
          sym (ap (λ (p : model.Place). p.parent) c.place.view_is) ∙ c.in-Some-parent.is in
          let above : Some (string_bytes c.in-Some-2.above) ≡ path_of m c.in-Some-parent.parent =
          ap (option_map (λ s. string_bytes s)) (sym c.in-Some-2.is) ∙ found.1 in
          let name : c.as_str-in-Some-2.result.now ≡ c.in-Some.place.name =
          c.as_str-in-Some-2.ensures.same ∙ ap (λ (p : model.Place). p.name) c.place.view_is in
          let made : string_bytes c.in_ok-path_below-in-Some-2.field-0
          ≡ path_below c.in-Some.place.name (string_bytes c.in-Some-2.above) =
          c.in_ok-path_below-in-Some-2.ensures
          ∙ ap (λ x. path_below x c.as_str-in-Some-2-2.result.now) name
          ∙ ap (path_below c.in-Some.place.name) c.as_str-in-Some-2-2.ensures.value in (
            found.0,
            ap Some made
                ∙ path_within m c.args.number c.in-Some.place c.in-Some-parent.parent
                (Some (string_bytes c.in-Some-2.above)) (sym (ap place_in at.1) ∙ sym c.in-Some.ensures) within
                c.if-parent-number.false above,
          ),
    )

-- src/paths.rt:17:1
pub returns-clause-shows : goal.returns-clause-shows
returns-clause-shows g t c = λ honest.
    let up = c.in_ok-above.ensures.shows honest in
    let seen = c.in_ok-record_at.ensures.shows up.0 in (
      seen.0,
      λ held shown.
          let m : Records = (g.V.View.content held).records in
          let at = seen.1 held shown in
          let found = up.1 held at.0 in
          let within : c.in-Some.place.parent ≡ Some c.in-Some-parent.parent =
          sym (ap (λ (p : model.Place). p.parent) c.place.view_is) ∙ c.in-Some-parent.is in
          let above : None ≡ path_of m c.in-Some-parent.parent =
          ap (option_map (λ s. string_bytes s)) (sym c.in-None.is) ∙ found.1 in (
            found.0,
            path_within m c.args.number c.in-Some.place c.in-Some-parent.parent None
                (sym (ap place_in at.1) ∙ sym c.in-Some.ensures) within c.if-parent-number.false above,
          ),
    )

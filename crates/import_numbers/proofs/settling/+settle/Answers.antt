use Rattle.std.proofs.Common.{◌≡◌, rules, sym, ap, ◌∙◌, arith}
use Rattle.std.specs.Prelude.{Some, None, option_map}
use Rattle.record_shapes.specs.Paths.{normal}
use Rattle.import_definitions.specs.Numbers.{find, made_within, names_of, settle}
use Rattle.import_numbers.specs.Settling.{IsPathText}
use Rattle.import_numbers.specs.Views.{drawing_said, found_said, places_of, under}
use Rattle.import_numbers.proofs.Cutting.{behind_is_path, front_is_path, path_is_plain, shorter}
use Rattle.import_numbers.proofs.Settled.{
  alone,
  below,
  find_same,
  is_found,
  makes,
  no_failure,
  ok_all,
  refused,
  refuses,
}
use Rattle.import_numbers.proofs.settling.+settle.Goals as goal

pub find-requires : goal.find-requires
find-requires g t c =
    let asked : IsPathText c.args.text.now = search rules in
    path_is_plain c.args.text.now c.as_str-2.result.now (c.as_str-2.ensures.value ∙ c.in_ok-path.ensures) asked

pub returns-in-Some-clause-settles : goal.returns-in-Some-clause-settles
returns-in-Some-clause-settles g t c = λ h.
    let s = c.in_ok-found.ensures.finds h in (
      s.0,
      λ held sh.
          let u = s.1 held sh in (
            u.0,
            λ knows.
                let l = u.1 knows in
                let d = drawing_said c.args.drawing.now in
                let w = places_of (g.V.View.content held) c.args.file.now in
                let is : find w c.args.spot.before d.made (normal c.args.text.now) ≡ Some (found_said c.in-Some.found) =
                sym (find_same w c.args.spot.before d.made c.made-made.result c.as_str-2.result.now
                (normal c.args.text.now) (c.as_str-2.ensures.value ∙ c.in_ok-path.ensures)
                (c.made-made.ensures ∙ ap (under c.args.drawing.now.made)
                (c.as_str.ensures.value ∙ c.in_ok-path.ensures)))
                ∙ sym l.1 ∙ ap (option_map found_said) c.in-Some.is in (
                  is_found w c.args.spot.before c.args.spot.position c.args.text.now d (found_said c.in-Some.found) is,
                  l.0,
                ),
          ),
    )

pub make-requires : goal.make-requires
make-requires g t c =
    let asked : IsPathText c.args.text.now = search rules in
    path_is_plain c.args.text.now c.as_str-in_default-cut-2.result.now
    (c.as_str-in_default-cut-2.ensures.value ∙ c.in_ok-path.ensures) asked

pub returns-in_default-cut-clause-settles : goal.returns-in_default-cut-clause-settles
returns-in_default-cut-clause-settles g t c = λ h.
    let s = c.in_ok-found.ensures.finds h in (
      s.0,
      λ held sh.
          let u = s.1 held sh in (
            u.0,
            λ knows.
                let l = u.1 knows in
                let d = drawing_said c.args.drawing.now in
                let k = c.args.spot.position in
                let before = c.args.spot.before in
                let text = c.args.text.now in
                let w = places_of (g.V.View.content held) c.args.file.now in
                let none : find w before d.made (normal text) ≡ None =
                sym (find_same w before d.made c.made-made.result c.as_str-2.result.now (normal text)
                (c.as_str-2.ensures.value ∙ c.in_ok-path.ensures)
                (c.made-made.ensures ∙ ap (under c.args.drawing.now.made)
                (c.as_str.ensures.value ∙ c.in_ok-path.ensures)))
                ∙ sym l.1 ∙ ap (option_map found_said) c.in_default.is in
                let p : normal text ≡ c.as_str-in_default-cut.result.now =
                sym (c.as_str-in_default-cut.ensures.value ∙ c.in_ok-path.ensures) in
                let q : normal text ≡ c.as_str-in_default-cut-2.result.now =
                sym (c.as_str-in_default-cut-2.ensures.value ∙ c.in_ok-path.ensures) in
                let e = alone w before k text d none c.in_default-cut.ensures
                ∙ (λ i. made_within (p i) (q i) (d, None)) in (
                  makes (settle w before k (names_of text) d) c.as_str-in_default-cut.result.now
                      c.as_str-in_default-cut-2.result.now (d, None) e c.make.new.self c.make.result
                      c.make.ensures.made c.make.ensures.number,
                  ok_all l.0 c.make.result,
                ),
          ),
    )

pub returns-in_default-cut-clause-counts : goal.returns-in_default-cut-clause-counts
returns-in_default-cut-clause-counts g t c = no_failure (g.V.View.failed c.args.view.now)
    (g.V.View.failed c.find.new.view) _ c.make.result c.in_ok-found.ensures.counts.0 c.make.ensures.own

pub settle-requires : goal.settle-requires
settle-requires g t c κs within =
    let asked : IsPathText c.args.text.now = search rules in (
      omega (arith, shorter c.args.text.now c.in-Some-cut.part.now c.in-Some-cut.after.now c.in-Some-cut.ensures.0),
      (
        search rules,
        behind_is_path c.args.text.now c.in-Some-cut.part.now c.in-Some-cut.after.now c.in-Some-cut.ensures.0
            c.in-Some-cut.ensures.1 asked,
      ),
    )

pub returns-in_err-above-clause-settles : goal.returns-in_err-above-clause-settles
returns-in_err-above-clause-settles g t c = λ h.
    let r = c.in_err-above.ensures.settles h in
    let s = c.in_ok-found.ensures.finds r.0 in (
      s.0,
      λ held sh.
          let u = s.1 held sh in
          let v = r.1 held u.0 in (
            v.0,
            λ knows.
                let l = u.1 knows in
                let z = v.1 l.0 in
                let d = drawing_said c.args.drawing.now in
                let k = c.args.spot.position in
                let before = c.args.spot.before in
                let text = c.args.text.now in
                let part = c.in-Some-cut.part.now in
                let after = c.in-Some-cut.after.now in
                let w = places_of (g.V.View.content held) c.args.file.now in
                let none : find w before d.made (normal text) ≡ None =
                sym (find_same w before d.made c.made-made.result c.as_str-2.result.now (normal text)
                (c.as_str-2.ensures.value ∙ c.in_ok-path.ensures)
                (c.made-made.ensures ∙ ap (under c.args.drawing.now.made)
                (c.as_str.ensures.value ∙ c.in_ok-path.ensures)))
                ∙ sym l.1 ∙ ap (option_map found_said) c.in_default.is in
                let b : Some k ≡ c.above.result.before = sym c.above.ensures.1 in
                let j : k ≡ c.above.result.position = sym c.above.ensures.0 in
                let e = below w before k text d none part after c.in-Some-cut.ensures.0 c.in-Some-cut.ensures.1
                ∙ (λ i. made_within (normal text) (normal part) (settle w (b i) (j i) (names_of after) d)) in
                refused (settle w before k (names_of text) d) c.settle.new.drawing _ c.in_err-above.field-0.0
                c.from_residual-in_err-above.result (search rules)
                (refuses (settle w before k (names_of text) d) (normal text) (normal part)
                (settle w c.above.result.before c.above.result.position (names_of after) d) e c.settle.new.drawing
                c.settle.new.drawing c.in_err-above.field-0.0 z.0),
          ),
    )

pub make_within-requires : goal.make_within-requires
make_within-requires g t c =
    let asked : IsPathText c.args.text.now = search rules in
    front_is_path c.args.text.now c.in-Some-cut.part.now c.in-Some-cut.after.now c.in-Some-cut.ensures.0
    c.in-Some-cut.ensures.1 asked

pub returns-clause-settles : goal.returns-clause-settles
returns-clause-settles g t c = λ h.
    let r = c.in_ok-above.ensures.settles h in
    let s = c.in_ok-found.ensures.finds r.0 in (
      s.0,
      λ held sh.
          let u = s.1 held sh in
          let v = r.1 held u.0 in (
            v.0,
            λ knows.
                let l = u.1 knows in
                let z = v.1 l.0 in
                let d = drawing_said c.args.drawing.now in
                let mid = drawing_said c.settle.new.drawing in
                let k = c.args.spot.position in
                let before = c.args.spot.before in
                let text = c.args.text.now in
                let part = c.in-Some-cut.part.now in
                let after = c.in-Some-cut.after.now in
                let w = places_of (g.V.View.content held) c.args.file.now in
                let none : find w before d.made (normal text) ≡ None =
                sym (find_same w before d.made c.made-made.result c.as_str-2.result.now (normal text)
                (c.as_str-2.ensures.value ∙ c.in_ok-path.ensures)
                (c.made-made.ensures ∙ ap (under c.args.drawing.now.made)
                (c.as_str.ensures.value ∙ c.in_ok-path.ensures)))
                ∙ sym l.1 ∙ ap (option_map found_said) c.in_default.is in
                let b : Some k ≡ c.above.result.before = sym c.above.ensures.1 in
                let j : k ≡ c.above.result.position = sym c.above.ensures.0 in
                let p : normal text ≡ c.as_str-3.result.now = sym (c.as_str-3.ensures.value ∙ c.in_ok-path.ensures) in
                let e = below w before k text d none part after c.in-Some-cut.ensures.0 c.in-Some-cut.ensures.1
                ∙ (λ i. made_within (p i) (normal part) (settle w (b i) (j i) (names_of after) d))
                ∙ (λ i. made_within c.as_str-3.result.now (normal part) (z.0.0 i, z.0.1 i)) in (
                  makes (settle w before k (names_of text) d) c.as_str-3.result.now (normal part)
                      (mid, Some (found_said c.in_ok-above.above)) e c.make_within.new.drawing c.make_within.result
                      c.make_within.ensures.made c.make_within.ensures.number,
                  ok_all z.1 c.make_within.result,
                ),
          ),
    )

pub returns-clause-counts : goal.returns-clause-counts
returns-clause-counts g t c =
    let a = c.in_ok-found.ensures.counts.0 in
    let b = c.in_ok-above.ensures.counts.0 in
    no_failure (g.V.View.failed c.args.view.now) (g.V.View.failed c.settle.new.view) _ c.make_within.result
    (omega arith) c.make_within.ensures.own

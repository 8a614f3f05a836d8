use Rattle.std.proofs.Common.{◌∙◌, ◌<◌, List, ap, arith, get_or, length, sym, ℕ}
use Rattle.std.specs.Prelude.{Option}
use Rattle.csv.specs.Records.{fields_of}
use Rattle.row_references.specs.References.{kept_number, numbered_at}
use Rattle.row_references.proofs.InPlace.{fills_more, one_more}
use Rattle.row_references.proofs.numbering.numbered_in.Goals as goal

pub each-preserved : goal.each-preserved
each-preserved g c =
    let ns = c.args.places.now in
    let i = c.each.at-index in
    let less : i < length ns = c.each-test.true in
    record {
      shown = λ honest.
          let one = c.in_ok-found.ensures.shows honest in
          let was = c.each.invariant.shown one.0 in (
            was.0,
            λ held shows.
                let a = was.1 held shows in
                let b = one.1 held a.0 in
                let known = kept_number (g.V.View.content held) in (
                  b.0,
                  b.1 ∙ ap (λ (o : Option (List (List ℕ))). numbered_at known o (get_or ns i 0)) a.1
                      ∙ sym (one_more known (fields_of c.args.row) ns i less),
                ),
          );
      form = fills_more ns i _ _ _ less c.each.invariant.form c.in_ok-found.ensures.form;
      counted = omega (arith, c.each.invariant.counted, c.in_ok-found.ensures.counts.0);
    }

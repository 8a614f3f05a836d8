use Rattle.std.proofs.Common.{◌≡◌, ap, ◌∙◌}
use Rattle.import_definitions.specs.Made.{lowest_place}
use Rattle.import_definitions.proofs.Lowest.{lowest_is}
use Rattle.import_numbers.proofs.Kept.{knows_more}
use Rattle.import_numbers.proofs.finding.Looks.look.Goals as goal

pub returns-clause-finds : goal.returns-clause-finds
returns-clause-finds g c = λ h.
    let s = c.in_ok-found.ensures.shows h in (
      s.0,
      λ held sh.
          let t = s.1 held sh in
          let m = (g.V.View.content held).records in
          let is : c.in_ok-found.found ≡ lowest_place m c.args.path.now =
          lowest_is m _ c.in_ok-found.found t.1 ∙ ap (lowest_place m) c.in_ok-text.ensures in (
            t.0,
            λ knows. (
              knows_more c.args.self.now.found c.keep.new.self.found (g.V.View.content held) c.args.path.now
                  c.in_ok-found.found c.in_ok-keep.ensures is knows,
              is,
            ),
          ),
    )

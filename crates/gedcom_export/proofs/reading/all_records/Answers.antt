use Rattle.std.proofs.Common.{ap, ◌∙◌}
use Rattle.std.specs.FinMap.{get}
use Rattle.archive_state.specs.Content.{Records}
use Rattle.gedcom_export.specs.Kept.{kept_of}
use Rattle.gedcom_export.proofs.Keeping.{all_read, looked_then}
use Rattle.gedcom_export.proofs.reading.all_records.Goals as goal

pub returns-clause-shows : goal.returns-clause-shows
returns-clause-shows g c = λ honest.
    let read = c.records_of.ensures.shows honest in
    let numbers = c.in_ok-numbers.ensures.shows read.0 in (
      numbers.0,
      λ held shown.
          let listed = numbers.1 held shown in
          let kept = read.1 held listed.0 in
          let m : Records = (g.V.View.content held).records in (
            kept.0,
            looked_then c.records_of.result (λ s same. same
                ∙ ap (kept_of (get m)) (c.deref.ensures.value ∙ listed.1) ∙ all_read m) kept.1,
          ),
    )

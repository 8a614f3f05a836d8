use Rattle.import_commits.proofs.Imports.{links_from_it, not_seen, still_open}
use Rattle.import_commits.proofs.laws.an_import_that_is_begun_can_be_taken_out.Goals as goal
use Rattle.staging.proofs.Seen.{aside_seen}

pub returns : goal.returns
returns c = λ before rows i content begun fresh adds means.
    let apart = c.numbers_of_an_import_have_no_record.ensures i.changes.puts before content adds.free means in (
      aside_seen _ before rows
          (not_seen before rows i content begun fresh adds c.an_open_import_is_not_seen.ensures apart) apart,
      still_open before rows i content begun fresh adds,
      links_from_it before rows i content begun fresh adds c.links_of_an_import_are_from_its_numbers.ensures,
    )

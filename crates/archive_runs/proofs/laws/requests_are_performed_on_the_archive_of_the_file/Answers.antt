use Rattle.archive_runs.proofs.laws.requests_are_performed_on_the_archive_of_the_file.Goals as goal

pub returns : goal.returns
returns g c = λ image taken new calls held all clean society content t holds is.
    let did = all clean held.ready in
    let has = (held.has did.clean society content t holds is).0 in
    ((λ none. did.done none society content has), did.crash society content has)

use Rattle.archive_runs.proofs.laws.an_export_is_of_the_archive_of_the_file.Goals as goal

pub returns : goal.returns
returns g c = λ image taken new before after held whole clean society content t holds is.
    let at = whole clean in
    at.1 society content (held.has at.0 society content t holds is).0

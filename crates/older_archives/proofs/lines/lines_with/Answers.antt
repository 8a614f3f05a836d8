use Rattle.std.proofs.Common.{sym, ap, ◌∙◌}
use Rattle.std.specs.Prelude.{Some}
use Rattle.std.proofs.lemmas.Option.{slice_get-get_or}
use Rattle.older_archives.proofs.ChangedLines.{made}
use Rattle.older_archives.proofs.lines.lines_with.Goals as goal

pub returns : goal.returns
returns c = made c.args.at c.args.text c.args.lines.now c.in-Some.line.now c.in_ok-line_with.field-0
    c.new-with.result.items c.push_copies-2.new.out.items c.push.new.self.items c.push_copies-3.new.out.items
    (slice_get-get_or c.args.lines.now c.args.at c.in-Some.line.now c.in-Some.ensures.lookup.3.0
    ∙ ap Some (sym c.in-Some.ensures.lookup.1)) c.new-with.ensures.items c.in_ok-push_copies-2.ensures
    c.in_ok-line_with.ensures c.in_ok-push.ensures.items c.in_ok-push_copies-3.ensures

use Rattle.std.proofs.Common.{◌≡◌, ap, ap₂, length, min, rules, take, ◌∙◌}
use Rattle.staging.specs.Opened.{links_written}
use Rattle.staging.proofs.Written.{written_are}
use Rattle.staging.proofs.opened.OpenImport.links.Goals as goal

pub returns : goal.returns
returns c =
    let import = c.self.inside in
    let same : c.as_slice-all.result.now ≡ import.later.links.items = search rules in
    let count : c.min.result ≡ min import.cursor.links (length import.later.links.items) = c.min.ensures
    ∙ ap (λ ls. min import.cursor.links (length ls)) same in
    ap₂ take count same
    ∙ written_are import.batch import.changes.puts import.later import.cursor c.self.invariant.2.links
    ∙ ap links_written c.self.view_is

use Rattle.std.proofs.Common.{◌++◌, ap, append_assoc, string_bytes, ◌∙◌}
use Rattle.std.proofs.lemmas.Result.{on_ok_weaker}
use Rattle.std.specs.Prelude.{codes}
use Rattle.record_kinds.specs.Model as model
use Rattle.sheet_lines.specs.Lines.{title_words}
use Rattle.searching.proofs.lines.push_repo.Goals as goal

pub returns : goal.returns
returns c = on_ok_weaker c.push_named.result (λ e. e
    ∙ ap (λ (r : model.Repo). string_bytes c.push_str.new.self ++ title_words r.name) c.repo.view_is
    ∙ ap (λ l. l ++ title_words c.args.repo.now.name) c.in_ok-push_str.ensures.bytes
    ∙ append_assoc (string_bytes c.args.out.now) (codes "repository  ") (title_words c.args.repo.now.name))
    c.push_named.ensures

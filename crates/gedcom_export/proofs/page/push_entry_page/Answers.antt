use Rattle.std.proofs.Common.{◌++◌, [], ap, codes, string_bytes, List, ℕ, ◌∙◌}
use Rattle.stored_lines.specs.declared.carried.Value.TheVariants as value
use Rattle.record_fields.specs.Words.{entry_kind_word}
use Rattle.record_kinds.specs.Model as model
use Rattle.record_shapes.specs.Shapes.{line}
use Rattle.node_writing.specs.Pages.{record_page}
use Rattle.gedcom_export.specs.Shown.{names_in}
use Rattle.gedcom_export.proofs.Parted.{simple_page}
use Rattle.gedcom_export.proofs.page.push_entry_page.Goals as goal
use Rattle.list_laws.proofs.Outcomes.{ok_then}

pub returns : goal.returns
returns c =
    let names = names_in c.args.index.now in
    let head = c.in_ok-push_head.ensures
    ∙ ap (λ (w : List ℕ). string_bytes c.args.text.now
    ++ record_page names c.args.number (line (codes "_REG") (value.Text w) []))
    (c.as_str.ensures ∙ ap (λ (e : model.Entry). entry_kind_word e.kind) c.entry.view_is) in
    ok_then c.push_entry.result (λ e. simple_page names c.args.number _ _ _ _ _ _ head e) c.push_entry.ensures

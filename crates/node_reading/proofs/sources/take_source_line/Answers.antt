use Rattle.std.proofs.Common.{◌≡◌, ◌∷◌, false, sym, ap, ◌∙◌}
use Rattle.record_kinds.specs.Model as model
use Rattle.record_shapes.specs.Fields.{a_holding, a_publisher, a_title, an_author, is_same, source_field}
use Rattle.node_reading.specs.Partly.{source_with}
use Rattle.node_reading.proofs.Picked.{is_first}
use Rattle.node_reading.proofs.Steps.{source_carried}
use Rattle.node_reading.proofs.sources.take_source_line.Goals as goal

pub returns : goal.returns
returns c = λ known ts e.
    let old : model.Source = record {
      title = c.source.inside.title;
      author = c.source.inside.author;
      publisher = c.source.inside.publisher;
      holdings = c.source.inside.holdings.items;
      carried = c.source.inside.carried.items;
    } in
    let title : is_first (source_field known c.args.line) a_title old.title ≡ false =
    ap (λ y. is_first y a_title old.title) (sym e) ∙ sym c.is_first.ensures ∙ c.if-is_first.false in
    let author : is_first (source_field known c.args.line) an_author old.author ≡ false =
    ap (λ y. is_first y an_author old.author) (sym e) ∙ sym c.is_first-2.ensures ∙ c.if-is_first-2.false in
    let publisher : is_first (source_field known c.args.line) a_publisher old.publisher ≡ false =
    ap (λ y. is_first y a_publisher old.publisher) (sym e) ∙ sym c.is_first-3.ensures ∙ c.if-is_first-3.false in
    let holding : is_same (source_field known c.args.line) a_holding ≡ false =
    ap (λ y. is_same y a_holding) (sym e) ∙ sym c.is_same.ensures ∙ c.if-is_same.false in
    ap (λ l. source_with known (record {
      title = old.title;
      author = old.author;
      publisher = old.publisher;
      holdings = old.holdings;
      carried = l;
    }) ts) c.in_ok-push-2.ensures.items ∙ source_carried known old c.args.line title author publisher holding ts
    ∙ ap (λ (x : model.Source). source_with known x (c.args.line ∷ ts)) c.source.view_is

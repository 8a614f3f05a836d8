use Rattle.std.proofs.Common.{◌≡◌, ◌∷◌, false, sym, ap, ◌∙◌}
use Rattle.record_kinds.specs.Model as model
use Rattle.record_shapes.specs.Fields.{a_page, a_quality, citation_field}
use Rattle.node_reading.specs.Partly.{citation_with}
use Rattle.node_reading.proofs.Picked.{is_first}
use Rattle.node_reading.proofs.Steps.{citation_carried}
use Rattle.node_reading.proofs.sources.take_citation_line.Goals as goal

pub returns : goal.returns
returns c = λ ts.
    let old : model.Citation = record {
      owner = c.citation.inside.owner;
      source = c.citation.inside.source;
      page = c.citation.inside.page;
      quality = c.citation.inside.quality;
      carried = c.citation.inside.carried.items;
    } in
    let page : is_first (citation_field c.args.line) a_page old.page ≡ false =
    ap (λ y. is_first y a_page old.page) (sym c.citation_field-field.ensures) ∙ sym c.is_first.ensures
    ∙ c.if-is_first.false in
    let quality : is_first (citation_field c.args.line) a_quality old.quality ≡ false =
    ap (λ y. is_first y a_quality old.quality) (sym c.citation_field-field.ensures) ∙ sym c.is_first-2.ensures
    ∙ c.if-is_first-2.false in
    ap (λ l. citation_with (record {
      owner = old.owner;
      source = old.source;
      page = old.page;
      quality = old.quality;
      carried = l;
    }) ts) c.in_ok-push.ensures.items ∙ citation_carried old c.args.line page quality ts
    ∙ ap (λ (x : model.Citation). citation_with x (c.args.line ∷ ts)) c.citation.view_is

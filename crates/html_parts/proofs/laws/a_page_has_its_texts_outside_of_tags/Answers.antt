use Rattle.std.proofs.Common.{ap, sym, ◌∙◌, map}
use Rattle.std.proofs.lemmas.List.Folds.{flat_map-map}
use Rattle.html_text.specs.Outside.{outside, words_of}
use Rattle.html_text.specs.Pages.{piece_text}
use Rattle.html_parts.specs.Parts.{piece_of}
use Rattle.html_parts.proofs.laws.a_page_has_its_texts_outside_of_tags.Goals as goal

pub returns : goal.returns
returns c parts = ap outside (sym (flat_map-map piece_text piece_of parts))
    ∙ c.a_page_has_its_texts_outside_of_tags.ensures (map piece_of parts) ∙ flat_map-map words_of piece_of parts

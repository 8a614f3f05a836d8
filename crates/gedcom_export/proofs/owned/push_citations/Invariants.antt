use Rattle.std.proofs.Common.{◌≡◌, ◌++◌, drop, string_bytes}
use Rattle.std.specs.List.{flat_map}
use Rattle.node_writing.specs.Pages.{page}
use Rattle.gedcom_export.specs.Shown.{names_in}
use Rattle.gedcom_export.proofs.Lines.{cited}
use Rattle.gedcom_export.proofs.owned.push_citations.Given as goal

abbrev pub invariant-citations : goal.invariant-citations
invariant-citations l = string_bytes l.text ++ page (names_in l.index) l.level
    (flat_map (cited l.state.records) (drop l.citation-index l.citations))
    ≡ string_bytes l.fn.text ++ page (names_in l.index) l.level (flat_map (cited l.state.records) l.citations)

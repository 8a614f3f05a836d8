use Rattle.std.proofs.Common.{◌≡◌, ◌++◌, take, string_bytes}
use Rattle.std.specs.FinMap as map
use Rattle.std.specs.List.{flat_map}
use Rattle.gedcom_export.specs.declared.index_owned.Owned as owned
use Rattle.sheets.specs.Owned as texts
use Rattle.sheets.proofs.events.push_citations.Given as goal

abbrev pub invariant-citations : goal.invariant-citations
invariant-citations l =
    string_bytes l.out
    ≡ string_bytes l.fn.out ++ flat_map
    (λ (o : owned.Owned). texts.citation_in l.word (map.get l.state.records o.number))
    (take l.citation-index l.citations)

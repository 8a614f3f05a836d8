use Rattle.gedcom_export.specs.Shown.{names_in}
use Rattle.gedcom_export.proofs.Lines.{cited, cited_all, lines_done, then_lines}
use Rattle.gedcom_export.proofs.owned.push_citations.Goals as goal

pub citations-preserved : goal.citations-preserved
citations-preserved c = then_lines (names_in c.args.index.now) c.args.level (cited c.args.state.now.records)
    c.args.citations.now c.citations.citation-index (record { owner = 0; number = 0 }) _ _ _
    c.citations-test.true c.in_ok-push_citation_at.ensures c.citations.invariant

pub returns : goal.returns
returns c = lines_done (names_in c.args.index.now) c.args.level (cited c.args.state.now.records)
    c.args.citations.now c.citations.citation-index _ _ _ c.citations-test.false c.citations.invariant
    (cited_all c.args.state.now.records c.args.citations.now)

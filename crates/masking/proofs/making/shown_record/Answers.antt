use Rattle.std.proofs.Common.{◌≡◌, sym, subst}
use Rattle.std.specs.Prelude.{IfOk}
use Rattle.record_kinds.specs.declared.record.Record.{Record}
use Rattle.masking.specs.Judged.{KnowsSilent}
use Rattle.masking.specs.Showing.{shown_record}
use Rattle.masking.proofs.making.shown_record.Goals as goal

pub returns-in-Citation : goal.returns-in-Citation
returns-in-Citation c =
    let j = c.args.judgement.now in
    subst (λ (f : Record). KnowsSilent c.args.state.now.records j.living j.silent
    → IfOk c.citation_shown.result (λ o. o ≡ shown_record c.args.state.now.records j.living j.open_entries
    c.args.number f)) (sym c.in-Citation.is) (c.citation_shown.ensures c.args.number)

pub returns-in-Event : goal.returns-in-Event
returns-in-Event c =
    let j = c.args.judgement.now in
    subst (λ (f : Record). KnowsSilent c.args.state.now.records j.living j.silent
    → IfOk c.event_shown.result (λ o. o ≡ shown_record c.args.state.now.records j.living j.open_entries
    c.args.number f)) (sym c.in-Event.is) (c.event_shown.ensures c.args.state.now.records c.args.number)

pub returns-in-Entry : goal.returns-in-Entry
returns-in-Entry c =
    let j = c.args.judgement.now in
    subst (λ (f : Record). KnowsSilent c.args.state.now.records j.living j.silent
    → IfOk c.entry_shown.result (λ o. o ≡ shown_record c.args.state.now.records j.living j.open_entries
    c.args.number f)) (sym c.in-Entry.is) (λ knows. c.entry_shown.ensures c.args.state.now.records)

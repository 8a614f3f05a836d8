use Rattle.std.proofs.Common.{take}
use Rattle.std.specs.FinMap as map
use Rattle.masking.specs.Judged.{KnowsSilent}
use Rattle.masking.specs.Showing.{shown_there}
use Rattle.masking.proofs.Among.{AreShown}
use Rattle.masking.proofs.making.shown_records.Given as goal

abbrev pub invariant-numbers : goal.invariant-numbers
invariant-numbers l = KnowsSilent l.state.records l.judgement.living l.judgement.silent
    → AreShown (shown_there l.state.records l.judgement.living l.judgement.open_entries)
    (take l.number-index (map.keys l.state.records)) l.masked.records

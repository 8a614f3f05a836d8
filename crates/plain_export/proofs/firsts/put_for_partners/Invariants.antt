use Rattle.std.proofs.Common.{take, map}
use Rattle.std.specs.BTreeMap.{get_by_text}
use Rattle.std.specs.List.{flat_map}
use Rattle.record_kinds.specs.Model as model
use Rattle.plain_export.specs.Firsts.{Adds, marks_of}
use Rattle.plain_export.proofs.firsts.put_for_partners.Given as goal

abbrev pub invariant-partners : goal.invariant-partners
invariant-partners l = Adds (get_by_text l.fn.numbers) (get_by_text l.numbers)
    (flat_map (marks_of l.number l.event) (map (λ (p : model.Partner). p.person) (take l.partner-index l.partners)))

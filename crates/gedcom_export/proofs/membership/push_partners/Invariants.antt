use Rattle.std.proofs.Common.{◌≡◌, ◌++◌, take}
use Rattle.gedcom_export.specs.Adding.{partners_of}
use Rattle.gedcom_export.proofs.membership.push_partners.Given as goal

abbrev pub invariant-partners : goal.invariant-partners
invariant-partners l = l.sides.items ≡ l.fn.sides.items ++ partners_of l.family (take l.partner-index l.partners)

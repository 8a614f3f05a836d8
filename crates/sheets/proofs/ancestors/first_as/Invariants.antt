use Rattle.std.proofs.Common.{◌≡◌, drop}
use Rattle.sheets.specs.Pedigrees as pedigrees
use Rattle.sheets.proofs.ancestors.first_as.Given as goal

abbrev pub invariant-partners : goal.invariant-partners
invariant-partners l = pedigrees.first_as l.partnership (drop l.partner-index l.partners)
    ≡ pedigrees.first_as l.partnership l.partners

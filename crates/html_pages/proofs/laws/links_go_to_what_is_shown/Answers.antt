use Rattle.html_pages.proofs.Leading.{family_leads, person_leads}
use Rattle.html_pages.proofs.LeadingUp.{pedigree_leads}
use Rattle.html_pages.proofs.laws.links_go_to_what_is_shown.Goals as goal

pub returns : goal.returns
returns c = record { person = person_leads; family = family_leads; pedigree = pedigree_leads }

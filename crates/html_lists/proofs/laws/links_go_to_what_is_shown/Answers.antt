use Rattle.html_lists.proofs.Leading.{home_leads, register_leads, search_leads, surname_leads}
use Rattle.html_lists.proofs.laws.links_go_to_what_is_shown.Goals as goal

pub returns : goal.returns
returns c = record {
  home = home_leads;
  register = register_leads;
  surname = surname_leads;
  search = search_leads;
}

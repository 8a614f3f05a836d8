use Rattle.std.proofs.Common.{◌∙◌, sym}
use Rattle.room_requests.proofs.Routing.{no_page, page_found}
use Rattle.room_requests.proofs.page.find_page.Goals as goal

pub returns-in-Some : goal.returns-in-Some
returns-in-Some c =
    c.page_at.ensures ∙ page_found c.args.path.now c.in-Some.route (sym c.in_ok-route.ensures ∙ c.in-Some.is)

pub returns-in-None : goal.returns-in-None
returns-in-None c = no_page c.args.path.now (sym c.in_ok-route.ensures ∙ c.in-None.is)

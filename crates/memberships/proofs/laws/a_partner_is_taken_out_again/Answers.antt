use Rattle.memberships.proofs.Members.{puts_back}
use Rattle.memberships.proofs.laws.a_partner_is_taken_out_again.Goals as goal

pub returns : goal.returns
returns c = puts_back

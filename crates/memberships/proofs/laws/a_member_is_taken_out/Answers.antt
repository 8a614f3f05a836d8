use Rattle.memberships.proofs.Members.{takes_out}
use Rattle.memberships.proofs.laws.a_member_is_taken_out.Goals as goal

pub returns : goal.returns
returns c = takes_out

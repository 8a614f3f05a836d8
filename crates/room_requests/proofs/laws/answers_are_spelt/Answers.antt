use Rattle.std.proofs.Common.{refl}
use Rattle.std.specs.Fmt.{digits}
use Rattle.room_requests.specs.Replies.{phrase_of}
use Rattle.room_requests.proofs.laws.answers_are_spelt.Goals as goal

pub returns-clause-shown : goal.returns-clause-shown
unfolding phrase_of digits
returns-clause-shown c = refl

pub returns-clause-refused : goal.returns-clause-refused
unfolding phrase_of digits
returns-clause-refused c = refl

pub returns-clause-head : goal.returns-clause-head
unfolding phrase_of digits
returns-clause-head c = refl

pub returns-clause-methods : goal.returns-clause-methods
unfolding phrase_of digits
returns-clause-methods c = refl

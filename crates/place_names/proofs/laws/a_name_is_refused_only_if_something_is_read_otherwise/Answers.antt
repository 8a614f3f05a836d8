use Rattle.place_names.proofs.Refusing.{refuses_only_if_read}
use Rattle.place_names.proofs.laws.a_name_is_refused_only_if_something_is_read_otherwise.Goals as goal

pub returns : goal.returns
returns c = refuses_only_if_read

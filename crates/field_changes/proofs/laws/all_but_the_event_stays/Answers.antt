use Rattle.field_changes.proofs.Retagging.{leaves_all_else_of_tags}
use Rattle.field_changes.proofs.laws.all_but_the_event_stays.Goals as goal

pub returns : goal.returns
returns c = leaves_all_else_of_tags

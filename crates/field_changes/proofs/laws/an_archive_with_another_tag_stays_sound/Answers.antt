use Rattle.field_changes.proofs.Retagging.{keeps_sound_tags}
use Rattle.field_changes.proofs.laws.an_archive_with_another_tag_stays_sound.Goals as goal

pub returns : goal.returns
returns c = keeps_sound_tags

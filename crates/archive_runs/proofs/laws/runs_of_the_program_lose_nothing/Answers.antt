use Rattle.std.proofs.Common.{List}
use Rattle.std.proofs.Math.Logic.{∥∥₁_elim, ∥∥₁_map}
use Rattle.archive_core.specs.Machine.{Done, Runs}
use Rattle.archive_state.specs.Content.{Content}
use Rattle.archive_state.specs.Sound.{IsSound}
use Rattle.archive_runs.specs.Runs.{KeepAll, Stands}
use Rattle.archive_runs.proofs.Following.{followed, sound_of}
use Rattle.archive_runs.proofs.laws.runs_of_the_program_lose_nothing.Goals as goal

pub returns : goal.returns
returns c' first last runs society c s stands =
    ∥∥₁_elim (followed runs first last society c s stands) squash₁ (λ all.
    ∥∥₁_map all.4 (λ held. let r : (kept : List Done) × (found : Content) × KeepAll c runs kept found
    × Runs c kept found × IsSound found × ∥ Stands society found last ∥₁ = (
      all.0,
      all.1,
      all.2,
      all.3,
      sound_of c'.what_was_sound_is_sound_anew.ensures society all.1 held.0 held.2,
      ∣ held ∣₁,
    ) in r))

-- Of what there are lists.
use Rattle.std.specs.Prelude.{ℕ, List}
use Rattle.archive_state.specs.Content.{Content}

pub record Listed : Type 0 where
  pub state : Content
  -- the name of the society
  pub society : List ℕ

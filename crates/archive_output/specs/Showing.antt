-- What is shown of an archive on a day, counted from 1970-01-01. Rules of our own.
use Rattle.std.specs.Prelude.{ℤ}
use Rattle.sqlite.specs.State.{State, HasCleanDisk}
use Rattle.archive_state.specs.Content.{Content}
use Rattle.archive_state.specs.Sound.{IsSound}
use Rattle.masking.specs.Masking.{IsMasked}
use Rattle.store.specs.Looking.{IsRead}

-- this is shown: the masked state, which is sound
pub record IsShown (c : Content) (today : ℤ) (shown : Content) : Type 0 where
  pub masked : IsMasked c today shown
  pub sound : IsSound shown

-- P of what is shown
abbrev pub OnShown : Content → ℤ → (Content → Type 0) → Type 0
OnShown c today P = (shown : Content) × IsShown c today shown × P shown

-- it is what settled tables mean, whoever wrote them
abbrev pub IsOfTables : State → State → Content → Type 0
IsOfTables old new c = HasCleanDisk new → IsRead old c

-- a sound archive was read, which the tables mean, and P of it
abbrev pub OfSound : State → State → (Content → Type 0) → Type 0
OfSound old new P = (read : Content) × IsSound read × IsOfTables old new read × P read

-- Which register entries are open, and which are closed: rules of our own.
use Rattle.std.specs.Prelude.{ℕ, ℤ, pos, ◌-ℤ◌, IfSome}
use Rattle.record_fields.specs.declared.entry_words.EntryKind.{EntryKind}
use Rattle.record_fields.specs.declared.entry_words.EntryKind.TheVariants as entry
use Rattle.record_kinds.specs.Model as model
use Rattle.record_shapes.specs.Lists.{EachOf}
use Rattle.archive_state.specs.Content.{Records}
use Rattle.masking.specs.Life.{HasEndedIfThere, IsLiving}

-- how many days an entry is closed: 100, 75 and 30 years
abbrev pub days_closed : EntryKind → ℕ
days_closed entry.Baptism = 36525
days_closed entry.Marriage = 27394
days_closed entry.Burial = 10958

-- the person that a mention is linked to, if there is one, is not living
abbrev pub IsOfNobodyLiving : Records → ℤ → model.Mention → Type 0
IsOfNobodyLiving m today x = IfSome x.link (λ (l : model.Link). IsLiving m today l.person → ⊥)

-- an entry is open where its date ended that many days ago or earlier, and no mention is of a living person; else it is
-- closed
pub record IsOpen (m : Records) (today : ℤ) (e : model.Entry) : Type 0 where
  pub ended : HasEndedIfThere e.date (today -ℤ pos (days_closed e.kind))
  pub nobody : EachOf (IsOfNobodyLiving m today) e.mentions

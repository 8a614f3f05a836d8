-- What a record tells of who is dead, and who is living.
use Rattle.std.specs.Prelude.{ℕ, ◌≡◌, true, ℤ, pos, ◌-ℤ◌, Some, IfSome}
use Rattle.std.specs.List.{list_any}
use Rattle.std.specs.Ordering.{nat_cmp}
use Rattle.std.specs.BTreeSet as set
use Rattle.std.specs.BTreeSet.{BTreeSet}
use Rattle.record_kinds.specs.Model as model
use Rattle.record_kinds.specs.declared.record.Record.TheVariants as kind
use Rattle.record_shapes.specs.Lists.{EachOf}
use Rattle.masking.specs.Life.{HasEndedIfThere, buries, ends_a_life, is_partner}
use Rattle.masking.specs.Closing.{days_closed}
use Rattle.masking.specs.Masking.{is_silent}
use Rattle.masking.specs.Sets.{IsIn}
use Rattle.masking.specs.Telling.{Telling}

-- an event that ends a life: its owner; an entry: who is linked as the one who is buried
abbrev pub IsDeath : Telling
IsDeath k (kind.Event e) n = (ends_a_life e.tag ≡ true) × (e.owner ≡ n)
IsDeath k (kind.Entry e) n = list_any (buries n) e.mentions ≡ true
IsDeath k _ n = ⊥

-- an event that ended by the day: its owner
abbrev pub IsOldEvent : ℤ → Telling
IsOldEvent day k (kind.Event e) n = HasEndedIfThere e.date day × (e.owner ≡ n)
IsOldEvent day k _ n = ⊥

-- a family among those: its partners
abbrev pub IsOldFamily : BTreeSet ℕ → Telling
IsOldFamily old k (kind.Family x) n = IsIn old k × (is_partner n x ≡ true)
IsOldFamily old k _ n = ⊥

-- a person who is in none of these sets
abbrev pub IsPersonBut : BTreeSet ℕ → BTreeSet ℕ → BTreeSet ℕ → Telling
IsPersonBut dead old partners k (kind.Person p) n = (k ≡ n) × (IsIn dead k → ⊥) × (IsIn old k → ⊥)
    × (IsIn partners k → ⊥)
IsPersonBut dead old partners k _ n = ⊥

-- a living person, or a family with a living partner
abbrev pub IsSilent : BTreeSet ℕ → Telling
IsSilent living k r n = (k ≡ n) × (is_silent (set.contains nat_cmp living) k (Some r) ≡ true)

-- a mention that is linked to none of these
abbrev pub IsOfNone : BTreeSet ℕ → model.Mention → Type 0
IsOfNone living x = IfSome x.link (λ (l : model.Link). IsIn living l.person → ⊥)

-- an entry that ended long enough ago, of whose mentions none is linked to one of these
abbrev pub IsOpenEntry : ℤ → BTreeSet ℕ → Telling
IsOpenEntry today living k (kind.Entry e) n = (k ≡ n)
    × HasEndedIfThere e.date (today -ℤ pos (days_closed e.kind)) × EachOf (IsOfNone living) e.mentions
IsOpenEntry today living k _ n = ⊥

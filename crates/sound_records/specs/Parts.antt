-- The parts of the rule on records, and which of them a record breaks.
use Rattle.std.specs.Prelude.{ℕ, ◌≡◌, ◌⊎◌, ◌++◌, Bool, List, Some}
use Rattle.std.specs.FinMap.{get}
use Rattle.record_kinds.specs.declared.record.Record.{Record}
use Rattle.record_text.specs.Text.{IsText}
use Rattle.archive_state.specs.Carried.{carried_tags}
use Rattle.archive_state.specs.Links.{links}
use Rattle.record_shapes.specs.Levels.{HasRoom}
use Rattle.record_shapes.specs.Lists.{EachOf}
use Rattle.record_shapes.specs.Untaken.{HasUntaken}
use Rattle.archive_state.specs.Content.{Records}
use Rattle.archive_state.specs.Known.{known_before, known_of}
use Rattle.archive_state.specs.Sound.{
  EachIn,
  HasEventTag,
  HasMembersOnce,
  HasNormalName,
  HasOwnShape,
  HasSaidPlace,
  HasSmallerParent,
  HasSoundMentions,
  HasSoundRecords,
  IsNoTrailer,
  IsNumber,
  IsOfRecords,
  own_tags,
  owner_in,
}
use Rattle.archive_state.specs.Texts.{carried_texts, own_texts}
use Rattle.sound_records.specs.Standing.{IsUnmet, Meets, link_of}
use Rattle.sound_records.specs.Knowing.{IsTooLong}
use Rattle.sound_records.specs.Keys.{HasTaken}
use Rattle.sound_records.specs.declared.part.Part.{Part}
use Rattle.sound_records.specs.declared.part.Part.TheVariants as part
use Rattle.sound_records.specs.declared.part.Breach.{Breach}

-- what a record keeps by itself
pub record KeepsAlone (next n : ℕ) (r : Record) : Type 0 where
  pub number : IsNumber next n
  pub parent : HasSmallerParent n r
  pub name : HasNormalName r
  pub members : HasMembersOnce r
  pub tags : EachOf IsOfRecords (own_tags r ++ carried_tags r)
  pub trailer : IsNoTrailer r
  pub texts : EachOf IsText (own_texts r ++ carried_texts r)
  pub mentions : HasSoundMentions r

-- what it keeps by other records
pub record KeepsBeside (may_miss : Bool) (m : Records) (n : ℕ) (r : Record) : Type 0 where
  pub links : EachOf (Meets may_miss m) (links r)
  pub place : HasSaidPlace m r
  pub event : HasEventTag m r
  pub untaken : HasUntaken (known_before m n) (known_of m) r
  pub shape : HasOwnShape m r
  pub levels : HasRoom (owner_in m r) r

abbrev pub Keeps : ℕ → Bool → Records → ℕ → Record → Type 0
Keeps next may_miss m n r = KeepsAlone next n r × KeepsBeside may_miss m n r

-- whatever stands at the number keeps both
abbrev pub KeepsAt : ℕ → Bool → Records → ℕ → Type 0
KeepsAt next may_miss m n = (r : Record) → get m n ≡ Some r → Keeps next may_miss m n r

abbrev pub AllKeep : ℕ → Bool → Records → List ℕ → Type 0
AllKeep next may_miss m ns = EachOf (KeepsAt next may_miss m) ns

-- the record breaks that part of the rule
abbrev pub BreaksAlone : ℕ → ℕ → Record → Part → Type 0
BreaksAlone next n r part.Number = ¬ (IsNumber next n)
BreaksAlone next n r part.Parent = ¬ (HasSmallerParent n r)
BreaksAlone next n r part.Name = ¬ (HasNormalName r)
BreaksAlone next n r part.Members = ¬ (HasMembersOnce r)
BreaksAlone next n r part.Tags = ¬ (EachOf IsOfRecords (own_tags r ++ carried_tags r))
BreaksAlone next n r part.Trailer = ¬ (IsNoTrailer r)
BreaksAlone next n r part.Texts = ¬ (EachOf IsText (own_texts r ++ carried_texts r))
BreaksAlone next n r part.Mentions = ¬ (HasSoundMentions r)
BreaksAlone next n r _ = ⊥

abbrev pub BreaksBeside : Bool → Records → ℕ → Record → Part → Type 0
BreaksBeside may_miss m n r (part.Link u) = IsUnmet may_miss m (links r) (link_of u)
BreaksBeside may_miss m n r part.Place = ¬ (HasSaidPlace m r)
BreaksBeside may_miss m n r part.EventTag = ¬ (HasEventTag m r)
BreaksBeside may_miss m n r part.Untaken = ¬ (HasUntaken (known_before m n) (known_of m) r)
BreaksBeside may_miss m n r part.Shape = ¬ (HasOwnShape m r)
BreaksBeside may_miss m n r part.Levels = ¬ (HasRoom (owner_in m r) r)
BreaksBeside may_miss m n r _ = ⊥

abbrev pub Breaks : ℕ → Bool → Records → ℕ → Record → Part → Type 0
Breaks next may_miss m n r p = BreaksAlone next n r p ⊎ BreaksBeside may_miss m n r p

-- the record of that number breaks that part
abbrev pub BreaksAt : ℕ → Bool → Records → ℕ → Part → Type 0
BreaksAt next may_miss m n part.Path = IsTooLong m n
BreaksAt next may_miss m n part.Key = HasTaken m n
BreaksAt next may_miss m n p = (r : Record) × (get m n ≡ Some r) × Breaks next may_miss m n r p

abbrev pub IsBreach : ℕ → Bool → Records → Breach → Type 0
IsBreach next may_miss m b = BreaksAt next may_miss m b.number b.part

-- records that keep all parts of the rule
pub record AreWhole (next : ℕ) (may_miss : Bool) (m : Records) : Type 0 where
  pub rules : HasSoundRecords next m
  pub named : EachIn m (λ n r. EachOf (Meets may_miss m) (links r))

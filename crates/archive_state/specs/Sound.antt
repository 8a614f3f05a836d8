-- What holds of a state that commands have made: each rule has a name. Rules of our own, so that what
-- an archive holds can be written as GEDCOM and read again.
use Rattle.std.specs.Prelude.{
  ℕ,
  ◌≡◌,
  ◌≢◌,
  ◌<◌,
  ◌≤◌,
  List,
  [],
  ◌∷◌,
  ◌++◌,
  Option,
  Some,
  None,
  true,
  false,
  map,
  option_map,
  codes,
  MatchOption,
  IfSome,
}
use Rattle.std.specs.List.{flat_map}
use Rattle.std.specs.FinMap.{FinMap, get, from_entries}
use Rattle.std.specs.Ordering.{nat_cmp}
use Rattle.record_kinds.specs.Model as model
use Rattle.record_kinds.specs.declared.record.Record.{Record}
use Rattle.record_kinds.specs.declared.record.Record.TheVariants as kind
use Rattle.archive_state.specs.declared.slip.Change.{Change}
use Rattle.archive_state.specs.Carried.{carried_tags}
use Rattle.archive_state.specs.Content.{Content, Records}
use Rattle.record_shapes.specs.Tags.{is_event_tag}
use Rattle.record_shapes.specs.Roles.{HasMentions, is_role_of}
use Rattle.archive_state.specs.Entries.{IsEntryAt}
use Rattle.record_shapes.specs.Lists.{EachOf, IsOnce, Ascends}
use Rattle.record_shapes.specs.Members.{members}
use Rattle.record_shapes.specs.Levels.{HasRoom}
use Rattle.record_shapes.specs.Untaken.{HasUntaken}
use Rattle.record_shapes.specs.Readable.{IsReadableOther}
use Rattle.archive_state.specs.Known.{known_of, known_before}
use Rattle.record_text.specs.Text.{IsTag, IsText}
use Rattle.archive_state.specs.Links.{Link, links, names, is_wanted}
use Rattle.archive_state.specs.Merging.{merged, clashes}
use Rattle.record_shapes.specs.Paths.{IsNormal, IsWithinLimits, has_part}
use Rattle.archive_state.specs.Paths.{HasPath}
use Rattle.archive_state.specs.Slips.{Slip}
use Rattle.archive_state.specs.Texts.{own_texts, carried_texts}

-- each of a finite map, with its number
abbrev pub EachIn : {X : Type 0} → FinMap nat_cmp X → (ℕ → X → Type 0) → Type 0
EachIn {X} m P = (n : ℕ) (x : X) → get m n ≡ Some x → P n x

-- ---- the rules on one record
-- a number is from 1, and below the next one
abbrev pub IsNumber : ℕ → ℕ → Type 0
IsNumber next n = (0 < n) × (n < next)

abbrev pub HasSmallerParent : ℕ → Record → Type 0
HasSmallerParent n (kind.Place p) = IfSome p.parent (λ q. q < n)
HasSmallerParent n _ = Unit {0}

abbrev pub HasNormalName : Record → Type 0
HasNormalName (kind.Place p) = IsNormal p.name
HasNormalName _ = Unit {0}

abbrev pub HasMembersOnce : Record → Type 0
HasMembersOnce (kind.Family f) = IsOnce (members f)
HasMembersOnce _ = Unit {0}

-- the place of an event or of an entry
abbrev pub place_of : Record → Option ℕ
place_of (kind.Event e) = option_map (λ (p : model.EventPlace). p.place) e.place
place_of (kind.Entry e) = e.place
place_of _ = None

-- the path of that place has a part that is not empty
abbrev pub HasSaidPlace : Records → Record → Type 0
HasSaidPlace m r = IfSome (place_of r) (λ p. (path : List ℕ) → HasPath m p path → has_part path ≡ true)

-- an event has a tag of its owner's kind
abbrev pub HasEventTag : Records → Record → Type 0
HasEventTag m (kind.Event e) = IfSome (get m e.owner) (λ owner. is_event_tag e.tag owner ≡ true)
HasEventTag m _ = Unit {0}

-- an entry has 1 to 100 mentions, with roles of its kind
abbrev pub HasSoundMentions : Record → Type 0
HasSoundMentions (kind.Entry e) = HasMentions e
    × EachOf (λ (x : model.Mention). is_role_of e.kind x.role ≡ true) e.mentions
HasSoundMentions _ = Unit {0}

-- a record of no other kind is no trailer
abbrev pub IsNoTrailer : Record → Type 0
IsNoTrailer (kind.Other o) = o.tag ≢ codes "TRLR"
IsNoTrailer _ = Unit {0}

-- all tags in a record that are data
abbrev pub own_tags : Record → List (List ℕ)
own_tags (kind.Event e) = e.tag ∷ []
own_tags (kind.Other o) = o.tag ∷ []
own_tags _ = []

-- a tag that may be in a record
abbrev pub IsOfRecords : List ℕ → Type 0
IsOfRecords tag = IsTag tag × (tag ≢ codes "CONC") × (tag ≢ codes "CONT")

-- a record of no other kind has not the shape of one of the others
abbrev pub HasOwnShape : Records → Record → Type 0
HasOwnShape m (kind.Other o) = IsReadableOther (known_of m) o
HasOwnShape m _ = Unit {0}

-- what has a citation or an event
abbrev pub owner_in : Records → Record → Option Record
owner_in m (kind.Citation c) = get m c.owner
owner_in m (kind.Event e) = get m e.owner
owner_in m _ = None

-- the rules that ask for no other record, but for the places above a place, the owner of an event and like entries
pub record HasSoundRecords (next : ℕ) (m : Records) : Type 0 where
  -- all numbers are from 1, and below the next one
  pub numbered : EachIn m (λ n r. IsNumber next n)
  -- a place's parent has a smaller number
  pub parents : EachIn m HasSmallerParent
  -- the name of a place is normal
  pub normal : EachIn m (λ n r. HasNormalName r)
  -- the path of a place is within the limits
  pub paths : (n : ℕ) (path : List ℕ) → HasPath m n path → IsWithinLimits path
  -- no person stands twice in a family
  pub once : EachIn m (λ n r. HasMembersOnce r)
  -- no line has the tag of a continuation or what is no tag, and no record that of the trailer
  pub tags : EachIn m (λ n r. EachOf IsOfRecords (own_tags r ++ carried_tags r))
  pub trailers : EachIn m (λ n r. IsNoTrailer r)
  -- each text in a record is UTF-8 without U+0000 and CR, of at most 1,048,576 bytes
  pub texts : EachIn m (λ n r. EachOf IsText (own_texts r ++ carried_texts r))
  -- the path of the place of an event or an entry has a part that is not empty
  pub places : EachIn m (λ n r. HasSaidPlace m r)
  -- the tag of an event is of its owner's kind
  pub events : EachIn m (λ n r. HasEventTag m r)
  -- an entry has 1 to 100 mentions, with roles of its kind
  pub mentions : EachIn m (λ n r. HasSoundMentions r)
  -- a carried line is one that no field of its part, read before it, would take
  pub untaken : EachIn m (λ n r. HasUntaken (known_before m n) (known_of m) r)
  -- a record of no other kind has not the shape of one of the others
  pub shapes : EachIn m (λ n r. HasOwnShape m r)
  -- no line of a record is below level 98 in a file
  pub levels : EachIn m (λ n r. HasRoom (owner_in m r) r)
  -- no two entries agree in source, kind, page and item
  pub keys : (n k : ℕ) (e : model.Entry) → get m n ≡ Some (kind.Entry e)
      → IsEntryAt m e.source e.kind e.page e.item k → n ≡ k

-- ---- links
-- what a link names is there, and of the kind that is demanded
abbrev pub Stands : Records → Link → Type 0
Stands m link = option_map (is_wanted link.1) (get m link.0) ≡ Some true

-- it is of that kind where it is there
abbrev pub StandsIfThere : Records → Link → Type 0
StandsIfThere m link = IfSome (get m link.0) (λ r. is_wanted link.1 r ≡ true)

-- ---- slips
-- the records of before, and those of after
abbrev pub old_records : Slip → Records
old_records s = from_entries (map (λ (c : Change). (c.number, c.old)) s.changes)

abbrev pub IsPerson : Record → Type 0
IsPerson (kind.Person p) = Unit {0}
IsPerson _ = ⊥

-- a person without name, sex and carried line
abbrev pub IsEmptyPerson : Record → Type 0
IsEmptyPerson (kind.Person p) = (p.names ≡ []) × (p.sex ≡ None) × (p.carried ≡ [])
IsEmptyPerson _ = ⊥

abbrev pub new_names : Option Record → List ℕ
new_names None = []
new_names (Some r) = names r

-- all numbers in a change
abbrev pub change_names : Change → List ℕ
change_names c = c.number ∷ (names c.old ++ new_names c.new)

-- what a slip is, whatever stands in the archive now
pub record IsSoundSlip (next : ℕ) (number : ℕ) (s : Slip) : Type 0 where
  -- all numbers are from 1, and below the next one
  pub numbered : EachOf (IsNumber next) (number ∷ (s.keep ∷ (s.gone ∷ flat_map change_names s.changes)))
  -- the changed numbers ascend
  pub ascending : Ascends (map (λ (c : Change). c.number) s.changes)
  -- the old record of the person that is gone is a person
  pub gone : (r : Record) × (get (old_records s) s.gone ≡ Some r) × IsPerson r
  -- so is that of the person that stays; where it did not change, the other had no name, sex and carried line
  pub keep : MatchOption (get (old_records s) s.keep)
      ((r : Record) → get (old_records s) s.gone ≡ Some r → IsEmptyPerson r) IsPerson
  -- they are two
  pub apart : s.keep ≢ s.gone
  -- no old record is a family of both, but with both as its children
  pub joinable : EachIn (old_records s) (λ n r. clashes s.keep s.gone r ≡ false)
  -- the merge of the old records gives the new ones
  pub merges : EachOf (λ (c : Change). c.new ≡ merged s.keep s.gone (get (old_records s)) c.number) s.changes
  -- the old records break no rule, where what a number outside the slip names is not judged
  pub named : EachIn (old_records s) (λ n r. EachOf (StandsIfThere (old_records s)) (links r))
  pub rules : HasSoundRecords next (old_records s)

-- what holds of all that an archive holds
pub record IsSound (c : Content) : Type 0 where
  -- the next number is from 1, and at most one more than the last that there is
  pub begun : 0 < c.next
  pub bounded : c.next ≤ 4294967296
  -- no number is that of a record and of a slip
  pub distinct : EachIn c.records (λ n r. get c.slips n ≡ None)
  -- every number in a record names a record of the kind that is demanded there; one on a carried line names a record
  -- that is written at level 0
  pub named : EachIn c.records (λ n r. EachOf (Stands c.records) (links r))
  -- each record keeps the rules on records
  pub rules : HasSoundRecords c.next c.records
  -- each slip is sound
  pub slips : EachIn c.slips (IsSoundSlip c.next)
  -- where the person stood that a slip says to stay, a person stands, or nothing any more
  pub stayed : EachIn c.slips (λ n s. IfSome (get c.records s.keep) IsPerson)
  -- no slip has the number of a person that is gone, who can come back to it
  pub free : EachIn c.slips (λ n s. get c.slips s.gone ≡ None)

-- Records that can be read again from their lines: what holds of each record of a sound archive.
use Rattle.std.specs.Prelude.{ℕ, ◌≡◌, true, false, List, [], ◌∷◌, ◌++◌, Option, Some, None, bytes_eq, codes}
use Rattle.std.specs.List.{list_any}
use Rattle.stored_lines.specs.Tree.{Tree, node, none, list_of}
use Rattle.record_kinds.specs.Model as model
use Rattle.record_kinds.specs.declared.record.Record.{Record}
use Rattle.record_kinds.specs.declared.record.Record.TheVariants as kind
use Rattle.record_shapes.specs.Lists.{EachOf, IsOnce}
use Rattle.record_shapes.specs.Paths.{is_within_limits, normal}
use Rattle.record_shapes.specs.Members.{members}
use Rattle.record_shapes.specs.Tags.{family_tags, person_tags}
use Rattle.record_shapes.specs.Forms.{Known, is_among}
use Rattle.record_shapes.specs.Fields.{
  citation_field,
  event_field,
  family_field,
  holding_field,
  is_above,
  is_place_text,
  parent_field,
  participant_field,
  person_field,
  repo_field,
  source_field,
}
use Rattle.record_shapes.specs.Shapes.{Around, Side}
use Rattle.record_shapes.specs.Entries.{entry_of, is_entry}
use Rattle.record_shapes.specs.Untaken.{
  AreUntaken,
  citation_leaves,
  event_leaves,
  family_leaves,
  holding_leaves,
  participant_leaves,
  person_leaves,
  place_leaves,
  repo_leaves,
  source_leaves,
}

-- a record of that number is written with that tag
abbrev pub IsKnown : List ℕ → Known → ℕ → Type 0
IsKnown tag known n = bytes_eq (known.tag n) tag ≡ true

-- a holding names a repository, and its carried lines are untaken
abbrev pub IsReadableHolding : Known → model.Holding → Type 0
IsReadableHolding known h = IsKnown (codes "REPO") known h.repo × AreUntaken holding_field (holding_leaves h) h.carried

-- so are those of a source and of its holdings
abbrev pub IsReadableSource : Known → model.Source → Type 0
IsReadableSource known s = EachOf (IsReadableHolding known) s.holdings × AreUntaken (source_field known)
    (source_leaves s) s.carried

-- the path of the place above it is known, and with it its own path is within the limits
abbrev pub HasKnownParent : Known → model.Place → Type 0
HasKnownParent earlier p = (q : ℕ) → p.parent ≡ Some q → is_above p.name (earlier.path q) ≡ true

-- a place has a normal name within the limits; earlier are the paths of the places before it
pub record IsReadablePlace (earlier : Known) (p : model.Place) : Type 0 where
  pub normal_name : normal p.name ≡ p.name
  pub short_name : is_within_limits p.name ≡ true
  pub parent : HasKnownParent earlier p
  pub untaken : AreUntaken (parent_field earlier p.name) (place_leaves p) p.carried

-- a citation names a source
pub record IsReadableCitation (known : Known) (c : model.Citation) : Type 0 where
  pub source : IsKnown (codes "SOUR") known c.source
  pub untaken : AreUntaken citation_field (citation_leaves c) c.carried

-- who took part is a person
abbrev pub IsReadableParticipant : Known → model.Participant → Type 0
IsReadableParticipant known p = IsKnown (codes "INDI") known p.person × AreUntaken participant_field
    (participant_leaves p) p.carried

-- the place of an event has the path that is written, which is normal, within the limits, and has a part that is not
-- empty
abbrev pub HasShownPlace : Known → Around → Option model.EventPlace → Type 0
HasShownPlace known a None = Unit {0}
HasShownPlace known a (Some p) = (known.path p.place ≡ Some (a.path p.place))
    × (normal (a.path p.place) ≡ a.path p.place)
    × (is_place_text (a.path p.place) ≡ true)

-- what an event owns: citations, which own nothing
abbrev pub IsCitationBelow : Known → Tree Record → Type 0
IsCitationBelow known (node (kind.Citation c) f) = (f ≡ none) × IsReadableCitation known c
IsCitationBelow known (node _ f) = ⊥

-- an event with what it owns
pub record IsReadableEvent (known : Known) (a : Around) (e : model.Event) (under : List (Tree Record)) : Type 0 where
  pub owned : EachOf (IsCitationBelow known) under
  pub place : HasShownPlace known a e.place
  pub participants : EachOf (IsReadableParticipant known) e.participants
  pub untaken : AreUntaken (event_field known) (event_leaves e) e.carried

-- an event of one of these tags
abbrev pub IsEventBelow : Known → Around → List (List ℕ) → Tree Record → Type 0
IsEventBelow known a tags (node (kind.Event e) f) = (list_any (bytes_eq e.tag) tags ≡ true)
    × IsReadableEvent known a e (list_of f)
IsEventBelow known a tags (node _ f) = ⊥

-- what a person or a family owns: its events, of the tags of its kind, and then its citations
pub record IsOwned (known : Known) (a : Around) (tags : List (List ℕ)) (under : List (Tree Record)) : Type 0 where
  pub events : List (Tree Record)
  pub citations : List (Tree Record)
  pub all : under ≡ events ++ citations
  pub are_events : EachOf (IsEventBelow known a tags) events
  pub are_citations : EachOf (IsCitationBelow known) citations

-- a person of that number, with what it owns: the families where it is a member are known
pub record IsReadablePerson (known : Known) (a : Around) (n : ℕ) (p : model.Person)
    (under : List (Tree Record)) : Type 0 where
  pub owned : IsOwned known a person_tags under
  pub child_in : EachOf (λ (s : Side). IsKnown (codes "FAM") known s.family) (a.child_in n)
  pub partner_in : EachOf (λ (s : Side). IsKnown (codes "FAM") known s.family) (a.partner_in n)
  pub untaken : AreUntaken (person_field known) (person_leaves p) p.carried

-- a family, with what it owns: its members are persons, none of them twice
pub record IsReadableFamily (known : Known) (a : Around) (f : model.Family) (under : List (Tree Record)) : Type 0 where
  pub owned : IsOwned known a family_tags under
  pub persons : EachOf (IsKnown (codes "INDI") known) (members f)
  pub once : IsOnce (members f)
  pub untaken : AreUntaken (family_field known) (λ x. family_leaves x) f.carried

-- a record of no other kind: it has not the tag of one of five kinds, and it is no register entry
pub record IsReadableOther (known : Known) (o : model.Other) : Type 0 where
  pub own : is_among (codes "_LOC" ∷ codes "REPO" ∷ codes "SOUR" ∷ codes "INDI" ∷ codes "FAM" ∷ [])
      (node (record { tag = o.tag; value = o.value }) none) ≡ false
  pub no_entry : o.tag ≡ codes "_REG" → entry_of known o.value o.carried ≡ None

-- a record that is written at level 0, with what it owns; earlier has the places before it, and known all records
abbrev pub IsReadable : Known → Known → Around → ℕ → Tree Record → Type 0
IsReadable earlier known a n (node (kind.Place p) f) = IsReadablePlace earlier p × (f ≡ none)
IsReadable earlier known a n (node (kind.Repo r) f) = AreUntaken repo_field (repo_leaves r) r.carried × (f ≡ none)
IsReadable earlier known a n (node (kind.Source s) f) = IsReadableSource known s × (f ≡ none)
IsReadable earlier known a n (node (kind.Person p) f) = IsReadablePerson known a n p (list_of f)
IsReadable earlier known a n (node (kind.Family x) f) = IsReadableFamily known a x (list_of f)
IsReadable earlier known a n (node (kind.Entry e) f) = (is_entry known e ≡ true)
    × ((m : ℕ) → e.place ≡ Some m → known.path m ≡ Some (a.path m)) × (f ≡ none)
IsReadable earlier known a n (node (kind.Other o) f) = IsReadableOther known o × (f ≡ none)
IsReadable earlier known a n (node _ f) = ⊥

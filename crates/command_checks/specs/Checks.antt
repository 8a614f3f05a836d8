-- What a command looks at before it does anything, one check after the other (`and_then` of `commands`). Rules of our
-- own.
use Rattle.std.specs.Prelude.{
  ℕ,
  zero,
  suc,
  List,
  [],
  ◌∷◌,
  Bool,
  true,
  false,
  not,
  ◌&&◌,
  ◌||◌,
  ◌==◌,
  nat_le,
  nat_lt,
  Option,
  Some,
  None,
  Result,
  Ok,
  Err,
  if◌then◌else◌,
}
use Rattle.std.specs.List.{list_any}
use Rattle.std.specs.Str.{bytes_eq}
use Rattle.std.specs.FinMap.{get}
use Rattle.record_text.specs.declared.refusal.RefusalKind.{RefusalKind}
use Rattle.record_text.specs.declared.refusal.RefusalKind.TheVariants.{NoSuch, WrongKind, BadText, NotOfKind, Full}
use Rattle.archive_state.specs.Links.{Wanted, a_place, a_repo, a_source, a_cited, is_wanted}
use Rattle.archive_state.specs.Referrers.{referrers}
use Rattle.record_fields.specs.declared.date.Date.{Date}
use Rattle.record_kinds.specs.Model as model
use Rattle.record_kinds.specs.declared.record.Record.{Record}
use Rattle.record_kinds.specs.declared.record.Record.TheVariants as kind
use Rattle.archive_state.specs.Content.{Content, Records}
use Rattle.record_shapes.specs.Tags.{person_tags, family_tags}
use Rattle.record_shapes.specs.Paths.{normal}
use Rattle.command_checks.specs.Fits.{new_path, is_fit}
use Rattle.commands.specs.Fields.{text_of}
use Rattle.commands.specs.Given.{GivenDate}
use Rattle.commands.specs.Rows.{and_then, ok_or}
use Rattle.command_checks.specs.declared.kinds.Demand.{Demand}
use Rattle.command_checks.specs.declared.kinds.Demand.TheVariants as demand
use Rattle.command_checks.specs.declared.looks.Owner.{Owner}
use Rattle.command_checks.specs.declared.looks.Owner.TheVariants as owner

-- a check without an answer
abbrev pub need : Bool → RefusalKind → Result (Unit {0}) RefusalKind
need true k = Ok tt
need false k = Err k

-- a check whose answer is not wanted
abbrev pub passed : {A : Type 0} → Result A RefusalKind → Result (Unit {0}) RefusalKind
passed (Ok a) = Ok tt
passed (Err e) = Err e

-- a check of what may be missing
abbrev pub each : {A B : Type 0} → (A → Result B RefusalKind) → Option A → Result (Option B) RefusalKind
each f None = Ok None
each f (Some a) = and_then (f a) (λ b. Ok (Some b))

-- ---- texts
-- words that are no text are refused
abbrev pub text_in : List ℕ → Result (List ℕ) RefusalKind
text_in words = ok_or BadText (text_of words)

-- an empty text is none
abbrev pub or_no_text : List ℕ → Option (List ℕ)
or_no_text [] = None
or_no_text (b ∷ bs) = Some (b ∷ bs)

-- the same of words that may be empty, which are none then
abbrev pub maybe_text_in : List ℕ → Result (Option (List ℕ)) RefusalKind
maybe_text_in words = and_then (text_in words) (λ t. Ok (or_no_text t))

-- a date whose spelling is no text is refused
abbrev pub date_in : GivenDate → Result Date RefusalKind
date_in given = ok_or BadText given.date

-- ---- numbers
abbrev pub person_in : Option Record → Result model.Person RefusalKind
person_in None = Err NoSuch
person_in (Some (kind.Person p)) = Ok p
person_in (Some _) = Err WrongKind

abbrev pub family_in : Option Record → Result model.Family RefusalKind
family_in None = Err NoSuch
family_in (Some (kind.Family f)) = Ok f
family_in (Some _) = Err WrongKind

abbrev pub event_in : Option Record → Result model.Event RefusalKind
event_in None = Err NoSuch
event_in (Some (kind.Event e)) = Ok e
event_in (Some _) = Err WrongKind

abbrev pub place_in : Option Record → Result model.Place RefusalKind
place_in None = Err NoSuch
place_in (Some (kind.Place p)) = Ok p
place_in (Some _) = Err WrongKind

-- what an event may be of: a person or a family
abbrev pub owner_in : Option Record → Result Owner RefusalKind
owner_in None = Err NoSuch
owner_in (Some (kind.Person p)) = Ok owner.Person
owner_in (Some (kind.Family f)) = Ok owner.Family
owner_in (Some _) = Err WrongKind

abbrev pub person_at : Content → ℕ → Result model.Person RefusalKind
person_at c n = person_in (get c.records n)

abbrev pub family_at : Content → ℕ → Result model.Family RefusalKind
family_at c n = family_in (get c.records n)

abbrev pub event_at : Content → ℕ → Result model.Event RefusalKind
event_at c n = event_in (get c.records n)

abbrev pub place_at : Content → ℕ → Result model.Place RefusalKind
place_at c n = place_in (get c.records n)

abbrev pub owner_at : Content → ℕ → Result Owner RefusalKind
owner_at c n = owner_in (get c.records n)

-- any record
abbrev pub record_in : Option Record → Result (Unit {0}) RefusalKind
record_in None = Err NoSuch
record_in (Some r) = Ok tt

abbrev pub record_at : Content → ℕ → Result (Unit {0}) RefusalKind
record_at c n = record_in (get c.records n)

-- a record of the kind that a link demands
abbrev pub wanted_of : Demand → Wanted
wanted_of demand.Place = a_place
wanted_of demand.Repo = a_repo
wanted_of demand.Source = a_source
wanted_of demand.Cited = a_cited

abbrev pub demanded_in : Demand → Option Record → Result (Unit {0}) RefusalKind
demanded_in d None = Err NoSuch
demanded_in d (Some r) = need (is_wanted (wanted_of d) r) WrongKind

abbrev pub demanded_at : Content → Demand → ℕ → Result (Unit {0}) RefusalKind
demanded_at c d n = demanded_in d (get c.records n)

-- ---- new places
-- the name of a place is not empty, and normal
abbrev pub place_name : List ℕ → Result (List ℕ) RefusalKind
place_name [] = Err BadText
place_name (b ∷ bs) = if bytes_eq (normal (b ∷ bs)) (b ∷ bs) then Ok (b ∷ bs) else Err BadText

abbrev pub place_name_in : List ℕ → Result (List ℕ) RefusalKind
place_name_in words = and_then (text_in words) place_name

-- the path of a new place of that name is within the limits
abbrev pub path_fits : Content → List ℕ → Option ℕ → Result (Unit {0}) RefusalKind
path_fits c name parent = need (is_fit (new_path c.records name parent)) BadText

-- ---- removal
-- another record names the number; slips are not looked at
abbrev pub is_named : Content → ℕ → Bool
is_named c n = list_any (λ k. not (k == n)) (referrers c n)

-- ---- events
-- the tags of the events that it may have: GEDCOM 5.5.1, chapter 2
abbrev pub tags_of : Owner → List (List ℕ)
tags_of owner.Person = person_tags
tags_of owner.Family = family_tags

abbrev pub is_tag_of : Owner → List ℕ → Bool
is_tag_of o tag = list_any (bytes_eq tag) (tags_of o)

-- another tag is refused
abbrev pub tag_in : Owner → List ℕ → Result (List ℕ) RefusalKind
tag_in o tag = if is_tag_of o tag then Ok tag else Err NotOfKind

-- ---- places
-- a name with a part between commas that is not empty, spaces at its ends apart: a character that is neither comma nor
-- space
abbrev pub says_something : List ℕ → Bool
says_something name = list_any (λ b. not (b == 44 || b == 32)) name

-- what stands there is a place of which f holds
abbrev pub is_place_with : (model.Place → Bool) → Option Record → Bool
is_place_with f (Some (kind.Place p)) = f p
is_place_with f _ = false

-- a parent with a smaller number is a place of which f holds
abbrev pub is_within_with : Records → ℕ → (ℕ → model.Place → Bool) → Option ℕ → Bool
is_within_with m n f None = false
is_within_with m n f (Some q) = nat_lt q n && is_place_with (f q) (get m q)

-- the place of a number, or one that it is within, has a name that says something. Each has a smaller number than the
-- one before it, so that as many steps as the number says are enough
abbrev pub is_said : ℕ → Records → ℕ → model.Place → Bool
is_said zero m n p = says_something p.name
is_said (suc steps) m n p = says_something p.name || is_within_with m n (λ q r. is_said steps m q r) p.parent

-- a place that an event may have: its path has a part that is not empty
abbrev pub said_place_at : Content → ℕ → Result (Unit {0}) RefusalKind
said_place_at c n = and_then (place_at c n) (λ p. need (is_said n c.records n p) BadText)

-- the tag of an event, whose owner may have it, and whose place an event may have
abbrev pub event_tag : Content → ℕ → Option ℕ → List ℕ → Result (List ℕ) RefusalKind
event_tag c owner place tag =
    and_then (owner_at c owner) (λ o.
    and_then (passed (each (said_place_at c) place)) (λ _.
    tag_in o tag))

-- ---- the next number
-- the next number, where one is left
abbrev pub next_free : Content → Result ℕ RefusalKind
next_free c = if nat_le c.next 4_294_967_295 then Ok c.next else Err Full

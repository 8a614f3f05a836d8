-- What a correction makes of a record, by its kind: the value is put in place of the field's, and all else stays as it
-- is, carried lines too. A field that the record has not, what the field forbids, and a role that is not of the kind
-- are refused. Rules of our own.
use Rattle.std.specs.Prelude.{
  ℕ,
  ◌-◌,
  ◌&&◌,
  ◌==◌,
  drop,
  nat_le,
  nat_lt,
  not,
  Bool,
  false,
  List,
  [],
  ◌∷◌,
  length,
  Option,
  Some,
  None,
  Result,
  Ok,
  Err,
  if◌then◌else◌,
}
use Rattle.std.specs.List.{remove}
use Rattle.std.specs.Str.{bytes_eq}
use Rattle.record_text.specs.declared.refusal.RefusalKind.{RefusalKind}
use Rattle.record_text.specs.declared.refusal.RefusalKind.TheVariants.{NoSuchField, BadText, NotOfKind}
use Rattle.record_fields.specs.Words.{role_of}
use Rattle.record_fields.specs.declared.entry_words.EntryKind.{EntryKind}
use Rattle.record_fields.specs.declared.entry_words.Role.{Role}
use Rattle.record_kinds.specs.Model as model
use Rattle.record_kinds.specs.declared.record.Record.{Record}
use Rattle.record_kinds.specs.declared.record.Record.TheVariants as kind
use Rattle.record_shapes.specs.Forms.{is_empty, is_some}
use Rattle.record_shapes.specs.Paths.{normal}
use Rattle.record_shapes.specs.Roles.{is_role_of}
use Rattle.corrections.specs.Lists.{changed_at}
use Rattle.corrections.specs.declared.correction.Correction.{Correction}
use Rattle.corrections.specs.declared.correction.Correction.TheVariants as value
use Rattle.corrections.specs.declared.field.TextField.TheVariants as text_field

-- the outcome of a part as that of the whole
abbrev pub made : {A B : Type 0} → (A → B) → Result A RefusalKind → Result B RefusalKind
made f (Ok a) = Ok (f a)
made f (Err e) = Err e

-- an empty text is none
abbrev pub or_none : List ℕ → Option (List ℕ)
or_none [] = None
or_none (b ∷ bs) = Some (b ∷ bs)

-- ---- persons
abbrev pub renamed : List ℕ → model.Name → model.Name
renamed t n = record n { text = t }

-- another text of the name of a place in the list, from 1. An empty one is removed, with its carried lines, where
-- another is left
abbrev pub names_with : ℕ → List ℕ → List model.Name → List model.Name
names_with k t ns = if is_empty t && nat_lt 1 (length ns) then remove ns (k - 1) else changed_at (k - 1)
    (renamed t) ns

abbrev pub person_with : Correction → model.Person → Result model.Person RefusalKind
person_with (value.Sex s) p = Ok (record p { sex = s })
person_with (value.Text (text_field.NameAt k) t) p =
    if nat_le k.number (length p.names) then Ok (record p { names = names_with k.number t p.names })
    else Err NoSuchField
person_with _ p = Err NoSuchField

-- ---- events
-- another place keeps the carried lines of the line of the place; where it is taken away, they go
abbrev pub place_with : Option ℕ → Option model.EventPlace → Option model.EventPlace
place_with None old = None
place_with (Some n) None = Some (record { place = n; carried = [] })
place_with (Some n) (Some p) = Some (record p { place = n })

abbrev pub event_with : Correction → model.Event → Result model.Event RefusalKind
event_with (value.Tag t) e = Ok (record e { tag = t })
event_with (value.Date d) e = Ok (record e { date = d })
event_with (value.Place n) e = Ok (record e { place = place_with n e.place })
event_with (value.Text text_field.Value t) e = Ok (record e { value = t })
event_with _ e = Err NoSuchField

-- ---- places and repositories
-- not empty, and normal
abbrev pub is_place_name : List ℕ → Bool
is_place_name t = not (is_empty t) && bytes_eq (normal t) t

abbrev pub place_named : Correction → model.Place → Result model.Place RefusalKind
place_named (value.Text text_field.Name t) p = if is_place_name t then Ok (record p { name = t }) else Err BadText
place_named _ p = Err NoSuchField

abbrev pub repo_named : Correction → model.Repo → Result model.Repo RefusalKind
repo_named (value.Text text_field.Name t) r = Ok (record r { name = Some t })
repo_named _ r = Err NoSuchField

-- ---- sources: of several repositories the first is meant
abbrev pub first_is_called : List model.Holding → Bool
first_is_called [] = false
first_is_called (h ∷ hs) = is_some h.call_number

-- another repository keeps the call number and the carried lines of its line
abbrev pub held_at : ℕ → List model.Holding → List model.Holding
held_at n [] = record { repo = n; call_number = None; carried = [] } ∷ []
held_at n (h ∷ hs) = record h { repo = n } ∷ hs

abbrev pub called : Option (List ℕ) → model.Holding → model.Holding
called t h = record h { call_number = t }

-- a repository with a call number is not taken away, and a call number needs a repository
abbrev pub source_with : Correction → model.Source → Result model.Source RefusalKind
source_with (value.Text text_field.Title t) s = Ok (record s { title = Some t })
source_with (value.Text text_field.Author t) s = Ok (record s { author = or_none t })
source_with (value.Text text_field.Publisher t) s = Ok (record s { publisher = or_none t })
source_with (value.Text text_field.CallNumber t) s =
    if not (is_empty t) && length s.holdings == 0 then Err BadText
    else Ok (record s { holdings = changed_at 0 (called (or_none t)) s.holdings })
source_with (value.Repository None) s =
    if first_is_called s.holdings then Err BadText else Ok (record s { holdings = drop 1 s.holdings })
source_with (value.Repository (Some n)) s = Ok (record s { holdings = held_at n s.holdings })
source_with _ s = Err NoSuchField

-- ---- citations
abbrev pub citation_with : Correction → model.Citation → Result model.Citation RefusalKind
citation_with (value.Text text_field.Page t) c = Ok (record c { page = or_none t })
citation_with (value.Quality q) c = Ok (record c { quality = q })
citation_with _ c = Err NoSuchField

-- ---- register entries
-- the role of a word, where it is one of the kind
abbrev pub role_for : EntryKind → Option Role → Result Role RefusalKind
role_for k None = Err NotOfKind
role_for k (Some r) = if is_role_of k r then Ok r else Err NotOfKind

-- another name or role of a mention; its link stays
abbrev pub mention_named : List ℕ → model.Mention → model.Mention
mention_named t m = record m { name = t }

abbrev pub mention_as : Role → model.Mention → model.Mention
mention_as r m = record m { role = r }

-- the mention of a place in the list, from 1, changed
abbrev pub mentions_with : ℕ → (model.Mention → model.Mention) → model.Entry → model.Entry
mentions_with k f e = record e { mentions = changed_at (k - 1) f e.mentions }

abbrev pub has_mention : ℕ → model.Entry → Bool
has_mention k e = nat_le k (length e.mentions)

abbrev pub entry_with : Correction → model.Entry → Result model.Entry RefusalKind
entry_with (value.Item i) e = Ok (record e { item = i })
entry_with (value.Date d) e = Ok (record e { date = d })
entry_with (value.Place n) e = Ok (record e { place = n })
entry_with (value.Text text_field.Page t) e = Ok (record e { page = t })
entry_with (value.Text text_field.Text t) e = Ok (record e { text = t })
entry_with (value.Text (text_field.NameAt k) t) e =
    if has_mention k.number e then Ok (mentions_with k.number (mention_named t) e) else Err NoSuchField
entry_with (value.Text (text_field.RoleAt k) t) e =
    if has_mention k.number e then made (λ r. mentions_with k.number (mention_as r) e) (role_for e.kind (role_of t))
    else Err NoSuchField
entry_with _ e = Err NoSuchField

-- ---- records: families and those of no other kind have no field
abbrev pub corrected : Correction → Record → Result Record RefusalKind
corrected c (kind.Person p) = made (λ x. kind.Person x) (person_with c p)
corrected c (kind.Event e) = made (λ x. kind.Event x) (event_with c e)
corrected c (kind.Place p) = made (λ x. kind.Place x) (place_named c p)
corrected c (kind.Repo r) = made (λ x. kind.Repo x) (repo_named c r)
corrected c (kind.Source s) = made (λ x. kind.Source x) (source_with c s)
corrected c (kind.Citation x) = made (λ y. kind.Citation y) (citation_with c x)
corrected c (kind.Entry e) = made (λ x. kind.Entry x) (entry_with c e)
corrected c (kind.Family f) = Err NoSuchField
corrected c (kind.Other o) = Err NoSuchField

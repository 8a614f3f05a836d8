-- The tags of events (The GEDCOM Standard Release 5.5.1, chapter 2, INDIVIDUAL_EVENT_STRUCTURE,
-- INDIVIDUAL_ATTRIBUTE_STRUCTURE and FAMILY_EVENT_STRUCTURE). Which of them an event may have is a rule of our own.
use Rattle.std.specs.Prelude.{ℕ, List, [], ◌∷◌, Bool, codes}
use Rattle.std.specs.List.{list_any}
use Rattle.std.specs.Str.{bytes_eq}
use Rattle.record_kinds.specs.declared.record.Record.{Record}
use Rattle.record_kinds.specs.declared.record.Record.TheVariants as kind

abbrev pub person_tags : List (List ℕ)
person_tags =
    codes "BIRT" ∷ codes "CHR" ∷ codes "BAPM" ∷ codes "DEAT" ∷ codes "BURI" ∷ codes "CREM" ∷ codes "ADOP" ∷ codes "BARM"
    ∷ codes "BASM" ∷ codes "BLES" ∷ codes "CHRA" ∷ codes "CONF" ∷ codes "FCOM" ∷ codes "ORDN"
    ∷ codes "NATU" ∷ codes "EMIG"
    ∷ codes "IMMI" ∷ codes "CENS" ∷ codes "PROB" ∷ codes "WILL" ∷ codes "GRAD" ∷ codes "RETI"
    ∷ codes "EVEN" ∷ codes "CAST"
    ∷ codes "DSCR" ∷ codes "EDUC" ∷ codes "IDNO" ∷ codes "NATI" ∷ codes "NCHI" ∷ codes "NMR"
    ∷ codes "OCCU" ∷ codes "PROP"
    ∷ codes "RELI" ∷ codes "RESI" ∷ codes "SSN" ∷ codes "TITL" ∷ codes "FACT" ∷ []

abbrev pub family_tags : List (List ℕ)
family_tags =
    codes "ANUL" ∷ codes "CENS" ∷ codes "DIV" ∷ codes "DIVF" ∷ codes "ENGA" ∷ codes "MARB" ∷ codes "MARC" ∷ codes "MARR"
    ∷ codes "MARL" ∷ codes "MARS" ∷ codes "RESI" ∷ codes "EVEN" ∷ []

-- the tags of the events that a record may have
abbrev pub event_tags : Record → List (List ℕ)
event_tags (kind.Person p) = person_tags
event_tags (kind.Family f) = family_tags
event_tags _ = []

abbrev pub is_event_tag : List ℕ → Record → Bool
is_event_tag tag owner = list_any (bytes_eq tag) (event_tags owner)

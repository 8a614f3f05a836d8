-- The values of records, as contracts see them.
use Rattle.std.specs.Prelude.{ℕ, List, Option}
use Rattle.stored_lines.specs.Line.{Lines}
use Rattle.stored_lines.specs.declared.carried.Value.{Value}
use Rattle.record_fields.specs.declared.date.Date.{Date}
use Rattle.record_fields.specs.declared.entry_words.EntryKind.{EntryKind}
use Rattle.record_fields.specs.declared.entry_words.Role.{Role}
use Rattle.record_fields.specs.declared.item.Item.{Item}
use Rattle.record_fields.specs.declared.words.Quality.{Quality}
use Rattle.record_fields.specs.declared.words.Sex.{Sex}
use Rattle.record_fields.specs.declared.words.Partnership.{Partnership}

-- a place, within another or none
pub record Place : Type 0 where
  pub name : List ℕ
  pub parent : Option ℕ
  pub carried : Lines

-- a repository
pub record Repo : Type 0 where
  pub name : Option (List ℕ)
  pub carried : Lines

-- where a source is kept
pub record Holding : Type 0 where
  pub repo : ℕ
  pub call_number : Option (List ℕ)
  pub carried : Lines

-- a source
pub record Source : Type 0 where
  pub title : Option (List ℕ)
  pub author : Option (List ℕ)
  pub publisher : Option (List ℕ)
  pub holdings : List Holding
  pub carried : Lines

-- where in a source something stands, for a person, a family or an event
pub record Citation : Type 0 where
  pub owner : ℕ
  pub source : ℕ
  pub page : Option (List ℕ)
  pub quality : Option Quality
  pub carried : Lines

-- a name of a person
pub record Name : Type 0 where
  pub text : List ℕ
  pub carried : Lines

-- a person
pub record Person : Type 0 where
  pub names : List Name
  pub sex : Option Sex
  pub carried : Lines

-- a husband or a wife: the carried lines of the family's side, and those of the person's
pub record Partner : Type 0 where
  pub partnership : Partnership
  pub person : ℕ
  pub carried : Lines
  pub carried_by_person : Lines

-- a child: the carried lines of the family's side, and those of the person's
pub record Child : Type 0 where
  pub person : ℕ
  pub carried : Lines
  pub carried_by_person : Lines

-- a family
pub record Family : Type 0 where
  pub partners : List Partner
  pub children : List Child
  pub carried : Lines

-- the place of an event, with the carried lines of the line that names it
pub record EventPlace : Type 0 where
  pub place : ℕ
  pub carried : Lines

-- who took part in an event
pub record Participant : Type 0 where
  pub person : ℕ
  pub role : List ℕ
  pub carried : Lines

-- an event of a person or a family
pub record Event : Type 0 where
  pub owner : ℕ
  pub tag : List ℕ
  pub value : List ℕ
  pub date : Option Date
  pub place : Option EventPlace
  pub participants : List Participant
  pub carried : Lines

-- which person a mention is of, and why
pub record Link : Type 0 where
  pub person : ℕ
  pub reason : List ℕ

-- who is named in a register entry, and as what
pub record Mention : Type 0 where
  pub role : Role
  pub name : List ℕ
  pub link : Option Link

-- a register entry
pub record Entry : Type 0 where
  pub source : ℕ
  pub kind : EntryKind
  pub page : List ℕ
  pub item : Item
  pub date : Option Date
  pub place : Option ℕ
  pub text : List ℕ
  pub mentions : List Mention

-- a record of no other kind
pub record Other : Type 0 where
  pub tag : List ℕ
  pub value : Value
  pub carried : Lines

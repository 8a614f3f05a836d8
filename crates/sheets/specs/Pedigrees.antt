-- Pedigrees by Ahnentafel numbers: the subject is 1, the father of n is 2n, the mother 2n + 1. Who the parents are, and
-- which dates are shown, is a rule of our own.
use Rattle.std.specs.Prelude.{
  ℕ,
  zero,
  suc,
  ◌-◌,
  ◌^◌,
  ◌/◌,
  ◌%◌,
  ◌==◌,
  Bool,
  true,
  false,
  if◌then◌else◌,
  List,
  [],
  ◌∷◌,
  ◌++◌,
  bytes_eq,
  codes,
  Option,
  Some,
  None,
  Result,
  Ok,
  Err,
}
use Rattle.std.specs.Option.{option_and_then}
use Rattle.record_fields.specs.declared.date.Date.{Date}
use Rattle.record_fields.specs.declared.words.Partnership.{Partnership}
use Rattle.record_fields.specs.declared.words.Partnership.TheVariants as partnership
use Rattle.record_kinds.specs.Model as model
use Rattle.record_kinds.specs.declared.record.Record.{Record}
use Rattle.record_kinds.specs.declared.record.Record.TheVariants as kind
use Rattle.record_text.specs.declared.refusal.RefusalKind.{RefusalKind}
use Rattle.record_text.specs.declared.refusal.RefusalKind.TheVariants.{NoSuch, WrongKind}
use Rattle.archive_state.specs.Content.{Records}
use Rattle.sheet_lines.specs.Lines.{ancestor_line, ancestor_words}
use Rattle.sheets.specs.Gathered.{Gathered, gathered}
use Rattle.sheets.specs.Owned.{display_in}

-- ---- parents: the first husband and the first wife of the lowest family where the person is a child
abbrev pub is_as : Partnership → Partnership → Bool
is_as partnership.Husband partnership.Husband = true
is_as partnership.Wife partnership.Wife = true
is_as _ _ = false

abbrev pub first_as : Partnership → List model.Partner → Option ℕ
first_as w [] = None
first_as w (p ∷ more) = if is_as p.partnership w then Some p.person else first_as w more

abbrev pub partner_as : Partnership → Option Record → Option ℕ
partner_as w (Some (kind.Family f)) = first_as w f.partners
partner_as w _ = None

abbrev pub parent_in : Gathered → Partnership → List ℕ → Option ℕ
parent_in g w [] = None
parent_in g w (family ∷ more) = partner_as w (g.at family)

abbrev pub parent : Gathered → Partnership → ℕ → Option ℕ
parent g w person = parent_in g w (g.child_in person)

-- ---- numbers
-- a father has an even number, a mother an odd one
abbrev pub side : ℕ → Partnership
side number = if number % 2 == 0 then partnership.Husband else partnership.Wife

-- who stands at a number, in so many steps down to the subject
abbrev pub stands_by : ℕ → Gathered → ℕ → ℕ → Option ℕ
stands_by zero g subject number = None
stands_by (suc steps) g subject number = if number == 1 then Some subject
    else option_and_then (parent g (side number)) (stands_by steps g subject (number / 2))

-- the subject stands at 1, the father of who stands at n at 2n, the mother at 2n + 1
unfoldable pub stands_at : Gathered → ℕ → ℕ → Option ℕ
stands_at g subject number = stands_by number g subject number

-- ---- lines
-- the date of an event with that tag
abbrev pub date_as : List ℕ → Option Record → Option Date
date_as tag (Some (kind.Event e)) = if bytes_eq e.tag tag then e.date else None
date_as tag _ = None

abbrev pub or_else : {A : Type 0} → Option A → Option A → Option A
or_else None other = other
or_else (Some a) other = Some a

-- the first of these dates
abbrev pub first_date : (ℕ → Option Record) → List ℕ → List ℕ → Option Date
first_date at tag [] = None
first_date at tag (k ∷ ks) = or_else (date_as tag (at k)) (first_date at tag ks)

-- the date of the lowest birth, or death, with a date
abbrev pub date_of : Gathered → List ℕ → ℕ → Option Date
date_of g tag person = first_date g.at tag (g.events person)

-- what is said of a person
abbrev pub words_of : Gathered → ℕ → List ℕ
words_of g person = ancestor_words (display_in (g.at person)) (date_of g (codes "BIRT") person)
    (date_of g (codes "DEAT") person)

abbrev pub ancestor_in : Gathered → ℕ → Option ℕ → List ℕ
ancestor_in g number None = []
ancestor_in g number (Some person) = ancestor_line number (words_of g person)

-- the line of a number, if anybody stands there
abbrev pub line_at : Gathered → ℕ → ℕ → List ℕ
line_at g subject number = ancestor_in g number (stands_at g subject number)

-- the lines of the numbers from 1 to the last
abbrev pub lines_to : (ℕ → List ℕ) → ℕ → List ℕ
lines_to f zero = []
lines_to f (suc last) = lines_to f last ++ f (suc last)

-- so many generations are the numbers below 2 to that power
abbrev pub pedigree_text : Gathered → ℕ → ℕ → List ℕ
pedigree_text g subject generations = lines_to (line_at g subject) (2 ^ generations - 1)

abbrev pub pedigree_in : Gathered → ℕ → ℕ → Option Record → Result (List ℕ) RefusalKind
pedigree_in g n generations None = Err NoSuch
pedigree_in g n generations (Some (kind.Person p)) = Ok (pedigree_text g n generations)
pedigree_in g n generations (Some r) = Err WrongKind

abbrev pub pedigree : Records → ℕ → ℕ → Result (List ℕ) RefusalKind
pedigree m n generations = pedigree_in (gathered m) n generations ((gathered m).at n)

-- What holds of corrections.
use Rattle.std.specs.Prelude.{
  ◌≡◌,
  ◌↔◌,
  ◌&&◌,
  nat_lt,
  Bool,
  true,
  false,
  [],
  ◌++◌,
  length,
  Option,
  Some,
  None,
  Ok,
  Err,
  IfErr,
  IfOk,
}
use Rattle.std.specs.List.{flat_map}
use Rattle.record_text.specs.declared.refusal.RefusalKind.{RefusalKind}
use Rattle.record_text.specs.declared.refusal.RefusalKind.TheVariants.{NoSuchField, BadText, NotOfKind}
use Rattle.record_fields.specs.Items.{first_item}
use Rattle.record_kinds.specs.Model as model
use Rattle.record_kinds.specs.declared.record.Record.{Record}
use Rattle.record_kinds.specs.declared.record.Record.TheVariants as kind
use Rattle.record_shapes.specs.Forms.{is_empty}
use Rattle.stored_lines.specs.Line.{Lines}
use Rattle.corrections.specs.Corrections.{corrected}
use Rattle.corrections.specs.Fields.{field_of, has_field}
use Rattle.corrections.specs.declared.correction.Correction.{Correction}
use Rattle.corrections.specs.declared.correction.Correction.TheVariants as value
use Rattle.corrections.specs.declared.field.Field.{Field}
use Rattle.corrections.specs.declared.field.Field.TheVariants as field
use Rattle.corrections.specs.declared.field.TextField.TheVariants as text_field

-- a correction of a field that the record has not is refused so, and no other
abbrev pub RefusesOtherFields : Type 0
RefusesOtherFields = (r : Record) (c : Correction) → (corrected c r ≡ Err NoSuchField) ↔ (has_field r (field_of c)
    ≡ false)

-- what a record refuses by itself: 64, 58 and 62
abbrev pub is_own : RefusalKind → Bool
is_own NoSuchField = true
is_own BadText = true
is_own NotOfKind = true
is_own _ = false

-- no other refusal comes
abbrev pub RefusesItself : Type 0
RefusesItself = (r : Record) (c : Correction) → IfErr (corrected c r) (λ e. is_own e ≡ true)

-- ---- the other fields
-- a record without what it has of a field; a field of a list takes the list with it
abbrev pub apart : Record → Field → Record
apart (kind.Person p) field.Sex = kind.Person (record p { sex = None })
apart (kind.Person p) (field.Text (text_field.NameAt k)) = kind.Person (record p { names = [] })
apart (kind.Event e) field.Tag = kind.Event (record e { tag = [] })
apart (kind.Event e) field.Date = kind.Event (record e { date = None })
apart (kind.Event e) field.Place = kind.Event (record e { place = None })
apart (kind.Event e) (field.Text text_field.Value) = kind.Event (record e { value = [] })
apart (kind.Place p) (field.Text text_field.Name) = kind.Place (record p { name = [] })
apart (kind.Repo r) (field.Text text_field.Name) = kind.Repo (record r { name = None })
apart (kind.Source s) field.Repository = kind.Source (record s { holdings = [] })
apart (kind.Source s) (field.Text text_field.Title) = kind.Source (record s { title = None })
apart (kind.Source s) (field.Text text_field.Author) = kind.Source (record s { author = None })
apart (kind.Source s) (field.Text text_field.Publisher) = kind.Source (record s { publisher = None })
apart (kind.Source s) (field.Text text_field.CallNumber) = kind.Source (record s { holdings = [] })
apart (kind.Citation c) field.Quality = kind.Citation (record c { quality = None })
apart (kind.Citation c) (field.Text text_field.Page) = kind.Citation (record c { page = None })
apart (kind.Entry e) field.Item = kind.Entry (record e { item = first_item })
apart (kind.Entry e) field.Date = kind.Entry (record e { date = None })
apart (kind.Entry e) field.Place = kind.Entry (record e { place = None })
apart (kind.Entry e) (field.Text text_field.Page) = kind.Entry (record e { page = [] })
apart (kind.Entry e) (field.Text text_field.Text) = kind.Entry (record e { text = [] })
apart (kind.Entry e) (field.Text (text_field.NameAt k)) = kind.Entry (record e { mentions = [] })
apart (kind.Entry e) (field.Text (text_field.RoleAt k)) = kind.Entry (record e { mentions = [] })
apart r f = r

-- what is corrected differs from the record in that field only
abbrev pub LeavesOtherFields : Type 0
LeavesOtherFields = (r : Record) (c : Correction) → IfOk (corrected c r) (λ s. apart s (field_of c) ≡ apart r
    (field_of c))

-- ---- carried lines
abbrev pub place_carried : Option model.EventPlace → Lines
place_carried None = []
place_carried (Some p) = p.carried

-- the carried lines of the parts that a correction changes, and then those of the record
abbrev pub carried_of : Record → Lines
carried_of (kind.Person p) = flat_map (λ (n : model.Name). n.carried) p.names ++ p.carried
carried_of (kind.Event e) = place_carried e.place ++ e.carried
carried_of (kind.Source s) = flat_map (λ (h : model.Holding). h.carried) s.holdings ++ s.carried
carried_of (kind.Place p) = p.carried
carried_of (kind.Repo r) = r.carried
carried_of (kind.Citation c) = c.carried
carried_of (kind.Family f) = f.carried
carried_of (kind.Other o) = o.carried
carried_of (kind.Entry e) = []

-- a name is removed, or the place of an event or a repository is taken away
abbrev pub takes_away : Record → Correction → Bool
takes_away (kind.Person p) (value.Text (text_field.NameAt k) t) = is_empty t && nat_lt 1 (length p.names)
takes_away (kind.Event e) (value.Place None) = true
takes_away (kind.Source s) (value.Repository None) = true
takes_away _ _ = false

-- otherwise each carried line stays, in its place
abbrev pub LeavesCarriedLines : Type 0
LeavesCarriedLines = (r : Record) (c : Correction) → takes_away r c ≡ false
    → IfOk (corrected c r) (λ s. carried_of s ≡ carried_of r)

-- ---- one correction after another
-- of two corrections of a field the later one counts, where the first took nothing away
abbrev pub LaterCounts : Type 0
LaterCounts = (r : Record) (c : Correction) → takes_away r c ≡ false → (d : Correction) → field_of d ≡ field_of c
    → IfOk (corrected c r) (λ s. corrected d s ≡ corrected d r)

-- so what a record had is put back by the correction that leaves the record as it is
abbrev pub GivesBack : Type 0
GivesBack = (r : Record) (c : Correction) → takes_away r c ≡ false → (d : Correction) → field_of d ≡ field_of c
    → corrected d r ≡ Ok r → IfOk (corrected c r) (λ s. corrected d s ≡ Ok r)

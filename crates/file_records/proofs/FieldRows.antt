-- What a line that names a membership is in the table of its record.
use Rattle.std.proofs.Common.{◌≡◌, ℕ, Bool, true, false, refl, ap, ◌∙◌, cond}
use Rattle.std.specs.Prelude.{◌&&◌, Option, Some, None}
use Rattle.record_shapes.specs.declared.field.Field.{Field}
use Rattle.record_shapes.specs.Fields.{
  a_citation,
  a_member,
  a_name,
  a_sex,
  a_side,
  an_event,
  carried,
  is_same,
  row,
}
use Rattle.file_records.specs.Told.{told_as}
use Rattle.file_records.specs.declared.told.Told.{Told}

-- a row of which the test fails is passed over
row_false : (a : Bool) (x : Field) (otherwise : Field) → row (a && false) x otherwise ≡ otherwise
row_false true x otherwise = refl
row_false false x otherwise = refl

-- ---- below a family
no_member : (e s : Bool) → is_same (row e an_event (row s a_citation carried)) a_member ≡ false
no_member true s = refl
no_member false true = refl
no_member false false = refl

pub member_row : (m e s : Bool) → is_same (row m a_member (row e an_event (row s a_citation carried))) a_member ≡ m
member_row true e s = refl
member_row false e s = no_member e s

-- ---- below a person
no_side : (s : Bool) → is_same (row s a_citation carried) a_side ≡ false
no_side true = refl
no_side false = refl

-- of a text
pub text_no_side : (a b c m s : Bool)
    → is_same (row a a_name (row b a_sex (row c an_event (row (m && false) a_side (row s a_citation carried))))) a_side
    ≡ false
text_no_side true b c m s = refl
text_no_side false true c m s = refl
text_no_side false false true m s = refl
text_no_side false false false true s = no_side s
text_no_side false false false false s = no_side s

side_row : (m s : Bool) → is_same (row m a_side (row s a_citation carried)) a_side ≡ m
side_row true s = refl
side_row false s = no_side s

-- of a pointer
pub pointer_side : (a b c m s : Bool)
    → is_same (row (a && false) a_name (row (b && false) a_sex (row (c && false) an_event
    (row m a_side (row s a_citation carried))))) a_side ≡ m
pointer_side a b c m s =
    ap (λ x. is_same x a_side) (row_false a a_name _ ∙ row_false b a_sex _ ∙ row_false c an_event _) ∙ side_row m s

-- ---- what such lines tell
-- a membership of that record, where there is one
abbrev pub told_if : Bool → Bool → ℕ → Option Told
told_if m as_partner k = cond m (Some (record { other = k; as_partner = as_partner })) None

pub none_told : (tag as_partner : Bool) → cond tag (told_as as_partner None) None ≡ None
none_told true as_partner = refl
none_told false as_partner = refl

-- by one of the tags, where the record is of the kind d
pub one_told : (tag as_partner d : Bool) (k : ℕ)
    → cond tag (told_as as_partner (cond d (Some k) None)) None ≡ told_if (tag && d) as_partner k
one_told true as_partner true k = refl
one_told true as_partner false k = refl
one_told false as_partner d k = refl

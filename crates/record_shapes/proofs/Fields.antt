-- Fields are distinguished by their numbers.
use Rattle.std.specs.Prelude.{ℕ, ◌≡◌, ◌==◌, true, if◌then◌else◌, refl}
use Rattle.std.proofs.Common.{ap, sym, ◌∙◌}
use Rattle.std.proofs.lemmas.Bool.{eqb-true}
use Rattle.record_shapes.specs.Fields.{
  Field,
  a_call_number,
  a_citation,
  a_date,
  a_holding,
  a_member,
  a_name,
  a_page,
  a_parent,
  a_participant,
  a_place,
  a_publisher,
  a_quality,
  a_role,
  a_sex,
  a_side,
  a_title,
  an_author,
  an_event,
  carried,
  field_number,
  is_same,
}

abbrev numbered : ℕ → Field
numbered n = if n == 1 then a_name
    else (if n == 2 then a_parent else (if n == 3 then a_sex else (if n == 4 then an_event else (if n == 5 then a_side
    else (if n == 6 then a_citation
    else (if n == 7 then a_title
    else (if n == 8 then an_author else (if n == 9 then a_publisher else (if n == 10 then a_holding
    else (if n == 11 then a_call_number
    else (if n == 12 then a_member
    else (if n == 13 then a_page else (if n == 14 then a_quality else (if n == 15 then a_date
    else (if n == 16 then a_place
    else (if n == 17 then a_participant else (if n == 18 then a_role else carried)))))))))))))))))

numbered-back : (x : Field) → numbered (field_number x) ≡ x
numbered-back a_name = refl
numbered-back a_parent = refl
numbered-back a_sex = refl
numbered-back an_event = refl
numbered-back a_side = refl
numbered-back a_citation = refl
numbered-back a_title = refl
numbered-back an_author = refl
numbered-back a_publisher = refl
numbered-back a_holding = refl
numbered-back a_call_number = refl
numbered-back a_member = refl
numbered-back a_page = refl
numbered-back a_quality = refl
numbered-back a_date = refl
numbered-back a_place = refl
numbered-back a_participant = refl
numbered-back a_role = refl
numbered-back carried = refl

pub same_field : (x y : Field) → is_same x y ≡ true → x ≡ y
same_field x y e = sym (numbered-back x) ∙ ap numbered (eqb-true (field_number x) (field_number y) e) ∙ numbered-back y

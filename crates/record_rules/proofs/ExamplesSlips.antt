-- Slips of merges: archives that break one rule, each with its nearest neighbour that is sound.
use Rattle.std.specs.Prelude.{ℕ, ◌≡◌, Bool, true, false, not, List, [], ◌∷◌, codes, Option, Some, None, refl}
use Rattle.std.proofs.Common.{ap, sym, true≢false}
use Rattle.record_kinds.specs.declared.record.Record.TheVariants as kind
use Rattle.record_rules.specs.Judged.{is_nil}
use Rattle.record_kinds.specs.declared.record.Record.{Record}
use Rattle.record_shapes.specs.Shapes.{pointer_line, text_line}
use Rattle.archive_state.specs.Slips.{Slip}
use Rattle.archive_state.specs.declared.slip.Change.{Change}
use Rattle.archive_state.specs.Sound.{IsSound}
use Rattle.record_rules.specs.Archives.{Archive, content}
use Rattle.record_rules.specs.Rules.{
  IsMerge,
  OneBreaks,
  SlipRule,
  apart,
  ascending,
  broken,
  distinct,
  free,
  gone_person,
  joinable,
  keep_person,
  of_olds,
  of_slips,
  slip_links,
  slip_numbers,
  stayed,
  tags,
  untaken,
}
use Rattle.record_rules.proofs.Sound.{judged, sound, unmerged}
use Rattle.record_rules.proofs.Hands.{called, child, family, husband, other, person}

abbrev change : ℕ → Record → Option Record → Change
change n old new = record { number = n; old = old; new = new }

abbrev merge : ℕ → ℕ → List Change → Slip
merge keep gone changes = record { keep = keep; gone = gone; changes = changes; is_undone = false }

-- a slip with the number 9, beside a person 1; the next number is 10
abbrev with_slip : Slip → Archive
with_slip s = record { records = (1, person []) ∷ []; next = 10; slips = (9, s) ∷ [] }

-- only the one breaks a rule, the other is sound
abbrev OneIsBroken : SlipRule → Slip → Slip → Type 0
OneIsBroken r s t = OneBreaks (of_slips r) (with_slip s) (with_slip t) × IsMerge s × IsMerge t

-- 2, a person without anything, was merged into 1
abbrev plain : Slip
plain = merge 1 2 (change 2 (person []) None ∷ [])

pub a_plain_slip : (broken (with_slip plain) ≡ []) × IsMerge plain
a_plain_slip = (refl, (refl, tt))

-- ---- numbers
pub a_number_of_a_record_and_a_slip : OneBreaks distinct
    (record { records = (1, person []) ∷ []; next = 10; slips = (1, plain) ∷ [] })
    (record { records = (1, person []) ∷ []; next = 10; slips = (3, plain) ∷ [] })
a_number_of_a_record_and_a_slip = (refl, refl)

-- the person that stays is a person, or is gone
pub a_family_where_a_person_stayed : OneBreaks stayed
    (record { records = (1, family [] [] []) ∷ []; next = 10; slips = (9, plain) ∷ [] })
    (record { records = []; next = 10; slips = (9, plain) ∷ [] })
a_family_where_a_person_stayed = (refl, refl)

-- a slip may not have the number of the person that is gone
pub a_slip_where_a_person_is_gone : OneBreaks free
    (record { records = (1, person []) ∷ []; next = 10; slips = (2, plain) ∷ [] })
    (record { records = (1, person []) ∷ []; next = 10; slips = (3, plain) ∷ [] })
a_slip_where_a_person_is_gone = (refl, refl)

pub a_slip_with_the_number_0 : OneBreaks (of_slips slip_numbers)
    (record { records = []; next = 10; slips = (0, plain) ∷ [] })
    (record { records = []; next = 10; slips = (3, plain) ∷ [] })
a_slip_with_the_number_0 = (refl, refl)

pub a_slip_at_the_next_number : OneBreaks (of_slips slip_numbers)
    (record { records = []; next = 3; slips = (3, plain) ∷ [] })
    (record { records = []; next = 4; slips = (3, plain) ∷ [] })
a_slip_at_the_next_number = (refl, refl)

-- what is outside the slip need not be there, but is below the next number
pub a_number_in_a_slip_above_the_next : OneIsBroken slip_numbers
    (merge 1 2 (change 1 (person []) (Some (person (pointer_line (codes "NOTE") 12 [] ∷ []))) ∷ change 2
    (person (pointer_line (codes "NOTE") 12 [] ∷ [])) None ∷ []))
    (merge 1 2 (change 1 (person []) (Some (person (pointer_line (codes "NOTE") 7 [] ∷ []))) ∷ change 2
    (person (pointer_line (codes "NOTE") 7 [] ∷ [])) None ∷ []))
a_number_in_a_slip_above_the_next = ((refl, refl), (refl, (refl, tt)), (refl, (refl, tt)))

-- ---- the two persons
pub a_person_merged_into_itself : OneIsBroken apart (merge 2 2 (change 2 (person []) None ∷ [])) plain
a_person_merged_into_itself = ((refl, refl), (refl, tt), (refl, tt))

pub a_family_that_is_gone : OneIsBroken gone_person
    (merge 1 2 (change 1 (person []) (Some (person [])) ∷ change 2 (family [] [] []) None ∷ [])) plain
a_family_that_is_gone = ((refl, refl), (refl, (refl, tt)), (refl, tt))

pub nobody_is_gone : OneIsBroken gone_person (merge 1 2 []) plain
nobody_is_gone = ((refl, refl), tt, (refl, tt))

-- where the person that stays did not change, the other had no name
pub a_name_that_is_lost : OneIsBroken keep_person (merge 1 2 (change 2 (called (codes "Ann")) None ∷ []))
    (merge 1 2 (change 1 (person []) (Some (called (codes "Ann"))) ∷ change 2 (called (codes "Ann")) None ∷ []))
a_name_that_is_lost = ((refl, refl), (refl, tt), (refl, (refl, tt)))

pub a_carried_line_that_is_lost : OneIsBroken keep_person
    (merge 1 2 (change 2 (person (text_line (codes "NOTE") [] ∷ [])) None ∷ []))
    (merge 1 2 (change 1 (person []) (Some (person (text_line (codes "NOTE") [] ∷ []))) ∷ change 2
    (person (text_line (codes "NOTE") [] ∷ [])) None ∷ []))
a_carried_line_that_is_lost = ((refl, refl), (refl, tt), (refl, (refl, tt)))

pub a_note_that_stays : OneIsBroken keep_person
    (merge 1 2 (change 1 (other (codes "NOTE") []) (Some (other (codes "NOTE") [])) ∷ change 2 (person []) None ∷ []))
    plain
a_note_that_stays = ((refl, refl), (refl, (refl, tt)), (refl, tt))

-- ---- the changes
pub changes_out_of_order : OneIsBroken ascending
    (merge 1 2 (change 2 (called (codes "Ann")) None ∷ change 1 (person []) (Some (called (codes "Ann"))) ∷ []))
    (merge 1 2 (change 1 (person []) (Some (called (codes "Ann"))) ∷ change 2 (called (codes "Ann")) None ∷ []))
changes_out_of_order = ((refl, refl), (refl, (refl, tt)), (refl, (refl, tt)))

-- husband and child, or one of them elsewhere
pub a_father_merged_into_his_child : OneIsBroken joinable
    (merge 1 2 (change 2 (person []) None ∷ change 3 (family (husband 2 ∷ []) (child 1 ∷ []) [])
    (Some (family (husband 1 ∷ []) (child 1 ∷ []) [])) ∷ []))
    (merge 1 2 (change 2 (person []) None ∷ change 3 (family (husband 2 ∷ []) (child 4 ∷ []) [])
    (Some (family (husband 1 ∷ []) (child 4 ∷ []) [])) ∷ []))
a_father_merged_into_his_child = ((refl, refl), (refl, (refl, tt)), (refl, (refl, tt)))

-- both may be children of one family, which is then once there
pub two_children_become_one : (broken
    (with_slip (merge 1 2 (change 2 (person []) None ∷ change 3 (family [] (child 4 ∷ child 2 ∷ child 1 ∷ []) [])
    (Some (family [] (child 4 ∷ child 1 ∷ []) [])) ∷ []))) ≡ [])
    × IsMerge (merge 1 2 (change 2 (person []) None ∷ change 3 (family [] (child 4 ∷ child 2 ∷ child 1 ∷ []) [])
    (Some (family [] (child 4 ∷ child 1 ∷ []) [])) ∷ []))
two_children_become_one = (refl, (refl, (refl, tt)))

-- ---- the old records
-- a family has a child that in the slip is a family
pub an_old_record_with_a_wrong_link : OneIsBroken slip_links
    (merge 1 2 (change 2 (person []) None ∷ change 3 (family (husband 2 ∷ []) (child 4 ∷ []) [])
    (Some (family (husband 1 ∷ []) (child 4 ∷ []) []))
    ∷ change 4 (family (husband 2 ∷ []) [] []) (Some (family (husband 1 ∷ []) [] [])) ∷ []))
    (merge 1 2 (change 2 (person []) None ∷ change 3 (family (husband 2 ∷ []) (child 5 ∷ []) [])
    (Some (family (husband 1 ∷ []) (child 5 ∷ []) []))
    ∷ change 4 (family (husband 2 ∷ []) [] []) (Some (family (husband 1 ∷ []) [] [])) ∷ []))
an_old_record_with_a_wrong_link = ((refl, refl), (refl, (refl, (refl, tt))), (refl, (refl, (refl, tt))))

pub an_old_record_with_a_wrong_tag : OneIsBroken (of_olds tags)
    (merge 1 2 (change 1 (person []) (Some (person (text_line (codes "CONT") [] ∷ []))) ∷ change 2
    (person (text_line (codes "CONT") [] ∷ [])) None ∷ []))
    (merge 1 2 (change 1 (person []) (Some (person (text_line (codes "NOTE") [] ∷ []))) ∷ change 2
    (person (text_line (codes "NOTE") [] ∷ [])) None ∷ []))
an_old_record_with_a_wrong_tag = ((refl, refl), (refl, (refl, tt)), (refl, (refl, tt)))

pub an_old_record_with_a_line_of_a_field : OneIsBroken (of_olds untaken)
    (merge 1 2 (change 1 (person []) (Some (person (text_line (codes "BIRT") [] ∷ []))) ∷ change 2
    (person (text_line (codes "BIRT") [] ∷ [])) None ∷ []))
    (merge 1 2 (change 1 (person []) (Some (person (text_line (codes "MARR") [] ∷ []))) ∷ change 2
    (person (text_line (codes "MARR") [] ∷ [])) None ∷ []))
an_old_record_with_a_line_of_a_field = ((refl, refl), (refl, (refl, tt)), (refl, (refl, tt)))

pub judged_slips : (r : SlipRule) (s t : Slip) → OneIsBroken r s t → ¬ (IsSound (content (with_slip s)))
    × IsSound (content (with_slip t))
judged_slips r s t h = judged (of_slips r) (with_slip s) (with_slip t) h.0 (h.2, tt)

-- ---- the new records
-- this rule has no test: what is new is no merge of what is old
abbrev IsNoMerge : Slip → Slip → Type 0
IsNoMerge s t = (broken (with_slip s) ≡ []) × ¬ (IsMerge s) × (broken (with_slip t) ≡ []) × IsMerge t

pub judged_merges : (s t : Slip) → IsNoMerge s t → ¬ (IsSound (content (with_slip s))) × IsSound (content (with_slip t))
judged_merges s t h = (unmerged (with_slip s) 9 s refl h.1, sound (with_slip t) h.2 (h.3, tt))

abbrev is_there : Option Record → Bool
is_there None = false
is_there (Some r) = true

pub a_person_that_is_still_there : IsNoMerge (merge 1 2 (change 2 (person []) (Some (person [])) ∷ [])) plain
a_person_that_is_still_there = (refl, (λ h. true≢false (ap is_there h.0)), refl, (refl, tt))

abbrev has_names : Option Record → Bool
has_names (Some (kind.Person p)) = not (is_nil p.names)
has_names _ = false

pub a_name_that_is_not_handed_on : IsNoMerge
    (merge 1 2 (change 1 (person []) (Some (person [])) ∷ change 2 (called (codes "Ann")) None ∷ []))
    (merge 1 2 (change 1 (person []) (Some (called (codes "Ann"))) ∷ change 2 (called (codes "Ann")) None ∷ []))
a_name_that_is_not_handed_on = (refl, (λ h. true≢false (ap has_names (sym h.0))), refl, (refl, (refl, tt)))

abbrev has_partners : Option Record → Bool
has_partners (Some (kind.Family f)) = not (is_nil f.partners)
has_partners _ = false

pub a_husband_that_is_lost : IsNoMerge
    (merge 1 2 (change 2 (person []) None ∷ change 3 (family (husband 2 ∷ []) [] []) (Some (family [] [] [])) ∷ []))
    (merge 1 2 (change 2 (person []) None ∷ change 3 (family (husband 2 ∷ []) [] [])
    (Some (family (husband 1 ∷ []) [] [])) ∷ []))
a_husband_that_is_lost = (refl, (λ h. true≢false (ap has_partners (sym h.1.0))), refl, (refl, (refl, tt)))

-- Numbers and links: archives that break one rule, each with its nearest neighbour that is sound.
use Rattle.std.specs.Prelude.{[], ◌∷◌, codes, Some, None, refl}
use Rattle.record_shapes.specs.Shapes.{pointer_line}
use Rattle.record_shapes.specs.Paths.{has_part, is_within_limits, normal}
use Rattle.record_rules.specs.Rules.{OneBreaks, begun, bounded, linked, numbers, of_records}
use Rattle.record_rules.proofs.Hands.{citation, event, family, holding, husband, other, person, place, source}

-- ---- the next number
pub no_next_number : OneBreaks begun (holding [] 0) (holding [] 1)
no_next_number = (refl, refl)

pub a_next_number_that_is_too_large : OneBreaks bounded (holding [] 4294967297) (holding [] 4294967296)
a_next_number_that_is_too_large = (refl, refl)

-- ---- numbers of records
pub a_number_that_is_the_next : OneBreaks (of_records numbers) (holding ((3, person []) ∷ []) 3)
    (holding ((3, person []) ∷ []) 4)
a_number_that_is_the_next = (refl, refl)

pub a_number_above_the_next : OneBreaks (of_records numbers) (holding ((1, person []) ∷ (9, person []) ∷ []) 2)
    (holding ((1, person []) ∷ (9, person []) ∷ []) 10)
a_number_above_the_next = (refl, refl)

pub the_number_0 : OneBreaks (of_records numbers) (holding ((0, person []) ∷ []) 2) (holding ((1, person []) ∷ []) 2)
the_number_0 = (refl, refl)

-- ---- links
pub a_citation_of_no_source : OneBreaks linked (holding ((1, person []) ∷ (2, citation 1 4 None []) ∷ []) 5)
    (holding ((1, person []) ∷ (2, citation 1 4 None []) ∷ (4, source None [] []) ∷ []) 5)
a_citation_of_no_source = (refl, refl)

pub a_citation_of_a_person : OneBreaks linked
    (holding ((1, person []) ∷ (2, citation 1 1 None []) ∷ (4, source None [] []) ∷ []) 5)
    (holding ((1, person []) ∷ (2, citation 1 4 None []) ∷ (4, source None [] []) ∷ []) 5)
a_citation_of_a_person = (refl, refl)

pub an_event_of_nobody : OneBreaks linked (holding ((1, person []) ∷ (2, event 3 (codes "BIRT") None [] []) ∷ []) 4)
    (holding ((1, person []) ∷ (2, event 1 (codes "BIRT") None [] []) ∷ []) 4)
an_event_of_nobody = (refl, refl)

pub a_husband_who_is_a_family : OneBreaks linked (holding ((1, person []) ∷ (2, family (husband 2 ∷ []) [] []) ∷ []) 3)
    (holding ((1, person []) ∷ (2, family (husband 1 ∷ []) [] []) ∷ []) 3)
a_husband_who_is_a_family = (refl, refl)

pub a_parent_that_is_no_place : OneBreaks linked
    (holding ((1, person []) ∷ (2, place (codes "Kent") (Some 1) []) ∷ []) 3)
    (holding ((1, place (codes "Kent") None []) ∷ (2, place (codes "Ashby") (Some 1) []) ∷ []) 3)
unfolding normal is_within_limits has_part
a_parent_that_is_no_place = (refl, refl)

-- ---- pointers on carried lines
pub a_pointer_to_nothing : OneBreaks linked (holding ((1, person (pointer_line (codes "NOTE") 2 [] ∷ [])) ∷ []) 3)
    (holding ((1, person (pointer_line (codes "NOTE") 2 [] ∷ [])) ∷ (2, other (codes "NOTE") []) ∷ []) 3)
a_pointer_to_nothing = (refl, refl)

pub a_pointer_to_an_event : OneBreaks linked
    (holding ((1, person (pointer_line (codes "NOTE") 2 [] ∷ [])) ∷ (2, event 1 (codes "BIRT") None [] []) ∷ []) 3)
    (holding ((1, person (pointer_line (codes "NOTE") 1 [] ∷ [])) ∷ (2, event 1 (codes "BIRT") None [] []) ∷ []) 3)
a_pointer_to_an_event = (refl, refl)

pub a_pointer_below_a_line_to_nothing : OneBreaks linked
    (holding ((1, person (pointer_line (codes "NOTE") 1 (pointer_line (codes "SOUR") 2 [] ∷ []) ∷ [])) ∷ []) 3)
    (holding ((1, person (pointer_line (codes "NOTE") 1 (pointer_line (codes "SOUR") 1 [] ∷ []) ∷ [])) ∷ []) 3)
a_pointer_below_a_line_to_nothing = (refl, refl)

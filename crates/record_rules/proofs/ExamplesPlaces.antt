-- Places, families and register entries: archives that break one rule, each with its nearest neighbour that is sound.
use Rattle.std.specs.Prelude.{ℕ, zero, suc, List, [], ◌∷◌, ◌++◌, codes, replicate, Some, None, refl}
use Rattle.record_fields.specs.declared.entry_words.Role.TheVariants as role
use Rattle.record_shapes.specs.Paths.{has_part, is_within_limits, normal}
use Rattle.record_rules.specs.Rules.{
  OneBreaks,
  keys,
  members,
  mentions,
  normal_names,
  of_records,
  parents,
  paths,
  places,
}
use Rattle.record_rules.proofs.Hands.{baptism, child, event, family, holding, husband, mention, person, place, source}

-- ---- the place above
pub a_place_below_itself : OneBreaks (of_records parents) (holding ((1, place (codes "Kent") (Some 1) []) ∷ []) 2)
    (holding ((1, place (codes "Kent") None []) ∷ []) 2)
unfolding normal is_within_limits has_part
a_place_below_itself = (refl, refl)

pub a_place_below_a_later_one : OneBreaks (of_records parents)
    (holding ((1, place (codes "Ashby") (Some 2) []) ∷ (2, place (codes "Kent") None []) ∷ []) 3)
    (holding ((1, place (codes "Kent") None []) ∷ (2, place (codes "Ashby") (Some 1) []) ∷ []) 3)
unfolding normal is_within_limits has_part
a_place_below_a_later_one = (refl, refl)

-- ---- names
pub a_name_with_a_space_in_front : OneBreaks (of_records normal_names)
    (holding ((1, place (codes " Kent") None []) ∷ []) 2) (holding ((1, place (codes "Kent") None []) ∷ []) 2)
unfolding normal is_within_limits has_part
a_name_with_a_space_in_front = (refl, refl)

pub a_comma_without_a_space : OneBreaks (of_records normal_names)
    (holding ((1, place (codes "Ashby,Kent") None []) ∷ []) 2)
    (holding ((1, place (codes "Ashby, Kent") None []) ∷ []) 2)
unfolding normal is_within_limits has_part
a_comma_without_a_space = (refl, refl)

-- ---- paths
-- that many parts and one more
abbrev parts : ℕ → List ℕ
parts zero = codes "a"
parts (suc n) = codes "a, " ++ parts n

pub a_path_of_33_parts : OneBreaks (of_records paths)
    (holding ((1, place (parts 31) None []) ∷ (2, place (codes "a") (Some 1) []) ∷ []) 3)
    (holding ((1, place (parts 30) None []) ∷ (2, place (codes "a") (Some 1) []) ∷ []) 3)
unfolding normal is_within_limits has_part
a_path_of_33_parts = (refl, refl)

-- ---- places of events and entries
pub an_event_at_a_place_without_a_name : OneBreaks (of_records places)
    (holding ((1, place (codes ", ") None []) ∷ (2, person []) ∷ (3, event 2 (codes "BIRT") (Some 1) [] []) ∷ []) 4)
    (holding ((1, place (codes ", Kent") None []) ∷ (2, person []) ∷ (3, event 2 (codes "BIRT") (Some 1) [] []) ∷ []) 4)
unfolding normal is_within_limits has_part
an_event_at_a_place_without_a_name = (refl, refl)

pub an_entry_at_a_place_without_a_name : OneBreaks (of_records places)
    (holding ((1, place [] None []) ∷ (2, source None [] []) ∷ (3, baptism 2 [] (Some 1) (mention role.Child ∷ []))
    ∷ []) 4) (holding ((1, place [] None []) ∷ (2, source None [] [])
    ∷ (3, baptism 2 [] None (mention role.Child ∷ [])) ∷ []) 4)
unfolding normal is_within_limits has_part
an_entry_at_a_place_without_a_name = (refl, refl)

-- ---- families
pub a_husband_who_is_his_own_child : OneBreaks (of_records members)
    (holding ((1, person []) ∷ (2, person []) ∷ (3, family (husband 1 ∷ []) (child 1 ∷ []) []) ∷ []) 4)
    (holding ((1, person []) ∷ (2, person []) ∷ (3, family (husband 1 ∷ []) (child 2 ∷ []) []) ∷ []) 4)
a_husband_who_is_his_own_child = (refl, refl)

pub a_child_that_is_there_twice : OneBreaks (of_records members)
    (holding ((1, person []) ∷ (2, person []) ∷ (3, family [] (child 1 ∷ child 1 ∷ []) []) ∷ []) 4)
    (holding ((1, person []) ∷ (2, person []) ∷ (3, family [] (child 1 ∷ child 2 ∷ []) []) ∷ []) 4)
a_child_that_is_there_twice = (refl, refl)

-- ---- register entries
pub an_entry_without_mentions : OneBreaks (of_records mentions)
    (holding ((1, source None [] []) ∷ (2, baptism 1 [] None []) ∷ []) 3)
    (holding ((1, source None [] []) ∷ (2, baptism 1 [] None (mention role.Child ∷ [])) ∷ []) 3)
an_entry_without_mentions = (refl, refl)

pub an_entry_with_101_mentions : OneBreaks (of_records mentions)
    (holding ((1, source None [] []) ∷ (2, baptism 1 [] None (replicate 101 (mention role.Child))) ∷ []) 3)
    (holding ((1, source None [] []) ∷ (2, baptism 1 [] None (replicate 100 (mention role.Child))) ∷ []) 3)
an_entry_with_101_mentions = (refl, refl)

pub a_groom_in_a_baptism : OneBreaks (of_records mentions)
    (holding ((1, source None [] []) ∷ (2, baptism 1 [] None (mention role.Child ∷ mention role.Groom ∷ [])) ∷ []) 3)
    (holding ((1, source None [] []) ∷ (2, baptism 1 [] None (mention role.Child ∷ mention role.Godparent ∷ [])) ∷ [])
    3)
a_groom_in_a_baptism = (refl, refl)

pub two_entries_of_one_key : OneBreaks (of_records keys)
    (holding ((1, source None [] []) ∷ (2, baptism 1 (codes "f. 3") None (mention role.Child ∷ []))
    ∷ (3, baptism 1 (codes "f. 3") None (mention role.Father ∷ [])) ∷ []) 4)
    (holding ((1, source None [] []) ∷ (2, baptism 1 (codes "f. 3") None (mention role.Child ∷ []))
    ∷ (3, baptism 1 (codes "f. 4") None (mention role.Father ∷ [])) ∷ []) 4)
two_entries_of_one_key = (refl, refl)

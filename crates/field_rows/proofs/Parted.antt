-- The parts of texts: a text made normal part by part, and how many parts there are.
use Rattle.std.proofs.Common.{
  ◌≡◌,
  ℕ,
  suc,
  ◌+◌,
  ◌-◌,
  ◌<◌,
  ◌≤◌,
  List,
  [],
  ◌∷◌,
  ◌++◌,
  length,
  map,
  false,
  ◌==◌,
  refl,
  sym,
  ap,
  ◌∙◌,
  append_assoc,
  arith,
}
use Rattle.std.specs.Prelude.{◌&&◌, nat_le}
use Rattle.std.specs.List.{onto_first}
use Rattle.std.proofs.lemmas.Bool.Decides.{nat_tests}
use Rattle.std.proofs.lemmas.List.Splits.{slice_split-cons_no}
use Rattle.record_shapes.specs.Paths.{joined, trimmed, parts, normal, is_within_limits}
use Rattle.record_shapes.specs.Fields.{path_below}
use Rattle.field_rows.specs.Cuts.{Without}
use Rattle.record_shapes.proofs.PathTexts.{parts_below, parts_some, joined_two, bytes_below}
use Rattle.list_laws.proofs.Numbers.{is_not}

-- ---- parts
behind_first : (b : ℕ) (bs : List ℕ) → Without 44 (b ∷ bs) → Without 44 bs
behind_first b bs h = λ i less. h (suc i) (omega arith)

first_is_none : (b : ℕ) (bs : List ℕ) → Without 44 (b ∷ bs) → (b == 44) ≡ false
first_is_none b bs h = is_not b 44 (h 0 (omega arith))

pub parts_cut : (part after : List ℕ) → Without 44 part → parts (part ++ (44 ∷ after)) ≡ part ∷ parts after
parts_cut [] after h = refl
parts_cut (b ∷ bs) after h =
    slice_split-cons_no (λ c. c == 44) b (bs ++ (44 ∷ after)) (first_is_none b bs h) ∙ ap (onto_first b)
    (parts_cut bs after (behind_first b bs h))

pub parts_alone : (t : List ℕ) → Without 44 t → parts t ≡ t ∷ []
parts_alone [] h = refl
parts_alone (b ∷ bs) h = slice_split-cons_no (λ c. c == 44) b bs (first_is_none b bs h)
    ∙ ap (onto_first b) (parts_alone bs (behind_first b bs h))

-- ---- how many

below_is : (name above : List ℕ) → is_within_limits (path_below name above)
    ≡ (nat_le (length (parts name) + length (parts above)) 32 && nat_le (length name + (2 + length above)) 4096)
unfolding is_within_limits
below_is name above = λ i. nat_le (parts_below name above i) 32 && nat_le (bytes_below name above i) 4096

over : (p q n a : ℕ) → 32 < p → (nat_le (p + q) 32 && nat_le (n + (2 + a)) 4096) ≡ false
over p q n a h = grind (arith, nat_tests)

over_bytes : (p q n a : ℕ) → 4094 < n → (nat_le (p + q) 32 && nat_le (n + (2 + a)) 4096) ≡ false
over_bytes p q n a h = grind (arith, nat_tests)

room : (p q n a : ℕ) → p ≤ 32 → n ≤ 4094 → (nat_le q (32 - p) && nat_le a (4094 - n))
    ≡ (nat_le (p + q) 32 && nat_le (n + (2 + a)) 4096)
room p q n a h k = grind (arith, nat_tests)

pub many_parts : (name above : List ℕ) → 32 < length (parts name) → is_within_limits (path_below name above) ≡ false
many_parts name above h = below_is name above
    ∙ over (length (parts name)) (length (parts above)) (length name) (length above) h

pub many_bytes : (name above : List ℕ) → 4094 < length name → is_within_limits (path_below name above) ≡ false
many_bytes name above h = below_is name above
    ∙ over_bytes (length (parts name)) (length (parts above)) (length name) (length above) h

pub room_is : (name above : List ℕ) → length (parts name) ≤ 32 → length name ≤ 4094
    → (nat_le (length (parts above)) (32 - length (parts name)) && nat_le (length above) (4094 - length name))
    ≡ is_within_limits (path_below name above)
room_is name above h k =
    room (length (parts name)) (length (parts above)) (length name) (length above) h k ∙ sym (below_is name above)

-- ---- made normal

normal_cut : (part after : List ℕ) → Without 44 part → normal (part ++ (44 ∷ after)) ≡ trimmed part
    ++ (44 ∷ (32 ∷ normal after))
unfolding normal
normal_cut part after h =
    let s = parts_some after in ap (λ l. joined (map trimmed l)) (parts_cut part after h)
    ∙ joined_two part (parts after) s.0 s.1 s.2

pub normal_alone : (t : List ℕ) → Without 44 t → normal t ≡ trimmed t
unfolding normal
normal_alone t h = ap (λ l. joined (map trimmed l)) (parts_alone t h)

-- one turn: what is made so far, and what is left
pub turn : (out part after rest whole : List ℕ) → rest ≡ part ++ (44 ∷ after) → Without 44 part
    → out ++ normal rest ≡ whole → ((out ++ trimmed part) ++ (44 ∷ (32 ∷ []))) ++ normal after ≡ whole
turn out part after rest whole e none h =
    append_assoc (out ++ trimmed part) (44 ∷ (32 ∷ [])) (normal after)
    ∙ append_assoc out (trimmed part) (44 ∷ (32 ∷ normal after))
    ∙ ap (λ l. out ++ l) (sym (normal_cut part after none) ∙ ap normal (sym e)) ∙ h

pub last_turn : (out rest whole : List ℕ) → Without 44 rest → out ++ normal rest ≡ whole → out ++ trimmed rest ≡ whole
last_turn out rest whole none h = ap (λ l. out ++ l) (sym (normal_alone rest none)) ∙ h

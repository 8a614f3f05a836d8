-- A path cut at its first comma.
use Rattle.std.proofs.Common.{
  ◌≡◌,
  ℕ,
  ◌+◌,
  ◌-◌,
  ◌≤◌,
  ◌<◌,
  Bool,
  true,
  false,
  List,
  [],
  ◌∷◌,
  ◌++◌,
  length,
  map,
  refl,
  sym,
  ap,
  ◌∙◌,
  arith,
}
use Rattle.std.specs.Prelude.{◌==◌, ◌||◌, nat_le}
use Rattle.std.specs.List.{list_any}
use Rattle.std.proofs.lemmas.Bool.Decides.{nat_tests}
use Rattle.record_text.specs.Text.{IsPlain}
use Rattle.record_shapes.specs.Fields.{path_below}
use Rattle.record_shapes.specs.Paths.{is_within_limits, joined, normal, parts, trimmed}
use Rattle.field_rows.specs.Cuts.{Without}
use Rattle.field_rows.proofs.Parted.{many_bytes, many_parts, room_is, parts_alone, parts_cut, normal_alone}
use Rattle.field_rows.proofs.Plain.{name_is_plain}
use Rattle.import_definitions.specs.Numbers.{names_of}
use Rattle.import_numbers.specs.Settling.{IsPathText}
use Rattle.list_laws.proofs.Booleans.{or_second, or_first, both_true}
use Rattle.record_shapes.proofs.PathTexts.{parts_some}

-- ---- names
pub names_cut : (t part after : List ℕ) → t ≡ part ++ (44 ∷ after) → Without 44 part
    → names_of t ≡ trimmed part ∷ names_of after
names_cut t part after e h = ap names_of e ∙ ap (map trimmed) (parts_cut part after h)

pub names_alone : (t : List ℕ) → Without 44 t → names_of t ≡ trimmed t ∷ []
names_alone t h = ap (map trimmed) (parts_alone t h)

pub names_some : (t : List ℕ) → (y : List ℕ) × (ys : List (List ℕ)) × (names_of t ≡ y ∷ ys)
names_some t = let s = parts_some t in (trimmed s.0, map trimmed s.1, ap (map trimmed) s.2)

joined_two : (x : List ℕ) (ys : List (List ℕ)) (y : List ℕ) (more : List (List ℕ)) → ys ≡ y ∷ more
    → joined (x ∷ ys) ≡ path_below x (joined ys)
joined_two x ys y more e = ap (λ zs. joined (x ∷ zs)) e ∙ ap (λ zs. path_below x (joined zs)) (sym e)

pub normal_cut : (t part after : List ℕ) → t ≡ part ++ (44 ∷ after) → Without 44 part
    → normal t ≡ path_below (trimmed part) (normal after)
unfolding normal
normal_cut t part after e h = let s = names_some after in
    ap joined (names_cut t part after e h) ∙ joined_two (trimmed part) (names_of after) s.0 s.1 s.2

-- ---- texts

any_front : (p : ℕ → Bool) (xs ys : List ℕ) → list_any p (xs ++ ys) ≡ false → list_any p xs ≡ false
any_front p [] ys h = refl
any_front p (x ∷ xs) ys h =
    ap (λ b. b || list_any p xs) (or_first (p x) (list_any p (xs ++ ys)) h)
    ∙ any_front p xs ys (or_second (p x) (list_any p (xs ++ ys)) h)

any_behind : (p : ℕ → Bool) (xs ys : List ℕ) → list_any p (xs ++ ys) ≡ false → list_any p ys ≡ false
any_behind p [] ys h = h
any_behind p (x ∷ xs) ys h = any_behind p xs ys (or_second (p x) (list_any p (xs ++ ys)) h)

length_both : (xs ys : List ℕ) → length (xs ++ ys) ≡ length xs + length ys
length_both [] ys = omega arith
length_both (x ∷ xs) ys = let e = length_both xs ys in omega arith

-- what is after the first comma is shorter
pub shorter : (t part after : List ℕ) → t ≡ part ++ (44 ∷ after) → length after < length t
shorter t part after e = let k = length_both part (44 ∷ after) in let l = ap length e in omega arith

plain_front : (t xs ys : List ℕ) → t ≡ xs ++ ys → IsPlain t → IsPlain xs
plain_front t xs ys e h = record {
  no_nul = any_front (λ b. b == 0) xs ys (ap (list_any (λ b. b == 0)) (sym e) ∙ h.no_nul);
  no_cr = any_front (λ b. b == 13) xs ys (ap (list_any (λ b. b == 13)) (sym e) ∙ h.no_cr);
  short = let k = length_both xs ys in let l = ap length e in let s = h.short in omega arith;
}

plain_behind : (t xs : List ℕ) (b : ℕ) (ys : List ℕ) → t ≡ xs ++ (b ∷ ys) → IsPlain t → IsPlain ys
plain_behind t xs b ys e h = record {
  no_nul = or_second (b == 0) (list_any (λ c. c == 0) ys) (any_behind (λ c. c == 0) xs (b ∷ ys)
      (ap (list_any (λ c. c == 0)) (sym e) ∙ h.no_nul));
  no_cr = or_second (b == 13) (list_any (λ c. c == 13) ys) (any_behind (λ c. c == 13) xs (b ∷ ys)
      (ap (list_any (λ c. c == 13)) (sym e) ∙ h.no_cr));
  short = let k = length_both xs (b ∷ ys) in let l = ap length e in let s = h.short in omega arith;
}

-- ---- limits

within : (t : List ℕ) → length (parts t) ≤ 32 → length t ≤ 4096 → is_within_limits t ≡ true
unfolding is_within_limits
within t h k = grind (arith, nat_tests)

few_parts : (name above : List ℕ) → is_within_limits (path_below name above) ≡ true → length (parts name) ≤ 32
few_parts name above e = by (nat_le (length (parts name)) 32) refl
  where
    by : (b : Bool) → nat_le (length (parts name)) 32 ≡ b → length (parts name) ≤ 32
    by true h = grind (arith, nat_tests)
    by false h = absurd (let more : 32 < length (parts name) = grind (arith, nat_tests) in
        let both : false ≡ true = sym (many_parts name above more) ∙ e in cc)

few_bytes : (name above : List ℕ) → is_within_limits (path_below name above) ≡ true → length name ≤ 4094
few_bytes name above e = by (nat_le (length name) 4094) refl
  where
    by : (b : Bool) → nat_le (length name) 4094 ≡ b → length name ≤ 4094
    by true h = grind (arith, nat_tests)
    by false h = absurd (let more : 4094 < length name = grind (arith, nat_tests) in
        let both : false ≡ true = sym (many_bytes name above more) ∙ e in cc)

within_above : (name above : List ℕ) → is_within_limits (path_below name above) ≡ true → is_within_limits above ≡ true
within_above name above e =
    let p = few_parts name above e in
    let q = few_bytes name above e in
    let two = both_true (nat_le (length (parts above)) (32 - length (parts name)))
    (nat_le (length above) (4094 - length name)) (room_is name above p q ∙ e) in
    let few : length (parts above) ≤ 32 = grind (arith, nat_tests, two.0) in
    let short : length above ≤ 4096 = grind (arith, nat_tests, two.1) in
    within above few short

within_name : (name above : List ℕ) → is_within_limits (path_below name above) ≡ true → is_within_limits name ≡ true
within_name name above e = let q = few_bytes name above e in within name (few_parts name above e) (omega arith)

-- ---- the parts of the text of a path
pub front_is_path : (t part after : List ℕ) → t ≡ part ++ (44 ∷ after) → Without 44 part → IsPathText t
    → IsPathText part
front_is_path t part after e h p = record {
  plain = plain_front t part (44 ∷ after) e p.plain;
  within = ap is_within_limits (normal_alone part h) ∙ within_name (trimmed part) (normal after)
      (ap is_within_limits (sym (normal_cut t part after e h)) ∙ p.within);
}

pub behind_is_path : (t part after : List ℕ) → t ≡ part ++ (44 ∷ after) → Without 44 part → IsPathText t
    → IsPathText after
behind_is_path t part after e h p = record {
  plain = plain_behind t part 44 after e p.plain;
  within = within_above (trimmed part) (normal after) (ap is_within_limits (sym (normal_cut t part after e h))
      ∙ p.within);
}

-- a path is a text
pub path_is_plain : (t path : List ℕ) → path ≡ normal t → IsPathText t → IsPlain path
path_is_plain t path e p = name_is_plain t path (is_within_limits path) e p.plain refl
    (ap is_within_limits e ∙ p.within)

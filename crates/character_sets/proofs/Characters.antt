-- The steps by which the code goes through units.
use Rattle.std.proofs.Common.{
  ◌≡◌,
  ◌∙◌,
  ◌-◌,
  ◌<◌,
  ◌≤◌,
  ◌∷◌,
  ◌++◌,
  [],
  List,
  Some,
  None,
  ap,
  append_assoc,
  arith,
  drop,
  encode_utf8_all,
  false,
  get_or,
  length,
  length-drop,
  refl,
  subst,
  suc,
  zero,
  sym,
  take,
  ℕ,
}
use Rattle.std.proofs.lemmas.List.{take_rest}
use Rattle.std.proofs.lemmas.Str.{encodes-append}
use Rattle.character_sets.specs.declared.utf8.Beginning.{Beginning}
use Rattle.character_sets.specs.declared.utf8.Beginning.TheVariants.{Whole, Partial, Stray}
use Rattle.character_sets.specs.Ansel.{Steps, ansel_character, ansel_characters, letter, mark, spelt as spelt_mark}
use Rattle.character_sets.specs.Utf8.{IsWithin, front, has_no_stray, is_whole, led_by, spelt, utf8_characters}

pub front_none : (xs : List ℕ) → length xs < 1 → front xs ≡ Partial
unfolding front
front_none [] h = refl
front_none (x ∷ xs) h = absurd (omega (arith, h))

pub front_led : (xs : List ℕ) → 1 ≤ length xs
    → front xs ≡ led_by (get_or xs 0 0) (take (length xs - 1) (drop 1 xs))
unfolding front
front_led [] h = absurd (omega (arith, h))
front_led (x ∷ xs) h = rw (take_rest (x ∷ xs) 1) refl

pub within_led : (xs : List ℕ) (b : Beginning) → 1 ≤ length xs
    → IsWithin (get_or xs 0 0 ∷ take (length xs - 1) (drop 1 xs)) b → IsWithin xs b
within_led [] b h w = absurd (omega (arith, h))
within_led (x ∷ xs) b h w = rw (← take_rest (x ∷ xs) 1) w

pub skipped : (n : ℕ) (xs : List ℕ) → utf8_characters n xs ≡ utf8_characters 0 (drop n xs)
skipped zero xs = refl
skipped (suc n) [] = refl
skipped (suc n) (x ∷ xs) = skipped n xs

pub skipped_stray : (n : ℕ) (xs : List ℕ) → has_no_stray n xs ≡ has_no_stray 0 (drop n xs)
skipped_stray zero xs = refl
skipped_stray (suc n) [] = refl
skipped_stray (suc n) (x ∷ xs) = skipped_stray n xs

less_one : (n : ℕ) → suc n - 1 ≡ n
less_one n = omega arith

-- a whole character, and the units after it
pub whole_next : (xs : List ℕ) (c n : ℕ) → 0 < length xs → Whole c n ≡ front xs → IsWithin xs (Whole c n)
    → utf8_characters 0 xs ≡ c ∷ utf8_characters 0 (take (length xs - n) (drop n xs))
whole_next [] c n h e w = absurd (omega (arith, h))
whole_next (x ∷ xs) c zero h e w = absurd (omega (arith, w.0))
whole_next (x ∷ xs) c (suc n) h e w = ap (λ b. spelt x (λ m. utf8_characters m xs) b) (sym e)
    ∙ (ap (λ m. c ∷ utf8_characters m xs) (less_one n)
    ∙ (ap (λ r. c ∷ r) (skipped n xs) ∙ ap (λ r. c ∷ utf8_characters 0 r) (sym (take_rest (x ∷ xs) (suc n)))))

pub whole_past : (xs : List ℕ) (c n : ℕ) → 0 < length xs → Whole c n ≡ front xs → IsWithin xs (Whole c n)
    → has_no_stray 0 xs ≡ has_no_stray 0 (take (length xs - n) (drop n xs))
whole_past [] c n h e w = absurd (omega (arith, h))
whole_past (x ∷ xs) c zero h e w = absurd (omega (arith, w.0))
whole_past (x ∷ xs) c (suc n) h e w = ap (λ b. is_whole (λ m. has_no_stray m xs) b) (sym e)
    ∙ (ap (λ m. has_no_stray m xs) (less_one n)
    ∙ (skipped_stray n xs ∙ ap (λ r. has_no_stray 0 r) (sym (take_rest (x ∷ xs) (suc n)))))

pub partial_past : (xs : List ℕ) → 0 < length xs → Partial ≡ front xs → has_no_stray 0 xs ≡ false
partial_past [] h e = absurd (omega (arith, h))
partial_past (x ∷ xs) h e = ap (λ b. is_whole (λ m. has_no_stray m xs) b) (sym e)

pub stray_past : (xs : List ℕ) → 0 < length xs → Stray ≡ front xs → has_no_stray 0 xs ≡ false
stray_past [] h e = absurd (omega (arith, h))
stray_past (x ∷ xs) h e = ap (λ b. is_whole (λ m. has_no_stray m xs) b) (sym e)

pub shorter : (xs : List ℕ) (c n : ℕ) → IsWithin xs (Whole c n) → length (take (length xs - n) (drop n xs)) < length xs
shorter xs c n w = rw (take_rest xs n, length-drop n xs) (omega (arith, w.0, w.1))

-- a byte of ANSEL with what comes after it
pub mark_steps : (text marks : List ℕ) (unit m : ℕ) → Some m ≡ mark unit → Steps text marks unit text (marks ++ m ∷ [])
mark_steps text marks unit m e = record {
  at = λ rest. ap (λ o. text ++ encode_utf8_all (spelt_mark marks unit (λ ms. ansel_characters ms rest) o)) e;
}

pub letter_steps : (text marks : List ℕ) (unit : ℕ) → None ≡ mark unit
    → Steps text marks unit (text ++ encode_utf8_all (letter (ansel_character unit) marks)) []
letter_steps text marks unit e = record {
  at = λ rest. append_assoc text (encode_utf8_all (letter (ansel_character unit) marks))
      (encode_utf8_all (ansel_characters [] rest))
      ∙ (ap (λ t. text ++ t) (sym (encodes-append (letter (ansel_character unit) marks) (ansel_characters [] rest)))
      ∙ ap (λ o. text ++ encode_utf8_all (spelt_mark marks unit (λ ms. ansel_characters ms rest) o)) e);
}

pub letter_done : (text marks : List ℕ) (unit first : ℕ) (shown next left : List ℕ) → None ≡ mark unit
    → first ≡ ansel_character unit → shown ≡ marks → next ≡ text ++ encode_utf8_all (letter first shown) → left ≡ []
    → Steps text marks unit next left
letter_done text marks unit first shown next left e f s n l =
    let base : Steps text marks unit (text ++ encode_utf8_all (letter (ansel_character unit) marks)) [] =
    letter_steps text marks unit e in
    let same : next ≡ text ++ encode_utf8_all (letter (ansel_character unit) marks) =
    n ∙ (ap (λ x. text ++ encode_utf8_all (letter x shown)) f
    ∙ ap (λ x. text ++ encode_utf8_all (letter (ansel_character unit) x)) s) in
    subst (λ x. Steps text marks unit next x) (sym l)
    (subst (λ x. Steps text marks unit x []) (sym same) base)

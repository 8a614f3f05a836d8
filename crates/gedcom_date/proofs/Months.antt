-- The months of each calendar: what a word names.
use Rattle.std.proofs.Common.{
  ◌≡◌,
  ℕ,
  suc,
  zero,
  ◌-◌,
  ◌≤◌,
  Bool,
  true,
  false,
  cond,
  List,
  [],
  ◌∷◌,
  codes,
  Option,
  Some,
  None,
  refl,
  ap,
  sym,
  ◌∙◌,
  arith,
}
use Rattle.std.specs.List.{slice_get}
use Rattle.std.specs.Option.{option_map_or}
use Rattle.gedcom_date.specs.Words.{Reads}
use Rattle.gedcom_date.specs.Grammar.{IsMonthWord, months, month_names, republican_names}
use Rattle.gedcom_date.specs.Reading.{
  reads,
  early_month,
  late_month,
  early_republican,
  late_republican,
  month_of,
}
use Rattle.calendar_days.specs.declared.calendar.Calendar.{Calendar}
use Rattle.calendar_days.specs.declared.calendar.Calendar.TheVariants.{Gregorian, Julian, Republican}
use Rattle.gedcom_date.proofs.Names.{reads_is}

-- ---- a name is read as its month
month_as : (c : Calendar) (w name : List ℕ) → Reads w name → month_of c w ≡ month_of c name
unfolding month_of early_month late_month early_republican late_republican
month_as Gregorian w name h = rw h refl
month_as Julian w name h = rw h refl
month_as Republican w name h = rw h refl

-- a month by its name, whatever the letters
named : (c : Calendar) (w name k : List ℕ) (m : ℕ) → Some k ≡ Some name → month_of c k ≡ Some m → Reads w name
    → month_of c w ≡ Some m
named c w name k m e is reads = let n : k ≡ name = cc in month_as c w name reads ∙ ap (month_of c) (sym n) ∙ is

-- no month is the thirteenth
beyond : (n : ℕ) → slice_get month_names
    ((suc (suc (suc (suc (suc (suc (suc (suc (suc (suc (suc (suc (suc n))))))))))))) - 1) ≡ None
beyond n = let e : (suc (suc (suc (suc (suc (suc (suc (suc (suc (suc (suc (suc (suc n))))))))))))) - 1
    ≡ (suc (suc (suc (suc (suc (suc (suc (suc (suc (suc (suc (suc n)))))))))))) = omega arith in rw e refl

-- nor is a fourteenth in the French Republican year
past_comp : (n : ℕ) → slice_get republican_names
    ((suc (suc (suc (suc (suc (suc (suc (suc (suc (suc (suc (suc (suc (suc n)))))))))))))) - 1) ≡ None
past_comp n = let e : (suc (suc (suc (suc (suc (suc (suc (suc (suc (suc (suc (suc (suc (suc n)))))))))))))) - 1
    ≡ (suc (suc (suc (suc (suc (suc (suc (suc (suc (suc (suc (suc (suc n))))))))))))) = omega arith in rw e refl

roman_only : (w : List ℕ) (m : ℕ) → IsMonthWord Gregorian w m → month_of Gregorian w ≡ Some m
unfolding month_of early_month late_month
roman_only w zero h = absurd (omega (arith, h.1))
roman_only w (suc zero) h = named Gregorian w h.0 (codes "JAN") 1 h.2 refl h.3
roman_only w (suc (suc zero)) h = named Gregorian w h.0 (codes "FEB") 2 h.2 refl h.3
roman_only w (suc (suc (suc zero))) h = named Gregorian w h.0 (codes "MAR") 3 h.2 refl h.3
roman_only w (suc (suc (suc (suc zero)))) h = named Gregorian w h.0 (codes "APR") 4 h.2 refl h.3
roman_only w (suc (suc (suc (suc (suc zero))))) h = named Gregorian w h.0 (codes "MAY") 5 h.2 refl h.3
roman_only w (suc (suc (suc (suc (suc (suc zero)))))) h = named Gregorian w h.0 (codes "JUN") 6 h.2 refl h.3
roman_only w (suc (suc (suc (suc (suc (suc (suc zero))))))) h = named Gregorian w h.0 (codes "JUL") 7 h.2 refl h.3
roman_only w (suc (suc (suc (suc (suc (suc (suc (suc zero)))))))) h = named Gregorian w h.0
    (codes "AUG") 8 h.2 refl h.3
roman_only w (suc (suc (suc (suc (suc (suc (suc (suc (suc zero))))))))) h = named Gregorian w h.0
    (codes "SEP") 9 h.2 refl h.3
roman_only w (suc (suc (suc (suc (suc (suc (suc (suc (suc (suc zero)))))))))) h =
    named Gregorian w h.0 (codes "OCT") 10 h.2 refl h.3
roman_only w (suc (suc (suc (suc (suc (suc (suc (suc (suc (suc (suc zero))))))))))) h =
    named Gregorian w h.0 (codes "NOV") 11 h.2 refl h.3
roman_only w (suc (suc (suc (suc (suc (suc (suc (suc (suc (suc (suc (suc zero)))))))))))) h =
    named Gregorian w h.0 (codes "DEC") 12 h.2 refl h.3
roman_only w (suc (suc (suc (suc (suc (suc (suc (suc (suc (suc (suc (suc (suc n))))))))))))) h =
    absurd (let e : None ≡ Some h.0 = sym (beyond n) ∙ h.2 in cc)

republican_only : (w : List ℕ) (m : ℕ) → IsMonthWord Republican w m → month_of Republican w ≡ Some m
unfolding month_of early_republican late_republican
republican_only w zero h = absurd (omega (arith, h.1))
republican_only w (suc zero) h =
    named Republican w h.0 (codes "VEND") 1 h.2 refl h.3
republican_only w (suc (suc zero)) h =
    named Republican w h.0 (codes "BRUM") 2 h.2 refl h.3
republican_only w (suc (suc (suc zero))) h =
    named Republican w h.0 (codes "FRIM") 3 h.2 refl h.3
republican_only w (suc (suc (suc (suc zero)))) h =
    named Republican w h.0 (codes "NIVO") 4 h.2 refl h.3
republican_only w (suc (suc (suc (suc (suc zero))))) h =
    named Republican w h.0 (codes "PLUV") 5 h.2 refl h.3
republican_only w (suc (suc (suc (suc (suc (suc zero)))))) h =
    named Republican w h.0 (codes "VENT") 6 h.2 refl h.3
republican_only w (suc (suc (suc (suc (suc (suc (suc zero))))))) h =
    named Republican w h.0 (codes "GERM") 7 h.2 refl h.3
republican_only w (suc (suc (suc (suc (suc (suc (suc (suc zero)))))))) h =
    named Republican w h.0 (codes "FLOR") 8 h.2 refl h.3
republican_only w (suc (suc (suc (suc (suc (suc (suc (suc (suc zero))))))))) h =
    named Republican w h.0 (codes "PRAI") 9 h.2 refl h.3
republican_only w (suc (suc (suc (suc (suc (suc (suc (suc (suc (suc zero)))))))))) h =
    named Republican w h.0 (codes "MESS") 10 h.2 refl h.3
republican_only w (suc (suc (suc (suc (suc (suc (suc (suc (suc (suc (suc zero))))))))))) h =
    named Republican w h.0 (codes "THER") 11 h.2 refl h.3
republican_only w (suc (suc (suc (suc (suc (suc (suc (suc (suc (suc (suc (suc zero)))))))))))) h =
    named Republican w h.0 (codes "FRUC") 12 h.2 refl h.3
republican_only w (suc (suc (suc (suc (suc (suc (suc (suc (suc (suc (suc (suc (suc zero))))))))))))) h =
    named Republican w h.0 (codes "COMP") 13 h.2 refl h.3
republican_only w (suc (suc (suc (suc (suc (suc (suc (suc (suc (suc (suc (suc (suc (suc n)))))))))))))) h =
    absurd (let e : None ≡ Some h.0 = sym (past_comp n) ∙ h.2 in cc)

pub month_only : (c : Calendar) (w : List ℕ) (m : ℕ) → IsMonthWord c w m → month_of c w ≡ Some m
unfolding month_of
month_only Gregorian w m h = roman_only w m h
month_only Julian w m h = roman_only w m h
month_only Republican w m h = republican_only w m h

-- ---- what is read as a month is its name
-- the place, from n, of the first of the names that the word reads
abbrev first_named : ℕ → List (List ℕ) → List ℕ → Option ℕ
first_named n [] w = None
first_named n (name ∷ names) w = cond (reads w name) (Some n) (first_named (suc n) names w)

record IsNamed (n : ℕ) (names : List (List ℕ)) (w : List ℕ) (m : ℕ) : Type 0 where
  name : List ℕ
  low : n ≤ m
  at : slice_get names (m - n) ≡ Some name
  is : Reads w name

named_cons : (n : ℕ) (name : List ℕ) (names : List (List ℕ)) (w : List ℕ) (m : ℕ) (b : Bool) → reads w name ≡ b
    → cond b (Some n) (first_named (suc n) names w) ≡ Some m
    → (first_named (suc n) names w ≡ Some m → IsNamed (suc n) names w m) → IsNamed n (name ∷ names) w m
named_cons n name names w m true e h more =
    let s : n ≡ m = cc in
    let here : m - n ≡ 0 = omega arith in
    record { name = name; low = omega arith; at = rw here refl; is = reads_is w name e }
named_cons n name names w m false e h more =
    let there = more h in
    let s : m - n ≡ suc (m - suc n) = omega (arith, there.low) in
    record { name = there.name; low = omega (arith, there.low); at = rw s there.at; is = there.is }

first_named_is : (n : ℕ) (names : List (List ℕ)) (w : List ℕ) (m : ℕ) → first_named n names w ≡ Some m
    → IsNamed n names w m
first_named_is n [] w m h = absurd cc
first_named_is n (name ∷ names) w m h =
    named_cons n name names w m (reads w name) refl h (first_named_is (suc n) names w m)

-- the year is read in two halves
over : (b : Bool) (k : ℕ) (early late both : Option ℕ) → option_map_or Some early late ≡ both
    → option_map_or Some (cond b (Some k) early) late ≡ cond b (Some k) both
over true k early late both h = refl
over false k early late both h = h

roman_halves : (w : List ℕ) → option_map_or Some (early_month w) (late_month w) ≡ first_named 1 month_names w
unfolding early_month late_month
roman_halves w =
    over (reads w (codes "JAN")) 1 _ _ _
    (over (reads w (codes "FEB")) 2 _ _ _
    (over (reads w (codes "MAR")) 3 _ _ _
    (over (reads w (codes "APR")) 4 _ _ _
    (over (reads w (codes "MAY")) 5 _ _ _ (over (reads w (codes "JUN")) 6 _ _ _ refl)))))

republican_halves : (w : List ℕ) → option_map_or Some (early_republican w) (late_republican w)
    ≡ first_named 1 republican_names w
unfolding early_republican late_republican
republican_halves w =
    over (reads w (codes "VEND")) 1 _ _ _
    (over (reads w (codes "BRUM")) 2 _ _ _
    (over (reads w (codes "FRIM")) 3 _ _ _
    (over (reads w (codes "NIVO")) 4 _ _ _
    (over (reads w (codes "PLUV")) 5 _ _ _
    (over (reads w (codes "VENT")) 6 _ _ _ (over (reads w (codes "GERM")) 7 _ _ _ refl))))))

of_halves : (c : Calendar) (w : List ℕ) → month_of c w ≡ first_named 1 (months c) w
unfolding month_of
of_halves Gregorian w = roman_halves w
of_halves Julian w = roman_halves w
of_halves Republican w = republican_halves w

pub month_is : (c : Calendar) (w : List ℕ) (m : ℕ) → month_of c w ≡ Some m → IsMonthWord c w m
month_is c w m h =
    let named = first_named_is 1 (months c) w m (sym (of_halves c w) ∙ h) in
    (named.name, named.low, named.at, named.is)

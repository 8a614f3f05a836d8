-- Dates: what is read is what the words tell, both ways.
use Rattle.std.proofs.Common.{
  ◌≡◌,
  ◌⊎◌,
  inl,
  inr,
  ℕ,
  ◌-◌,
  Bool,
  true,
  false,
  ◌&&◌,
  cond,
  nat_lt,
  List,
  [],
  ◌∷◌,
  ◌++◌,
  length,
  drop,
  codes,
  Option,
  Some,
  None,
  option_map,
  refl,
  ap,
  sym,
  subst,
  ◌∙◌,
  arith,
}
use Rattle.std.specs.Option.{option_map_or}
use Rattle.std.specs.Char.{is_ascii_digit, to_ascii_lowercase}
use Rattle.std.specs.List.{list_all}
use Rattle.std.proofs.lemmas.Bool.Decides.{nat_tests}
use Rattle.std.proofs.lemmas.Bool.{and_parts}
use Rattle.gedcom_date.specs.Words.{Reads}
use Rattle.calendar_days.specs.Told.{Told}
use Rattle.gedcom_date.specs.Grammar.{IsNumber, IsYearWord, IsExtentOf, IsEscape, IsDateOf}
use Rattle.gedcom_date.specs.Reading.{
  reads,
  number_of,
  year_of,
  month_of,
  day_of,
  joined_before_christ,
  extent_of,
  escape_of,
  republican_of,
  told_of,
  ◌>>=◌,
}
use Rattle.calendar_days.specs.declared.calendar.Calendar.{Calendar}
use Rattle.calendar_days.specs.declared.calendar.Calendar.TheVariants.{Gregorian, Julian, Republican}
use Rattle.calendar_days.specs.declared.calendar.Year.{Year}
use Rattle.calendar_days.specs.declared.calendar.Year.TheVariants.{Single, Double}
use Rattle.calendar_days.specs.declared.calendar.Extent.{Extent}
use Rattle.calendar_days.specs.declared.calendar.Extent.TheVariants.{BeforeChrist, Whole, Month, Day}
use Rattle.gedcom_date.proofs.Numbers.{number_only, number_is}
use Rattle.gedcom_date.proofs.Names.{reads_is, reads_only, reads_as}
use Rattle.gedcom_date.proofs.Months.{month_only, month_is}
use Rattle.gedcom_date.proofs.Years.{year_only, year_is, day_only, day_is, joined_only, joined_is}
use Rattle.gedcom_date.proofs.Quiet.{AllQuiet, extent_quiet, digit_reads}

-- a word of a year does not end in B.C.
two_left : (t o : ℕ) → is_ascii_digit o ≡ true → (a b : ℕ) → reads (a ∷ b ∷ t ∷ o ∷ []) (codes "B.C.") ≡ true → ⊥
two_left t o h a b r = let e = reads_is (a ∷ b ∷ t ∷ o ∷ []) (codes "B.C.") r in
    let f : to_ascii_lowercase o ≡ 46 = cc in absurd (grind (arith, nat_tests))

both_true : (a b : Bool) → (a && b) ≡ true → (a ≡ true → b ≡ true → ⊥) → ⊥
both_true a b e h = h (and_parts a b e).0 (and_parts a b e).1

no_mark : (b : Bool) (w : List ℕ) → (nat_lt 4 (length w) && reads (drop (length w - 4) w) (codes "B.C.")) ≡ b
    → (nat_lt 4 (length w) ≡ true → reads (drop (length w - 4) w) (codes "B.C.") ≡ true → ⊥)
    → joined_before_christ w ≡ None
unfolding joined_before_christ
no_mark false w e h = rw e refl
no_mark true w e h = absurd (both_true (nat_lt 4 (length w)) (reads (drop (length w - 4) w) (codes "B.C.")) e h)

double_mark : (front : List ℕ) (t o n : ℕ) → IsNumber 4 front n → is_ascii_digit o ≡ true
    → nat_lt 4 (length (front ++ 47 ∷ t ∷ o ∷ [])) ≡ true
    → reads (drop (length (front ++ 47 ∷ t ∷ o ∷ []) - 4) (front ++ 47 ∷ t ∷ o ∷ [])) (codes "B.C.") ≡ true → ⊥
double_mark [] t o n h d long r = absurd (omega (arith, h.1.0))
double_mark (a ∷ []) t o n h d long r = absurd (grind (arith, nat_tests, long))
double_mark (a ∷ b ∷ []) t o n h d long r = two_left t o d b 47 r
double_mark (a ∷ b ∷ c ∷ []) t o n h d long r = two_left t o d c 47 r
double_mark (a ∷ b ∷ c ∷ e ∷ []) t o n h d long r = two_left t o d e 47 r
double_mark (a ∷ b ∷ c ∷ e ∷ f ∷ more) t o n h d long r = absurd (omega (arith, h.1.1))

year_no_mark : (w : List ℕ) (y : Year) → IsYearWord w y → joined_before_christ w ≡ None
year_no_mark w (Single n) h = no_mark (nat_lt 4 (length w) && reads (drop (length w - 4) w) (codes "B.C.")) w refl
    (λ long r. absurd (grind (arith, nat_tests, long, h.1.1)))
year_no_mark w (Double n) h =
    let last : is_ascii_digit h.2 ≡ true = (and_parts (is_ascii_digit h.2) true
    (and_parts (is_ascii_digit h.1) (list_all is_ascii_digit (h.2 ∷ [])) h.6).1).0 in
    subst (λ (l : List ℕ). joined_before_christ l ≡ None) (sym h.3)
    (no_mark _ (h.0 ++ 47 ∷ h.1 ∷ h.2 ∷ []) refl (double_mark h.0 h.1 h.2 n h.4 last))

-- a year is no mark
front_other : (most : ℕ) (ds rest : List ℕ) (n : ℕ) → IsNumber most ds n → reads (ds ++ rest) (codes "B.C.") ≡ false
front_other most [] rest n h = absurd (omega (arith, h.1.0))
front_other most (d ∷ ds) rest n h = digit_reads d (ds ++ rest) 66 (codes ".C.")
    (and_parts (is_ascii_digit d) (list_all is_ascii_digit ds) h.0).0 refl

number_other : (most : ℕ) (ds : List ℕ) (n : ℕ) → IsNumber most ds n → reads ds (codes "B.C.") ≡ false
number_other most [] n h = absurd (omega (arith, h.1.0))
number_other most (d ∷ ds) n h = digit_reads d ds 66 (codes ".C.")
    (and_parts (is_ascii_digit d) (list_all is_ascii_digit ds) h.0).0 refl

year_other : (w : List ℕ) (y : Year) → IsYearWord w y → reads w (codes "B.C.") ≡ false
year_other w (Single n) h = number_other 4 w n h
year_other w (Double n) h = subst (λ (l : List ℕ). reads l (codes "B.C.") ≡ false) (sym h.3)
    (front_other 4 h.0 (47 ∷ h.1 ∷ h.2 ∷ []) n h.4)

before_only : (c : Calendar) (ws : List (List ℕ)) (year mark : List ℕ) (n : ℕ) → (ws ≡ year ∷ mark ∷ [])
    ⊎ (ws ≡ (year ++ mark) ∷ []) → IsNumber 4 year n → Reads mark (codes "B.C.")
    → extent_of c ws ≡ Some (BeforeChrist n)
unfolding extent_of
before_only c ws year mark n (inl e) number reads = rw (
  e,
  reads_only mark (codes "B.C.") reads,
  number_only year n number,
) refl
before_only c ws year mark n (inr e) number reads = rw (e, joined_only year mark n number reads) refl

pub extent_only : (c : Calendar) (ws : List (List ℕ)) (e : Extent) → IsExtentOf c ws e → extent_of c ws ≡ Some e
unfolding extent_of
extent_only c ws (BeforeChrist n) h = before_only c ws h.0 h.1 n h.2 h.3 h.4
extent_only c ws (Whole y) h = rw (h.1, year_no_mark h.0 y h.2, year_only h.0 y h.2) refl
extent_only c ws (Month m y) h = rw (h.2, year_other h.1 y h.4, month_only c h.0 m h.3, year_only h.1 y h.4) refl
extent_only c ws (Day d m y) h = rw (h.3, day_only h.0 d h.4, month_only c h.1 m h.5, year_only h.2 y h.6) refl

-- and the other way
whole_is : (w : List ℕ) (e : Extent) (o : Option ℕ) (p : Option Year) → o ≡ joined_before_christ w → p ≡ year_of w
    → (c : Calendar) → option_map_or (λ n. Some (BeforeChrist n)) o (option_map Whole p) ≡ Some e
    → IsExtentOf c (w ∷ []) e
whole_is w e (Some n) p f g c h =
    let s : BeforeChrist n ≡ e = cc in
    let is = joined_is w n (sym f) in
    subst (IsExtentOf c (w ∷ [])) s (is.0, is.1, inr (ap (λ (l : List ℕ). l ∷ []) is.2), is.3, is.4)
whole_is w e None (Some y) f g c h = let s : Whole y ≡ e = cc in
    subst (IsExtentOf c (w ∷ [])) s (w, refl, year_is w y (sym g))
whole_is w e None None f g c h = absurd cc

two_is : (c : Calendar) (a b : List ℕ) (e : Extent) (t : Bool) (o k : Option ℕ) (p : Option Year)
    → reads b (codes "B.C.") ≡ t → o ≡ number_of a → k ≡ month_of c a → p ≡ year_of b
    → cond t (option_map BeforeChrist o) (k >>= λ m. p >>= λ y. Some (Month m y)) ≡ Some e → IsExtentOf c (a ∷ b ∷ []) e
two_is c a b e true None k p r f g l h = absurd cc
two_is c a b e true (Some n) k p r f g l h = let s : BeforeChrist n ≡ e = cc in
    subst (IsExtentOf c (a ∷ b ∷ [])) s (a, b, inl refl, number_is a n (sym f), reads_is b (codes "B.C.") r)
two_is c a b e false o None p r f g l h = absurd cc
two_is c a b e false o (Some m) None r f g l h = absurd cc
two_is c a b e false o (Some m) (Some y) r f g l h = let s : Month m y ≡ e = cc in
    subst (IsExtentOf c (a ∷ b ∷ [])) s (a, b, refl, month_is c a m (sym g), year_is b y (sym l))

three_is : (c : Calendar) (a b d : List ℕ) (e : Extent) (o k : Option ℕ) (p : Option Year) → o ≡ day_of a
    → k ≡ month_of c b → p ≡ year_of d → (o >>= λ j. k >>= λ m. p >>= λ y. Some (Day j m y)) ≡ Some e
    → IsExtentOf c (a ∷ b ∷ d ∷ []) e
three_is c a b d e None k p f g l h = absurd cc
three_is c a b d e (Some j) None p f g l h = absurd cc
three_is c a b d e (Some j) (Some m) None f g l h = absurd cc
three_is c a b d e (Some j) (Some m) (Some y) f g l h = let s : Day j m y ≡ e = cc in
    subst (IsExtentOf c (a ∷ b ∷ d ∷ [])) s (
      a,
      b,
      d,
      refl,
      day_is a j (sym f),
      month_is c b m (sym g),
      year_is d y (sym l),
    )

pub extent_is : (c : Calendar) (ws : List (List ℕ)) (e : Extent) → extent_of c ws ≡ Some e → IsExtentOf c ws e
unfolding extent_of
extent_is c [] e h = absurd cc
extent_is c (w ∷ []) e h = whole_is w e (joined_before_christ w) (year_of w) refl refl c h
extent_is c (a ∷ b ∷ []) e h = two_is c a b e (reads b (codes "B.C.")) (number_of a) (month_of c a)
    (year_of b) refl refl refl refl h
extent_is c (a ∷ b ∷ d ∷ []) e h = three_is c a b d e (day_of a) (month_of c b) (year_of d) refl refl refl h
extent_is c (w ∷ x ∷ y ∷ z ∷ more) e h = absurd cc

-- escapes
escape_as : (w name : List ℕ) (ws : List (List ℕ)) → Reads w name → escape_of (w ∷ ws) ≡ cond
    (reads name (codes "@#DGREGORIAN@")) (Gregorian, ws)
    (cond (reads name (codes "@#DJULIAN@")) (Julian, ws) (republican_of (w ∷ ws)))
unfolding escape_of
escape_as w name ws h = rw (reads_as w name (codes "@#DGREGORIAN@") h, reads_as w name (codes "@#DJULIAN@") h) refl

no_republican : (w : List ℕ) (ws : List (List ℕ)) → reads w (codes "@#DFRENCH") ≡ false
    → republican_of (w ∷ ws) ≡ (Gregorian, w ∷ ws)
unfolding republican_of
no_republican w [] h = refl
no_republican w (x ∷ ws) h = rw h refl

no_escape : (ws : List (List ℕ)) → AllQuiet ws → escape_of ws ≡ (Gregorian, ws)
unfolding escape_of
no_escape [] q = refl
no_escape (w ∷ ws) q = rw (q.0.gregorian, q.0.julian) (no_republican w ws q.0.republican)

republican_only : (w x : List ℕ) (ws : List (List ℕ)) → Reads w (codes "@#DFRENCH") → Reads x (codes "R@")
    → escape_of (w ∷ x ∷ ws) ≡ (Republican, ws)
unfolding republican_of
republican_only w x ws h k = escape_as w (codes "@#DFRENCH") (x ∷ ws) h
    ∙ rw (reads_only w (codes "@#DFRENCH") h, reads_only x (codes "R@") k) refl

escape_only : (c : Calendar) (ws rest : List (List ℕ)) → IsEscape c ws rest → AllQuiet rest → escape_of ws ≡ (c, rest)
escape_only Gregorian ws rest (inl e) q = ap escape_of e ∙ no_escape rest q
escape_only Gregorian ws rest (inr h) q = ap escape_of h.1 ∙ escape_as h.0 (codes "@#DGREGORIAN@") rest h.2
escape_only Julian ws rest h q = ap escape_of h.1 ∙ escape_as h.0 (codes "@#DJULIAN@") rest h.2
escape_only Republican ws rest h q = ap escape_of h.2 ∙ republican_only h.0 h.1 rest h.3 h.4

told_by : (ws : List (List ℕ)) (p : Calendar × List (List ℕ)) (e : Extent) → escape_of ws ≡ p
    → extent_of p.0 p.1 ≡ Some e → told_of ws ≡ Some (record { calendar = p.0; extent = e })
unfolding told_of
told_by ws p e f g = rw (f, g) refl

pub told_only : (ws : List (List ℕ)) (d : Told) → IsDateOf ws d → told_of ws ≡ Some d
told_only ws d h =
    told_by ws (d.calendar, h.0) d.extent (escape_only d.calendar ws h.0 h.1 (extent_quiet d.calendar h.0 d.extent h.2))
    (extent_only d.calendar h.0 d.extent h.2)

republican_cons : (w x : List ℕ) (ws : List (List ℕ)) (a b : Bool) → reads w (codes "@#DFRENCH") ≡ a
    → reads x (codes "R@") ≡ b → (p : Calendar × List (List ℕ)) → p ≡ cond (a && b) (Republican, ws)
    (Gregorian, w ∷ x ∷ ws) → IsEscape p.0 (w ∷ x ∷ ws) p.1
republican_cons w x ws true true f g p e =
    subst (λ (p : Calendar × List (List ℕ)). IsEscape p.0 (w ∷ x ∷ ws) p.1) (sym e)
    (w, x, refl, reads_is w (codes "@#DFRENCH") f, reads_is x (codes "R@") g)
republican_cons w x ws true false f g p e =
    subst (λ (p : Calendar × List (List ℕ)). IsEscape p.0 (w ∷ x ∷ ws) p.1) (sym e) (inl refl)
republican_cons w x ws false b f g p e =
    subst (λ (p : Calendar × List (List ℕ)). IsEscape p.0 (w ∷ x ∷ ws) p.1) (sym e) (inl refl)

republican_is : (ws : List (List ℕ)) → IsEscape (republican_of ws).0 ws (republican_of ws).1
unfolding republican_of
republican_is [] = inl refl
republican_is (w ∷ []) = inl refl
republican_is (w ∷ x ∷ ws) = republican_cons w x ws (reads w (codes "@#DFRENCH")) (reads x (codes "R@")) refl refl
    (republican_of (w ∷ x ∷ ws)) refl

escape_cons : (w : List ℕ) (ws : List (List ℕ)) (a b : Bool) → reads w (codes "@#DGREGORIAN@") ≡ a
    → reads w (codes "@#DJULIAN@") ≡ b → (p : Calendar × List (List ℕ)) → p ≡ cond a (Gregorian, ws)
    (cond b (Julian, ws) (republican_of (w ∷ ws))) → IsEscape p.0 (w ∷ ws) p.1
escape_cons w ws true b f g p e = subst (λ (p : Calendar × List (List ℕ)). IsEscape p.0 (w ∷ ws) p.1) (sym e)
    (inr (w, refl, reads_is w (codes "@#DGREGORIAN@") f))
escape_cons w ws false true f g p e = subst (λ (p : Calendar × List (List ℕ)). IsEscape p.0 (w ∷ ws) p.1) (sym e)
    (w, refl, reads_is w (codes "@#DJULIAN@") g)
escape_cons w ws false false f g p e = subst (λ (p : Calendar × List (List ℕ)). IsEscape p.0 (w ∷ ws) p.1)
    (sym e) (republican_is (w ∷ ws))

escape_is : (ws : List (List ℕ)) → IsEscape (escape_of ws).0 ws (escape_of ws).1
unfolding escape_of
escape_is [] = inl refl
escape_is (w ∷ ws) = escape_cons w ws (reads w (codes "@#DGREGORIAN@")) (reads w (codes "@#DJULIAN@")) refl refl
    (escape_of (w ∷ ws)) refl

made : (ws : List (List ℕ)) (d : Told) (o : Option Extent) → o ≡ extent_of (escape_of ws).0 (escape_of ws).1
    → option_map (λ (e : Extent). record { calendar = (escape_of ws).0; extent = e }) o ≡ Some d → IsDateOf ws d
made ws d None f h = absurd cc
made ws d (Some e) f h =
    let s : record { calendar = (escape_of ws).0; extent = e } ≡ d = cc in
    subst (IsDateOf ws) s ((escape_of ws).1, escape_is ws, extent_is (escape_of ws).0 (escape_of ws).1 e (sym f))

pub told_is : (ws : List (List ℕ)) (d : Told) → told_of ws ≡ Some d → IsDateOf ws d
unfolding told_of
told_is ws d h = made ws d (extent_of (escape_of ws).0 (escape_of ws).1) refl h

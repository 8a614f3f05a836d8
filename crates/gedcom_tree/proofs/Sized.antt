-- The texts of lines with those that continue them are not too long.
use Rattle.std.proofs.Common.{
  ◌≡◌,
  ℕ,
  ◌+◌,
  ◌-◌,
  ◌<◌,
  ◌≤◌,
  true,
  false,
  eqb,
  ltb,
  ◌&&◌,
  List,
  [],
  ◌∷◌,
  ◌++◌,
  length,
  length-append,
  refl,
  ◌∙◌,
  inl,
  inr,
  arith,
  Some,
}
use Rattle.std.specs.List.{flat_map}
use Rattle.std.proofs.lemmas.Bool.{ltb-true, ltb-false, and_parts, cases_Bool}
use Rattle.gedcom_line.specs.Reading.{Parts, is_continuation}
use Rattle.gedcom_line.specs.Escape.{unescaped}
use Rattle.gedcom_rules.specs.Rules.{Progress, Standing, standing, max_text, parent}
use Rattle.gedcom_rules.specs.Continuing.{belongs, adds}
use Rattle.gedcom_rules.specs.Judging.{after}
use Rattle.gedcom_rules.proofs.Unbroken.{Unbroken}
use Rattle.gedcom_tree.proofs.Fitting.{Fit, Fits, above_own, above_deeper, above_kept, parent_at}

pub unescaped_le : (t : List ℕ) → length (unescaped t) ≤ length t
unescaped_le [] = omega arith
unescaped_le (c ∷ []) = omega arith
unescaped_le (c ∷ d ∷ cs) = elim (cases_Bool (eqb c 64 && eqb d 64)) [
  | inl e ↦ rw e (omega (arith, unescaped_le cs))
  | inr e ↦ rw e (omega (arith, unescaped_le (d ∷ cs)))
]

-- a continuation fits in what is left of the text above it
room_left : (q : Progress) (l : Parts) (n : ℕ) (s : Standing) → Unbroken q l → q.above n ≡ Some s
    → is_continuation l.tag ≡ true → eqb l.level (n + 1) ≡ true → length (adds l) ≤ s.room
room_left q l n s u a c e =
    let above : parent q l.level ≡ Some s = parent_at q l.level n e ∙ a in
    let r = u.room in
    let fits : ltb s.room (length (adds l)) ≡ false = rw (c, above) at r in
    ltb-false s.room (length (adds l)) fits

above_less : (q : Progress) (l : Parts) (n : ℕ) (s : Standing) → q.above n ≡ Some s → n < l.level
    → (is_continuation l.tag && eqb l.level (n + 1)) ≡ true → (after q l).above n ≡ Some
    (record s { room = s.room - length (adds l) })
above_less q l n s a h c = rw (above_deeper q l n h, a, c) refl

joined_le : (a b : List ℕ) (room : ℕ) → length a ≤ room → length b ≤ room - length a → length (a ++ b) ≤ room
joined_le a b room h k = omega (arith, length-append a b)

-- what goes on with an open line fits in what is left of its text
pub continued_le : (n : ℕ) (q : Progress) (ls : List Parts) (s : Standing) → q.above n ≡ Some s → Fits q ls
    → length (flat_map adds (belongs n ls)) ≤ s.room
continued_le n q [] s a f = omega arith
continued_le n q (l ∷ ls) s a f = elim (cases_Bool (ltb n l.level)) [
  | inr e ↦ rw e (omega arith)
  | inl e ↦ elim (cases_Bool (is_continuation l.tag && eqb l.level (n + 1))) [
    | inl c ↦
        let r = and_parts (is_continuation l.tag) (eqb l.level (n + 1)) c in
        let less : (after q l).above n ≡ Some (record s { room = s.room - length (adds l) }) =
        above_less q l n s a (ltb-true n l.level e) c in
        rw (e, c) (joined_le (adds l) (flat_map adds (belongs n ls)) s.room (room_left q l n s f.0.rules a r.0 r.1)
        (continued_le n (after q l) ls (record s { room = s.room - length (adds l) }) less f.1))
    | inr c ↦ rw (e, c) (continued_le n (after q l) ls s (above_kept q l n s (ltb-true n l.level e) c a) f.1)
  ]
]

pub text_le : (q : Progress) (l : Parts) (ls : List Parts) → Fit q l → Fits (after q l) ls
    → length (unescaped l.raw ++ flat_map adds (belongs l.level ls)) ≤ max_text
text_le q l ls f g =
    let c = continued_le l.level (after q l) ls (standing l []) (above_own q l) g in
    omega (
      arith,
      c,
      f.size,
      unescaped_le l.raw,
      length-append (unescaped l.raw) [],
      length-append (unescaped l.raw) (flat_map adds (belongs l.level ls)),
    )

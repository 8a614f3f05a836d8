-- Spans that meet days: each date has one span, and its own days are met.
use Rattle.std.proofs.Common.{◌≡◌, refl, sym, ap, subst, inl, inr, arith}
use Rattle.std.specs.Prelude.{Option, Some, None, IfSome, IsSome, ℤ, ◌≤ℤ◌}
use Rattle.std.proofs.lemmas.Int.{ints}
use Rattle.calendar_days.specs.Bounds.{IsLeast, IsGreatest}
use Rattle.gedcom_date.specs.Form.{Form}
use Rattle.gedcom_date.specs.Grammar.{Says}
use Rattle.gedcom_date.specs.Days.{IsDayOf}
use Rattle.gedcom_date.specs.declared.value.Span.{Span}
use Rattle.record_fields.specs.Dated.{one_said}
use Rattle.record_fields.specs.declared.date.Date.{Date}
use Rattle.date_spans.specs.Meeting.{HasEnd, Meets}
use Rattle.date_spans.specs.Spans.{IsSpan}
use Rattle.list_laws.proofs.Numbers.{through, not_both}

-- ---- orders of days
both_ways : (a b : ℤ) → a ≤ℤ b → b ≤ℤ a → a ≡ b
both_ways a b p q = omega (arith, ints)

at_itself : (a : ℤ) → a ≤ℤ a
at_itself a = omega (arith, ints)

-- ---- a set has one least and one greatest day
module _ (Day : ℤ → Type 0) where
  one_least : (a b : Option ℤ) → IsLeast Day a → IsLeast Day b → a ≡ b
  one_least None None h k = refl
  one_least (Some a) (Some b) h k = ap Some (both_ways a b (h.1 b k.0) (k.1 a h.0))
  one_least (Some a) None h k = let below = k a in absurd (not_both below.0 a below.2 (h.1 below.0 below.1))
  one_least None (Some b) h k = let below = h b in absurd (not_both below.0 b below.2 (k.1 below.0 below.1))

  one_greatest : (a b : Option ℤ) → IsGreatest Day a → IsGreatest Day b → a ≡ b
  one_greatest None None h k = refl
  one_greatest (Some a) (Some b) h k = ap Some (both_ways a b (k.1 a h.0) (h.1 b k.0))
  one_greatest (Some a) None h k = let above = k a in absurd (not_both a above.0 above.2 (h.1 above.0 above.1))
  one_greatest None (Some b) h k = let above = h b in absurd (not_both b above.0 above.2 (k.1 above.0 above.1))

  -- a day lies between the two
  after_least : (lo : Option ℤ) (n last : ℤ) → IsLeast Day lo → Day n → n ≤ℤ last → IfSome lo (λ l. l ≤ℤ last)
  after_least None n last h day le = tt
  after_least (Some lo) n last h day le = through lo n last (h.1 n day) le

  before_greatest : (hi : Option ℤ) (n first : ℤ) → IsGreatest Day hi → Day n → first ≤ℤ n
      → IfSome hi (λ h. first ≤ℤ h)
  before_greatest None n first h day le = tt
  before_greatest (Some hi) n first h day le = through first n hi le (h.1 n day)

  least_day : (lo : ℤ) → IsLeast Day (Some lo) → Day lo
  least_day lo h = h.0

  greatest_day : (hi : ℤ) → IsGreatest Day (Some hi) → Day hi
  greatest_day hi h = h.0

-- ---- each date has one span
pub one_span : (date : Date) (s t : Span) → IsSpan date s → IsSpan date t → s ≡ t
one_span date s t h k =
    let same : k.form ≡ h.form = one_said date.text k.form h.form k.said h.said in
    let lo : s.lo ≡ t.lo = one_least (IsDayOf h.form) s.lo t.lo h.lo
    (subst (λ (f : Form). IsLeast (IsDayOf f) t.lo) same k.lo) in
    let hi : s.hi ≡ t.hi = one_greatest (IsDayOf h.form) s.hi t.hi h.hi
    (subst (λ (f : Form). IsGreatest (IsDayOf f) t.hi) same k.hi) in
    λ i. record { lo = lo i; hi = hi i }

-- ---- what is met
-- a date that may mean a day between the two
pub met_day : (date : Date) (s : Span) (form : Form) (n first last : ℤ) → IsSpan date s → Says date.text form
    → IsDayOf form n → first ≤ℤ n → n ≤ℤ last → HasEnd s → Meets s first last
met_day date s form n first last h said day from to ends =
    let same : form ≡ h.form = one_said date.text form h.form said h.said in
    let here : IsDayOf h.form n = subst (λ (f : Form). IsDayOf f n) same day in record {
      ends = ends;
      begins = after_least (IsDayOf h.form) s.lo n last h.lo here to;
      goes_on = before_greatest (IsDayOf h.form) s.hi n first h.hi here from;
    }

some_end : (lo : Option ℤ) (l : ℤ) → lo ≡ Some l → IsSome lo
some_end lo l e = subst (λ (o : Option ℤ). IsSome o) (sym e) refl

-- its own ends
pub own_lo : (date : Date) (s : Span) (lo : ℤ) → IsSpan date s → s.lo ≡ Some lo → Meets s lo lo
own_lo date s lo h e = met_day date s h.form lo lo lo h h.said
    (least_day (IsDayOf h.form) lo (subst (λ (o : Option ℤ). IsLeast (IsDayOf h.form) o) e h.lo)) (at_itself lo)
    (at_itself lo) (inl (some_end s.lo lo e))

pub own_hi : (date : Date) (s : Span) (hi : ℤ) → IsSpan date s → s.hi ≡ Some hi → Meets s hi hi
own_hi date s hi h e = met_day date s h.form hi hi hi h h.said
    (greatest_day (IsDayOf h.form) hi (subst (λ (o : Option ℤ). IsGreatest (IsDayOf h.form) o) e h.hi)) (at_itself hi)
    (at_itself hi) (inr (some_end s.hi hi e))

-- wider days
begins_still : (lo : Option ℤ) (a b : ℤ) → a ≤ℤ b → IfSome lo (λ l. l ≤ℤ a) → IfSome lo (λ l. l ≤ℤ b)
begins_still None a b le h = tt
begins_still (Some lo) a b le h = through lo a b h le

goes_on_still : (hi : Option ℤ) (a b : ℤ) → b ≤ℤ a → IfSome hi (λ h. a ≤ℤ h) → IfSome hi (λ h. b ≤ℤ h)
goes_on_still None a b le h = tt
goes_on_still (Some hi) a b le h = through b a hi le h

pub wider : (s : Span) (first last earlier later : ℤ) → earlier ≤ℤ first → last ≤ℤ later → Meets s first last
    → Meets s earlier later
wider s first last earlier later before after h = record {
  ends = h.ends;
  begins = begins_still s.lo last later after h.begins;
  goes_on = goes_on_still s.hi first earlier before h.goes_on;
}

-- Which spans meet days: rules of our own.
use Rattle.std.specs.Prelude.{◌⊎◌, ℤ, ◌≤ℤ◌, IfSome, IsSome}
use Rattle.gedcom_date.specs.declared.value.Span.{Span}

-- it has a first or a last day; a phrase and a text that fits no form have neither
abbrev pub HasEnd : Span → Type 0
HasEnd span = IsSome span.lo ⊎ IsSome span.hi

-- the span has an end; it does not begin after the last of the days, and does not end before the first of them
pub record Meets (span : Span) (first last : ℤ) : Type 0 where
  pub ends : HasEnd span
  pub begins : IfSome span.lo (λ lo. lo ≤ℤ last)
  pub goes_on : IfSome span.hi (λ hi. first ≤ℤ hi)

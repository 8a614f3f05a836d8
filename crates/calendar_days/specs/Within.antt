-- The days of a date.
use Rattle.std.specs.Prelude.{◌≡◌, ℕ, ℤ}
use Rattle.calendar_days.specs.Calendars.{HasDay, Covers, day_number}
use Rattle.calendar_days.specs.Told.{Told}

-- n is the number of a day that the calendar has and the date covers
pub record IsIn (date : Told) (n : ℤ) : Type 0 where
  pub year : ℤ
  pub month : ℕ
  pub day : ℕ
  pub has : HasDay date.calendar year month day
  pub covers : Covers date.extent year month day
  pub number : n ≡ day_number date.calendar year month day

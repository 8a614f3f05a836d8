-- The day that a word names, as `jiff` reads it, by its number.
use Rattle.std.specs.Prelude.{ℕ, ℤ, List, Option, Some, None, Result, Ok, Err}
use Rattle.jiff_core.specs.declared.error.Error.{Error}
use Rattle.jiff_fmt.specs.Temporal.{DateParts, parse_date}
use Rattle.calendar_days.specs.Calendars.{day_number}
use Rattle.calendar_days.specs.declared.calendar.Calendar.TheVariants.{Gregorian}

-- the number of the day that was read: day 0 is 1970-01-01
abbrev pub number_of_parts : Result DateParts Error → Option ℤ
number_of_parts (Ok date) = Some (day_number Gregorian date.year date.month date.day)
number_of_parts (Err e) = None

-- the day that a text names; none where `jiff` reads no date from it
abbrev pub day_read : List ℕ → Option ℤ
day_read text = number_of_parts (parse_date text)

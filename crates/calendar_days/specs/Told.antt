-- A date without the fact that its calendar has it.
use Rattle.calendar_days.specs.Calendars.{IsExtent}
use Rattle.calendar_days.specs.declared.calendar.Calendar.{Calendar}
use Rattle.calendar_days.specs.declared.calendar.Extent.{Extent}
use Rattle.calendar_days.specs.declared.calendar.CalendarDate.{CalendarDate}

-- the calendar of a date, and how much of it is known
pub record Told : Type 0 where
  pub calendar : Calendar
  pub extent : Extent

-- what a date tells
abbrev pub told : CalendarDate → Told
told date = record { calendar = date.calendar; extent = date.extent }

-- the calendar has that day, month or year
abbrev pub Exists : Told → Type 0
Exists date = IsExtent date.calendar date.extent

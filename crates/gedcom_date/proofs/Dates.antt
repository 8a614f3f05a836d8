-- Two dates that words tell, as the functions of specs/Reading.antt have them.
use Rattle.std.proofs.Common.{◌≡◌, Option, Some, None, refl}
use Rattle.calendar_days.specs.Told.{Told}
use Rattle.gedcom_date.specs.Order.{IsOrdered}
use Rattle.gedcom_date.specs.Form.{Form}
use Rattle.gedcom_date.specs.Reading.{Halves, told_of, two_dates, ◌>>=◌}

both : (form : Told → Told → Form) (a b : Option Told) (f : Form) → (a >>= λ d. b >>= λ e. Some (form d e)) ≡ Some f
    → (d : Told) × (e : Told) × (a ≡ Some d) × (b ≡ Some e) × (f ≡ form d e)
both form None b f h = absurd cc
both form (Some d) None f h = absurd cc
both form (Some d) (Some e) f h = (d, e, refl, refl, cc)

-- what two dates tell, part by part
pub two_dates_is : (form : Told → Told → Form) (halves : Halves) (f : Form) → two_dates form (Some halves) ≡ Some f
    → (d : Told) × (e : Told) × (told_of halves.0 ≡ Some d) × (told_of halves.1 ≡ Some e) × (f ≡ form d e)
two_dates_is form halves f h = both form (told_of halves.0) (told_of halves.1) f h

-- an order of equal dates
pub ordered_same : (a b c d : Told) → a ≡ c → b ≡ d → IsOrdered c d → IsOrdered a b
ordered_same a b c d e f o = rw (e, f) o

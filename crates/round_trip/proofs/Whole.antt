-- The whole, from its parts.
use Rattle.std.specs.Prelude.{ℕ, ◌≤◌, length, List}
use Rattle.std.proofs.Common.{sym}
use Rattle.record_text.specs.Text.{IsText}
use Rattle.archive_state.specs.Content.{Content}
use Rattle.archive_state.specs.Sound.{IsSound}
use Rattle.gedcom_tree.specs.File.{ReadsFile}
use Rattle.gedcom_tree.specs.Forest.{Item}
use Rattle.gedcom_tree.specs.Text.{IsForest, IsSame, text}
use Rattle.gedcom_export.specs.Forest.{exported}
use Rattle.round_trip.specs.OrderLaws.{OrdersAreKept}
use Rattle.round_trip.specs.Positions.{new_number}
use Rattle.round_trip.specs.SameLaws.{ComesBack, FileComesBack, ImportHasAll, ReportsNothing}

pub comes_back : ImportHasAll → ReportsNothing → OrdersAreKept → ComesBack
comes_back all none orders c society f is e =
    let made = all c society f is e in
    (made.0, made.1, none c society f is e, (new_number c.records, record { carried = made.2; orders = orders c is }))

-- what the laws below say of an export and of texts
abbrev ExportsForests : Type 0
ExportsForests = (c : Content) (society : List ℕ) → IsSound c → IsText society → IsForest (exported c.records society)

abbrev ReadsTexts : Type 0
ReadsTexts = (f : List Item) → IsForest f → length (text f) ≤ 67108864
    → (g : List Item) × (ReadsFile (text f) g × IsSame f g)

pub file_comes_back : ExportsForests → ReadsTexts → ComesBack → FileComesBack
file_comes_back forests reads back c society is named short =
    let found = reads (exported c.records society) (forests c society is named) short in
    (found.0, found.1.0, back c society found.0 is (sym found.1.1))

-- The numbers that the nodes of a file get as records.
use Rattle.std.specs.Prelude.{ℕ, ◌≡◌, ◌<◌, false, List, Result, Ok, Err}
use Rattle.std.specs.Global.{Vec}
use Rattle.archive_state.specs.Content.{Content}
use Rattle.archive_state.specs.Looks.{is_stop}
use Rattle.record_text.specs.declared.refusal.Refusal.{Refusal}
use Rattle.record_text.specs.declared.refusal.RefusalKind.{RefusalKind}
use Rattle.record_text.specs.declared.refusal.RefusalKind.TheVariants.{Full}
use Rattle.gedcom_tree.specs.Forest.{Item}
use Rattle.import_definitions.specs.Lines.{roots}
use Rattle.import_definitions.specs.Made.{drawing, lowest_place, made, places}
use Rattle.import_definitions.specs.Numbers.{Drawing}
use Rattle.import_definitions.specs.Roots.{candidates, kept}

-- those that an import draws for the positions of the nodes
abbrev pub root_numbers : Content → List Item → List ℕ
root_numbers c f =
    (drawing c.next (places (lowest_place c.records) (roots (kept (candidates f)))) (roots (kept (candidates f)))).roots

-- they are; or the import is refused so, or a stop
abbrev pub AreNumbers : Content → List Item → Result (Vec ℕ) Refusal → Type 0
AreNumbers c f (Ok found) = found.items ≡ root_numbers c f
AreNumbers c f (Err e) = is_stop e.kind ≡ false → made c f ≡ Err e

-- they are those of this drawing; 63 comes only where a number above 4,294,967,295 would be needed
abbrev pub AreDrawn : Drawing → Result (Vec ℕ) RefusalKind → Type 0
AreDrawn d (Ok found) = found.items ≡ d.roots
AreDrawn d (Err e) = is_stop e ≡ false → (e ≡ Full) × (4294967296 < d.next)

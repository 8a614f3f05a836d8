-- Rows of which the same is seen.
use Rattle.std.proofs.Common.{ℕ, List, [], ◌∷◌, ◌∙◌}
use Rattle.store_tables.specs.Rows.{Rows}
use Rattle.staged_rows.specs.Removing.{AreAside, IsSeenAs}

-- numbers that have no record have none then
pub aside_seen : (ns : List ℕ) (rows other : Rows) → IsSeenAs rows other → AreAside ns rows → AreAside ns other
aside_seen [] rows other seen aside = tt
aside_seen (n ∷ ns) rows other seen aside =
    (seen.recorded n ∙ aside.0, aside_seen ns rows other seen aside.1)

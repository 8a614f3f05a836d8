use Rattle.std.proofs.Common.{◌≡◌, ◌∷◌, map, string_bytes, take}
use Rattle.histories.proofs.rows.fields_of.Given as goal

abbrev pub invariant-each : goal.invariant-each
invariant-each l = map (λ f. f.now) l.fields.items ≡ l.token ∷ map string_bytes (take l.cell-index l.cells)

use Rattle.std.proofs.Common.{◌≡◌, ◌∙◌, ◌∷◌, [], ℕ, List, length, refl, sym, true, arith}
use Rattle.std.specs.Prelude.{◌==◌}
use Rattle.std.proofs.lemmas.Bool.{eqb-true}
use Rattle.record_shapes.specs.Shapes.{role_lines}
use Rattle.node_writing.proofs.Appending.{nothing}
use Rattle.node_writing.proofs.events.push_role.Goals as goal

none_said : (role : List ℕ) → (length role == 0) ≡ true → role_lines role ≡ []
none_said [] h = refl
none_said (b ∷ bs) h = absurd (omega (arith, eqb-true (length (b ∷ bs)) 0 h))

pub returns-then-is_empty : goal.returns-then-is_empty
returns-then-is_empty g c = nothing (g.N.Named.names c.args.index.now) 3 _ _
    (none_said c.args.role.now (sym c.is_empty.ensures ∙ c.if-is_empty.true))

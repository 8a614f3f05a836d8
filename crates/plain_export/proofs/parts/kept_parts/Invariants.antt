use Rattle.std.proofs.Common.{◌≡◌, take, map}
use Rattle.plain_export.proofs.parts.kept_parts.Given as goal

abbrev pub invariant-parts : goal.invariant-parts
invariant-parts g l = l.made.items ≡ map (g.P.Part.kept l.state.records) (take l.part-index l.parts)

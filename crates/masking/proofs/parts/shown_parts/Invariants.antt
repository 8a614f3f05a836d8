use Rattle.std.proofs.Common.{◌≡◌, take, map}
use Rattle.masking.proofs.parts.shown_parts.Given as goal

abbrev pub invariant-parts : goal.invariant-parts
invariant-parts g l = l.made.items ≡ map g.P.Part.shown (take l.part-index l.parts)

use Rattle.std.proofs.Common.{◌≡◌, ◌∷◌, map, take}
use Rattle.commands.specs.Verbs.{verb_word}
use Rattle.commands.proofs.rows.verb_row.Given as goal

abbrev pub invariant-loop-field : goal.invariant-loop-field
invariant-loop-field l = map (λ w. w.now) l.words.items ≡ verb_word l.fn.verb ∷ map (λ f. f.now)
    (take l.field-index l.fields)

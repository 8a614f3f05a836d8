use Rattle.std.proofs.Common.{◌≡◌, map, take}
use Rattle.commands.proofs.batch.field_row_bytes.Given as goal

abbrev pub invariant-loop-field : goal.invariant-loop-field
invariant-loop-field l = map (λ f. f.now) l.words.items ≡ take l.field-index l.fields

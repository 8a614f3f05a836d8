use Rattle.std.proofs.Common.{◌∙◌, ◌<◌, ◌++◌, ◌∷◌, [], ap, length, List, ℕ, set, sym, take}
use Rattle.csv.specs.Records.{fields_of, partial_of}
use Rattle.row_references.proofs.InPlace.{next_set}
use Rattle.row_references.proofs.fields.with_field.Goals as goal

pub fields-preserved : goal.fields-preserved
fields-preserved c =
    let row = fields_of c.args.row.now in
    let lt : c.fields.i < length row = rw (← c.len-i-end.ensures) c.fields-test.true in
    let v = c.fields.invariant in
    let other = c.args.field.now in
    let kept = take c.fields.i (set row c.args.at other) in (
      c.in_ok-push_field.ensures.fields
          ∙ ap (λ (fs : List (List ℕ)). fs ++ (partial_of c.fields.out ++ c.field_or.result.now) ∷ []) v.0
          ∙ ap (λ (p : List ℕ). kept ++ (p ++ c.field_or.result.now) ∷ []) v.1
          ∙ ap (λ (f : List ℕ). kept ++ f ∷ []) c.field_or.ensures ∙ sym (next_set row c.fields.i c.args.at other lt),
      c.in_ok-push_field.ensures.partial,
    )

use Rattle.std.proofs.Common.{◌<◌, ◌≤◌, ◌++◌, ◌∷◌, ◌∙◌, [], ap, inl, inr, sym, length, map, take, Bor, List, ℕ}
use Rattle.std.proofs.lemmas.Bool.{cases_lt}
use Rattle.std.proofs.lemmas.List.{map_push, take_all}
use Rattle.csv.specs.Records.{AllText, fields_of}
use Rattle.csv.proofs.RecordFacts.{text-at, text-step}
use Rattle.request_csv.specs.Input.{first_fields, kept_fields}
use Rattle.request_csv.proofs.Firsts.{all_kept, next_kept, none_kept}
use Rattle.request_csv.proofs.fields.text_fields.Goals as goal

pub fields-init : goal.fields-init
unfolding AllText
fields-init c = (tt, ap (map (λ (f : Bor (List ℕ)). f.now)) c.new-fields.ensures.items)

pub returns-in-None : goal.returns-in-None
returns-in-None c = λ all.
    let lt : c.fields.i < length (fields_of c.args.row.now) = rw (← c.len-i-end.ensures) c.fields-test.true in
    c.in-None.ensures (text-at _ _ lt all)

pub fields-preserved : goal.fields-preserved
fields-preserved c =
    let row = fields_of c.args.row.now in
    let lt : c.fields.i < length row = rw (← c.len-i-end.ensures) c.fields-test.true in
    let v = c.fields.invariant in
    let now : Bor (List ℕ) → List ℕ = λ f. f.now in (
      text-step _ _ lt v.0 c.in-Some.ensures.1,
      elim (cases_lt c.fields.i kept_fields) [
        | inl few ↦
            ap (map now) (c.in_ok-keep_at-in-Some.ensures.kept few) ∙ map_push now c.fields.fields.items c.in-Some.text
            ∙ ap (λ fs. fs ++ c.in-Some.text.now ∷ []) v.1
            ∙ ap (λ (f : List ℕ). take c.fields.i (first_fields row) ++ f ∷ []) c.in-Some.ensures.0
            ∙ sym (next_kept row c.fields.i lt few)
        | inr behind ↦
            ap (map now) (c.in_ok-keep_at-in-Some.ensures.left behind) ∙ v.1 ∙ sym (none_kept row c.fields.i behind)
      ],
    )

pub returns : goal.returns
returns c =
    let row = fields_of c.args.row.now in
    let ge : length row ≤ c.fields.i = rw (← c.len-i-end.ensures) c.fields-test.false in
    let v = c.fields.invariant in (rw (take_all c.fields.i row ge) at v.0, v.1 ∙ all_kept row c.fields.i ge)

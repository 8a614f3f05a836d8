use Rattle.std.proofs.Common.{◌≡◌, ◌++◌, ◌∷◌, ◌∙◌, [], List, ℕ, ap, inr, refl, string_bytes}
use Rattle.record_text.specs.Words.{replaced}
use Rattle.packed_rows.proofs.Found.{text_found, text_unfound}
use Rattle.packed_rows.proofs.words.text_of.Goals as goal

pub returns-in_default-clause-err : goal.returns-in_default-clause-err
returns-in_default-clause-err c =
    let made : string_bytes c.push_replaced.new.out ≡ replaced 13 (10 ∷ []) c.args.words.now
    = c.in_ok-push_replaced.ensures
    ∙ ap (λ (t : List ℕ). t ++ replaced 13 (10 ∷ []) c.args.words.now) c.new-string.ensures.bytes in
    inr (refl, text_unfound c.args.words.now (string_bytes c.push_replaced.new.out) made c.in_default.ensures)

pub returns-clause-ok : goal.returns-clause-ok
returns-clause-ok c =
    let made : string_bytes c.push_replaced.new.out ≡ replaced 13 (10 ∷ []) c.args.words.now
    = c.in_ok-push_replaced.ensures
    ∙ ap (λ (t : List ℕ). t ++ replaced 13 (10 ∷ []) c.args.words.now) c.new-string.ensures.bytes in
    (text_found c.args.words.now c.in-Some.text c.requires (c.in-Some.ensures ∙ made), c.as_str.ensures.text)

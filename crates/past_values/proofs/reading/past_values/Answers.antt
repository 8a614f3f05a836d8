use Rattle.std.proofs.Common.{inl, inr, subst, sym, ◌∙◌}
use Rattle.std.specs.List.{AllByRecursion}
use Rattle.std.proofs.lemmas.Result.{IfErr-weaker, IfOk-weaker}
use Rattle.sqlite.specs.Held.{state}
use Rattle.store_tables.specs.Conversion.{EachWith}
use Rattle.past_values.specs.Recalling.{HasRecord, IsValueOf}
use Rattle.past_values.proofs.Made.{looks_on, looks_refused}
use Rattle.past_values.proofs.reading.past_values.Goals as goal

pub returns-in-Ok-clause-looks : goal.returns-in-Ok-clause-looks
returns-in-Ok-clause-looks g c =
    let made = c.values_of.ensures in
    let is = c.deref.ensures.value in
    looks_on _ _ _ _ (state g.S.Store c.args.conn.now) (state g.S.Store c.pasts_at.new.conn) c.in-Ok.rows
    c.values_of.result c.in-Ok.ensures.looks
    (IfOk-weaker c.values_of.result _ _ (λ values are rows same.
    subst (λ xs. EachWith IsValueOf xs values.items) (is ∙ same) are) made.read)
    (IfErr-weaker c.values_of.result _ _ (λ kind why. elim why [
      | inl want ↦ inl want
      | inr bad ↦ inr (bad.0, λ rows same all. bad.1 (subst (AllByRecursion HasRecord) (sym (is ∙ same)) all.1))
    ]) made.refused)

pub returns-in-Err-clause-looks : goal.returns-in-Err-clause-looks
returns-in-Err-clause-looks g c =
    looks_refused _ _ _ _ (state g.S.Store c.args.conn.now) (state g.S.Store c.pasts_at.new.conn) c.in-Err.kind
    (λ rows all. all.0) c.in-Err.ensures.looks

use Rattle.std.proofs.Common.{inl, inr, subst}
use Rattle.std.proofs.lemmas.Result.{IfErr-weaker}
use Rattle.store_tables.specs.Keyed.{IsOnly}
use Rattle.store_tables.proofs.Calls.{if_ok}
use Rattle.store_tables.proofs.ReadingRows.{looks_with}
use Rattle.store_tables.proofs.keyed.closed_pack_at.Goals as goal

pub returns-clause-looks : goal.returns-clause-looks
returns-clause-looks g c =
    looks_with c.at_most_one.result c.in_ok-closed_packs_at.ensures.looks
    (if_ok c.at_most_one.result (λ found is rows was. subst (λ xs. IsOnly xs found) was.0 is)
    c.at_most_one.ensures.ok)
    (IfErr-weaker c.at_most_one.result _ _
    (λ kind why rows was. elim why [ inl memory ↦ inl memory | inr bad ↦ absurd (bad.1 was.1) ])
    c.at_most_one.ensures.err)

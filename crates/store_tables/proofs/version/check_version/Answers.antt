use Rattle.std.proofs.Common.{◌≡◌, inl, inr, ℕ, pos, List, [], ◌∷◌, Ok, sym, subst, ◌∙◌}
use Rattle.std.proofs.lemmas.Bool.{cases_Bool}
use Rattle.std.proofs.lemmas.Result.{IfErr-weaker}
use Rattle.sqlite.specs.State.{State, Shown}
use Rattle.sqlite.specs.declared.types.Value.TheVariants.{Int}
use Rattle.record_text.specs.declared.refusal.RefusalKind.{RefusalKind}
use Rattle.record_text.specs.declared.refusal.RefusalKind.TheVariants.{OutOfMemory, NewerSchema, NotAnArchive}
use Rattle.store_tables.specs.Telling.{tells_no_archive}
use Rattle.sqlite.specs.Held.{state}
use Rattle.sqlite.specs.Order.{Row}
use Rattle.store_tables.specs.Looking.{Looks, HasVersion, meta_query, version_number, IsRefusedRows, IsRefusedStore}
use Rattle.store_tables.specs.Reading.{IsVersion}
use Rattle.store_tables.specs.Rows.{Rows}
use Rattle.store_tables.specs.Shown.{shown_meta}
use Rattle.store_tables.proofs.Asking.{meta_survives}
use Rattle.store_tables.proofs.Calls.{if_ok}
use Rattle.store_tables.proofs.Queries.{reads_meta}
use Rattle.store_tables.proofs.ReadingRows.{looks_with}
use Rattle.store_tables.proofs.Texts.{select_meta_plain}
use Rattle.store_tables.proofs.version.check_version.Goals as goal

pub ask-requires-clause-plain : goal.ask-requires-clause-plain
ask-requires-clause-plain g c = select_meta_plain

-- the rows show one version
same_version : (rows : List Row) (r : Rows) (n : ℕ) → rows ≡ shown_meta r ∷ [] → HasVersion n rows → r.version ≡ n
same_version rows r n is has = let same : shown_meta r ∷ [] ≡ (Int (pos n) ∷ has.0) ∷ [] = sym is ∙ has.1 in cc

pub returns-in-Ok-clause-looks : goal.returns-in-Ok-clause-looks
returns-in-Ok-clause-looks g c =
    let old = state g.S.Store c.args.conn.now in
    let new = state g.S.Store c.ask.new.conn in
    let did = c.in-Ok.ensures in
    let looked : Looks (λ rows (all : List Row). (all ≡ shown_meta rows ∷ []) × IsVersion rows.version) old new
    (Ok c.in-Ok.rows.items) = record {
      read = λ clean rows was. (
        reads_meta old new c.in-Ok.rows.items rows was.schema was.good.holds (did.shown clean),
        was.good.typed.version,
      );
      same = did.same;
      refused = λ clean. tt;
      crash = did.crash;
      clean = did.clean;
    } in
    looks_with c.version_of.result looked
    (if_ok c.version_of.result (λ version is rows was. same_version _ rows (version_number version)
    (c.deref.ensures.value ∙ was.0) is) c.version_of.ensures.version)
    (IfErr-weaker c.version_of.result _ _ (λ kind is rows was. inl (is rows was.1 (c.deref.ensures.value ∙ was.0)))
    c.version_of.ensures.known)

pub returns-in-Ok-clause-version : goal.returns-in-Ok-clause-version
returns-in-Ok-clause-version g c clean =
    if_ok c.version_of.result
    (λ version is. (c.in-Ok.rows.items, c.in-Ok.ensures.shown clean, (is.0, sym c.deref.ensures.value ∙ is.1)))
    c.version_of.ensures.version

pub returns-in-Ok-clause-newer : goal.returns-in-Ok-clause-newer
returns-in-Ok-clause-newer g c clean =
    IfErr-weaker c.version_of.result _ _ (λ kind later is. let v = later is in
    (v.0, v.1, (c.in-Ok.rows.items, c.in-Ok.ensures.shown clean, (v.2.0, sym c.deref.ensures.value ∙ v.2.1))))
    c.version_of.ensures.newer

-- a store is refused for what its rows are refused for
refused_rows : (old new : State) (rows : List Row) (kind : RefusalKind) → Shown meta_query [] old new rows
    → IsRefusedRows rows kind → IsRefusedStore old new kind
refused_rows old new rows OutOfMemory shown why = tt
refused_rows old new rows NewerSchema shown why = (why.0, why.1, (rows, shown, why.2))
refused_rows old new rows NotAnArchive shown why = inr (rows, shown, why)
refused_rows old new rows _ shown why = absurd why

pub returns-in-Ok-clause-told : goal.returns-in-Ok-clause-told
returns-in-Ok-clause-told g c clean =
    let old = state g.S.Store c.args.conn.now in
    let new = state g.S.Store c.ask.new.conn in
    IfErr-weaker c.version_of.result _ _ (λ kind why. refused_rows old new c.in-Ok.rows.items kind
    (c.in-Ok.ensures.shown clean)
    (subst (λ rows. IsRefusedRows rows kind) c.deref.ensures.value why)) c.version_of.ensures.told

pub returns-in-Err-clause-told : goal.returns-in-Err-clause-told
returns-in-Err-clause-told g c clean =
    let old = state g.S.Store c.args.conn.now in
    let new = state g.S.Store c.ask.new.conn in
    let fails = c.in-Err.ensures.failed clean in
    elim (cases_Bool (tells_no_archive c.in-Err.error)) [
      | inl lacks ↦ subst (IsRefusedStore old new) (sym (c.refusal_of.ensures.told lacks))
          (inl (c.in-Err.error, fails, lacks))
      | inr has ↦ subst (IsRefusedStore old new) (sym (c.refusal_of.ensures.known has)) (c.in-Err.error, fails, has)
    ]

pub returns-in-Ok-clause-survives : goal.returns-in-Ok-clause-survives
returns-in-Ok-clause-survives g c =
    meta_survives (state g.S.Store c.args.conn.now) (state g.S.Store c.ask.new.conn) c.ask.ensures.survives

pub returns-in-Err-clause-survives : goal.returns-in-Err-clause-survives
returns-in-Err-clause-survives g c =
    meta_survives (state g.S.Store c.args.conn.now) (state g.S.Store c.ask.new.conn) c.ask.ensures.survives

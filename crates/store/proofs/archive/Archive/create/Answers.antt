use Rattle.std.proofs.Common.{◌≡◌, IfOk, List, ℕ, inr, subst}
use Rattle.sqlite.specs.Held.{state}
use Rattle.sqlite.specs.State.{HasCleanDisk}
use Rattle.archive_state.specs.Content.{nothing}
use Rattle.store_tables.specs.Calls.{SettledBlank}
use Rattle.std.proofs.lemmas.Result.{IfErr-weaker}
use Rattle.store.specs.Archives.{HasArchive, LeavesArchive}
use Rattle.store.specs.Creating.{IsSociety, RefusesToMake}
use Rattle.store.proofs.archive.Archive.create.Goals as goal

pub returns-in-Some-clause-created : goal.returns-in-Some-clause-created
returns-in-Some-clause-created g c =
    subst (λ (society : List ℕ). IfOk c.create_named.result (λ made. HasCleanDisk (state g.S.Store made.conn)
    → SettledBlank (state g.S.Store c.args.conn)
    → HasArchive society nothing (state g.S.Store made.conn) × LeavesArchive (state g.S.Store made.conn) society
    (λ found. found ≡ nothing)))
    c.in-Some.ensures.0 c.create_named.ensures.created

pub returns-in-Some-clause-refused : goal.returns-in-Some-clause-refused
returns-in-Some-clause-refused g c =
    let named = c.in-Some.ensures in
    IfErr-weaker c.create_named.result _ _ (λ e refused. inr (
      subst (λ (society : List ℕ). IsSociety society) named.0 named.1,
      subst (λ (society : List ℕ). RefusesToMake society (state g.S.Store c.args.conn) (state g.S.Store e.1) e.0)
          named.0 refused,
    )) c.create_named.ensures.refused

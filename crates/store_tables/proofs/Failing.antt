-- Under a schema of an archive no error tells that a store is no archive.
use Rattle.std.proofs.Common.{◌≡◌, inl, inr, ℕ, List, false, None, Some, Option, sym, ap, subst, ◌∙◌, Bool}
use Rattle.sqlite.specs.Order.{Row}
use Rattle.sqlite_trees.specs.declared.error.StoreError.{StoreError}
use Rattle.sqlite_trees.specs.declared.error.StoreError.TheVariants.{OutOfMemory, Io, Corrupt, Full, Broken, Unstorable}
use Rattle.sqlite_resolve.specs.declared.compiled.Compiled.{Compiled}
use Rattle.sqlite_schema.specs.declared.command.Returning.{Returning}
use Rattle.sqlite.specs.Command.{Command}
use Rattle.sqlite.specs.Command.TheVariants.{Select, Rows}
use Rattle.sqlite.specs.declared.error.Error.{Error}
use Rattle.sqlite.specs.Effect.{Database, RefusesToRead}
use Rattle.sqlite.specs.Listing.{understood}
use Rattle.sqlite.specs.Clock.{timed}
use Rattle.sqlite.specs.State.{State, IsNotRun, IsNoStatement, FailsToQuery, FailsToShow, store_error}
use Rattle.sqlite.proofs.Callers.{IsPlain}
use Rattle.store_tables.specs.Telling.{tells_no_archive}
use Rattle.store_tables.specs.Schema.{archive_schema}

pub by_store : (cause : StoreError) (e : Error) → e ≡ store_error cause → tells_no_archive e ≡ false
by_store OutOfMemory e is = ap tells_no_archive is
by_store Io e is = ap tells_no_archive is
by_store Corrupt e is = ap tells_no_archive is
by_store Full e is = ap tells_no_archive is
by_store Broken e is = ap tells_no_archive is
by_store Unstorable e is = ap tells_no_archive is

by_query : (limit : Option ℕ) (command : Command) (db : Database) (params : Row) (e : Error)
    → RefusesToRead limit command db params e → tells_no_archive e ≡ false
by_query limit (Select q names) db params e (inl h) = ap tells_no_archive h.0
by_query limit (Select q names) db params e (inr (inl h)) = ap tells_no_archive h.0
by_query limit (Select q names) db params e (inr (inr h)) = ap tells_no_archive h.0
by_query limit (Rows values width names) db params e h = ap tells_no_archive h.0
by_query limit _ db params e h = ap tells_no_archive h

module _ (sql : List ℕ) (b : Bool) (plain : IsPlain (understood (archive_schema b) sql)) (old new : State)
    (has : old.now.schema ≡ archive_schema b) (params : Row) (e : Error) where
  no_statement : IsNoStatement old sql params e → tells_no_archive e ≡ false
  no_statement (inl h) = absurd (subst IsPlain (sym (ap (λ s. understood s sql) has) ∙ h.1) plain)
  no_statement (inr (c, is, inl h)) = ap tells_no_archive h.1
  no_statement (inr (c, is, inr (inl h))) = ap tells_no_archive h.1
  no_statement (inr (c, is, inr (inr h))) = ap tells_no_archive h.1

  pub not_run : IsNotRun old new sql params e → tells_no_archive e ≡ false
  unfolding IsNotRun
  not_run (inl h) = no_statement h.0
  not_run (inr h) = by_store h.0 e h.1

  not_shown : (c : Compiled) (ps : Row) (returning : Option Returning) → returning ≡ None
      → FailsToShow old new sql c ps e returning → tells_no_archive e ≡ false
  not_shown c ps None none h = by_query old.step_limit c.command h.0 ps e h.2
  not_shown c ps (Some what) none h = absurd cc

  pub fails_known : FailsToQuery sql params old new e → tells_no_archive e ≡ false
  unfolding FailsToQuery
  fails_known (inl h) = not_run h
  fails_known (inr h) = not_shown h.0 (timed params h.0.formats h.1.now) h.0.returning
      (subst IsPlain (sym (ap (λ s. understood s sql) has) ∙ h.1.is) plain).0 h.2

-- A connection that was just opened over the tables of an archive has it, in the version that they have.
use Rattle.std.proofs.Common.{◌≡◌, ℕ, List, sym, ap, ◌∙◌, subst}
use Rattle.sqlite.specs.Effect.{Database}
use Rattle.sqlite.specs.State.{IsLive, Opens, State}
use Rattle.sqlite.specs.Tree.{Trees}
use Rattle.archive_state.specs.Content.{Content}
use Rattle.sqlite.specs.Schema.{Schema}
use Rattle.sqlite_catalog.specs.Listing.{IsSound}
use Rattle.store_tables.specs.Calls.{Good, Settled, SettledBlank}
use Rattle.store_tables.specs.Rows.{Rows}
use Rattle.store_tables.specs.Schema.{no_schema}
use Rattle.store_tables.proofs.Reopening.{sound_once}
use Rattle.store.specs.Archives.{HasArchive, IsArchive}
use Rattle.store.specs.Earlier.{HadArchive, WasArchive}

opened_settled : (s : State) (t : Trees) (rows : Rows) → Opens s → IsLive s → s.committed.trees ≡ t → Good rows t
    → Settled s rows
opened_settled s t rows opens live found is =
    let trees : s.now.trees ≡ t = ap (λ (d : Database). d.trees) opens.clean ∙ found in
    let good : Good rows s.now.trees = subst (Good rows) (sym trees) is in
    record {
      is_open = opens.is_open;
      autocommit = opens.autocommit;
      settled = sym opens.clean;
      schema = sound_once rows.has_spans s.now.schema s.now.trees good.sound (live opens.is_open).0;
      good = good;
    }

pub opened_over : (s : State) (t : Trees) (society : List ℕ) (c : Content) → Opens s → IsLive s → s.committed.trees ≡ t
    → IsArchive society c t → HasArchive society c s
opened_over s t society c opens live found is = (is.0, opened_settled s t is.0 opens live found is.1, is.2)

-- the same of the first version
pub opened_over_old : (s : State) (t : Trees) (society : List ℕ) (c : Content) → Opens s → IsLive s
    → s.committed.trees ≡ t → WasArchive society c t → HadArchive society c s
opened_over_old s t society c opens live found was =
    (was.0, was.1, (was.2.0, opened_settled s t was.2.0 opens live found was.2.1, was.2.2))

-- one that was just opened and shows no schema is blank
pub opened_blank : (s : State) → Opens s → IsLive s → s.now.schema ≡ no_schema → SettledBlank s
opened_blank s opens live schema = record {
  is_open = opens.is_open;
  autocommit = opens.autocommit;
  settled = sym opens.clean;
  schema = schema;
  blank = record { sound = subst (λ (x : Schema). IsSound x s.now.trees) schema (live opens.is_open).0 };
}

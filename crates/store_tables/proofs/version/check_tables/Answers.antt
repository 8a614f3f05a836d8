use Rattle.std.proofs.Common.{rules, ◌≡◌, Bool, true, false, List, ℕ, [], ◌∷◌, ◌∙◌, ap, sym, subst}
use Rattle.std.specs.List.{AllByRecursion}
use Rattle.sqlite.specs.Held.{state}
use Rattle.sqlite.specs.Listing.{understood}
use Rattle.sqlite.proofs.Callers.{IsPlain}
use Rattle.store_tables.specs.Looking.{version_number}
use Rattle.store_tables.specs.Prepared.{PreparesAll, all_queries, later_queries, line_query, queries_of}
use Rattle.store_tables.specs.Schema.{archive_schema}
use Rattle.store_tables.specs.declared.version.Version.TheVariants.{First, Second}
use Rattle.store_tables.proofs.Preparing.{looks_prepared, prepared_lost, prepared_then}
use Rattle.store_tables.proofs.LinkTexts.{select_links_plain}
use Rattle.store_tables.proofs.PackTexts.{select_lines_plain, select_packs_plain}
use Rattle.store_tables.proofs.SoughtTexts.{select_soughts_plain}
use Rattle.store_tables.proofs.SpanTexts.{select_spans_plain}
use Rattle.store_tables.proofs.Texts.{
  select_meta_plain,
  select_batches_plain,
  select_records_plain,
  select_receipts_plain,
  select_slips_plain,
  select_slip_lines_plain,
}
use Rattle.store_tables.proofs.version.check_tables.Goals as goal

abbrev ArePlain : Bool → List (List ℕ) → Type 0
ArePlain b queries = AllByRecursion (λ sql. IsPlain (understood (archive_schema b) sql)) queries

all_plain : (b : Bool) → ArePlain b all_queries
all_plain b = (
  select_meta_plain b,
  (
    select_batches_plain b,
    (
      select_records_plain b,
      (select_receipts_plain b, (select_slips_plain b, (select_slip_lines_plain b, tt))),
    ),
  ),
)

all_and_lines_plain : (b : Bool) → ArePlain b (queries_of First)
all_and_lines_plain b =
    let them = all_plain b in (
      them.0,
      (
        them.1.0,
        (
          them.1.1.0,
          (them.1.1.1.0, (them.1.1.1.1.0, (them.1.1.1.1.1.0, (select_lines_plain b, tt)))),
        ),
      ),
    )

all_and_later_plain : (b : Bool) → b ≡ true → ArePlain b (queries_of Second)
all_and_later_plain false none = absurd cc
all_and_later_plain true dated =
    let them = all_plain true in (
      them.0,
      (
        them.1.0,
        (
          them.1.1.0,
          (
            them.1.1.1.0,
            (
              them.1.1.1.1.0,
              (
                them.1.1.1.1.1.0,
                (select_packs_plain true, (select_spans_plain, (select_links_plain, (select_soughts_plain, tt)))),
              ),
            ),
          ),
        ),
      ),
    )

pub returns-in_err-prepare_all-clause-looks : goal.returns-in_err-prepare_all-clause-looks
returns-in_err-prepare_all-clause-looks g c rows was is =
    looks_prepared all_queries rows.has_spans (all_plain rows.has_spans) (state g.S.Store c.args.conn.now)
    (state g.S.Store c.prepare_all.new.conn) was.schema c.from_residual.result
    (λ is_open t. g.met.S.Store.settled c.args.conn.now.store t is_open)
    (prepared_lost all_queries [] c.from_residual.result (search rules) c.in_err-prepare_all.ensures.told)

pub returns-in-First-clause-told : goal.returns-in-First-clause-told
returns-in-First-clause-told g c =
    subst (λ version. PreparesAll (queries_of version) (state g.S.Store c.args.conn.now)
    (state g.S.Store c.prepare.new.conn) c.prepare.result) (sym c.in-First.is)
    (prepared_then all_queries (line_query ∷ []) c.in_ok-prepare_all.ensures.told c.prepare.ensures.told)

pub returns-in-First-clause-looks : goal.returns-in-First-clause-looks
returns-in-First-clause-looks g c rows was is =
    looks_prepared (queries_of First) rows.has_spans (all_and_lines_plain rows.has_spans)
    (state g.S.Store c.args.conn.now) (state g.S.Store c.prepare.new.conn) was.schema c.prepare.result
    (λ is_open t. g.met.S.Store.settled c.args.conn.now.store t is_open)
    (prepared_then all_queries (line_query ∷ []) c.in_ok-prepare_all.ensures.told c.prepare.ensures.told)

pub returns-in-Second-clause-told : goal.returns-in-Second-clause-told
returns-in-Second-clause-told g c =
    subst (λ version. PreparesAll (queries_of version) (state g.S.Store c.args.conn.now)
    (state g.S.Store c.prepare_later.new.conn) c.prepare_later.result) (sym c.in-Second.is)
    (prepared_then all_queries later_queries c.in_ok-prepare_all.ensures.told c.prepare_later.ensures.told)

pub returns-in-Second-clause-looks : goal.returns-in-Second-clause-looks
returns-in-Second-clause-looks g c rows was is =
    looks_prepared (queries_of Second) rows.has_spans
    (all_and_later_plain rows.has_spans (was.good.typed.dated (is ∙ ap version_number c.in-Second.is)))
    (state g.S.Store c.args.conn.now) (state g.S.Store c.prepare_later.new.conn) was.schema c.prepare_later.result
    (λ is_open t. g.met.S.Store.settled c.args.conn.now.store t is_open)
    (prepared_then all_queries later_queries c.in_ok-prepare_all.ensures.told c.prepare_later.ensures.told)

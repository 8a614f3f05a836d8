-- What the query of the spans answers.
use Rattle.std.proofs.Common.{◌≡◌, true, List, [], ◌∷◌, map, refl, ap, ◌∙◌}
use Rattle.sqlite.specs.declared.types.Value.TheVariants.{Null}
use Rattle.sqlite.specs.Order.{Row}
use Rattle.sqlite.specs.Term.{col}
use Rattle.sqlite.specs.Program.{overlay}
use Rattle.sqlite.specs.State.{State, Shown}
use Rattle.sqlite.proofs.Callers.{reads_as}
use Rattle.store_tables.specs.Calls.{Settled}
use Rattle.store_tables.specs.Rows.{Rows, SpanRow, span_values}
use Rattle.store_tables.specs.Schema.{archive_schema}
use Rattle.store_tables.specs.Shown.{shown_span}
use Rattle.store_tables.proofs.LaterQueries.{where_second}
use Rattle.store_tables.proofs.LaterStatements.{kept_of}
use Rattle.store_tables.proofs.Queries.{all_in_order}
use Rattle.store_tables.proofs.SpanTexts.{
  select_spans,
  select_spans_is,
  select_spans_plain,
  select_spans_unlisted,
  spans_of_second,
}

pub reads_spans : (old new : State) (all : List Row) (rows : Rows) → Settled old rows
    → Shown select_spans [] old new all → all ≡ map shown_span rows.spans
reads_spans old new all rows was h =
    where_second select_spans [] spans_of_second rows.has_spans old new all was.schema h (λ second.
    let has = was.schema ∙ ap archive_schema second in
    let reads = reads_as select_spans [] old new (archive_schema true) has _ select_spans_is select_spans_plain
    select_spans_unlisted all h in
    all_in_order span_values (λ (s : SpanRow). s.no) (λ _. refl) 12 (col 1 0 ∷ col 1 2 ∷ col 1 3 ∷ [])
    (overlay old.now.trees []) rows.spans all (kept_of rows old.now.trees second was.good.holds).spans_kept
    (reads.answer Null))

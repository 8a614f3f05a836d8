-- What tables show of which the spans, the links and what is looked for were read before the rest.
use Rattle.std.proofs.Common.{◌≡◌, true}
use Rattle.std.specs.Prelude.{Bool}
use Rattle.sqlite.specs.State.{State}
use Rattle.archive_state.specs.Content.{Content}
use Rattle.store_tables.specs.Prepared.{link_query, sought_query, span_query}
use Rattle.store_tables.specs.Reading.{read_of}
use Rattle.store_tables.specs.Rows.{Rows}
use Rattle.store_tables.specs.Schema.{archive_schema}
use Rattle.store_tables.specs.Showing.{ShowsEach, ShowsLink, ShowsRows, ShowsSought, ShowsSpan}
use Rattle.store_tables.proofs.ShowingLater.{has_last, links_shown, rows_shown, soughts_shown, spans_shown}
use Rattle.store_rows.specs.Meaning.{Means}
use Rattle.table_looks.specs.Judging.{Beside, ShowsBehind, ShowsBeside}

pub shown_behind : (old one two mid : State) (b : Beside) → old.now.schema ≡ archive_schema true
    → ShowsEach span_query ShowsSpan old one b.spans
    → (one.now.schema ≡ archive_schema true → ShowsEach link_query ShowsLink one two b.links)
    → (two.now.schema ≡ archive_schema true → ShowsEach sought_query ShowsSought two mid b.soughts)
    → ShowsBehind b old mid
shown_behind old one two mid b has first then last = (
  has_last old one two mid b.spans b.links b.soughts has first then last,
  record {
    spans = spans_shown old one two mid b.spans b.links b.soughts has first then last;
    links = links_shown old one two mid b.spans b.links b.soughts has first then last;
    soughts = soughts_shown old one two mid b.spans b.links b.soughts has first then last;
  },
  λ rows. rows_shown old one two mid b.spans b.links b.soughts has first then last rows.has_spans (read_of rows),
)

pub shown_at : (old mid : State) (b : Beside) (c : Content) → ShowsBehind b old mid
    → ((has_spans : Bool) → mid.now.schema ≡ archive_schema has_spans
    → (rows : Rows) × ShowsRows rows mid × Means rows c)
    → ShowsBeside b old × (rows : Rows) × ShowsRows rows old × Means rows c
shown_at old mid b c first behind =
    let rest = behind true first.0 in (first.1, rest.0, first.2 rest.0 rest.1, rest.2)

use Rattle.std.proofs.Common.{◌≡◌, ◌≤◌, take, string_bytes}
use Rattle.std.specs.Prelude.{option_map}
use Rattle.archive_state.specs.Looks.{OnView}
use Rattle.archive_tables.specs.Texts as texts
use Rattle.archive_tables.proofs.whole.shown_text.Given as goal

abbrev pub invariant-each : goal.invariant-each
invariant-each g l = record {
  shown : OnView g.V.View.is_honest g.V.View.shows g.V.View.content l.fn.view l.view
      (λ c. option_map string_bytes l.text ≡ texts.shown_text c (take l.number-index l.numbers));
  counted : g.V.View.failed l.fn.view ≤ g.V.View.failed l.view;
}

-- An archive of which the same is seen.
use Rattle.std.proofs.Common.{ℕ, List, ◌∙◌}
use Rattle.archive_state.specs.Content.{Content}
use Rattle.store_tables.specs.Rows.{Rows}
use Rattle.staged_rows.specs.Removing.{IsSeenAs}
use Rattle.staged_rows.proofs.Alike.{seen_links, seen_means, seen_soughts, seen_spans}
use Rattle.store.specs.Archives.{Keeps}

pub seen_keeps : (society : List ℕ) (c : Content) (before rows : Rows) → IsSeenAs before rows → Keeps society c before
    → Keeps society c rows
seen_keeps society c before rows seen keeps = record {
  means = seen_means before rows c seen keeps.means;
  shallow = keeps.shallow;
  sound = keeps.sound;
  society_is = seen.society ∙ keeps.society_is;
  dated = record {
    version = seen.version ∙ keeps.dated.version;
    has_spans = seen.has_spans ∙ keeps.dated.has_spans;
  };
  spans = seen_spans before rows c seen keeps.means keeps.spans;
  links = seen_links before rows c seen keeps.means keeps.links;
  soughts = seen_soughts before rows c seen keeps.means keeps.soughts;
}

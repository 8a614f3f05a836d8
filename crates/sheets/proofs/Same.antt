-- An index of the records of an archive shows what belongs to each of them.
use Rattle.std.proofs.Common.{◌≡◌}
use Rattle.std.specs.FinMap.{entries, get}
use Rattle.archive_state.specs.Content.{Records}
use Rattle.gedcom_export.specs.Index.{Index, IsIndexOf}
use Rattle.gedcom_export.proofs.Places.{paths_are}
use Rattle.sheets.specs.Gathered.{families_of, gathered}
use Rattle.sheets.specs.Indexed.{indexed}

pub indexed_is : (m : Records) (i : Index) → IsIndexOf (entries m) i → indexed m i ≡ gathered m
indexed_is m i h = λ k. record {
  at = get m;
  events = λ n. h.gathered.events n k;
  citations = λ n. h.gathered.citations n k;
  child_in = λ n. families_of (h.gathered.child_in n k);
  partner_in = λ n. families_of (h.gathered.partner_in n k);
  path = λ n. paths_are m i h.gathered n k;
  sources = h.gathered.sources k;
  persons = h.gathered.persons k;
  families = h.gathered.families k;
  entries = h.gathered.entries k;
}

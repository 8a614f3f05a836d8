-- The same as an index has it.
use Rattle.std.specs.FinMap.{get}
use Rattle.archive_state.specs.Content.{Records}
use Rattle.gedcom_export.specs.Index.{Index}
use Rattle.gedcom_export.specs.Owned.{numbers_by, sides_by}
use Rattle.gedcom_export.specs.Paths.{path_in}
use Rattle.sheets.specs.Gathered.{Gathered, families_of}

abbrev pub indexed : Records → Index → Gathered
indexed m i = record {
  at = get m;
  events = λ n. numbers_by n i.events;
  citations = λ n. numbers_by n i.citations;
  child_in = λ n. families_of (sides_by n i.child_in);
  partner_in = λ n. families_of (sides_by n i.partner_in);
  path = path_in i;
  sources = i.sources;
  persons = i.persons;
  families = i.families;
  entries = i.entries;
}

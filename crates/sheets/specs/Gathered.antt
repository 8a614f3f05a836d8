-- What a sheet shows of the records of an archive: which record has a number, and what belongs to it.
use Rattle.std.specs.Prelude.{ℕ, List, [], map, Option}
use Rattle.std.specs.List.{filter, flat_map}
use Rattle.std.specs.Option.{unwrap_or}
use Rattle.std.specs.FinMap.{entries, get}
use Rattle.record_kinds.specs.declared.record.Record.{Record}
use Rattle.record_shapes.specs.Shapes.{Side}
use Rattle.archive_state.specs.Content.{Records}
use Rattle.archive_state.specs.Known.{path_of}
use Rattle.gedcom_export.specs.Around.{child_sides, partner_sides}
use Rattle.gedcom_export.specs.Order.{Numbered, is_citation_of, is_event_of, of_rank}
use Rattle.gedcom_export.specs.Index.{numbers}

pub record Gathered : Type 0 where
  -- what stands at a number
  pub at : ℕ → Option Record
  -- the numbers of the events and of the citations of a record
  pub events : ℕ → List ℕ
  pub citations : ℕ → List ℕ
  -- the numbers of the families where a person is a child, and of those where they are a partner
  pub child_in : ℕ → List ℕ
  pub partner_in : ℕ → List ℕ
  -- the path of a place; empty where there is none
  pub path : ℕ → List ℕ
  -- the numbers of all sources, persons, families and register entries
  pub sources : List ℕ
  pub persons : List ℕ
  pub families : List ℕ
  pub entries : List ℕ

-- the families of sides
abbrev pub families_of : List Side → List ℕ
families_of sides = map (λ (s : Side). s.family) sides

-- of all records, each list by number
abbrev pub gathered : Records → Gathered
gathered m = record {
  at = get m;
  events = λ n. numbers (filter (λ (e : Numbered). is_event_of n e.1) (entries m));
  citations = λ n. numbers (filter (λ (e : Numbered). is_citation_of n e.1) (entries m));
  child_in = λ n. families_of (flat_map (child_sides n) (entries m));
  partner_in = λ n. families_of (flat_map (partner_sides n) (entries m));
  path = λ n. unwrap_or (path_of m n) [];
  sources = numbers (of_rank (entries m) 3);
  persons = numbers (of_rank (entries m) 4);
  families = numbers (of_rank (entries m) 5);
  entries = numbers (of_rank (entries m) 6);
}

-- What `list`, `find` and `review` ask for, as a task on an open archive has them.
use Rattle.std.specs.Prelude.{ℕ, Bool, List, [], Option, Some, None, false, option_map, true, unwrap_or}
use Rattle.command_line.specs.declared.tasks.ListKind.{ListKind}
use Rattle.command_line.specs.declared.tasks.ListKind.TheVariants as listing
use Rattle.command_line.specs.declared.tasks.RecordKind.{RecordKind}
use Rattle.command_line.specs.declared.tasks.RecordKind.TheVariants as asked
use Rattle.record_lists.specs.declared.listed.Chosen.{Chosen}
use Rattle.record_lists.specs.declared.listed.Chosen.TheVariants as chosen
use Rattle.row_references.specs.declared.words.NumberWord.{NumberWord}
use Rattle.searching.specs.declared.wanted.Kind.{Kind}
use Rattle.searching.specs.declared.wanted.Kind.TheVariants as kind
use Rattle.tasks.specs.declared.task.Task.{Task}
use Rattle.tasks.specs.declared.task.Task.TheVariants as task

abbrev pub kind_of : RecordKind → Kind
kind_of asked.Persons = kind.Persons
kind_of asked.Families = kind.Families
kind_of asked.Events = kind.Events
kind_of asked.Places = kind.Places
kind_of asked.Repositories = kind.Repositories
kind_of asked.Sources = kind.Sources
kind_of asked.Citations = kind.Citations
kind_of asked.Entries = kind.Entries
kind_of asked.Others = kind.Others

-- the most lines: without a limit, so many as no archive has
abbrev pub limit_of : Option ℕ → ℕ
limit_of None = 18446744073709551615
limit_of (Some limit) = limit

-- the records of a kind
abbrev pub records_chosen : RecordKind → ℕ → ℕ → Chosen
records_chosen which after limit =
    chosen.Records (record {
      wanted = record { kind = Some (kind_of which); source = None; words = [] };
      after = after;
      limit = limit;
      counts_others = false;
    })

-- the slips, or the records of a kind
abbrev pub chosen_of : ListKind → ℕ → ℕ → Chosen
chosen_of listing.Slips after limit = chosen.Slips after limit
chosen_of (listing.Records which) after limit = records_chosen which after limit

-- of a source if one is given, and as rows of CSV if these are asked for
abbrev pub list_task : ListKind → Option NumberWord → ℕ → Option ℕ → Bool → Task
list_task which source after limit csv =
    task.List source (record { of = chosen_of which after (limit_of limit); is_csv = csv })

-- the records, of a kind where one is given, with a name in which the words occur: 1,000 without a limit, and how many
-- are left out
abbrev pub names_chosen : List (List ℕ) → Option RecordKind → Option ℕ → Chosen
names_chosen words which limit =
    chosen.Records (record {
      wanted = record { kind = option_map kind_of which; source = None; words = words };
      after = 0;
      limit = unwrap_or limit 1000;
      counts_others = true;
    })

abbrev pub find_task : List (List ℕ) → Option RecordKind → Option ℕ → Bool → Task
find_task words which limit csv = task.List None (record { of = names_chosen words which limit; is_csv = csv })

-- what is doubtful
abbrev pub review_task : Bool → Task
review_task csv = task.List None (record { of = chosen.Doubts; is_csv = csv })

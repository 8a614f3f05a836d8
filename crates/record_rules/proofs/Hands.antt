-- Small records, as one writes them by hand.
use Rattle.std.specs.Prelude.{ℕ, List, [], ◌∷◌, Option, Some, None, codes}
use Rattle.stored_lines.specs.Line.{Lines}
use Rattle.stored_lines.specs.declared.carried.Value.TheVariants as value
use Rattle.record_kinds.specs.Model as model
use Rattle.record_kinds.specs.declared.record.Record.{Record}
use Rattle.record_kinds.specs.declared.record.Record.TheVariants as kind
use Rattle.record_fields.specs.Items.{first_item}
use Rattle.record_fields.specs.declared.words.Partnership.TheVariants as partnership
use Rattle.record_fields.specs.declared.entry_words.EntryKind.TheVariants as entry_kind
use Rattle.record_fields.specs.declared.entry_words.Role.{Role}
use Rattle.record_rules.specs.Archives.{Archive}

-- records without slips
abbrev pub holding : List (ℕ × Record) → ℕ → Archive
holding es next = record { records = es; next = next; slips = [] }

abbrev pub place : List ℕ → Option ℕ → Lines → Record
place name parent carried = kind.Place (record { name = name; parent = parent; carried = carried })

abbrev pub repo : Option (List ℕ) → Lines → Record
repo name carried = kind.Repo (record { name = name; carried = carried })

abbrev pub source : Option (List ℕ) → List model.Holding → Lines → Record
source title holdings carried =
    kind.Source (record { title = title; author = None; publisher = None; holdings = holdings; carried = carried })

-- a person without name and sex
abbrev pub person : Lines → Record
person carried = kind.Person (record { names = []; sex = None; carried = carried })

abbrev pub called : List ℕ → Record
called name = kind.Person (record { names = record { text = name; carried = [] } ∷ []; sex = None; carried = [] })

abbrev pub husband : ℕ → model.Partner
husband n = record { partnership = partnership.Husband; person = n; carried = []; carried_by_person = [] }

abbrev pub child : ℕ → model.Child
child n = record { person = n; carried = []; carried_by_person = [] }

abbrev pub family : List model.Partner → List model.Child → Lines → Record
family partners children carried = kind.Family (record { partners = partners; children = children; carried = carried })

abbrev pub citation : ℕ → ℕ → Option (List ℕ) → Lines → Record
citation owner source page carried =
    kind.Citation (record { owner = owner; source = source; page = page; quality = None; carried = carried })

abbrev pub event : ℕ → List ℕ → Option ℕ → List model.Participant → Lines → Record
event owner tag None participants carried =
    kind.Event (record {
      owner = owner;
      tag = tag;
      value = [];
      date = None;
      place = None;
      participants = participants;
      carried = carried;
    })
event owner tag (Some n) participants carried =
    kind.Event (record {
      owner = owner;
      tag = tag;
      value = [];
      date = None;
      place = Some (record { place = n; carried = [] });
      participants = participants;
      carried = carried;
    })

abbrev pub mention : Role → model.Mention
mention r = record { role = r; name = codes "Ann"; link = None }

-- a baptism on a page of a source
abbrev pub baptism : ℕ → List ℕ → Option ℕ → List model.Mention → Record
baptism source page place mentions =
    kind.Entry (record {
      source = source;
      kind = entry_kind.Baptism;
      page = page;
      item = first_item;
      date = None;
      place = place;
      text = [];
      mentions = mentions;
    })

abbrev pub other : List ℕ → Lines → Record
other tag carried = kind.Other (record { tag = tag; value = value.Text []; carried = carried })

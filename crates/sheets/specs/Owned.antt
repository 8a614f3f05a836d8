-- What sheets show of persons elsewhere, and of the events and citations that a record owns: rules of our own.
use Rattle.std.specs.Prelude.{ℕ, List, [], ◌++◌, codes, Option, Some, None}
use Rattle.std.specs.List.{flat_map}
use Rattle.record_kinds.specs.Model as model
use Rattle.record_kinds.specs.declared.record.Record.{Record}
use Rattle.record_kinds.specs.declared.record.Record.TheVariants as kind
use Rattle.sheet_lines.specs.Words.{display_of}
use Rattle.sheet_lines.specs.Lines.{citation_line, event_line, event_source, participant_line}
use Rattle.sheets.specs.Gathered.{Gathered}

-- a person as displayed; what is no person as one without names
abbrev pub display_in : Option Record → List ℕ
display_in (Some (kind.Person p)) = display_of p.names
display_in _ = codes "?"

-- the path of the place of an event
abbrev pub place_words : (ℕ → List ℕ) → Option model.EventPlace → List ℕ
place_words path None = []
place_words path (Some p) = path p.place

-- the line of a citation; of another record nothing
abbrev pub citation_in : List ℕ → Option Record → List ℕ
citation_in word (Some (kind.Citation c)) = citation_line word c
citation_in word _ = []

-- the citations of a record, each after the word for its source
abbrev pub citations_text : Gathered → List ℕ → ℕ → List ℕ
citations_text g word n = flat_map (λ k. citation_in word (g.at k)) (g.citations n)

-- the line of one who took part, with the display
abbrev pub participant_text : (ℕ → Option Record) → model.Participant → List ℕ
participant_text at p = participant_line (display_in (at p.person)) p

-- an event with those who took part, and its citations; of another record nothing
abbrev pub event_in : Gathered → ℕ → Option Record → List ℕ
event_in g k (Some (kind.Event e)) = event_line (place_words g.path e.place) e
    ++ (flat_map (participant_text g.at) e.participants ++ citations_text g event_source k)
event_in g k _ = []

-- the events of a record
abbrev pub events_text : Gathered → ℕ → List ℕ
events_text g n = flat_map (λ k. event_in g k (g.at k)) (g.events n)

-- What is shown of an event or a citation with the record that it is of: rules of our own.
use Rattle.std.specs.Prelude.{ℕ, List, [], ◌∷◌, ◌++◌, ◌==◌, codes, decimal, if◌then◌else◌, Option, Some, None}
use Rattle.std.specs.List.{flat_map}
use Rattle.std.specs.FinMap.{get}
use Rattle.archive_state.specs.Content.{Records}
use Rattle.record_fields.specs.Words.{quality_word}
use Rattle.record_fields.specs.declared.words.Quality.{Quality}
use Rattle.record_kinds.specs.Model as model
use Rattle.record_kinds.specs.declared.record.Record.{Record}
use Rattle.record_kinds.specs.declared.record.Record.TheVariants as kind
use Rattle.showing.specs.Fields.{text_field}
use Rattle.showing.specs.Heads.{head}

-- a number with what stands there
abbrev pub at_number : ℕ → Option Record → List ℕ
at_number n None = decimal n ++ codes "\n"
at_number n (Some r) = head n r

-- the same, after a word
abbrev pub line_at : List ℕ → Records → ℕ → List ℕ
line_at word m n = word ++ at_number n (get m n)

-- the value, where it is not empty
abbrev pub value_detail : List ℕ → List ℕ
value_detail [] = []
value_detail (b ∷ bs) = text_field (codes "  value") (b ∷ bs)

abbrev pub place_detail : Records → Option model.EventPlace → List ℕ
place_detail m None = []
place_detail m (Some p) = line_at (codes "  place: ") m p.place

abbrev pub participant_detail : Records → model.Participant → List ℕ
participant_detail m p = line_at (codes "  with: ") m p.person ++ text_field (codes "  role") p.role

-- the value, the place and the participants
abbrev pub own_details : Records → model.Event → List ℕ
own_details m e = value_detail e.value ++ (place_detail m e.place ++ flat_map (participant_detail m) e.participants)

-- of an event of that owner
abbrev pub event_details : Records → ℕ → model.Event → List ℕ
event_details m owner e = if e.owner == owner then own_details m e else []

abbrev pub quality_detail : Option Quality → List ℕ
quality_detail None = []
quality_detail (Some q) = text_field (codes "  quality") (quality_word q)

-- the source and the quality of a citation of that owner
abbrev pub citation_details : Records → ℕ → model.Citation → List ℕ
citation_details m owner c =
    if c.owner == owner then line_at (codes "  source: ") m c.source ++ quality_detail c.quality else []

abbrev pub record_details : Records → ℕ → Record → List ℕ
record_details m owner (kind.Event e) = event_details m owner e
record_details m owner (kind.Citation c) = citation_details m owner c
record_details m owner _ = []

abbrev pub details : Records → ℕ → Option Record → List ℕ
details m owner None = []
details m owner (Some r) = record_details m owner r

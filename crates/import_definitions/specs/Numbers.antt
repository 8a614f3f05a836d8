-- The numbers of what is read, in the order of the file, and the places that are found or made. Rules of our own.
use Rattle.std.specs.Prelude.{
  ℕ,
  ◌+◌,
  nat_lt,
  List,
  [],
  ◌∷◌,
  ◌++◌,
  map,
  Option,
  Some,
  None,
  option_map,
  bytes_eq,
  slice_index_or,
  if◌then◌else◌,
}
use Rattle.stored_lines.specs.Tree.{Tree, Forest, node, none, more}
use Rattle.stored_lines.specs.Line.{Lines}
use Rattle.record_kinds.specs.Model as model
use Rattle.record_kinds.specs.declared.record.Record.{Record}
use Rattle.record_kinds.specs.declared.record.Record.TheVariants as kind
use Rattle.record_shapes.specs.Paths.{joined, trimmed, parts}
use Rattle.record_shapes.specs.Reading.{Draft, read, sought}
use Rattle.archive_state.specs.Merging.{record_with}
use Rattle.archive_state.specs.declared.changes.Numbered.{Numbered}
use Rattle.import_definitions.specs.Sides.{draft_at}

-- ---- where a place is
-- it has a number, in the archive or as one that is made; or a position in the file
pub data Found : Type 0 where
  at_number at_position : ℕ → Found

-- of each path, the number of the place in the archive, and the position of the first one in the file
pub record Places : Type 0 where
  pub archive : List ℕ → Option ℕ
  pub file : List ℕ → Option ℕ

abbrev pub or_else : {A : Type 0} → Option A → Option A → Option A
or_else None b = b
or_else (Some a) b = Some a

-- a position counts where it stands before another, or where all count
abbrev pub where_before : Option ℕ → Option ℕ → Option ℕ
where_before None found = found
where_before (Some k) None = None
where_before (Some k) (Some n) = if nat_lt n k then Some n else None

-- the place of the archive with the path; else the first of the file with it, of those before a position or of all;
-- else the one that was made
abbrev pub find : Places → Option ℕ → (List ℕ → Option ℕ) → List ℕ → Option Found
find w before made path = or_else (option_map at_number (w.archive path))
    (or_else (option_map at_position (where_before before (w.file path)))
    (option_map at_number (made path)))

-- ---- what numbers are drawn for
pub data Drawn : Type 0 where
  -- a record of the file, with its owner, and where it is an event the path by which its place is found
  of_file : (number owner : ℕ) → Record → Option (List ℕ) → Drawn
  -- a place that is made, with its name and the place above it
  of_path : (number : ℕ) → List ℕ → Option Found → Drawn

-- the next number; the number of each position so far; what was drawn; the number of the place made of each path
pub record Drawing : Type 0 where
  pub next : ℕ
  pub roots : List ℕ
  pub drawn : List Drawn
  pub made : List ℕ → Option ℕ

abbrev pub begun : ℕ → Drawing
begun next = record { next = next; roots = []; drawn = []; made = λ path. None }

-- ---- places made
abbrev pub with_made : List ℕ → List ℕ → Option Found → Drawing → Drawing
with_made path name parent d = record {
  next = d.next + 1;
  roots = d.roots;
  drawn = d.drawn ++ of_path d.next name parent ∷ [];
  made = λ p. if bytes_eq path p then Some d.next else d.made p;
}

-- a place of that path and name, made within the one above it
abbrev pub made_within : List ℕ → List ℕ → Drawing × Option Found → Drawing × Option Found
made_within path name above = (with_made path name above.1 above.0, Some (at_number above.0.next))

abbrev pub unless_found : Option Found → Drawing → Drawing × Option Found → Drawing × Option Found
unless_found (Some f) d otherwise = (d, Some f)
unless_found None d otherwise = otherwise

-- The place of the names of a path, the innermost first: it is found, or else made within the place of the names after
-- the first. That one is found or made before it; of the file's places those before position k count there.
abbrev pub settle : Places → Option ℕ → ℕ → List (List ℕ) → Drawing → Drawing × Option Found
settle w before k [] d = (d, None)
settle w before k (name ∷ names) d = unless_found (find w before d.made (joined (name ∷ names))) d
    (made_within (joined (name ∷ names)) name (settle w (Some k) k names d))

abbrev pub names_of : List ℕ → List (List ℕ)
names_of path = map trimmed (parts path)

-- ---- numbers drawn
abbrev pub drawn_more : Drawing → Drawn → Drawing
drawn_more d x = record d { next = d.next + 1; drawn = d.drawn ++ x ∷ [] }

-- What stands at position k draws its numbers in the order of its lines: one for each record, owned by the one it is
-- below, and one for each place that is made.
abbrev mutual
  pub draw : Places → ℕ → ℕ → Drawing → Tree Draft → Drawing
  draw w k owner d (node (read r path) f) =
      draw_all w k d.next (drawn_more d (of_file d.next owner r path)) f
  draw w k owner d (node (sought path) f) = (settle w None k (names_of path) d).0

  pub draw_all : Places → ℕ → ℕ → Drawing → Forest Draft → Drawing
  draw_all w k owner d none = d
  draw_all w k owner d (more t ts) = draw_all w k owner (draw w k owner d t) ts

-- the number that is drawn next is that of the next position
abbrev pub root_drawn : Drawing → Drawing
root_drawn d = record d { roots = d.roots ++ d.next ∷ [] }

-- nodes from position k on, each read as it is drawn for; a record of level 0 has no owner
abbrev pub draw_roots : Lines → Places → ℕ → Drawing → Lines → Drawing
draw_roots rs w k d [] = d
draw_roots rs w k d (r ∷ behind) = draw_roots rs w (k + 1) (draw w k 0 (root_drawn d) (draft_at rs k r)) behind

-- ---- records with their numbers
abbrev pub owned_by : ℕ → Record → Record
owned_by n (kind.Event e) = kind.Event (record e { owner = n })
owned_by n (kind.Citation c) = kind.Citation (record c { owner = n })
owned_by n r = r

abbrev pub number_at : List ℕ → ℕ → ℕ
number_at roots k = slice_index_or roots k 0

abbrev pub number_found : List ℕ → Option Found → ℕ
number_found roots None = 0
number_found roots (Some (at_number n)) = n
number_found roots (Some (at_position k)) = number_at roots k

abbrev pub event_at : ℕ → model.Event → model.Event
event_at n e = record e { place = option_map (λ (p : model.EventPlace). record p { place = n }) e.place }

abbrev pub at_place : ℕ → Record → Record
at_place n (kind.Event e) = kind.Event (event_at n e)
at_place n r = r

-- an event at the place of the path by which it is found
abbrev pub placed : Places → Drawing → Option (List ℕ) → Record → Record
placed w d None r = r
placed w d (Some path) r = at_place (number_found d.roots (find w None d.made path)) r

abbrev pub place_made : List ℕ → List ℕ → Option Found → model.Place
place_made roots name parent =
    record { name = name; parent = option_map (λ f. number_found roots (Some f)) parent; carried = [] }

-- a record whose pointers are numbers
abbrev pub finished : Places → Drawing → Drawn → Numbered
finished w d (of_file n owner r path) =
    record { number = n; «record» = owned_by owner (placed w d path (record_with (number_at d.roots) r)) }
finished w d (of_path n name parent) = record { number = n; «record» = kind.Place (place_made d.roots name parent) }

abbrev pub results : Places → Drawing → List Numbered
results w d = map (finished w d) d.drawn

-- A part of a record that is read from some of its lines, and what it is with the lines that are left.
use Rattle.std.specs.Prelude.{ℕ, List, [], ◌∷◌, ◌++◌, map, Option, Some, None, option_map}
use Rattle.std.specs.List.{filter}
use Rattle.std.specs.Option.{unwrap_or}
use Rattle.stored_lines.specs.Tree.{Tree}
use Rattle.stored_lines.specs.Line.{Line, Lines}
use Rattle.record_kinds.specs.Model as model
use Rattle.record_fields.specs.Words.{quality_of}
use Rattle.record_shapes.specs.declared.field.Field.{Field}
use Rattle.record_shapes.specs.Paths.{normal}
use Rattle.record_shapes.specs.Forms.{Known, number_of}
use Rattle.record_shapes.specs.Fields.{
  a_call_number,
  a_holding,
  a_name,
  a_page,
  a_parent,
  a_publisher,
  a_quality,
  a_title,
  an_author,
  citation_field,
  holding_field,
  parent_field,
  path_below,
  place_field,
  repo_field,
  source_field,
}
use Rattle.record_shapes.specs.Picking.{all_of, first, is_left, text_at, without_firsts}
use Rattle.record_shapes.specs.Reading.{holding_from, read_by}

-- the field that is still to be found
abbrev pub unless : {A : Type 0} → Option A → Field → List Field
unless None x = x ∷ []
unless (Some a) x = []

-- what was found, or else what the lines tell
abbrev pub or_told : {A : Type 0} → Option A → Option A → Option A
or_told None told = told
or_told (Some a) told = Some a

module _ (field : Tree Line → Field) where
  -- a text that was found, or else that of the first line of a field
  abbrev pub text_or : Field → Option (List ℕ) → Lines → Option (List ℕ)
  text_or x o ts = or_told o (text_at field x ts)

  -- the lines that are carried, where of the fields that a record has once these are still to be found
  abbrev pub left_with : List Field → List Field → Lines → Lines
  left_with once missing ts = filter (λ t. is_left once (field t)) (without_firsts field missing ts)

abbrev pub repo_with : model.Repo → Lines → model.Repo
repo_with r ts = record {
  name = text_or repo_field a_name r.name ts;
  carried = r.carried ++ left_with repo_field (a_name ∷ []) (unless r.name a_name) ts;
}

abbrev pub holding_with : model.Holding → Lines → model.Holding
holding_with h ts = record {
  repo = h.repo;
  call_number = text_or holding_field a_call_number h.call_number ts;
  carried = h.carried ++ left_with holding_field (a_call_number ∷ []) (unless h.call_number a_call_number) ts;
}

abbrev pub citation_with : model.Citation → Lines → model.Citation
citation_with c ts = record {
  owner = c.owner;
  source = c.source;
  page = text_or citation_field a_page c.page ts;
  quality = or_told c.quality (read_by quality_of (text_at citation_field a_quality ts));
  carried = c.carried ++ left_with citation_field (a_page ∷ a_quality ∷ [])
      (unless c.page a_page ++ unless c.quality a_quality) ts;
}

abbrev pub source_with : Known → model.Source → Lines → model.Source
source_with known s ts = record {
  title = text_or (source_field known) a_title s.title ts;
  author = text_or (source_field known) an_author s.author ts;
  publisher = text_or (source_field known) a_publisher s.publisher ts;
  holdings = s.holdings ++ map holding_from (all_of (source_field known) a_holding ts);
  carried = s.carried ++ left_with (source_field known) (a_title ∷ an_author ∷ a_publisher ∷ [])
      (unless s.title a_title ++ (unless s.author an_author ++ unless s.publisher a_publisher)) ts;
}

-- ---- places
-- the name that was found, or else that of the first line that tells one, made normal
abbrev pub name_or : Option (List ℕ) → Lines → Option (List ℕ)
name_or o ts = or_told o (option_map normal (text_at place_field a_name ts))

-- the lines beside that of the name
abbrev pub unnamed : Option (List ℕ) → Lines → Lines
unnamed o ts = without_firsts place_field (unless o a_name) ts

abbrev pub place_called : List ℕ → model.Place
place_called name = record { name = name; parent = None; carried = [] }

abbrev pub place_with : Known → model.Place → Lines → model.Place
place_with known p ts = record {
  name = p.name;
  parent = or_told p.parent (option_map number_of (first (all_of (parent_field known p.name) a_parent ts)));
  carried = p.carried ++ left_with (parent_field known p.name) (a_parent ∷ []) (unless p.parent a_parent) ts;
}

-- the path of a place of that name below the place of a number
abbrev pub path_at : Known → List ℕ → Option ℕ → List ℕ
path_at known name None = name
path_at known name (Some n) = path_below name (unwrap_or (known.path n) [])

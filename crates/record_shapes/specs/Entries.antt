-- The register entry that a line of level 0 is, where the lines below it are exactly those of an entry, in order and as
-- they are written: a rule of our own. The entry is guessed, field by field, and its lines are compared.
use Rattle.std.specs.Prelude.{
  ℕ,
  ◌&&◌,
  ◌==◌,
  Bool,
  true,
  false,
  List,
  [],
  length,
  map,
  codes,
  Option,
  Some,
  None,
  option_map,
  bytes_eq,
  nat_le,
}
use Rattle.std.specs.List.{list_all, filter}
use Rattle.std.specs.Option.{unwrap_or}
use Rattle.stored_lines.specs.Tree.{Tree, Forest, node, none, more, forest_of}
use Rattle.stored_lines.specs.Line.{Line, Lines}
use Rattle.stored_lines.specs.declared.carried.Value.{Value}
use Rattle.stored_lines.specs.declared.carried.Value.TheVariants as value
use Rattle.record_kinds.specs.Model as model
use Rattle.record_fields.specs.Dated.{date_from}
use Rattle.record_fields.specs.Items.{item_of, first_item}
use Rattle.record_fields.specs.Words.{entry_kind_of, role_of}
use Rattle.record_fields.specs.declared.entry_words.EntryKind.TheVariants as entry_kind
use Rattle.record_fields.specs.declared.entry_words.Role.TheVariants as role
use Rattle.record_shapes.specs.Paths.{has_part}
use Rattle.record_shapes.specs.Roles.{is_role_of}
use Rattle.record_shapes.specs.Forms.{Known, below, is_some, is_text_value, number_of, tagged, text_in, text_of}
use Rattle.record_shapes.specs.Picking.{first}
use Rattle.record_shapes.specs.Shapes.{Around, entry_lines}

-- ---- the same lines
abbrev pub same_value : Value → Value → Bool
same_value (value.Text t) (value.Text u) = bytes_eq t u
same_value (value.Ref n) (value.Ref m) = n == m
same_value _ _ = false

abbrev mutual
  pub same_tree : Tree Line → Tree Line → Bool
  same_tree (node l f) (node k g) = bytes_eq l.tag k.tag && (same_value l.value k.value && same_forest f g)

  pub same_forest : Forest Line → Forest Line → Bool
  same_forest none none = true
  same_forest (more t f) (more u g) = same_tree t u && same_forest f g
  same_forest _ _ = false

-- ---- the one entry whose lines these may be
-- the first line of a tag
abbrev pub line_at : List ℕ → Lines → Option (Tree Line)
line_at tag ts = first (filter (tagged tag) ts)

abbrev pub text_on : Option (Tree Line) → List ℕ
text_on None = []
text_on (Some t) = text_of t

abbrev pub number_on : Option (Tree Line) → ℕ
number_on None = 0
number_on (Some t) = number_of t

abbrev pub below_on : Option (Tree Line) → Lines
below_on None = []
below_on (Some t) = below t

abbrev pub link_on : Option (Tree Line) → Option model.Link
link_on None = None
link_on (Some t) = Some (record { person = number_of t; reason = text_on (line_at (codes "_WHY") (below t)) })

abbrev pub mention_on : Tree Line → model.Mention
mention_on t = record {
  role = unwrap_or (role_of (text_on (line_at (codes "_ROLE") (below t)))) role.Child;
  name = text_of t;
  link = link_on (line_at (codes "_LINK") (below t));
}

abbrev pub entry_on : List ℕ → Lines → model.Entry
entry_on word ts = record {
  source = number_on (line_at (codes "SOUR") ts);
  kind = unwrap_or (entry_kind_of word) entry_kind.Baptism;
  page = text_on (line_at (codes "PAGE") ts);
  item = unwrap_or (item_of (text_on (line_at (codes "_ITEM") ts))) first_item;
  date = date_from (option_map text_of (line_at (codes "DATE") ts));
  place = option_map number_of (line_at (codes "_LOC") (below_on (line_at (codes "PLAC") ts)));
  text = text_on (line_at (codes "TEXT") ts);
  mentions = map mention_on (filter (tagged (codes "_MENT")) ts);
}

-- ---- the rules on it
-- the place has a path with a part that is not empty
abbrev pub is_said_path : Option (List ℕ) → Bool
is_said_path None = false
is_said_path (Some path) = has_part path

abbrev pub is_said : Known → Option ℕ → Bool
is_said known None = true
is_said known (Some n) = is_said_path (known.path n)

-- who a mention is of is a person
abbrev pub names_person : Known → Option model.Link → Bool
names_person known None = true
names_person known (Some l) = bytes_eq (known.tag l.person) (codes "INDI")

-- an entry names a source, has a place that is known, and 1 to 100 mentions with roles of its kind
abbrev pub is_entry : Known → model.Entry → Bool
is_entry known e = bytes_eq (known.tag e.source) (codes "SOUR") && (is_said known e.place
    && (nat_le 1 (length e.mentions) && (nat_le (length e.mentions) 100
    && list_all (λ (m : model.Mention). is_role_of e.kind m.role && names_person known m.link) e.mentions)))

-- what the lines of an entry show of other records: the paths that are known
abbrev pub around : Known → Around
around known = record { path = λ n. unwrap_or (known.path n) []; child_in = λ n. []; partner_in = λ n. [] }

-- the lines are those of the entry, which keeps the rules
abbrev pub has_its_lines : Known → Value → Lines → model.Entry → Bool
has_its_lines known v ts e = is_some (entry_kind_of (text_in v))
    && (is_text_value v && (same_forest (forest_of ts) (forest_of (entry_lines (around known) e)) && is_entry known e))

abbrev pub entry_if : Bool → model.Entry → Option model.Entry
entry_if true e = Some e
entry_if false e = None

-- the entry of a value and the lines below it, where they are one
unfoldable pub entry_of : Known → Value → Lines → Option model.Entry
entry_of known v ts =
    let e = entry_on (text_in v) ts in
    entry_if (has_its_lines known v ts e) e

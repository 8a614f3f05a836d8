-- Records of that time: all of a record but its date, and the text of its date.
use Rattle.std.specs.Prelude.{
  ℕ,
  ◌≡◌,
  ◌∷◌,
  ◌++◌,
  List,
  [],
  Bool,
  true,
  false,
  map,
  Option,
  Some,
  None,
  IfSome,
  decimal,
  option_map,
}
use Rattle.stored_lines.specs.Tree.{Tree, flat}
use Rattle.stored_lines.specs.Line.{Label}
use Rattle.record_fields.specs.Words.{entry_kind_word}
use Rattle.record_kinds.specs.Model as model
use Rattle.record_kinds.specs.declared.record.Record.{Record}
use Rattle.record_kinds.specs.declared.record.Record.TheVariants as kind
use Rattle.records.specs.declared.field.Field.TheVariants as field
use Rattle.records.specs.Stored.{
  bare_place,
  branch,
  key_words,
  lines_below,
  mention_tree,
  participant_tree,
  record_tree,
  tag_tree,
  text_trees,
  when_trees,
}
use Rattle.date_spans.specs.Spans.{date_in}
use Rattle.older_archives.specs.Dates.{WasWritten}

-- a record of that time
pub record OldRecord : Type 0 where
  -- all of it but its date
  pub rest : Record
  -- the text of its date
  pub date : Option (List ℕ)

-- whether a record may have a date: an event or a register entry
abbrev pub has_dates : Record → Bool
has_dates (kind.Event e) = true
has_dates (kind.Entry e) = true
has_dates _ = false

-- the date stands apart, is that of a record that may have one, and is spelt as the grammar of that time spelt it
pub record IsOld (o : OldRecord) : Type 0 where
  pub apart : date_in o.rest ≡ None
  pub held : IfSome o.date (λ _. has_dates o.rest ≡ true)
  pub written : IfSome o.date WasWritten

-- ---- the lines that it was kept as: those of a record, with the text on the line of the date
abbrev pub event_tree_with : Option (List ℕ) → model.Event → Tree Label
event_tree_with date e = branch field.Event None (Some e.owner) (tag_tree e ∷ (when_trees date e.place
    ++ (map participant_tree e.participants ++ lines_below field.Carried e.carried)))

abbrev pub entry_tree_with : Option (List ℕ) → model.Entry → Tree Label
entry_tree_with date e = branch field.Entry (Some (entry_kind_word e.kind)) None
    ((branch field.Key (Some (key_words e.item e.page)) (Some e.source) [] ∷ [])
    ++ (text_trees field.Page (Some e.page) ++ (text_trees field.Item (Some (decimal e.item.number))
    ++ (when_trees date (option_map bare_place e.place)
    ++ (text_trees field.Text (Some e.text) ++ map mention_tree e.mentions)))))

abbrev pub tree_with : Option (List ℕ) → Record → Tree Label
tree_with date (kind.Event e) = event_tree_with date e
tree_with date (kind.Entry e) = entry_tree_with date e
tree_with date r = record_tree r

-- the lines of a record with that text in place of the spelling of its date
abbrev pub stored_with : Option (List ℕ) → Record → List (ℕ × Label)
stored_with date r = flat 0 (tree_with date r)

-- the record of that time was kept as these lines
pub record WasKeptAs (kept : List (ℕ × Label)) (o : OldRecord) : Type 0 where
  pub is : IsOld o
  pub lines : kept ≡ stored_with o.date o.rest

-- What a plain export leaves out: places and register entries, which the standard has no records for, and lines with
-- tags of our own. Rules of our own.
use Rattle.std.specs.Prelude.{ℕ, ◌||◌, Bool, true, false, if◌then◌else◌, List, [], ◌∷◌, codes, Option, Some}
use Rattle.std.specs.List.{list_any}
use Rattle.std.specs.Str.{bytes_eq}
use Rattle.std.specs.FinMap.{get}
use Rattle.stored_lines.specs.Tree.{Tree, Forest, node, none, more, forest_of, list_of}
use Rattle.stored_lines.specs.Line.{Line, Lines}
use Rattle.stored_lines.specs.declared.carried.Value.{Value}
use Rattle.stored_lines.specs.declared.carried.Value.TheVariants as value
use Rattle.record_kinds.specs.declared.record.Record.{Record}
use Rattle.record_kinds.specs.declared.record.Record.TheVariants as kind
use Rattle.archive_state.specs.Content.{Records}

-- the tags of our own: of places, register entries, mentions and participants, and of what is below these
abbrev pub our_tags : List (List ℕ)
our_tags =
    codes "_LOC" ∷ codes "_REG" ∷ codes "_MENT" ∷ codes "_PART" ∷ codes "_ROLE" ∷ codes "_LINK" ∷ codes "_WHY"
    ∷ codes "_ITEM" ∷ []

abbrev pub is_ours : List ℕ → Bool
is_ours tag = list_any (bytes_eq tag) our_tags

-- what has no record in a plain export: places, register entries, and records of no other kind with a tag of our own
abbrev pub is_left_out : Option Record → Bool
is_left_out (Some (kind.Place p)) = true
is_left_out (Some (kind.Entry e)) = true
is_left_out (Some (kind.Other o)) = is_ours o.tag
is_left_out _ = false

abbrev pub names_left_out : Records → Value → Bool
names_left_out m (value.Text t) = false
names_left_out m (value.Ref n) = is_left_out (get m n)

-- a carried line is dropped, with all below it, if it has a tag of our own or names what has no record
abbrev pub is_dropped : Records → Line → Bool
is_dropped m l = is_ours l.tag || names_left_out m l.value

-- the lines side by side that are not dropped, and of those below them the same
abbrev pub kept_below : Records → Forest Line → Forest Line
kept_below m none = none
kept_below m (more (node l f) g) =
    if is_dropped m l then kept_below m g else more (node l (kept_below m f)) (kept_below m g)

-- a line with those of the lines below it
abbrev pub trimmed : Records → Tree Line → Tree Line
trimmed m (node l f) = node l (kept_below m f)

-- the carried lines that a plain export keeps
abbrev pub kept : Records → Lines → Lines
kept m ts = list_of (kept_below m (forest_of ts))

-- What is so of the nodes of a file, and of the records that they are read as.
use Rattle.std.specs.Prelude.{ℕ, ◌≡◌, ◌≢◌, ◌<◌, ◌≤◌, true, List, length, ◌++◌, codes, Option, Some, None, IfSome}
use Rattle.stored_lines.specs.Tree.{Tree, Forest, node, none, more}
use Rattle.stored_lines.specs.Line.{Line, Lines}
use Rattle.stored_lines.specs.Levels.{levels}
use Rattle.record_kinds.specs.declared.record.Record.{Record}
use Rattle.record_kinds.specs.declared.record.Record.TheVariants as kind
use Rattle.archive_state.specs.Carried.{carried_tags, tags}
use Rattle.archive_state.specs.Links.{Link, line_links}
use Rattle.record_text.specs.Text.{IsText}
use Rattle.record_shapes.specs.Forms.{Known, tag_of}
use Rattle.record_shapes.specs.Levels.{HasRoom}
use Rattle.record_shapes.specs.Lists.{EachOf}
use Rattle.record_shapes.specs.Readable.{IsReadableOther}
use Rattle.record_shapes.specs.Reading.{Draft, read, sought}
use Rattle.record_shapes.specs.Tags.{is_event_tag}
use Rattle.record_shapes.specs.Untaken.{HasUntaken}
use Rattle.archive_state.specs.Sound.{
  HasMembersOnce,
  HasNormalName,
  HasSoundMentions,
  IsNoTrailer,
  IsOfRecords,
  own_tags,
}
use Rattle.archive_state.specs.Texts.{carried_texts, line_texts, own_texts}
use Rattle.gedcom_tree.specs.Forest.{Item}
use Rattle.gedcom_tree.specs.Text.{IsForest}
use Rattle.import_definitions.specs.Lines.{roots}
use Rattle.import_definitions.specs.Roots.{candidates, kept}
use Rattle.import_definitions.specs.Positions.{known, known_before}
use Rattle.import_definitions.specs.Sides.{draft_at}

-- a line with those below it: tags that may be in a record, texts, and at most so many levels
pub record IsLine (n : ℕ) (t : Tree Line) : Type 0 where
  pub of_tags : EachOf IsOfRecords (tags t)
  pub of_texts : EachOf IsText (line_texts t)
  pub low : levels t ≤ n

-- a node of level 0, which is no trailer
pub record IsNode (t : Tree Line) : Type 0 where
  pub line : IsLine 99 t
  pub own : tag_of t ≢ codes "TRLR"

-- each pointer on the line and below it is below a number
abbrev pub PointsWithin : ℕ → Tree Line → Type 0
PointsWithin count t = EachOf (λ (l : Link). l.0 < count) (line_links t)

-- the nodes of a file that become records, as lines
abbrev pub rows : List Item → Lines
rows f = roots (kept (candidates f))

-- they are nodes, and each pointer in them names one of them
abbrev pub FilesHaveNodes : Type 0
FilesHaveNodes = (f : List Item) → IsForest f
    → EachOf (λ t. IsNode t × PointsWithin (length (rows f)) t) (rows f)

-- an event has a tag of its owner's kind
abbrev pub HasTagOf : Option Record → Record → Type 0
HasTagOf owner (kind.Event e) = IfSome owner (λ o. is_event_tag e.tag o ≡ true)
HasTagOf owner _ = Unit {0}

-- a record of no other kind has not the shape of one of the others
abbrev pub HasShape : Known → Record → Type 0
HasShape known (kind.Other o) = IsReadableOther known o
HasShape known _ = Unit {0}

-- a record with that owner keeps each rule on one record that asks for no other; earlier has the places before it, and
-- known all records
pub record IsRead (earlier known : Known) (owner : Option Record) (r : Record) : Type 0 where
  pub normal : HasNormalName r
  pub once : HasMembersOnce r
  pub of_tags : EachOf IsOfRecords (own_tags r ++ carried_tags r)
  pub trailers : IsNoTrailer r
  pub of_texts : EachOf IsText (own_texts r ++ carried_texts r)
  pub events : HasTagOf owner r
  pub mentions : HasSoundMentions r
  pub untaken : HasUntaken earlier known r
  pub shapes : HasShape known r
  pub room : HasRoom owner r

abbrev mutual
  -- each record that is read at a node or below it, with the one that it is below
  pub EachRead : (Option Record → Record → Type 0) → Option Record → Tree Draft → Type 0
  EachRead P owner (node (read r path) f) = P owner r × AllRead P (Some r) f
  EachRead P owner (node (sought path) f) = Unit {0}

  pub AllRead : (Option Record → Record → Type 0) → Option Record → Forest Draft → Type 0
  AllRead P owner none = Unit {0}
  AllRead P owner (more t f) = EachRead P owner t × AllRead P owner f

-- of nodes of a file, each record that is read at one or below it keeps these rules
abbrev pub NodesAreRead : Type 0
NodesAreRead = (rs : Lines) → EachOf IsNode rs → (k : ℕ) (r : Tree Line) → IsNode r
    → EachRead (IsRead (known_before rs k) (known rs)) None (draft_at rs k r)

-- When the plain archive of an archive can be made: each text that is put together for it is one, and each line has
-- at most 98 levels below it; otherwise it is refused with 70. Rules of our own.
use Rattle.std.specs.Prelude.{ℕ, ◌≡◌, ◌⊎◌, ◌≤◌, ◌<◌, ⊤, List, [], ◌∷◌, length, map, Option, Some, true}
use Rattle.std.specs.FinMap.{get}
use Rattle.devices.specs.Devices.{AppendsBeginning}
use Rattle.stored_lines.specs.Tree.{Tree, Forest, node, none, more, forest_of}
use Rattle.stored_lines.specs.Levels.{forest_levels}
use Rattle.stored_lines.specs.Line.{Line, Lines}
use Rattle.stored_lines.specs.declared.carried.Value.{Value}
use Rattle.stored_lines.specs.declared.carried.Value.TheVariants as value
use Rattle.record_text.specs.Text.{IsText}
use Rattle.record_text.specs.declared.refusal.RefusalKind.{RefusalKind}
use Rattle.record_text.specs.declared.refusal.RefusalKind.TheVariants.{ExportTooLarge, OutOfMemory, WriteFailed}
use Rattle.record_kinds.specs.Model as model
use Rattle.record_kinds.specs.declared.record.Record.{Record}
use Rattle.record_kinds.specs.declared.record.Record.TheVariants as kind
use Rattle.record_shapes.specs.Shapes.{Around}
use Rattle.archive_state.specs.Content.{Records}
use Rattle.archive_state.specs.Looks.{is_stop}
use Rattle.gedcom_export.specs.Around.{around}
use Rattle.plain_export.specs.Added.{added_by_entry, added_by_event}
use Rattle.plain_export.specs.Firsts.{Firsts, firsts}
use Rattle.plain_export.specs.Plain.{place_lines}
use Rattle.plain_export.specs.Words.{mention_words}
use Rattle.plain_export.specs.declared.added.Added.{Added}

-- ---- lines
abbrev pub IsValue : Value → Type 0
IsValue (value.Text t) = IsText t
IsValue (value.Ref n) = ⊤

abbrev mutual
  -- a line can be carried: its text is one, at most 98 levels are below it, and the lines there can be
  pub Fits : Tree Line → Type 0
  Fits (node l f) = IsValue l.value × ((forest_levels f ≤ 98) × AllFit f)

  pub AllFit : Forest Line → Type 0
  AllFit none = ⊤
  AllFit (more t f) = Fits t × AllFit f

abbrev pub LinesFit : Lines → Type 0
LinesFit ts = AllFit (forest_of ts)

abbrev pub AddedFit : List Added → Type 0
AddedFit xs = LinesFit (map (λ (x : Added). x.line) xs)

-- ---- records
abbrev pub AreTexts : List (List ℕ) → Type 0
AreTexts [] = ⊤
AreTexts (t ∷ ts) = IsText t × AreTexts ts

-- what an entry adds, and the words of its mentions
abbrev pub EntryFits : Around → Firsts → model.Entry → Type 0
EntryFits a f e = AreTexts (map mention_words e.mentions) × AddedFit (added_by_entry a f e)

-- what a record adds to others
abbrev pub AdditionFits : Records → Around → Firsts → ℕ → Option Record → Type 0
AdditionFits m a f n (Some (kind.Event e)) = AddedFit (added_by_event m n e)
AdditionFits m a f n (Some (kind.Entry e)) = EntryFits a f e
AdditionFits m a f n _ = ⊤

-- the place of an event, by its path
abbrev pub PlaceFits : Records → Around → Option Record → Type 0
PlaceFits m a (Some (kind.Event e)) = LinesFit (place_lines m a e.place)
PlaceFits m a _ = ⊤

-- ---- all records
abbrev pub AdditionsFit : Records → Around → Firsts → Type 0
AdditionsFit m a f = (n : ℕ) → AdditionFits m a f n (get m n)

abbrev pub PlacesFit : Records → Around → Type 0
PlacesFit m a = (n : ℕ) → PlaceFits m a (get m n)

-- what a plain archive has that the archive has not can be carried
pub record IsFit (m : Records) : Type 0 where
  pub additions : AdditionsFit m (around m) (firsts m)
  pub places : PlacesFit m (around m)

-- ---- refusals
-- why something is not made: memory was refused, or it does not fit
abbrev pub Fails : RefusalKind → Type 0 → Type 0
Fails e Fit = (e ≡ OutOfMemory) ⊎ ¬ Fit

-- why a plain export of a text of so many bytes is refused: it was stopped, the writer failed, or the text is longer
-- than 67,108,864 bytes, or the plain archive cannot be made
abbrev pub IsPlainReason : Records → ℕ → RefusalKind → Type 0
IsPlainReason m size e = (is_stop e ≡ true)
    ⊎ ((e ≡ WriteFailed) ⊎ ((e ≡ ExportTooLarge) × ((67108864 < size) ⊎ ¬ (IsFit m))))

-- the writer has got a prefix of the text
pub record IsPlainBegun (old new : Option (List ℕ)) (m : Records) (text : List ℕ) (e : RefusalKind) : Type 0 where
  pub reason : IsPlainReason m (length text) e
  pub written : AppendsBeginning old new text

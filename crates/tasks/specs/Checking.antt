-- How the check of a table of the input ends. Rules of our own.
use Rattle.std.specs.Prelude.{
  ◌≡◌,
  ◌≤◌,
  ◌<◌,
  ⊤,
  ℕ,
  true,
  false,
  List,
  Option,
  IfSome,
  Result,
  Ok,
  Err,
  length,
  string_bytes,
}
use Rattle.archive_tables.specs.declared.checking.PageFound.{PageFound}
use Rattle.archive_tables.specs.declared.checking.PageFound.TheVariants.{Checked, Unread}
use Rattle.character_sets.specs.declared.set.CharacterSet.{CharacterSet}
use Rattle.page_texts.specs.Texts.{page_text}
use Rattle.record_text.specs.declared.refusal.RefusalKind.{RefusalKind}
use Rattle.record_text.specs.declared.refusal.RefusalKind.TheVariants.{BadRow, FileTooLarge, OutOfMemory, ReadFailed}
use Rattle.tasks.specs.Faults.{IsReported}
use Rattle.tasks.specs.Status.{Outcome, placeless_text}

-- ---- the input
-- the most bytes that a table may have
abbrev pub most_bytes : ℕ
most_bytes = 67108864

-- these are the bytes of the input
abbrev pub AreRead : Option (List ℕ) → List ℕ → Type 0
AreRead known bytes = IfSome known (λ all. (bytes ≡ all) × (length all ≤ most_bytes))

-- this is their text in a character set
abbrev pub IsText : Option CharacterSet → Option (List ℕ) → List ℕ → Type 0
IsText set known text = IfSome known (λ all. (text ≡ page_text set all) × (length all ≤ most_bytes))

-- why it was not read: memory was refused, the reader has failed in this call, or there are more bytes
abbrev pub IsUnread : Option (List ℕ) → Type 0 → RefusalKind → Type 0
IsUnread known Failed OutOfMemory = ⊤
IsUnread known Failed ReadFailed = Failed
IsUnread known Failed FileTooLarge = IfSome known (λ all. most_bytes < length all)
IsUnread known Failed _ = ⊥

-- ---- the outcome
abbrev pub Checking : Type 0
Checking = Result PageFound RefusalKind

-- a row is wrong, or the input is no table, which lines say already
abbrev pub bad_rows : Outcome
bad_rows = Err (placeless_text BadRow)

abbrev pub as_checked : Checking → Outcome
as_checked (Ok (Checked false)) = Ok tt
as_checked (Ok (Checked true)) = bad_rows
as_checked (Ok (Unread text)) = bad_rows
as_checked (Err kind) = Err (placeless_text kind)

-- of an input that is no table the faults have got the lines, and of another nothing. `said` is what they have got,
-- `failed` how often they failed
abbrev pub SaysFound : {F : Type 0} → (F → Option (List ℕ)) → (F → ℕ) → Checking → F → F → Type 0
SaysFound said failed (Ok (Unread text)) old new = IsReported said failed old new (string_bytes text)
SaysFound said failed _ old new = new ≡ old

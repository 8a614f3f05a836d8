-- What holds of corrections in an archive.
use Rattle.std.specs.Prelude.{ℕ, List, IfOk}
use Rattle.std.specs.Str.{IsUtf8}
use Rattle.record_kinds.specs.declared.record.Record.{Record}
use Rattle.record_kinds.specs.declared.record.Record.TheVariants as kind
use Rattle.archive_state.specs.Content.{Content}
use Rattle.archive_state.specs.Sound.{IsSound}
use Rattle.commands.specs.Given.{GivenDate}
use Rattle.commands.specs.Sound.{IsDate, WhereSome}
use Rattle.record_changes.specs.Laws.{ChangesOnly}
use Rattle.record_changes.specs.Steps.{replaced}
use Rattle.field_changes.specs.Steps.{changed, retagged}
use Rattle.commands.specs.declared.correction.GivenValue.{GivenValue}
use Rattle.commands.specs.declared.correction.GivenValue.TheVariants as given

-- what the type of a value keeps of its words, from what a `String` can hold
abbrev pub IsUtf8Date : GivenDate → Type 0
IsUtf8Date d = IsUtf8 d.spelling × IsDate d

abbrev pub IsUtf8Value : GivenValue → Type 0
IsUtf8Value (given.Date d) = WhereSome IsUtf8Date d
IsUtf8Value (given.Text f words) = IsUtf8 words
IsUtf8Value _ = Unit {0}

-- the path of no place can change
abbrev pub IsNoPlace : Record → Type 0
IsNoPlace (kind.Place p) = ⊥
IsNoPlace _ = Unit {0}

-- the corrected record, put in place of the one before, leaves a sound archive sound
abbrev pub KeepsSound : Type 0
KeepsSound = (c : Content) (n : ℕ) (v : GivenValue) → IsUtf8Value v → IsSound c
    → IfOk (changed c n v) (λ r. IsNoPlace r → IsSound (replaced c n r).0)

-- so does an event with another tag
abbrev pub KeepsSoundTags : Type 0
KeepsSoundTags = (c : Content) (n : ℕ) (words : List ℕ) → IsSound c
    → IfOk (retagged c n words) (λ r. IsSound (replaced c n r).0)

-- all but the record is as it was
abbrev pub LeavesAllElse : Type 0
LeavesAllElse = (c : Content) (n : ℕ) (v : GivenValue) → IfOk (changed c n v) (λ r. ChangesOnly c n (replaced c n r))

abbrev pub LeavesAllElseOfTags : Type 0
LeavesAllElseOfTags = (c : Content) (n : ℕ) (words : List ℕ)
    → IfOk (retagged c n words) (λ r. ChangesOnly c n (replaced c n r))

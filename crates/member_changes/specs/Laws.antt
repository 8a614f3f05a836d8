-- What holds of members and participants changed in an archive.
use Rattle.std.specs.Prelude.{ℕ, IfOk}
use Rattle.receipts.specs.declared.answer.Answer.{Answer}
use Rattle.record_fields.specs.declared.words.Partnership.{Partnership}
use Rattle.archive_state.specs.Content.{Content}
use Rattle.archive_state.specs.Sound.{IsSound}
use Rattle.record_changes.specs.Laws.{ChangesOnly}
use Rattle.member_changes.specs.Steps.{partner, unchild, unparticipant, unpartner}

-- each of the commands, accepted, at the number of its family or event
abbrev pub EachLeaves : (Content → ℕ → Content × Answer → Type 0) → Type 0
EachLeaves P = (c : Content) (n : ℕ)
    → ((as_what : Partnership) (person : ℕ) → IfOk (partner c n as_what person) (P c n))
    × ((person : ℕ) → IfOk (unpartner c n person) (P c n))
    × ((person : ℕ) → IfOk (unchild c n person) (P c n))
    × ((place : ℕ) → IfOk (unparticipant c n place) (P c n))

-- a sound archive stays sound
abbrev pub KeepsSound : Type 0
KeepsSound = EachLeaves (λ c n done. IsSound c → IsSound done.0)

-- all but the family or the event is as it was
abbrev pub LeavesAllElse : Type 0
LeavesAllElse = EachLeaves (λ c n done. ChangesOnly c n done)

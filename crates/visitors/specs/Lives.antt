-- What is held of a visitor, what it is answered, and how long each part of a visit may take, in thousandths of a
-- second.
use Rattle.std.specs.Prelude.{
  ℕ,
  ◌≡◌,
  ◌-◌,
  List,
  take,
  length,
  Bool,
  true,
  false,
  ◌||◌,
  ◌==◌,
  nat_le,
  if◌then◌else◌,
  Option,
  MatchBool,
  ⊤,
}
use Rattle.std.specs.Bool.{OnTrue}
use Rattle.std.specs.Io.KnownBytes.{Appends, IsAtEnd}
use Rattle.room_requests.specs.Arriving.{AnswersAll}
use Rattle.room_requests.specs.Visits.{Answering, AnswersBy}
use Rattle.visitors.specs.declared.asking.Asking.{Asking}
use Rattle.visitors.specs.declared.taking.Taking.{Taking}
use Rattle.visitors.specs.declared.visitor.Visitor.{Visitor}
use Rattle.visitors.specs.declared.visitor.Visitor.TheVariants as visitor

-- the bytes that were read
abbrev pub came_of : Visitor → List ℕ
came_of (visitor.Asks a) = a.came.items
came_of (visitor.Takes t) = t.came.items

-- ---- what is answered
-- the answer is that to all bytes of the connection: to those that were read, where they are all; else whatever
-- follows them
abbrev pub IsAnswered : Answering → Taking → Type 0
IsAnswered answer t =
    MatchBool t.is_ended (AnswersBy answer t.came.items t.answer.items) (AnswersAll answer t.came.items t.answer.items)

abbrev pub IsRight : Answering → Visitor → Type 0
IsRight answer (visitor.Asks a) = ⊤
IsRight answer (visitor.Takes t) = IsAnswered answer t

-- a writer that had these contents has got as much of the answer as counts as written
abbrev pub HasGot : Option (List ℕ) → Option (List ℕ) → Taking → Type 0
HasGot start contents t = Appends start contents (take t.written t.answer.items)

-- all of the answer is written
abbrev pub is_told : Taking → Bool
is_told t = t.written == length t.answer.items

abbrev pub is_over : Visitor → Bool
is_over (visitor.Asks a) = false
is_over (visitor.Takes t) = is_told t

-- the answer, and what it is to, stay
pub record StaysAnswered (old new : Taking) : Type 0 where
  pub came : new.came.items ≡ old.came.items
  pub answer : new.answer.items ≡ old.answer.items
  pub is_ended : new.is_ended ≡ old.is_ended

-- ---- how long it takes
-- nothing came for 2 seconds, or no whole head in 10
abbrev pub is_late_asking : Asking → ℕ → Bool
is_late_asking a now = nat_le 2000 (now - a.heard) || nat_le 10000 (now - a.since)

-- the answer was not taken in 30 seconds, or the visitor, who has it, did not leave in 2
abbrev pub is_late_taking : Taking → ℕ → Bool
is_late_taking t now = if is_told t then nat_le 2000 (now - t.since) else nat_le 30000 (now - t.since)

abbrev pub is_late : Visitor → ℕ → Bool
is_late (visitor.Asks a) now = is_late_asking a now
is_late (visitor.Takes t) now = is_late_taking t now

-- one who still asks came at the first time, and was heard at the second
abbrev pub AsksSince : ℕ → ℕ → Visitor → Type 0
AsksSince since now (visitor.Asks a) = (a.since ≡ since) × (a.heard ≡ now)
AsksSince since now (visitor.Takes t) = ⊤

-- one who is answered is so from that time on
abbrev pub TakesSince : ℕ → Visitor → Type 0
TakesSince now (visitor.Asks a) = ⊤
TakesSince now (visitor.Takes t) = (t.since ≡ now) × (t.written ≡ 0)

-- who counts as one who has sent all has: the reader has no byte left
abbrev pub EndsAt : Option (List ℕ) → Visitor → Type 0
EndsAt left (visitor.Asks a) = ⊤
EndsAt left (visitor.Takes t) = OnTrue t.is_ended (IsAtEnd left)

-- one who may send more
abbrev pub StaysOpen : Visitor → Type 0
StaysOpen (visitor.Asks a) = ⊤
StaysOpen (visitor.Takes t) = t.is_ended ≡ false

-- one who has sent all is answered
abbrev pub TakesAll : Visitor → Type 0
TakesAll (visitor.Asks a) = ⊥
TakesAll (visitor.Takes t) = t.is_ended ≡ true

-- What the bytes that were read so far show, and what is left of the input after them.
use Rattle.std.specs.Prelude.{ℕ, ◌≡◌, ◌<◌, ◌≤◌, ◌-◌, ◌⊎◌, Bool, List, [], take, length, codes, Option}
use Rattle.std.specs.Str.{str_eq_ignore_ascii_case}
use Rattle.std.specs.Io.KnownBytes.{Consumes, IsAtEnd}
use Rattle.httparse.specs.Grammar.{RequestHead, HasNoRequest, MayBecomeRequest, NeverHasRequest}
use Rattle.httparse.specs.Spans.{
  span_bytes,
  IsRequestWithin,
  IsRequestAt,
  IsRequestOf,
  RequestExceeds,
  RequestOverflows,
}
use Rattle.httparse.specs.declared.spans.HeaderSpan.{HeaderSpan}
use Rattle.httparse.specs.declared.spans.RequestSpans.{RequestSpans}
use Rattle.room_requests.specs.Heads.{head_limit, line_limit, head_of}
use Rattle.room_requests.specs.Parts.{Head}
use Rattle.room_requests.specs.declared.reading.Found.{Found}
use Rattle.room_requests.specs.declared.reading.Found.TheVariants as found

-- no head ends within the bytes, and more bytes may make them one
abbrev pub IsUndecided : List ℕ → Type 0
IsUndecided front = HasNoRequest front × MayBecomeRequest front

-- the bytes without their last one
abbrev pub before_last : List ℕ → List ℕ
before_last front = take (length front - 1) front

-- at most 8,192 bytes were taken of an input, the last of them only since those before it decided nothing
abbrev pub TakesHead : Option (List ℕ) → Option (List ℕ) → Type 0
TakesHead old new =
    (front : List ℕ) × (length front ≤ head_limit) × IsUndecided (before_last front) × Consumes old new front

-- no bytes that follow make it a head, or it ends within one
abbrev pub IsRuledOut : List ℕ → Option (List ℕ) → Type 0
IsRuledOut front left = NeverHasRequest front ⊎ (HasNoRequest front × IsAtEnd left)

-- it has too many header lines, or no head in the bytes that one may take
abbrev pub IsOverfull : List ℕ → Type 0
IsOverfull front =
    (RequestExceeds line_limit front × RequestOverflows line_limit front)
    ⊎ ((length front ≡ head_limit) × HasNoRequest front)

-- what the bytes in front show, whatever follows
abbrev pub IsJudged : List ℕ → List HeaderSpan → Found → Type 0
IsJudged front lines found.Nothing = ⊥
IsJudged front lines found.Malformed = NeverHasRequest front
IsJudged front lines found.TooLarge = RequestExceeds line_limit front × RequestOverflows line_limit front
IsJudged front lines (found.Whole spans) = IsRequestWithin front lines spans × IsRequestOf front lines spans

-- what the bytes in front show, with these bytes left
abbrev pub Shows : List ℕ → Option (List ℕ) → List HeaderSpan → Found → Type 0
Shows front left lines found.Nothing = (front ≡ []) × IsAtEnd left
Shows front left lines found.Malformed = (0 < length front) × IsRuledOut front left
Shows front left lines found.TooLarge = IsOverfull front
Shows front left lines (found.Whole spans) =
    (length front ≤ head_limit) × IsRequestWithin front lines spans × IsRequestOf front lines spans

-- the name that the spans cover is Host
abbrev pub is_host_at : List ℕ → HeaderSpan → Bool
is_host_at front line = str_eq_ignore_ascii_case (span_bytes front line.name) (codes "host")

-- what is looked at of the head that the spans cover
abbrev pub IsCopied : List ℕ → List HeaderSpan → RequestSpans → Head → Type 0
IsCopied front lines spans head = (h : RequestHead) × IsRequestAt front lines spans h × (head ≡ head_of h)

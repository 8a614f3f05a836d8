-- What the bytes that came decide of all bytes of a connection.
use Rattle.std.proofs.Common.{◌≡◌, ◌≤◌, ◌<◌, ℕ, List, [], length, arith, inl, inr}
use Rattle.std.proofs.lemmas.List.{length-append}
use Rattle.httparse.specs.Grammar.{HasNoRequest, NeverHasRequest}
use Rattle.httparse.specs.Spans.{IsRequestWithin, RequestExceeds, RequestOverflows}
use Rattle.httparse.specs.declared.spans.HeaderSpan.{HeaderSpan}
use Rattle.httparse.specs.declared.spans.RequestSpans.{RequestSpans}
use Rattle.room_requests.specs.Arriving.{BeginsAll, IsOpen}
use Rattle.room_requests.specs.Parts.{Head}
use Rattle.room_requests.specs.Reading.{IsCopied}
use Rattle.room_requests.specs.declared.head.HeadRead.TheVariants as read
use Rattle.room_requests.proofs.HeadDecided.{overfull, whole}
use Rattle.room_requests.proofs.Undecided.{empty_is_undecided}

pub nothing_is_open : (came : List ℕ) → came ≡ [] → IsOpen came
nothing_is_open came none = rw none (empty_is_undecided, omega arith)

pub never : (came : List ℕ) → 0 < length came → NeverHasRequest came → BeginsAll came read.Malformed
never came some none rest = (omega (arith, some, length-append came rest), none rest)

pub many : (came : List ℕ) → RequestExceeds 64 came × RequestOverflows 64 came
    → BeginsAll came read.TooLarge
many came both rest = overfull came rest (inl both)

pub full_begins : (came : List ℕ) → length came ≡ 8192 → HasNoRequest came → BeginsAll came read.TooLarge
full_begins came full none rest = overfull came rest (inr (full, none))

pub head_is : (came : List ℕ) (lines : List HeaderSpan) (spans : RequestSpans) (head : Head)
    → length came ≤ 8192 → length lines ≡ 64 → IsRequestWithin came lines spans → IsCopied came lines spans head
    → BeginsAll came (read.Whole head)
head_is came lines spans head size room within copied rest =
    whole came rest lines spans head size room within copied

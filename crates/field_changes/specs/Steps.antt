-- What a correction makes of a record of an archive, or the refusal that it gets: the words are looked at first, then
-- each number, then what the record and its field forbid, and what other records do. Rules of our own.
use Rattle.std.specs.Prelude.{ℕ, List, Bool, false, Option, Some, None, Result, Ok, Err, if◌then◌else◌}
use Rattle.std.specs.FinMap.{get}
use Rattle.record_text.specs.declared.refusal.RefusalKind.{RefusalKind}
use Rattle.record_text.specs.declared.refusal.RefusalKind.TheVariants.{NoSuch, NoSuchField, StillCarried}
use Rattle.record_kinds.specs.Model as model
use Rattle.record_kinds.specs.declared.record.Record.{Record}
use Rattle.record_kinds.specs.declared.record.Record.TheVariants as kind
use Rattle.archive_state.specs.Content.{Content}
use Rattle.commands.specs.Rows.{and_then}
use Rattle.command_checks.specs.Checks.{date_in, demanded_at, each, event_tag, passed, said_place_at, text_in}
use Rattle.command_checks.specs.Entries.{is_like, key_is_free}
use Rattle.command_checks.specs.declared.kinds.Demand.TheVariants as demand
use Rattle.corrections.specs.Corrections.{corrected}
use Rattle.corrections.specs.declared.correction.Correction.{Correction}
use Rattle.corrections.specs.declared.correction.Correction.TheVariants as correction
use Rattle.field_changes.specs.Carrying.{still_carried}
use Rattle.commands.specs.declared.correction.GivenValue.{GivenValue}
use Rattle.commands.specs.declared.correction.GivenValue.TheVariants as given

-- ---- what is given
-- the correction, where its words are texts
abbrev pub correction_in : GivenValue → Result Correction RefusalKind
correction_in (given.Sex s) = Ok (correction.Sex s)
correction_in (given.Date d) = and_then (each date_in d) (λ x. Ok (correction.Date x))
correction_in (given.Place n) = Ok (correction.Place n)
correction_in (given.Repository n) = Ok (correction.Repository n)
correction_in (given.Quality q) = Ok (correction.Quality q)
correction_in (given.Item i) = Ok (correction.Item i)
correction_in (given.Text f words) = and_then (text_in words) (λ t. Ok (correction.Text f t))

-- a place or a repository that is named is there
abbrev pub named : Content → GivenValue → Result (Unit {0}) RefusalKind
named c (given.Place n) = passed (each (demanded_at c demand.Place) n)
named c (given.Repository n) = passed (each (demanded_at c demand.Repo) n)
named c _ = Ok tt

-- the path of a place has a part that is not empty
abbrev pub said : Content → GivenValue → Result (Unit {0}) RefusalKind
said c (given.Place n) = passed (each (said_place_at c) n)
said c _ = Ok tt

-- ---- the record
abbrev pub record_there : Option Record → Result Record RefusalKind
record_there None = Err NoSuch
record_there (Some r) = Ok r

abbrev pub named_record : Content → ℕ → GivenValue → Result Record RefusalKind
named_record c n v =
    and_then (record_there (get c.records n)) (λ r.
    and_then (named c v) (λ _.
    Ok r))

-- ---- keys of entries
-- the record is an entry with that key
abbrev pub has_key : Option Record → model.Entry → Bool
has_key None e = false
has_key (Some r) e = is_like e.source e.kind e.page e.item r

-- the key is that of before, or no entry has it
abbrev pub entry_keyed : Content → ℕ → model.Entry → Result (Unit {0}) RefusalKind
entry_keyed c n e =
    if has_key (get c.records n) e then Ok tt else key_is_free c.records e.source e.kind e.page e.item

abbrev pub keyed : Content → ℕ → Record → Result (Unit {0}) RefusalKind
keyed c n (kind.Entry e) = entry_keyed c n e
keyed c n _ = Ok tt

-- ---- corrections
-- what speaks against the record after
abbrev pub checked_after : Content → ℕ → GivenValue → Record → Result (Unit {0}) RefusalKind
checked_after c n v s =
    and_then (said c v) (λ _.
    if still_carried s then Err StillCarried
    else keyed c n s)

-- the record of a number with another value of a field
abbrev pub changed : Content → ℕ → GivenValue → Result Record RefusalKind
changed c n v =
    and_then (correction_in v) (λ x.
    and_then (named_record c n v) (λ r.
    and_then (corrected x r) (λ s.
    and_then (checked_after c n v s) (λ _.
    Ok s))))

-- ---- the tag of an event
abbrev pub with_tag : Content → model.Event → List ℕ → Result model.Event RefusalKind
with_tag c e word = and_then (event_tag c e.owner None word) (λ tag. Ok (record e { tag = tag }))

abbrev pub retag : Content → List ℕ → Record → Result Record RefusalKind
retag c word (kind.Event e) = and_then (with_tag c e word) (λ x. Ok (kind.Event x))
retag c word _ = Err NoSuchField

abbrev pub retagged : Content → ℕ → List ℕ → Result Record RefusalKind
retagged c n word =
    and_then (text_in word) (λ t.
    and_then (record_there (get c.records n)) (λ r.
    retag c t r))

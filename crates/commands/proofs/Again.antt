-- The row of a command is read as that command.
use Rattle.std.specs.Prelude.{
  map,
  ◌≡◌,
  ◌<◌,
  ◌≤◌,
  ◌^◌,
  ◌++◌,
  ℕ,
  List,
  [],
  ◌∷◌,
  length,
  Option,
  Some,
  None,
  Result,
  Ok,
  refl,
  decimal,
}
use Rattle.std.specs.List.{All}
use Rattle.std.proofs.Common.{ap, sym, ◌∙◌, arith}
use Rattle.std.proofs.lemmas.List.Elements.{All-head, All-tail}
use Rattle.std.proofs.lemmas.Fmt.{decimal_is_IsNumeral}
use Rattle.csv.specs.Machine.{next_record}
use Rattle.csv.specs.Reading.{default_config}
use Rattle.csv.specs.declared.parser.State.TheVariants as st
use Rattle.csv.proofs.RoundTrip.{read-write-many}
use Rattle.record_text.specs.declared.refusal.RefusalKind.{RefusalKind}
use Rattle.record_text.specs.declared.refusal.RefusalKind.TheVariants.{BadRow}
use Rattle.record_fields.specs.Words.{entry_kind_word, partnership_word, quality_word, sex_word}
use Rattle.record_fields.specs.declared.entry_words.EntryKind.{EntryKind}
use Rattle.record_fields.specs.declared.item.Item.{Item}
use Rattle.record_fields.specs.declared.words.Partnership.{Partnership}
use Rattle.record_fields.specs.declared.words.Quality.{Quality}
use Rattle.record_fields.specs.declared.words.Quality.TheVariants as quality
use Rattle.record_fields.specs.declared.words.Sex.{Sex}
use Rattle.record_fields.specs.declared.words.Sex.TheVariants as sex
use Rattle.record_fields.proofs.Worded.{entry_kind_back, partnership_back, quality_back, sex_back}
use Rattle.csv.specs.Writing.{default_writer, row_text}
use Rattle.corrections.specs.Fields.{field_word}
use Rattle.corrections.specs.declared.field.Field.{Field}
use Rattle.commands.specs.Bytes.{entry_fields, given_field, given_words, or_empty, row_of, spelt}
use Rattle.commands.specs.Dated.{given_of}
use Rattle.commands.specs.Given.{GivenDate, Gives}
use Rattle.commands.specs.Rows.{
  Reads,
  ReadsEntry,
  and_then,
  field_in,
  given_in,
  item_in,
  kind_in,
  number_in,
  ok_or,
  or_none,
  partnership_in,
  quality_in,
  read_entry,
  read_fields,
  read_row,
  sex_in,
}
use Rattle.commands.specs.Sound.{IsDate, IsNumber, IsSoundEntry, IsSoundGiven, IsSoundRow, WhereSome}
use Rattle.commands.specs.Verbs.{verb_of, verb_word}
use Rattle.commands.specs.declared.correction.GivenCorrection.{GivenCorrection}
use Rattle.commands.specs.declared.correction.GivenCorrection.TheVariants as correction
use Rattle.commands.specs.declared.correction.GivenValue.TheVariants as of_field
use Rattle.commands.specs.declared.entry_row.EntryRow.{EntryRow}
use Rattle.commands.specs.declared.row_command.RowCommand.{RowCommand}
use Rattle.commands.specs.declared.row_command.RowCommand.TheVariants as row_command
use Rattle.commands.specs.declared.verb.Verb.{Verb}
use Rattle.commands.specs.declared.verb.Verb.TheVariants as verb
use Rattle.commands.proofs.Dated.{gives_of, one_given}
use Rattle.commands.proofs.FieldWords.{field_back}
use Rattle.commands.proofs.Items.{item_back}
use Rattle.commands.proofs.Mentions.{mentions_back}
use Rattle.commands.proofs.Numbers.{number_back}
use Rattle.commands.proofs.Outcomes.{is_entry, is_reading}

-- ---- fields
some-read : {A : Type 0} (read : List ℕ → Result A RefusalKind) (field : List ℕ) (a : A) → 1 ≤ length field
    → read field ≡ Ok a → or_none read field ≡ Ok (Some a)
some-read read [] a h e = absurd (omega arith)
some-read read (b ∷ more) a h e = rw e refl

decimal-some : (n : ℕ) → n ≤ 4294967295 → 1 ≤ length (decimal n)
decimal-some n h = let small : n < 2 ^ 64 = omega arith in (decimal_is_IsNumeral n small).0.0

number-or-none : (n : Option ℕ) → WhereSome IsNumber n → or_none number_in (or_empty decimal n) ≡ Ok n
number-or-none None h = refl
number-or-none (Some n) h = some-read number_in (decimal n) n (decimal-some n h.1) (number_back n h.0 h.1)

sex-again : (s : Sex) → sex_in (sex_word s) ≡ Ok s
unfolding sex_in
sex-again s = ap (ok_or BadRow) (sex_back s)

sex-or-none : (s : Option Sex) → or_none sex_in (or_empty sex_word s) ≡ Ok s
sex-or-none None = refl
sex-or-none (Some sex.Male) = ap (λ r. and_then r (λ a. Ok (Some a))) (sex-again sex.Male)
sex-or-none (Some sex.Female) = ap (λ r. and_then r (λ a. Ok (Some a))) (sex-again sex.Female)
sex-or-none (Some sex.Unknown) = ap (λ r. and_then r (λ a. Ok (Some a))) (sex-again sex.Unknown)

quality-again : (q : Quality) → quality_in (quality_word q) ≡ Ok q
unfolding quality_in
quality-again q = ap (ok_or BadRow) (quality_back q)

quality-or-none : (q : Option Quality) → or_none quality_in (or_empty quality_word q) ≡ Ok q
quality-or-none None = refl
quality-or-none (Some quality.Unreliable) = ap (λ r. and_then r (λ a. Ok (Some a))) (quality-again quality.Unreliable)
quality-or-none (Some quality.Questionable) = ap (λ r. and_then r (λ a. Ok (Some a)))
    (quality-again quality.Questionable)
quality-or-none (Some quality.Secondary) = ap (λ r. and_then r (λ a. Ok (Some a))) (quality-again quality.Secondary)
quality-or-none (Some quality.Primary) = ap (λ r. and_then r (λ a. Ok (Some a))) (quality-again quality.Primary)

partnership-again : (p : Partnership) → partnership_in (partnership_word p) ≡ Ok p
unfolding partnership_in
partnership-again p = ap (ok_or BadRow) (partnership_back p)

date-again : (date : Option GivenDate) → WhereSome IsDate date → given_of (or_empty spelt date) ≡ date
date-again None h = one_given [] (given_of []) None (gives_of []) refl
date-again (Some g) h = one_given g.spelling (given_of g.spelling) (Some g) (gives_of g.spelling) (h.some, h, h.written)

kind-again : (k : EntryKind) → kind_in (entry_kind_word k) ≡ Ok k
unfolding kind_in
kind-again k = ap (ok_or BadRow) (entry_kind_back k)

item-again : (i : Item) → item_in (decimal i.number) ≡ Ok i
unfolding item_in
item-again i = rw (number_back i.number i.in_range.0 (below i.number i.in_range.1)) (ap (ok_or BadRow) (item_back i))
  where
    below : (n : ℕ) → n ≤ 999999 → n ≤ 4294967295
    below n h = omega arith

entry-again : (e : EntryRow) → IsSoundEntry e → read_entry given_of (entry_fields e) ≡ Ok e
entry-again e h =
    rw (
      mentions_back e.mentions h.2,
      kind-again e.kind,
      item-again e.item,
      number-or-none e.place h.1,
      date-again e.date h.0,
    ) refl

-- ---- corrections
field-again : (f : Field) → field_in (field_word f) ≡ Ok f
unfolding field_in
field-again f = ap (ok_or BadRow) (field_back f)

given-again : (g : GivenCorrection) → IsSoundGiven g → given_in given_of (given_field g) (given_words g) ≡ Ok g
given-again (correction.Tag words) h = refl
given-again (correction.Value (of_field.Sex s)) h = rw (sex-or-none s) refl
given-again (correction.Value (of_field.Date d)) h = rw (date-again d h) refl
given-again (correction.Value (of_field.Place n)) h = rw (number-or-none n h) refl
given-again (correction.Value (of_field.Repository n)) h = rw (number-or-none n h) refl
given-again (correction.Value (of_field.Quality q)) h = rw (quality-or-none q) refl
given-again (correction.Value (of_field.Item i)) h = rw (item-again i) refl
given-again (correction.Value (of_field.Text f words)) h = refl

-- ---- verbs
pub verb_back : (v : Verb) → verb_of (verb_word v) ≡ Some v
unfolding verb_of
verb_back verb.Person = refl
verb_back verb.Name = refl
verb_back verb.Sex = refl
verb_back verb.Family = refl
verb_back verb.Child = refl
verb_back verb.Event = refl
verb_back verb.Amend = refl
verb_back verb.Participant = refl
verb_back verb.Place = refl
verb_back verb.Repo = refl
verb_back verb.Source = refl
verb_back verb.Citation = refl
verb_back verb.Entry = refl
verb_back verb.Link = refl
verb_back verb.Unlink = refl
verb_back verb.Merge = refl
verb_back verb.Undo = refl
verb_back verb.Remove = refl
verb_back verb.Partner = refl
verb_back verb.Unpartner = refl
verb_back verb.Unchild = refl
verb_back verb.Unparticipant = refl
verb_back verb.Correct = refl

by-verb : (v : Verb) (fields : List (List ℕ)) → read_row given_of (verb_word v ∷ fields) ≡ read_fields given_of v fields
by-verb v fields = rw (verb_back v) refl

-- ---- rows
row-again : (c : RowCommand) → IsSoundRow c → read_row given_of (row_of c) ≡ Ok c
row-again (row_command.Person name sex) h = by-verb verb.Person (name ∷ or_empty sex_word sex ∷ [])
    ∙ rw (sex-or-none sex) refl
row-again (row_command.Name person name) h = by-verb verb.Name (decimal person ∷ name ∷ [])
    ∙ rw (number_back person h.0 h.1) refl
row-again (row_command.Sex person sex) h = by-verb verb.Sex (decimal person ∷ sex_word sex ∷ [])
    ∙ rw (number_back person h.0 h.1, sex-again sex) refl
row-again (row_command.Family husband wife) h =
    by-verb verb.Family (or_empty decimal husband ∷ or_empty decimal wife ∷ [])
    ∙ rw (number-or-none husband h.0, number-or-none wife h.1) refl
row-again (row_command.Child family person) h =
    by-verb verb.Child (decimal family ∷ decimal person ∷ []) ∙ rw (
      number_back family h.0.0 h.0.1,
      number_back person h.1.0 h.1.1,
    ) refl
row-again (row_command.Event owner tag value date place) h =
    by-verb verb.Event (decimal owner ∷ tag ∷ value ∷ or_empty spelt date ∷ or_empty decimal place ∷ [])
    ∙ rw (number_back owner h.0.0 h.0.1, number-or-none place h.2, date-again date h.1) refl
row-again (row_command.Amend event value date place) h =
    by-verb verb.Amend (decimal event ∷ value ∷ or_empty spelt date ∷ or_empty decimal place ∷ [])
    ∙ rw (number_back event h.0.0 h.0.1, number-or-none place h.2, date-again date h.1) refl
row-again (row_command.Participant event person role) h =
    by-verb verb.Participant (decimal event ∷ decimal person ∷ role ∷ [])
    ∙ rw (number_back event h.0.0 h.0.1, number_back person h.1.0 h.1.1) refl
row-again (row_command.Place name parent) h = by-verb verb.Place (name ∷ or_empty decimal parent ∷ [])
    ∙ rw (number-or-none parent h) refl
row-again (row_command.Repo name) h = by-verb verb.Repo (name ∷ [])
row-again (row_command.Source title author publisher repo call_number) h =
    by-verb verb.Source (title ∷ author ∷ publisher ∷ or_empty decimal repo ∷ call_number ∷ [])
    ∙ rw (number-or-none repo h) refl
row-again (row_command.Citation owner source page quality) h =
    by-verb verb.Citation (decimal owner ∷ decimal source ∷ page ∷ or_empty quality_word quality ∷ [])
    ∙ rw (number_back owner h.0.0 h.0.1, number_back source h.1.0 h.1.1, quality-or-none quality) refl
row-again (row_command.Entry source entry) h =
    by-verb verb.Entry (decimal source ∷ entry_fields entry)
    ∙ rw (entry-again entry h.1, number_back source h.0.0 h.0.1) refl
row-again (row_command.Link entry mention person reason) h =
    by-verb verb.Link (decimal entry ∷ decimal mention ∷ decimal person ∷ reason ∷ [])
    ∙ rw (number_back entry h.0.0 h.0.1, number_back mention h.1.0 h.1.1, number_back person h.2.0 h.2.1) refl
row-again (row_command.Unlink entry mention) h =
    by-verb verb.Unlink (decimal entry ∷ decimal mention ∷ []) ∙ rw (
      number_back entry h.0.0 h.0.1,
      number_back mention h.1.0 h.1.1,
    ) refl
row-again (row_command.Merge keep gone) h =
    by-verb verb.Merge (decimal keep ∷ decimal gone ∷ []) ∙ rw (
      number_back keep h.0.0 h.0.1,
      number_back gone h.1.0 h.1.1,
    ) refl
row-again (row_command.Undo slip) h = by-verb verb.Undo (decimal slip ∷ []) ∙ rw (number_back slip h.0 h.1) refl
row-again (row_command.Remove number) h = by-verb verb.Remove (decimal number ∷ [])
    ∙ rw (number_back number h.0 h.1) refl
row-again (row_command.Partner family partnership person) h =
    by-verb verb.Partner (decimal family ∷ partnership_word partnership ∷ decimal person ∷ [])
    ∙ rw (number_back family h.0.0 h.0.1, partnership-again partnership, number_back person h.1.0 h.1.1) refl
row-again (row_command.Unpartner family person) h =
    by-verb verb.Unpartner (decimal family ∷ decimal person ∷ []) ∙ rw (
      number_back family h.0.0 h.0.1,
      number_back person h.1.0 h.1.1,
    ) refl
row-again (row_command.Unchild family person) h =
    by-verb verb.Unchild (decimal family ∷ decimal person ∷ []) ∙ rw (
      number_back family h.0.0 h.0.1,
      number_back person h.1.0 h.1.1,
    ) refl
row-again (row_command.Unparticipant event place) h =
    by-verb verb.Unparticipant (decimal event ∷ decimal place ∷ []) ∙ rw (
      number_back event h.0.0 h.0.1,
      number_back place h.1.0 h.1.1,
    ) refl
row-again (row_command.Correct number given) h =
    by-verb verb.Correct (decimal number ∷ field_word (given_field given) ∷ given_words given ∷ [])
    ∙ rw (number_back number h.0.0 h.0.1, field-again (given_field given), given-again given h.1) refl

pub row_back : (c : RowCommand) → IsSoundRow c → Reads (row_of c) (Ok c)
row_back c h = is_reading (row_of c) (Ok c) (sym (row-again c h))

-- ---- outcomes
pub some_outcome : (row : List (List ℕ)) → (r : Result RowCommand RefusalKind) × Reads row r
some_outcome row = (read_row given_of row, is_reading row (read_row given_of row) refl)

-- dates are read in one way
same-dates : (g h : List ℕ → Option GivenDate) → ((words : List ℕ) → Gives words (g words))
    → ((words : List ℕ) → Gives words (h words)) → g ≡ h
same-dates g h x y = λ i words. one_given words (g words) (h words) (x words) (y words) i

pub one_outcome : (row : List (List ℕ)) (r s : Result RowCommand RefusalKind) → Reads row r → Reads row s → r ≡ s
one_outcome row r s x y = x.2 ∙ ap (λ g. read_row g row) (same-dates x.0 y.0 x.1 y.1) ∙ sym y.2

-- ---- rows of a batch
pub fields_back : (e : EntryRow) → IsSoundEntry e → ReadsEntry (entry_fields e) (Ok e)
fields_back e h = is_entry (entry_fields e) (Ok e) (sym (entry-again e h))

pub some_entry : (row : List (List ℕ)) → (r : Result EntryRow RefusalKind) × ReadsEntry row r
some_entry row = (read_entry given_of row, is_entry row (read_entry given_of row) refl)

pub one_entry_outcome : (row : List (List ℕ)) (r s : Result EntryRow RefusalKind) → ReadsEntry row r
    → ReadsEntry row s → r ≡ s
one_entry_outcome row r s x y = x.2 ∙ ap (λ g. read_entry g row) (same-dates x.0 y.0 x.1 y.1) ∙ sym y.2

-- ---- bytes
pub bytes_back : (c : RowCommand) (rest : List ℕ) → next_record default_config st.StartRecord [] []
    (row_text default_writer (row_of c) ++ rest) ≡ Some (row_of c, st.StartRecord, rest)
bytes_back (row_command.Person name sex) rest = read-write-many (verb_word verb.Person) name
    (or_empty sex_word sex ∷ []) rest
bytes_back (row_command.Name person name) rest = read-write-many (verb_word verb.Name) (decimal person) (name ∷ []) rest
bytes_back (row_command.Sex person sex) rest = read-write-many (verb_word verb.Sex) (decimal person)
    (sex_word sex ∷ []) rest
bytes_back (row_command.Family husband wife) rest = read-write-many (verb_word verb.Family) (or_empty decimal husband)
    (or_empty decimal wife ∷ []) rest
bytes_back (row_command.Child family person) rest = read-write-many (verb_word verb.Child) (decimal family)
    (decimal person ∷ []) rest
bytes_back (row_command.Event owner tag value date place) rest =
    read-write-many (verb_word verb.Event) (decimal owner)
    (tag ∷ value ∷ or_empty spelt date ∷ or_empty decimal place ∷ []) rest
bytes_back (row_command.Amend event value date place) rest =
    read-write-many (verb_word verb.Amend) (decimal event)
    (value ∷ or_empty spelt date ∷ or_empty decimal place ∷ []) rest
bytes_back (row_command.Participant event person role) rest =
    read-write-many (verb_word verb.Participant) (decimal event) (decimal person ∷ role ∷ []) rest
bytes_back (row_command.Place name parent) rest = read-write-many (verb_word verb.Place) name
    (or_empty decimal parent ∷ []) rest
bytes_back (row_command.Repo name) rest = read-write-many (verb_word verb.Repo) name [] rest
bytes_back (row_command.Source title author publisher repo call_number) rest =
    read-write-many (verb_word verb.Source) title (author ∷ publisher ∷ or_empty decimal repo ∷ call_number ∷ []) rest
bytes_back (row_command.Citation owner source page quality) rest =
    read-write-many (verb_word verb.Citation) (decimal owner)
    (decimal source ∷ page ∷ or_empty quality_word quality ∷ []) rest
bytes_back (row_command.Entry source entry) rest = read-write-many (verb_word verb.Entry) (decimal source)
    (entry_fields entry) rest
bytes_back (row_command.Link entry mention person reason) rest =
    read-write-many (verb_word verb.Link) (decimal entry) (decimal mention ∷ decimal person ∷ reason ∷ []) rest
bytes_back (row_command.Unlink entry mention) rest = read-write-many (verb_word verb.Unlink) (decimal entry)
    (decimal mention ∷ []) rest
bytes_back (row_command.Merge keep gone) rest = read-write-many (verb_word verb.Merge) (decimal keep)
    (decimal gone ∷ []) rest
bytes_back (row_command.Undo slip) rest = read-write-many (verb_word verb.Undo) (decimal slip) [] rest
bytes_back (row_command.Remove number) rest = read-write-many (verb_word verb.Remove) (decimal number) [] rest
bytes_back (row_command.Partner family partnership person) rest =
    read-write-many (verb_word verb.Partner) (decimal family) (partnership_word partnership ∷ decimal person ∷ []) rest
bytes_back (row_command.Unpartner family person) rest = read-write-many (verb_word verb.Unpartner) (decimal family)
    (decimal person ∷ []) rest
bytes_back (row_command.Unchild family person) rest = read-write-many (verb_word verb.Unchild) (decimal family)
    (decimal person ∷ []) rest
bytes_back (row_command.Unparticipant event place) rest =
    read-write-many (verb_word verb.Unparticipant) (decimal event) (decimal place ∷ []) rest
bytes_back (row_command.Correct number given) rest =
    read-write-many (verb_word verb.Correct) (decimal number)
    (field_word (given_field given) ∷ given_words given ∷ []) rest

-- row commands of one row are one
pub one_row : (c d : RowCommand) → IsSoundRow c → IsSoundRow d → row_of c ≡ row_of d → c ≡ d
one_row c d x y e =
    let same : ◌≡◌ {A = Result RowCommand RefusalKind} (Ok c) (Ok d) = sym (row-again c x) ∙ ap (read_row given_of) e
    ∙ row-again d y in
    cc

-- entries of the same fields are one
one-entry : (e f : EntryRow) → IsSoundEntry e → IsSoundEntry f → entry_fields e ≡ entry_fields f → e ≡ f
one-entry e f x y same =
    let read : ◌≡◌ {A = Result EntryRow RefusalKind} (Ok e) (Ok f) = sym (entry-again e x)
    ∙ ap (read_entry given_of) same ∙ entry-again f y in
    cc

pub one_batch : (es fs : List EntryRow) → All IsSoundEntry es → All IsSoundEntry fs
    → map entry_fields es ≡ map entry_fields fs → es ≡ fs
one_batch [] [] x y same = refl
one_batch [] (f ∷ fs) x y same = absurd cc
one_batch (e ∷ es) [] x y same = absurd cc
one_batch (e ∷ es) (f ∷ fs) x y same =
    let row : entry_fields e ≡ entry_fields f = cc in
    let rows : map entry_fields es ≡ map entry_fields fs = cc in
    ap (λ (z : EntryRow). z ∷ es) (one-entry e f (All-head IsSoundEntry e es x) (All-head IsSoundEntry f fs y) row)
    ∙ ap (λ (zs : List EntryRow). f ∷ zs)
    (one_batch es fs (All-tail IsSoundEntry e es x) (All-tail IsSoundEntry f fs y) rows)

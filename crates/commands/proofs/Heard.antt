-- A command that a row is read as has numbers in range, and dates as their type keeps them.
use Rattle.std.specs.Prelude.{
  ◌≡◌,
  ◌≤◌,
  ◌&&◌,
  nat_le,
  ℕ,
  List,
  [],
  ◌∷◌,
  length,
  Bool,
  true,
  false,
  cond,
  Option,
  Some,
  None,
  Result,
  Ok,
  Err,
  refl,
}
use Rattle.std.specs.Char.{is_ascii_digit}
use Rattle.std.specs.List.{list_all}
use Rattle.std.specs.Str.Parse.{digits_value}
use Rattle.std.proofs.Common.{sym, subst, arith}
use Rattle.std.proofs.lemmas.Bool.Decides.{nat_tests}
use Rattle.record_text.specs.declared.refusal.RefusalKind.{RefusalKind}
use Rattle.record_text.specs.declared.refusal.RefusalKind.TheVariants.{BadRow, UnknownVerb}
use Rattle.record_fields.specs.declared.entry_words.EntryKind.{EntryKind}
use Rattle.record_fields.specs.declared.item.Item.{Item}
use Rattle.corrections.specs.declared.field.Field.{Field}
use Rattle.corrections.specs.declared.field.Field.TheVariants as record_field
use Rattle.commands.specs.Given.{GivenDate, Gives}
use Rattle.commands.specs.Mentions.{IsCount}
use Rattle.commands.specs.Rows.{
  Reads,
  ReadsEntry,
  and_then,
  field_in,
  given_in,
  is_number,
  item_in,
  kind_in,
  mentions_in,
  number_in,
  ok_or,
  or_none,
  partnership_in,
  quality_in,
  read_entry,
  read_fields,
  read_row,
  sex_in,
}
use Rattle.commands.specs.Sound.{IsDate, IsNumber, IsSoundEntry, IsSoundGiven, IsSoundRow, WhereSome}
use Rattle.commands.specs.Verbs.{verb_of}
use Rattle.commands.specs.declared.correction.GivenCorrection.{GivenCorrection}
use Rattle.commands.specs.declared.correction.GivenCorrection.TheVariants as correction
use Rattle.commands.specs.declared.correction.GivenValue.TheVariants as of_field
use Rattle.commands.specs.declared.entry_row.EntryRow.{EntryRow}
use Rattle.commands.specs.declared.entry_row.GivenMention.{GivenMention}
use Rattle.commands.specs.declared.row_command.RowCommand.{RowCommand}
use Rattle.commands.specs.declared.row_command.RowCommand.TheVariants as row_command
use Rattle.commands.specs.declared.verb.Verb.{Verb}
use Rattle.commands.specs.declared.verb.Verb.TheVariants as verb
use Rattle.commands.proofs.Mentions.{mentions_bound}

-- ---- fields
ok-is : {A : Type 0} (a b : A) → ◌≡◌ {A = Result A RefusalKind} (Ok a) (Ok b) → a ≡ b
ok-is a b e = cc

in-range : (d : Bool) (l v : ℕ) → (d && nat_le 1 l && nat_le l 10 && nat_le 1 v && nat_le v 4294967295)
    ≡ true → IsNumber v
in-range d l v e = let least : 1 ≤ v = grind (arith, nat_tests) in
    let most : v ≤ 4294967295 = grind (arith, nat_tests) in (least, most)

number-if : (v n : ℕ) (b : Bool) → (b ≡ true → IsNumber v) → ◌≡◌ {A = Result ℕ RefusalKind} (cond b (Ok v) (Err BadRow))
    (Ok n) → IsNumber n
number-if v n true h e = subst IsNumber (ok-is v n e) (h refl)
number-if v n false h e = absurd cc

number-in : (field : List ℕ) (n : ℕ) → number_in field ≡ Ok n → IsNumber n
unfolding number_in
number-in field n e = number-if (digits_value 10 field) n (is_number field)
    (λ t. in-range (list_all is_ascii_digit field) (length field) (digits_value 10 field) t) e

number-some : (r : Result ℕ RefusalKind) (n : Option ℕ) → ((m : ℕ) → r ≡ Ok m → IsNumber m)
    → and_then r (λ a. Ok (Some a)) ≡ Ok n → WhereSome IsNumber n
number-some (Ok m) n h e = subst (WhereSome IsNumber) (ok-is (Some m) n e) (h m refl)
number-some (Err x) n h e = absurd cc

number-or-none : (field : List ℕ) (n : Option ℕ) → or_none number_in field ≡ Ok n → WhereSome IsNumber n
number-or-none [] n e = subst (WhereSome IsNumber) (ok-is None n e) tt
number-or-none (b ∷ more) n e = number-some (number_in (b ∷ more)) n (number-in (b ∷ more)) e

date-sound : (words : List ℕ) (found : Option GivenDate) → Gives words found → WhereSome IsDate found
date-sound words None h = tt
date-sound words (Some g) h = h.1

-- what is read in two steps
then-is : {A B : Type 0} (r : Result A RefusalKind) (P : A → Type 0) (f : A → Result B RefusalKind)
    (Q : B → Type 0) (b : B)
    → ((a : A) → r ≡ Ok a → P a) → ((a : A) → P a → f a ≡ Ok b → Q b) → and_then r f ≡ Ok b → Q b
then-is (Ok a) P f Q b h k e = k a (h a refl) e
then-is (Err x) P f Q b h k e = absurd cc

-- ---- register entries
entry-sound : (given : List ℕ → Option GivenDate) (fields : List (List ℕ)) (entry : EntryRow)
    → ((words : List ℕ) → WhereSome IsDate (given words)) → read_entry given fields ≡ Ok entry → IsSoundEntry entry
entry-sound given (kind ∷ page ∷ item ∷ date ∷ place ∷ text ∷ fields) entry dates e =
    let made : List GivenMention → EntryKind → Item → Option ℕ → EntryRow =
    λ ms k i p. record { kind = k; page = page; item = i; date = given date; place = p; text = text; mentions = ms } in
    then-is (mentions_in fields) (λ ms. IsCount ms)
    (λ ms. and_then (kind_in kind)
    (λ k. and_then (item_in item) (λ i. and_then (or_none number_in place) (λ p. Ok (made ms k i p)))))
    IsSoundEntry entry (mentions_bound fields)
    (λ ms few. then-is (kind_in kind) (λ k. Unit {0})
    (λ k. and_then (item_in item) (λ i. and_then (or_none number_in place) (λ p. Ok (made ms k i p)))) IsSoundEntry
    entry (λ k h. tt)
    (λ k h. then-is (item_in item) (λ i. Unit {0})
    (λ i. and_then (or_none number_in place) (λ p. Ok (made ms k i p))) IsSoundEntry entry (λ i x. tt)
    (λ i x. then-is (or_none number_in place) (WhereSome IsNumber) (λ p. Ok (made ms k i p)) IsSoundEntry entry
    (number-or-none place)
    (λ p number same. subst IsSoundEntry (ok-is (made ms k i p) entry same) (dates date, number, few))))) e
entry-sound given _ entry dates e = absurd cc

-- ---- corrections
is-given : (d g : GivenCorrection) → ◌≡◌ {A = Result GivenCorrection RefusalKind} (Ok d) (Ok g) → IsSoundGiven d
    → IsSoundGiven g
is-given d g e h = subst IsSoundGiven (ok-is d g e) h

given-sound : (given : List ℕ → Option GivenDate) (f : Field) (words : List ℕ) (g : GivenCorrection)
    → ((words : List ℕ) → WhereSome IsDate (given words)) → given_in given f words ≡ Ok g → IsSoundGiven g
given-sound given record_field.Tag words g dates e = is-given (correction.Tag words) g e tt
given-sound given record_field.Sex words g dates e =
    then-is (or_none sex_in words) (λ s. Unit {0}) (λ s. Ok (correction.Value (of_field.Sex s))) IsSoundGiven g
    (λ s h. tt)
    (λ s h same. is-given (correction.Value (of_field.Sex s)) g same tt) e
given-sound given record_field.Date words g dates e =
    is-given (correction.Value (of_field.Date (given words))) g e (dates words)
given-sound given record_field.Place words g dates e =
    then-is (or_none number_in words) (WhereSome IsNumber) (λ n. Ok (correction.Value (of_field.Place n)))
    IsSoundGiven g (number-or-none words)
    (λ n h same. is-given (correction.Value (of_field.Place n)) g same h) e
given-sound given record_field.Repository words g dates e =
    then-is (or_none number_in words) (WhereSome IsNumber) (λ n. Ok (correction.Value (of_field.Repository n)))
    IsSoundGiven g (number-or-none words)
    (λ n h same. is-given (correction.Value (of_field.Repository n)) g same h) e
given-sound given record_field.Quality words g dates e =
    then-is (or_none quality_in words) (λ q. Unit {0}) (λ q. Ok (correction.Value (of_field.Quality q))) IsSoundGiven g
    (λ q h. tt)
    (λ q h same. is-given (correction.Value (of_field.Quality q)) g same tt) e
given-sound given record_field.Item words g dates e =
    then-is (item_in words) (λ i. Unit {0}) (λ i. Ok (correction.Value (of_field.Item i))) IsSoundGiven g (λ i h. tt)
    (λ i h same. is-given (correction.Value (of_field.Item i)) g same tt) e
given-sound given (record_field.Text f) words g dates e = is-given (correction.Value (of_field.Text f words)) g e tt

-- ---- rows
then-sound : {A : Type 0} (r : Result A RefusalKind) (P : A → Type 0) (f : A → Result RowCommand RefusalKind)
    (c : RowCommand)
    → ((a : A) → r ≡ Ok a → P a) → ((a : A) → P a → f a ≡ Ok c → IsSoundRow c) → and_then r f ≡ Ok c → IsSoundRow c
then-sound r P f c h k e = then-is r P f IsSoundRow c h k e

is-that : (d c : RowCommand) → ◌≡◌ {A = Result RowCommand RefusalKind} (Ok d) (Ok c) → IsSoundRow d → IsSoundRow c
is-that d c e h = subst IsSoundRow (ok-is d c e) h

fields-sound : (given : List ℕ → Option GivenDate) (v : Verb) (fields : List (List ℕ)) (c : RowCommand)
    → ((words : List ℕ) → WhereSome IsDate (given words)) → read_fields given v fields ≡ Ok c → IsSoundRow c
fields-sound given verb.Person (name ∷ sex ∷ []) c dates e =
    then-sound (or_none sex_in sex) (λ s. Unit {0}) (λ s. Ok (row_command.Person name s)) c (λ s h. tt)
    (λ s h. λ same. is-that (row_command.Person name s) c same tt) e
fields-sound given verb.Name (person ∷ name ∷ []) c dates e =
    then-sound (number_in person) IsNumber (λ p. Ok (row_command.Name p name)) c (number-in person)
    (λ p h same. is-that (row_command.Name p name) c same h) e
fields-sound given verb.Sex (person ∷ sex ∷ []) c dates e =
    then-sound (number_in person) IsNumber (λ p. and_then (sex_in sex) (λ s. Ok (row_command.Sex p s))) c
    (number-in person)
    (λ p h. then-sound (sex_in sex) (λ s. Unit {0}) (λ s. Ok (row_command.Sex p s)) c (λ s i. tt)
    (λ s i same. is-that (row_command.Sex p s) c same h)) e
fields-sound given verb.Family (husband ∷ wife ∷ []) c dates e =
    then-sound (or_none number_in husband) (WhereSome IsNumber)
    (λ h. and_then (or_none number_in wife) (λ w. Ok (row_command.Family h w))) c (number-or-none husband)
    (λ h x. then-sound (or_none number_in wife) (WhereSome IsNumber) (λ w. Ok (row_command.Family h w)) c
    (number-or-none wife)
    (λ w y same. is-that (row_command.Family h w) c same (x, y))) e
fields-sound given verb.Child (family ∷ person ∷ []) c dates e =
    then-sound (number_in family) IsNumber (λ f. and_then (number_in person) (λ p. Ok (row_command.Child f p))) c
    (number-in family)
    (λ f x. then-sound (number_in person) IsNumber (λ p. Ok (row_command.Child f p)) c (number-in person)
    (λ p y same. is-that (row_command.Child f p) c same (x, y))) e
fields-sound given verb.Event (owner ∷ tag ∷ value ∷ date ∷ place ∷ []) c dates e =
    then-sound (number_in owner) IsNumber
    (λ o. and_then (or_none number_in place) (λ p. Ok (row_command.Event o tag value (given date) p))) c
    (number-in owner)
    (λ o x. then-sound (or_none number_in place) (WhereSome IsNumber)
    (λ p. Ok (row_command.Event o tag value (given date) p)) c (number-or-none place)
    (λ p y same. is-that (row_command.Event o tag value (given date) p) c same (x, dates date, y))) e
fields-sound given verb.Amend (event ∷ value ∷ date ∷ place ∷ []) c dates e =
    then-sound (number_in event) IsNumber
    (λ v. and_then (or_none number_in place) (λ p. Ok (row_command.Amend v value (given date) p))) c
    (number-in event)
    (λ v x. then-sound (or_none number_in place) (WhereSome IsNumber)
    (λ p. Ok (row_command.Amend v value (given date) p)) c (number-or-none place)
    (λ p y same. is-that (row_command.Amend v value (given date) p) c same (x, dates date, y))) e
fields-sound given verb.Participant (event ∷ person ∷ role ∷ []) c dates e =
    then-sound (number_in event) IsNumber
    (λ v. and_then (number_in person) (λ p. Ok (row_command.Participant v p role))) c (number-in event)
    (λ v x. then-sound (number_in person) IsNumber (λ p. Ok (row_command.Participant v p role)) c (number-in person)
    (λ p y same. is-that (row_command.Participant v p role) c same (x, y))) e
fields-sound given verb.Place (name ∷ parent ∷ []) c dates e =
    then-sound (or_none number_in parent) (WhereSome IsNumber) (λ p. Ok (row_command.Place name p)) c
    (number-or-none parent)
    (λ p x same. is-that (row_command.Place name p) c same x) e
fields-sound given verb.Repo (name ∷ []) c dates e = is-that (row_command.Repo name) c e tt
fields-sound given verb.Source (title ∷ author ∷ publisher ∷ repo ∷ call_number ∷ []) c dates e =
    then-sound (or_none number_in repo) (WhereSome IsNumber)
    (λ r. Ok (row_command.Source title author publisher r call_number)) c (number-or-none repo)
    (λ r x same. is-that (row_command.Source title author publisher r call_number) c same x) e
fields-sound given verb.Citation (owner ∷ source ∷ page ∷ quality ∷ []) c dates e =
    then-sound (number_in owner) IsNumber
    (λ o. and_then (number_in source)
    (λ s. and_then (or_none quality_in quality) (λ q. Ok (row_command.Citation o s page q)))) c (number-in owner)
    (λ o x. then-sound (number_in source) IsNumber
    (λ s. and_then (or_none quality_in quality) (λ q. Ok (row_command.Citation o s page q))) c (number-in source)
    (λ s y. then-sound (or_none quality_in quality) (λ q. Unit {0})
    (λ q. Ok (row_command.Citation o s page q)) c (λ q i. tt)
    (λ q i same. is-that (row_command.Citation o s page q) c same (x, y)))) e
fields-sound given verb.Entry (source ∷ fields) c dates e =
    then-sound (read_entry given fields) IsSoundEntry
    (λ r. and_then (number_in source) (λ s. Ok (row_command.Entry s r))) c (λ r. entry-sound given fields r dates)
    (λ r x. then-sound (number_in source) IsNumber (λ s. Ok (row_command.Entry s r)) c (number-in source)
    (λ s y same. is-that (row_command.Entry s r) c same (y, x))) e
fields-sound given verb.Link (entry ∷ mention ∷ person ∷ reason ∷ []) c dates e =
    then-sound (number_in entry) IsNumber
    (λ r. and_then (number_in mention) (λ m. and_then (number_in person) (λ p. Ok (row_command.Link r m p reason))))
    c (number-in entry)
    (λ r x. then-sound (number_in mention) IsNumber
    (λ m. and_then (number_in person) (λ p. Ok (row_command.Link r m p reason))) c (number-in mention)
    (λ m y. then-sound (number_in person) IsNumber (λ p. Ok (row_command.Link r m p reason)) c (number-in person)
    (λ p z same. is-that (row_command.Link r m p reason) c same (x, y, z)))) e
fields-sound given verb.Unlink (entry ∷ mention ∷ []) c dates e =
    then-sound (number_in entry) IsNumber (λ r. and_then (number_in mention) (λ m. Ok (row_command.Unlink r m))) c
    (number-in entry)
    (λ r x. then-sound (number_in mention) IsNumber (λ m. Ok (row_command.Unlink r m)) c (number-in mention)
    (λ m y same. is-that (row_command.Unlink r m) c same (x, y))) e
fields-sound given verb.Merge (keep ∷ gone ∷ []) c dates e =
    then-sound (number_in keep) IsNumber (λ k. and_then (number_in gone) (λ g. Ok (row_command.Merge k g))) c
    (number-in keep)
    (λ k x. then-sound (number_in gone) IsNumber (λ g. Ok (row_command.Merge k g)) c (number-in gone)
    (λ g y same. is-that (row_command.Merge k g) c same (x, y))) e
fields-sound given verb.Undo (slip ∷ []) c dates e =
    then-sound (number_in slip) IsNumber (λ n. Ok (row_command.Undo n)) c (number-in slip)
    (λ n h same. is-that (row_command.Undo n) c same h) e
fields-sound given verb.Remove (number ∷ []) c dates e =
    then-sound (number_in number) IsNumber (λ n. Ok (row_command.Remove n)) c (number-in number)
    (λ n h same. is-that (row_command.Remove n) c same h) e
fields-sound given verb.Partner (family ∷ role ∷ person ∷ []) c dates e =
    then-sound (number_in family) IsNumber
    (λ f. and_then (partnership_in role) (λ r. and_then (number_in person) (λ p. Ok (row_command.Partner f r p)))) c
    (number-in family)
    (λ f x. then-sound (partnership_in role) (λ r. Unit {0})
    (λ r. and_then (number_in person) (λ p. Ok (row_command.Partner f r p))) c (λ r i. tt)
    (λ r i. then-sound (number_in person) IsNumber (λ p. Ok (row_command.Partner f r p)) c (number-in person)
    (λ p y same. is-that (row_command.Partner f r p) c same (x, y)))) e
fields-sound given verb.Unpartner (family ∷ person ∷ []) c dates e =
    then-sound (number_in family) IsNumber (λ n. and_then (number_in person) (λ k. Ok (row_command.Unpartner n k))) c
    (number-in family)
    (λ n x. then-sound (number_in person) IsNumber (λ k. Ok (row_command.Unpartner n k)) c (number-in person)
    (λ k y same. is-that (row_command.Unpartner n k) c same (x, y))) e
fields-sound given verb.Unchild (family ∷ person ∷ []) c dates e =
    then-sound (number_in family) IsNumber (λ n. and_then (number_in person) (λ k. Ok (row_command.Unchild n k))) c
    (number-in family)
    (λ n x. then-sound (number_in person) IsNumber (λ k. Ok (row_command.Unchild n k)) c (number-in person)
    (λ k y same. is-that (row_command.Unchild n k) c same (x, y))) e
fields-sound given verb.Unparticipant (event ∷ place ∷ []) c dates e =
    then-sound (number_in event) IsNumber (λ n. and_then (number_in place) (λ k. Ok (row_command.Unparticipant n k))) c
    (number-in event)
    (λ n x. then-sound (number_in place) IsNumber (λ k. Ok (row_command.Unparticipant n k)) c (number-in place)
    (λ k y same. is-that (row_command.Unparticipant n k) c same (x, y))) e
fields-sound given verb.Correct (number ∷ word ∷ words ∷ []) c dates e =
    then-sound (number_in number) IsNumber
    (λ n. and_then (field_in word) (λ f. and_then (given_in given f words) (λ g. Ok (row_command.Correct n g)))) c
    (number-in number)
    (λ n x. then-sound (field_in word) (λ f. Unit {0})
    (λ f. and_then (given_in given f words) (λ g. Ok (row_command.Correct n g))) c (λ f i. tt)
    (λ f i. then-sound (given_in given f words) IsSoundGiven (λ g. Ok (row_command.Correct n g)) c
    (λ g. given-sound given f words g dates)
    (λ g y same. is-that (row_command.Correct n g) c same (x, y)))) e
fields-sound given _ _ c dates e = absurd cc

row-sound : (given : List ℕ → Option GivenDate) (row : List (List ℕ)) (c : RowCommand)
    → ((words : List ℕ) → WhereSome IsDate (given words)) → read_row given row ≡ Ok c → IsSoundRow c
row-sound given [] c dates e = absurd cc
row-sound given (word ∷ fields) c dates e =
    then-sound (ok_or UnknownVerb (verb_of word)) (λ v. Unit {0}) (λ v. read_fields given v fields) c (λ v h. tt)
    (λ v h same. fields-sound given v fields c dates same) e

pub read_sound : (row : List (List ℕ)) (c : RowCommand) → Reads row (Ok c) → IsSoundRow c
read_sound row c x = row-sound x.0 row c (λ words. date-sound words (x.0 words) (x.1 words)) (sym x.2)

pub entry_sound : (row : List (List ℕ)) (e : EntryRow) → ReadsEntry row (Ok e) → IsSoundEntry e
entry_sound row e x = entry-sound x.0 row e (λ words. date-sound words (x.0 words) (x.1 words)) (sym x.2)

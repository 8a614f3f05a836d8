-- What is asked for fits the words: a day and a kind of sheet are there where they have to be.
use Rattle.std.proofs.Common.{
  ◌≡◌,
  ◌&&◌,
  ◌||◌,
  Bool,
  true,
  false,
  List,
  [],
  Option,
  Some,
  None,
  Result,
  Ok,
  Err,
  ap,
  codes,
  is_some,
  ℕ,
  option_map,
  refl,
  subst,
  sym,
}
use Rattle.std.specs.Option.{option_map_or}
use Rattle.std.specs.Prelude.{IfOk, IfSome, IsSome, if◌then◌else◌, not, unwrap_or}
use Rattle.clap.specs.Words.{Row, Text, fault_of, subcommand_of}
use Rattle.command_line.specs.Asking.{
  Asks,
  HasForm,
  HasPages,
  HasWords,
  IsMeant,
  IsTaken,
  are_entries_fit,
  are_pages_fit,
  command_named,
  given_in,
  is_batch_fit,
  is_checked,
  is_fit,
  is_form_fit,
  is_listed,
  is_meant,
  is_table,
  is_table_fit,
  name_of,
  word_in,
}
use Rattle.command_line.specs.Meanings.{is_number, number_word, order_named, records_named, set_named}
use Rattle.command_line.specs.Commands.{program}
use Rattle.command_line.specs.declared.tasks.Asked.{Asked}
use Rattle.command_line.specs.declared.tasks.Asked.TheVariants as asked
use Rattle.command_line.specs.declared.tasks.ListKind.{ListKind}
use Rattle.command_line.specs.declared.tasks.Refused.{Refused}
use Rattle.command_line.specs.declared.tasks.RoomPages.{RoomPages}
use Rattle.command_line.specs.declared.tasks.RoomPages.TheVariants.{Html, Plain}
use Rattle.command_line.specs.declared.tasks.TableWords.{TableWords}

at_name : (found : Option (Text × List Row)) (n : Text) → option_map (λ f. f.0) found ≡ Some n
    → (rows : List Row) × (found ≡ Some (n, rows))
at_name None n e = absurd cc
at_name (Some f) n e =
    (f.1, ap (λ (x : Text). Some (x, f.1)) (ap (λ (o : Option Text). unwrap_or o []) e))

-- what holds of a command of a name with any rows that it has the words of, holds of what was found
fit_by : (a : Asked) (found : Option (Text × List Row)) (n : Text) → option_map (λ f. f.0) found ≡ Some n
    → HasWords found a → ((rows : List Row) → HasWords (Some (n, rows)) a → is_fit (Some (n, rows)) ≡ true)
    → is_fit found ≡ true
fit_by a found n e has all =
    let p = at_name found n e in
    subst (λ f. is_fit f ≡ true) (sym p.1) (all p.0 (subst (λ f. HasWords f a) p.1 has))

both_there : {A B : Type 0} (o : Option A) (p : Option B) (a : A) (b : B) → o ≡ Some a → p ≡ Some b
    → (is_some o && is_some p) ≡ true
both_there o p a b e f = rw (e, f) refl

there : {A : Type 0} (o : Option A) (a : A) → o ≡ Some a → is_some o ≡ true
there o a e = rw e refl

day_there : {A B : Type 0} (b : Bool) (o : Option A) (p : Option B) (a : A) → b ≡ true → o ≡ Some a
    → (if b then is_some o else not (is_some p)) ≡ true
day_there b o p a is e = rw (is, e) refl

none_there : {A B : Type 0} (b : Bool) (o : Option A) (p : Option B) → b ≡ false → p ≡ None
    → (if b then is_some o else not (is_some p)) ≡ true
none_there b o p is e = rw (is, e) refl

meant_there : {A : Type 0} (meaning : Text → Option A) (word : Option Text) (value : Option A)
    → IsMeant meaning word value → is_meant meaning word ≡ true
meant_there meaning None value e = refl
meant_there meaning (Some w) None e = absurd cc
meant_there {A} meaning (Some w) (Some v) e = ap (λ (o : Option (Option A)). option_map_or is_some o true) e

both_true : (a b : Bool) → a ≡ true → b ≡ true → (a && b) ≡ true
both_true a b e f = rw (e, f) refl

list_there : (o : Option ListKind) (kind : ListKind) (has : Bool) → o ≡ Some kind → is_listed kind has ≡ true
    → option_map_or (λ k. is_listed k has) o false ≡ true
list_there o kind has e listed = rw e listed

batch_there : {A B C : Type 0} (table checked making fits : Bool) (token : Option A) (dates : Option B) (set : Option C)
    (t : A) → table ≡ false → checked ≡ false → making ≡ false → token ≡ Some t → dates ≡ None → set ≡ None
    → (if table then fits
    else (is_some token && (not checked && (not making && (not (is_some dates) && not (is_some set)))))) ≡ true
batch_there table checked making fits token dates set t f g m e none no_set = rw (f, g, m, e, none, no_set) refl

form_there : (found : Option (Text × List Row)) (form : TableWords) → HasForm found form → is_form_fit found ≡ true
form_there found form has =
    both_true _ _ (meant_there order_named _ form.order has.0) (meant_there set_named _ form.set has.1)

table_there : {A : Type 0} (table checked fits meant : Bool) (token : Option A) → table ≡ true → checked ≡ true
    → meant ≡ true → (if table then ((checked || is_some token) && meant) else fits) ≡ true
table_there table checked fits meant token t is fit = rw (t, is, fit) refl

tabled_there : {A : Type 0} (table checked fits meant : Bool) (token : Option A) (given : A) → table ≡ true
    → checked ≡ false → token ≡ Some given → meant ≡ true
    → (if table then ((checked || is_some token) && meant) else fits) ≡ true
tabled_there table checked fits meant token given t none is fit = rw (t, none, is, fit) refl

then_of : (test first other : Bool) → test ≡ true → (if test then first else other) ≡ true → first ≡ true
then_of true first other is e = e
then_of false first other is e = absurd cc

right_of : (left right : Bool) → (left && right) ≡ true → right ≡ true
right_of true right e = e
right_of false right e = absurd cc

left_of : (left right : Bool) → (left && right) ≡ true → left ≡ true
left_of true right e = refl
left_of false right e = absurd cc

-- where the words of entries are fit the word of their source gives a number
pub source_fits : (found : Option (Text × List Row)) → are_entries_fit found ≡ true
    → is_number (word_in found (codes "source")) ≡ true
source_fits found fit = left_of (is_number (word_in found (codes "source")))
    (if is_table found then is_table_fit found else is_batch_fit found) fit

-- where the words of a table are fit it is read in a way that is one
pub form_fits : (found : Option (Text × List Row)) → is_table found ≡ true → are_entries_fit found ≡ true
    → is_form_fit found ≡ true
form_fits found is fit =
    right_of (is_checked found || is_some (given_in found (codes "token"))) (is_form_fit found)
    (then_of (is_table found) (is_table_fit found) (is_batch_fit found) is
    (right_of (is_number (word_in found (codes "source")))
    (if is_table found then is_table_fit found else is_batch_fit found) fit))

pages_there : (found : Option (Text × List Row)) (pages : RoomPages) → HasPages found pages
    → are_pages_fit found ≡ true
pages_there found Plain has = rw (has.0, has.1) refl
pages_there found (Html host) has = rw has.0 refl

-- what is asked for fits the command that it has the name and the words of
fit_of : (a : Asked) (found : Option (Text × List Row))
    → IfSome (name_of a) (λ n. option_map (λ f. f.0) found ≡ Some n) → HasWords found a → IsSome (name_of a)
    → is_fit found ≡ true
fit_of asked.Norm found e has some = fit_by asked.Norm found (codes "norm") e has (λ rows words. refl)
fit_of asked.Check found e has some = fit_by asked.Check found (codes "check") e has (λ rows words. refl)
fit_of asked.CheckAll found e has some = fit_by asked.CheckAll found (codes "check") e has (λ rows words. refl)
fit_of (asked.Convert from) found e has some =
    fit_by (asked.Convert from) found (codes "convert") e has (λ rows words. meant_there set_named _ from words)
fit_of (asked.Init file society) found e has some =
    fit_by (asked.Init file society) found (codes "init") e has (λ rows words. refl)
fit_of (asked.Apply file stops answers) found e has some =
    fit_by (asked.Apply file stops answers) found (codes "apply") e has (λ rows words. refl)
fit_of (asked.Entries file source token) found e has some =
    fit_by (asked.Entries file source token) found (codes "entries") e has
    (λ rows words. both_true _ _ (there _ source words.1)
    (batch_there _ _ _ _ _ _ _ token.now words.3 words.4 words.7 words.2 words.5 words.6))
fit_of (asked.EnterTable file source form token) found e has some =
    fit_by (asked.EnterTable file source form token) found (codes "entries") e has
    (λ rows words. both_true _ _ (there _ source words.1)
    (tabled_there _ _ (is_batch_fit (Some (codes "entries", rows))) _ _ token.now words.2 words.4 words.5
    (form_there (Some (codes "entries", rows)) form words.3)))
fit_of (asked.CheckTable file source form) found e has some =
    fit_by (asked.CheckTable file source form) found (codes "entries") e has
    (λ rows words. both_true _ _ (there _ source words.1)
    (table_there _ _ (is_batch_fit (Some (codes "entries", rows))) _ _ words.2 words.4
    (form_there (Some (codes "entries", rows)) form words.3)))
fit_of (asked.Import file token progress report) found e has some =
    fit_by (asked.Import file token progress report) found (codes "import") e has (λ rows words. refl)
fit_of (asked.Export file) found e has some =
    fit_by (asked.Export file) found (codes "export") e has (λ rows words. none_there _ _ _ words.1 words.2)
fit_of (asked.ExportPublic file today) found e has some =
    fit_by (asked.ExportPublic file today) found (codes "export") e has
    (λ rows words. day_there _ _ _ today words.1 words.2)
fit_of (asked.ExportPlain file) found e has some =
    fit_by (asked.ExportPlain file) found (codes "export") e has (λ rows words. none_there _ _ _ words.1 words.2)
fit_of (asked.ExportPublicPlain file today) found e has some =
    fit_by (asked.ExportPublicPlain file today) found (codes "export") e has
    (λ rows words. day_there _ _ _ today words.1 words.2)
fit_of (asked.Sheet file kind number generations today) found e has some =
    fit_by (asked.Sheet file kind number generations today) found (codes "sheet") e has
    (λ rows words. both_there _ _ kind today words.1 words.5)
fit_of (asked.Serve file port count today pages) found e has some =
    fit_by (asked.Serve file port count today pages) found (codes "serve") e has
    (λ rows words. both_true _ _ (there _ today words.3) (pages_there (Some (codes "serve", rows)) pages words.4))
fit_of (asked.Audit file) found e has some =
    fit_by (asked.Audit file) found (codes "audit") e has (λ rows words. refl)
fit_of (asked.Days file first last told) found e has some =
    fit_by (asked.Days file first last told) found (codes "days") e has
    (λ rows words. both_there _ _ first last words.1 words.2)
fit_of (asked.List file kind source after limit csv) found e has some =
    fit_by (asked.List file kind source after limit csv) found (codes "list") e has
    (λ rows words. both_true _ _ (list_there _ kind _ words.1 words.3) (meant_there number_word _ source words.2))
fit_of (asked.Find file names kind limit csv) found e has some =
    fit_by (asked.Find file names kind limit csv) found (codes "find") e has
    (λ rows words. both_true _ _ words.2 (meant_there records_named _ kind words.3))
fit_of (asked.Show file numbers) found e has some =
    fit_by (asked.Show file numbers) found (codes "show") e has (λ rows words. words.2)
fit_of (asked.History file number) found e has some =
    fit_by (asked.History file number) found (codes "history") e has (λ rows words. refl)
fit_of (asked.Review file csv) found e has some =
    fit_by (asked.Review file csv) found (codes "review") e has (λ rows words. refl)
fit_of (asked.Completions text) found e has some =
    fit_by (asked.Completions text) found (codes "completions") e has (λ rows words. words)
fit_of (asked.Text text) found e has some = absurd cc

-- words in which the grammar finds no fault, and that have the name and the words of what is asked for, ask for it
asks_of : (o : Option Text) (words : List Text) → fault_of program words ≡ []
    → IfSome o (λ n. command_named words ≡ Some n) → (IsSome o → is_fit (subcommand_of program words) ≡ true)
    → IfSome o (λ name. IsTaken words × (command_named words ≡ Some name))
asks_of None words none e fit = tt
asks_of (Some name) words none e fit = ((none, fit refl), e)

pub asks_if : (r : Result Asked Refused) (words : List Text) → fault_of program words ≡ []
    → IfOk r (λ a. IfSome (name_of a) (λ n. command_named words ≡ Some n))
    → IfOk r (HasWords (subcommand_of program words)) → IfOk r (Asks words)
asks_if (Ok a) words none named has =
    (asks_of (name_of a) words none named (fit_of a (subcommand_of program words) named has), has)
asks_if (Err e) words none named has = tt

-- No two wordings have the same bytes.
use Rattle.std.specs.Prelude.{
  map,
  ◌≡◌,
  ◌≢◌,
  ◌≤◌,
  ◌++◌,
  ℕ,
  List,
  [],
  ◌∷◌,
  true,
  false,
  codes,
  Option,
  Some,
  None,
  refl,
  decimal,
}
use Rattle.std.specs.Char.{is_ascii_digit}
use Rattle.std.specs.List.{flat_map, list_all, list_any}
use Rattle.std.proofs.Common.{ap, sym, ◌∙◌, subst, arith, append_assoc}
use Rattle.std.proofs.lemmas.Bool.Decides.{nat_tests}
use Rattle.std.proofs.lemmas.Fmt.{decimal_injective}
use Rattle.std.proofs.lemmas.Bool.{and_parts, or_from}
use Rattle.std.proofs.lemmas.List.{append-nil}
use Rattle.csv.specs.Machine.{Read, next_record}
use Rattle.csv.specs.Reading.{default_config}
use Rattle.csv.specs.Writing.{default_writer, fields_text, is_blank, needs_byte, row_text}
use Rattle.csv.specs.declared.parser.State.TheVariants as st
use Rattle.csv.proofs.RoundTrip.{read-write}
use Rattle.record_fields.specs.Words.{entry_kind_word}
use Rattle.gedcom_tree.specs.Text.{text}
use Rattle.commands.specs.Bytes.{
  Wording,
  Row,
  Batch,
  Import,
  bytes_of,
  entry_fields,
  mention_fields,
  or_empty,
  row_of,
  spelt,
  wording_of,
  written,
}
use Rattle.commands.specs.Sound.{BeginsWithVerb, HaveFields, IsOneCommand, IsSound, IsSoundWording}
use Rattle.commands.specs.Verbs.{verb_of, verb_word}
use Rattle.commands.specs.declared.command.Command.{Command}
use Rattle.commands.specs.declared.command.Command.TheVariants as command
use Rattle.commands.specs.declared.entry_row.EntryRow.{EntryRow}
use Rattle.commands.specs.declared.row_command.RowCommand.{RowCommand}
use Rattle.commands.specs.declared.row_command.RowCommand.TheVariants as row_command
use Rattle.commands.specs.declared.verb.Verb.TheVariants as verb
use Rattle.commands.proofs.Again.{one_batch, one_row, verb_back}
use Rattle.commands.proofs.Forests.{one_forest}
use Rattle.commands.proofs.Numbers.{decimal_digits}

-- ---- digits need no quotes
plain-digit : (c : ℕ) → is_ascii_digit c ≡ true → needs_byte default_writer c ≡ false
plain-digit c h = grind (arith, nat_tests)

plain-digits : (ds : List ℕ) → list_all is_ascii_digit ds ≡ true → list_any (needs_byte default_writer) ds ≡ false
plain-digits [] h = refl
plain-digits (c ∷ cs) h =
    or_from (needs_byte default_writer c) (list_any (needs_byte default_writer) cs)
    (plain-digit c (and_parts (is_ascii_digit c) (list_all is_ascii_digit cs) h).0)
    (plain-digits cs (and_parts (is_ascii_digit c) (list_all is_ascii_digit cs) h).1)

-- `entries,`, digits and LF are a row
plain-row : (word ds tail : List ℕ) → list_any (needs_byte default_writer) word ≡ false
    → list_any (needs_byte default_writer) ds ≡ false
    → row_text default_writer (word ∷ ds ∷ []) ++ tail ≡ word ++ 44 ∷ ds ++ 10 ∷ tail
unfolding is_blank fields_text
plain-row word ds tail w d = rw (w, d) (simp append_assoc)

head-row : (source : ℕ) (tail : List ℕ) → source ≤ 4294967295
    → row_text default_writer (codes "entries" ∷ decimal source ∷ []) ++ tail ≡ codes "entries,"
    ++ decimal source ++ 10 ∷ tail
head-row source tail h = plain-row (codes "entries") (decimal source) tail refl
    (plain-digits (decimal source) (decimal_digits source h))

import-row : (tail : List ℕ) → row_text default_writer (codes "import" ∷ []) ++ tail ≡ codes "import" ++ 10 ∷ tail
unfolding is_blank fields_text
import-row tail = refl

-- ---- what bytes are read as
-- the row that the bytes begin with, and what stands after it
abbrev first-row : Wording → List (List ℕ)
first-row (Row fields) = fields
first-row (Batch source rows) = codes "entries" ∷ decimal source ∷ []
first-row (Import text) = codes "import" ∷ []

abbrev behind : Wording → List ℕ
behind (Row fields) = []
behind (Batch source rows) = flat_map (row_text default_writer) rows
behind (Import text) = text

row-read : (row : List (List ℕ)) (rest : List ℕ) → row ≢ []
    → next_record default_config st.StartRecord [] [] (row_text default_writer row ++ rest) ≡ Some
    (row, st.StartRecord, rest)
row-read [] rest some = absurd (some refl)
row-read (field ∷ fields) rest some = read-write (field ∷ fields) rest

some-cons : {A : Type 0} (a : A) (more : List A) → a ∷ more ≢ []
some-cons a more e = absurd cc

some-row : (row : List (List ℕ)) → BeginsWithVerb row → row ≢ []
some-row [] h = absurd h
some-row (word ∷ fields) h = some-cons word fields

-- the bytes are the first row and what stands after it
begins : (w : Wording) → IsSoundWording w → row_text default_writer (first-row w) ++ behind w ≡ written w
begins (Row fields) h = append-nil (row_text default_writer fields)
begins (Batch source rows) h = head-row source (flat_map (row_text default_writer) rows) h.0
begins (Import text) h = import-row text

some-first : (w : Wording) → IsSoundWording w → first-row w ≢ []
some-first (Row fields) h = some-row fields h
some-first (Batch source rows) h = some-cons (codes "entries") (decimal source ∷ [])
some-first (Import text) h = some-cons (codes "import") []

is-read : (w : Wording) → IsSoundWording w
    → next_record default_config st.StartRecord [] [] (written w) ≡ Some (first-row w, st.StartRecord, behind w)
is-read w h =
    ap (λ (bytes : List ℕ). next_record default_config st.StartRecord [] [] bytes) (sym (begins w h))
    ∙ row-read (first-row w) (behind w) (some-first w h)

-- two readings of the same bytes
abbrev row-in : Option Read → List (List ℕ)
row-in None = []
row-in (Some p) = p.0

abbrev rest-in : Option Read → List ℕ
rest-in None = []
rest-in (Some p) = p.2

same-first : (a b : Wording) → IsSoundWording a → IsSoundWording b → written a ≡ written b → first-row a ≡ first-row b
same-first a b x y e =
    ap row-in (sym (is-read a x))
    ∙ ap (λ (bytes : List ℕ). row-in (next_record default_config st.StartRecord [] [] bytes)) e
    ∙ ap row-in (is-read b y)

same-behind : (a b : Wording) → IsSoundWording a → IsSoundWording b → written a ≡ written b → behind a ≡ behind b
same-behind a b x y e =
    ap rest-in (sym (is-read a x))
    ∙ ap (λ (bytes : List ℕ). rest-in (next_record default_config st.StartRecord [] [] bytes)) e
    ∙ ap rest-in (is-read b y)

-- ---- the rows of a batch
nothing-read : next_record default_config st.StartRecord [] [] [] ≡ None
unfolding next_record
nothing-read = refl

no-row : (row : List (List ℕ)) (rest : List ℕ) → row ≢ [] → [] ≢ row_text default_writer row ++ rest
no-row row rest some e =
    let found = row-read row rest some in
    let lost : next_record default_config st.StartRecord [] [] (row_text default_writer row ++ rest) ≡ None =
    subst (λ (bytes : List ℕ). next_record default_config st.StartRecord [] [] bytes ≡ None) e nothing-read in
    absurd cc

same-rows : (rows more : List (List (List ℕ))) → HaveFields rows → HaveFields more
    → flat_map (row_text default_writer) rows ≡ flat_map (row_text default_writer) more → rows ≡ more
same-rows [] [] x y e = refl
same-rows [] (s ∷ more) x y e = absurd (no-row s (flat_map (row_text default_writer) more) y.0 e)
same-rows (r ∷ rows) [] x y e = absurd (no-row r (flat_map (row_text default_writer) rows) x.0 (sym e))
same-rows (r ∷ rows) (s ∷ more) x y e =
    let left = row-read r (flat_map (row_text default_writer) rows) x.0 in
    let right = row-read s (flat_map (row_text default_writer) more) y.0 in
    let row : r ≡ s =
    ap row-in (sym left) ∙ ap (λ (bytes : List ℕ). row-in (next_record default_config st.StartRecord [] [] bytes)) e
    ∙ ap row-in right in
    let rest : flat_map (row_text default_writer) rows ≡ flat_map (row_text default_writer) more =
    ap rest-in (sym left) ∙ ap (λ (bytes : List ℕ). rest-in (next_record default_config st.StartRecord [] [] bytes)) e
    ∙ ap rest-in right in
    ap (λ (z : List (List ℕ)). z ∷ rows) row ∙ ap (λ (zs : List (List (List ℕ))). s ∷ zs)
    (same-rows rows more x.1 y.1 rest)

-- ---- no two wordings
-- a row of a verb begins with neither of the other words
not-entries : (row fields : List (List ℕ)) → BeginsWithVerb row → row ≢ codes "entries" ∷ fields
unfolding verb_of
not-entries [] fields h e = absurd h
not-entries (word ∷ more) fields h e =
    let none : verb_of (codes "entries") ≡ None = refl in
    let same : codes "entries" ≡ verb_word h.0 = let head : word ≡ codes "entries" = cc in sym head ∙ h.1 in
    let some : verb_of (codes "entries") ≡ Some h.0 = ap verb_of same ∙ verb_back h.0 in
    absurd cc

not-import : (row fields : List (List ℕ)) → BeginsWithVerb row → row ≢ codes "import" ∷ fields
unfolding verb_of
not-import [] fields h e = absurd h
not-import (word ∷ more) fields h e =
    let none : verb_of (codes "import") ≡ None = refl in
    let same : codes "import" ≡ verb_word h.0 = let head : word ≡ codes "import" = cc in sym head ∙ h.1 in
    let some : verb_of (codes "import") ≡ Some h.0 = ap verb_of same ∙ verb_back h.0 in
    absurd cc

entries-no-import : (a b : List (List ℕ)) → codes "entries" ∷ a ≢ codes "import" ∷ b
entries-no-import a b e = let words : codes "entries" ≡ codes "import" = cc in absurd cc

same-wording : (a b : Wording) → IsSoundWording a → IsSoundWording b → first-row a ≡ first-row b
    → behind a ≡ behind b → a ≡ b
same-wording (Row f) (Row g) x y e d = ap Row e
same-wording (Row f) (Batch t q) x y e d = absurd (not-entries f (decimal t ∷ []) x e)
same-wording (Row f) (Import t) x y e d = absurd (not-import f [] x e)
same-wording (Batch s r) (Row g) x y e d = absurd (not-entries g (decimal s ∷ []) y (sym e))
same-wording (Batch s r) (Batch t q) x y e d =
    let digits : decimal s ≡ decimal t = cc in
    let source : s ≡ t = decimal_injective s t (omega arith) (omega arith) digits in
    ap (λ (n : ℕ). Batch n r) source ∙ ap (Batch t) (same-rows r q x.1 y.1 d)
same-wording (Batch s r) (Import t) x y e d = absurd (entries-no-import (decimal s ∷ []) [] e)
same-wording (Import s) (Row g) x y e d = absurd (not-import g [] y (sym e))
same-wording (Import s) (Batch t q) x y e d = absurd (entries-no-import (decimal t ∷ []) [] (sym e))
same-wording (Import s) (Import t) x y e d = ap Import d

pub one_wording : (a b : Wording) → IsSoundWording a → IsSoundWording b → written a ≡ written b → a ≡ b
one_wording a b x y e = same-wording a b x y (same-first a b x y e) (same-behind a b x y e)

-- ---- no two commands
row-begins : (c : RowCommand) → BeginsWithVerb (row_of c)
row-begins (row_command.Person name sex) = (verb.Person, refl)
row-begins (row_command.Name person name) = (verb.Name, refl)
row-begins (row_command.Sex person sex) = (verb.Sex, refl)
row-begins (row_command.Family husband wife) = (verb.Family, refl)
row-begins (row_command.Child family person) = (verb.Child, refl)
row-begins (row_command.Event owner tag value date place) = (verb.Event, refl)
row-begins (row_command.Amend event value date place) = (verb.Amend, refl)
row-begins (row_command.Participant event person role) = (verb.Participant, refl)
row-begins (row_command.Place name parent) = (verb.Place, refl)
row-begins (row_command.Repo name) = (verb.Repo, refl)
row-begins (row_command.Source title author publisher repo call_number) = (verb.Source, refl)
row-begins (row_command.Citation owner source page quality) = (verb.Citation, refl)
row-begins (row_command.Entry source entry) = (verb.Entry, refl)
row-begins (row_command.Link entry mention person reason) = (verb.Link, refl)
row-begins (row_command.Unlink entry mention) = (verb.Unlink, refl)
row-begins (row_command.Merge keep gone) = (verb.Merge, refl)
row-begins (row_command.Undo slip) = (verb.Undo, refl)
row-begins (row_command.Remove number) = (verb.Remove, refl)
row-begins (row_command.Partner family partnership person) = (verb.Partner, refl)
row-begins (row_command.Unpartner family person) = (verb.Unpartner, refl)
row-begins (row_command.Unchild family person) = (verb.Unchild, refl)
row-begins (row_command.Unparticipant event place) = (verb.Unparticipant, refl)
row-begins (row_command.Correct number given) = (verb.Correct, refl)

some-fields : (rows : List EntryRow) → HaveFields (map entry_fields rows)
some-fields [] = tt
some-fields (e ∷ rows) = (
  some-cons (entry_kind_word e.kind) (e.page ∷ decimal e.item.number ∷ or_empty spelt e.date ∷ or_empty decimal e.place
      ∷ e.text ∷ mention_fields e.mentions),
  some-fields rows,
)

sound-wording : (c : Command) → IsSound c → IsSoundWording (wording_of c)
sound-wording (command.Row c) h = row-begins c
sound-wording (command.Entries source rows) h = (h.0.1, some-fields rows)
sound-wording (command.Import forest) h = tt

same-command : (c d : Command) → IsSound c → IsSound d → wording_of c ≡ wording_of d → IsOneCommand c d
same-command (command.Row c) (command.Row d) x y e = let rows : row_of c ≡ row_of d = cc in
    ap command.Row (one_row c d x y rows)
same-command (command.Row c) (command.Entries t q) x y e = absurd cc
same-command (command.Row c) (command.Import g) x y e = absurd cc
same-command (command.Entries s r) (command.Row d) x y e = absurd cc
same-command (command.Entries s r) (command.Import g) x y e = absurd cc
same-command (command.Import f) (command.Row d) x y e = absurd cc
same-command (command.Import f) (command.Entries t q) x y e = absurd cc
same-command (command.Import f) (command.Import g) x y e = let texts : text f ≡ text g = cc in
    one_forest f g x y texts
same-command (command.Entries s r) (command.Entries t q) x y e =
    let source : s ≡ t = cc in
    let rows : map entry_fields r ≡ map entry_fields q = cc in
    ap (λ (n : ℕ). command.Entries n r) source ∙ ap (command.Entries t) (one_batch r q x.1 y.1 rows)

pub one_command : (c d : Command) → IsSound c → IsSound d → bytes_of c ≡ bytes_of d → IsOneCommand c d
one_command c d x y e = same-command c d x y
    (one_wording (wording_of c) (wording_of d) (sound-wording c x) (sound-wording d y) e)

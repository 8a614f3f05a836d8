-- Rows are read as their definition says.
use Rattle.std.specs.Prelude.{◌≡◌, ℕ, List, ◌∷◌, Option, Some, None, Result, Ok, Err}
use Rattle.std.proofs.Common.{ap, sym, ◌∙◌}
use Rattle.record_text.specs.declared.refusal.RefusalKind.{RefusalKind}
use Rattle.record_text.specs.declared.refusal.RefusalKind.TheVariants.{UnknownVerb}
use Rattle.commands.specs.Dated.{given_of}
use Rattle.commands.specs.Rows.{Decided, Reads, ReadsEntry, and_then, ok_or, read_entry, read_fields, read_row}
use Rattle.commands.specs.Verbs.{verb_of}
use Rattle.commands.specs.declared.entry_row.EntryRow.{EntryRow}
use Rattle.commands.specs.declared.row_command.RowCommand.{RowCommand}
use Rattle.commands.specs.declared.verb.Verb.{Verb}
use Rattle.commands.proofs.Dated.{gives_of}

-- what is computed of a row is what it is read as
pub is_reading : (row : List (List ℕ)) (r : Result RowCommand RefusalKind) → r ≡ read_row given_of row → Reads row r
is_reading row r e = (given_of, gives_of, e)

by-verb : (word : List ℕ) (fields : List (List ℕ)) (o : Option Verb) → verb_of word ≡ o
    → read_row given_of (word ∷ fields) ≡ and_then (ok_or UnknownVerb o) (λ v. read_fields given_of v fields)
by-verb word fields o e = ap (λ (x : Option Verb). and_then (ok_or UnknownVerb x) (λ v. read_fields given_of v fields))
    e

pub read_by_verb : (word : List ℕ) (fields : List (List ℕ)) (v : Verb) (r : Result RowCommand RefusalKind)
    → Some v ≡ verb_of word
    → Decided r (λ x. x ≡ read_fields given_of v fields) → Decided r (Reads (word ∷ fields))
read_by_verb word fields v (Ok c) e h = is_reading (word ∷ fields) (Ok c)
    (h ∙ sym (by-verb word fields (Some v) (sym e)))
read_by_verb word fields v (Err k) e h = λ w. is_reading (word ∷ fields) (Err k)
    (h w ∙ sym (by-verb word fields (Some v) (sym e)))

pub read_unknown : (word : List ℕ) (fields : List (List ℕ)) → None ≡ verb_of word
    → Reads (word ∷ fields) (Err UnknownVerb)
read_unknown word fields e = is_reading (word ∷ fields) (Err UnknownVerb) (sym (by-verb word fields None (sym e)))

-- ---- rows of a batch
pub is_entry : (row : List (List ℕ)) (r : Result EntryRow RefusalKind) → r ≡ read_entry given_of row → ReadsEntry row r
is_entry row r e = (given_of, gives_of, e)

pub entry_read : (row : List (List ℕ)) (r : Result EntryRow RefusalKind) → Decided r (λ x. x ≡ read_entry given_of row)
    → Decided r (ReadsEntry row)
entry_read row (Ok entry) h = is_entry row (Ok entry) h
entry_read row (Err k) h = λ w. is_entry row (Err k) (h w)

-- ---- what is answered without memory
pub decided_is : {A : Type 0} (r x : Result A RefusalKind) → r ≡ x → Decided r (λ q. q ≡ x)
decided_is (Ok a) x e = e
decided_is (Err k) x e = λ w. e

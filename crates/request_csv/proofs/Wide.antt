-- A row of more fields than any may have is refused by the first of them as by all.
use Rattle.std.proofs.Common.{
  ◌≡◌,
  ◌∙◌,
  ◌+◌,
  ◌<◌,
  ◌∷◌,
  ◌&&◌,
  ℕ,
  false,
  List,
  [],
  length,
  take,
  Option,
  Some,
  None,
  Result,
  Err,
  ap,
  inl,
  inr,
  refl,
  sym,
  arith,
}
use Rattle.std.specs.Prelude.{nat_le, option_map}
use Rattle.std.proofs.lemmas.Bool.{cases_lt}
use Rattle.std.proofs.lemmas.Bool.Decides.{nat_tests}
use Rattle.std.proofs.lemmas.List.{take_all}
use Rattle.std.proofs.lemmas.Option.{same_Some}
use Rattle.record_text.specs.declared.refusal.RefusalKind.{RefusalKind}
use Rattle.record_text.specs.declared.refusal.RefusalKind.TheVariants.{FieldCount, UnknownVerb}
use Rattle.commands.specs.Given.{GivenDate}
use Rattle.commands.specs.Rows.{
  Reads,
  ReadsEntry,
  and_then,
  counted,
  mentions_in,
  ok_or,
  pairs,
  read_entry,
  read_fields,
}
use Rattle.commands.specs.Verbs.{verb_of}
use Rattle.commands.specs.declared.entry_row.EntryRow.{EntryRow}
use Rattle.commands.specs.declared.entry_row.GivenMention.{GivenMention}
use Rattle.commands.specs.declared.row_command.RowCommand.{RowCommand}
use Rattle.commands.specs.declared.verb.Verb.{Verb}
use Rattle.commands.specs.declared.verb.Verb.TheVariants as verb
use Rattle.request_csv.specs.Input.{Row, first_fields}
use Rattle.request_csv.proofs.Firsts.{reaches}

-- ---- mentions
-- half as many as their fields
halves : (fields : List (List ℕ)) (ms : List GivenMention) → pairs fields ≡ Some ms
    → length fields ≡ length ms + length ms
halves [] ms e = ap (λ (xs : List GivenMention). length xs + length xs) (same_Some _ _ e)
halves (role ∷ []) ms e = absurd cc
halves (role ∷ name ∷ more) ms e = by_rest (pairs more) (halves more) e
  where
    by_rest : (o : Option (List GivenMention)) → ((rest : List GivenMention) → o ≡ Some rest
        → length more ≡ length rest + length rest)
        → option_map (λ (rest : List GivenMention). record { role = role; name = name } ∷ rest) o ≡ Some ms
        → length (role ∷ name ∷ more) ≡ length ms + length ms
    by_rest None h e = absurd cc
    by_rest (Some rest) h e = omega (
      arith,
      h rest refl,
      ap length (same_Some (record { role = role; name = name } ∷ rest) ms e),
    )

no_count : (n : ℕ) → 100 < n → (nat_le 1 n && nat_le n 100) ≡ false
no_count n many = grind (arith, nat_tests)

counted_out : (ms : List GivenMention) → 100 < length ms → counted ms ≡ Err FieldCount
counted_out ms many = rw (no_count (length ms) many) refl

no_mentions : (fields : List (List ℕ)) → 200 < length fields → mentions_in fields ≡ Err FieldCount
no_mentions fields many = by_pairs (pairs fields) refl
  where
    by_pairs : (o : Option (List GivenMention)) → pairs fields ≡ o
        → ◌≡◌ {A = Result (List GivenMention) RefusalKind} (and_then (ok_or FieldCount o) counted) (Err FieldCount)
    by_pairs None e = refl
    by_pairs (Some ms) e = counted_out ms (omega (arith, many, halves fields ms e))

-- ---- rows
module _ (given : List ℕ → Option GivenDate) where
  no_entry : (fields : List (List ℕ)) → 206 < length fields → read_entry given fields ≡ Err FieldCount
  no_entry [] many = refl
  no_entry (a ∷ []) many = refl
  no_entry (a ∷ b ∷ []) many = refl
  no_entry (a ∷ b ∷ c ∷ []) many = refl
  no_entry (a ∷ b ∷ c ∷ d ∷ []) many = refl
  no_entry (a ∷ b ∷ c ∷ d ∷ e ∷ []) many = refl
  no_entry (a ∷ b ∷ c ∷ d ∷ e ∷ f ∷ fields) many = rw (no_mentions fields (omega (arith, many))) refl

  entry_by_first : (row : List (List ℕ)) → read_entry given (take 210 row) ≡ read_entry given row
  entry_by_first row = elim (cases_lt 210 (length row)) [
    | inl many ↦
        no_entry (take 210 row) (omega (arith, reaches 210 206 row (omega arith) (omega (arith, many))))
        ∙ sym (no_entry row (omega (arith, many)))
    | inr few ↦ ap (read_entry given) (take_all 210 row few)
  ]

  no_fields : (v : Verb) (a b c d e f : List ℕ) (more : List (List ℕ)) → 201 < length more
      → read_fields given v (a ∷ b ∷ c ∷ d ∷ e ∷ f ∷ more) ≡ Err FieldCount
  no_fields verb.Person a b c d e f more many = refl
  no_fields verb.Name a b c d e f more many = refl
  no_fields verb.Sex a b c d e f more many = refl
  no_fields verb.Family a b c d e f more many = refl
  no_fields verb.Child a b c d e f more many = refl
  no_fields verb.Event a b c d e f more many = refl
  no_fields verb.Amend a b c d e f more many = refl
  no_fields verb.Participant a b c d e f more many = refl
  no_fields verb.Place a b c d e f more many = refl
  no_fields verb.Repo a b c d e f more many = refl
  no_fields verb.Source a b c d e f more many = refl
  no_fields verb.Citation a b c d e f more many = refl
  no_fields verb.Entry a b c d e f more many =
      rw (no_entry (b ∷ c ∷ d ∷ e ∷ f ∷ more) (omega (arith, many))) refl
  no_fields verb.Link a b c d e f more many = refl
  no_fields verb.Unlink a b c d e f more many = refl
  no_fields verb.Merge a b c d e f more many = refl
  no_fields verb.Undo a b c d e f more many = refl
  no_fields verb.Remove a b c d e f more many = refl
  no_fields verb.Partner a b c d e f more many = refl
  no_fields verb.Unpartner a b c d e f more many = refl
  no_fields verb.Unchild a b c d e f more many = refl
  no_fields verb.Unparticipant a b c d e f more many = refl
  no_fields verb.Correct a b c d e f more many = refl

  too_many : (v : Verb) (fields : List (List ℕ)) → 207 < length fields → read_fields given v fields ≡ Err FieldCount
  too_many v [] many = absurd (omega (arith, many))
  too_many v (a ∷ []) many = absurd (omega (arith, many))
  too_many v (a ∷ b ∷ []) many = absurd (omega (arith, many))
  too_many v (a ∷ b ∷ c ∷ []) many = absurd (omega (arith, many))
  too_many v (a ∷ b ∷ c ∷ d ∷ []) many = absurd (omega (arith, many))
  too_many v (a ∷ b ∷ c ∷ d ∷ e ∷ []) many = absurd (omega (arith, many))
  too_many v (a ∷ b ∷ c ∷ d ∷ e ∷ f ∷ more) many = no_fields v a b c d e f more (omega (arith, many))

  command_by_first : (v : Verb) (fields : List (List ℕ))
      → read_fields given v (take 208 fields) ≡ read_fields given v fields
  command_by_first v fields = elim (cases_lt 208 (length fields)) [
    | inl many ↦
        too_many v (take 208 fields) (omega (arith, reaches 208 207 fields (omega arith) (omega (arith, many))))
        ∙ sym (too_many v fields (omega (arith, many)))
    | inr few ↦ ap (read_fields given v) (take_all 208 fields few)
  ]

  by_verb : (fields : List (List ℕ)) (o : Option Verb)
      → ◌≡◌ {A = Result RowCommand RefusalKind}
      (and_then (ok_or UnknownVerb o) (λ v. read_fields given v (take 208 fields)))
      (and_then (ok_or UnknownVerb o) (λ v. read_fields given v fields))
  by_verb fields None = refl
  by_verb fields (Some v) = command_by_first v fields

-- a row of a batch
pub reads_entry : (row : Row) (outcome : Result EntryRow RefusalKind) → ReadsEntry (first_fields row) outcome
    → ReadsEntry row outcome
reads_entry row outcome h = (h.0, h.1, h.2 ∙ entry_by_first h.0 row)

-- a row of requests, whose token stands before these fields
pub reads_command : (word : List ℕ) (fields : List (List ℕ)) (outcome : Result RowCommand RefusalKind)
    → Reads (word ∷ take 208 fields) outcome → Reads (word ∷ fields) outcome
reads_command word fields outcome h = (h.0, h.1, h.2 ∙ by_verb h.0 fields (verb_of word))

-- A batch is the commands of its rows one after the other; and what it leaves.
use Rattle.std.proofs.Common.{
  ◌≡◌,
  ℕ,
  ◌+◌,
  ◌≤◌,
  List,
  [],
  ◌∷◌,
  ◌++◌,
  length,
  Bool,
  true,
  false,
  refl,
  sym,
  ap,
  ◌∙◌,
  inl,
  nat_le,
  subst,
  arith,
}
use Rattle.std.specs.Prelude.{suc, Option, Some, None, Result, Ok, Err, if◌then◌else◌}
use Rattle.std.proofs.lemmas.Bool.Decides.{nat_tests}
use Rattle.std.specs.FinMap.{get, insert}
use Rattle.record_text.specs.declared.refusal.Refusal.{Refusal}
use Rattle.record_text.specs.declared.refusal.RefusalKind.{RefusalKind}
use Rattle.record_text.specs.declared.refusal.RefusalKind.TheVariants.{Full}
use Rattle.record_kinds.specs.Model as model
use Rattle.record_kinds.specs.declared.record.Record.{Record}
use Rattle.record_kinds.specs.declared.record.Record.TheVariants as kind
use Rattle.receipts.specs.declared.answer.Answer.{Answer}
use Rattle.archive_state.specs.Applied.{with_puts}
use Rattle.archive_state.specs.Changes.{Changes}
use Rattle.archive_state.specs.Content.{Content, Records}
use Rattle.archive_state.specs.Sound.{IsSound}
use Rattle.archive_state.specs.declared.changes.Numbered.{Numbered}
use Rattle.commands.specs.Rows.{and_then}
use Rattle.commands.specs.declared.entry_row.EntryRow.{EntryRow}
use Rattle.commands.specs.declared.row_command.RowCommand.TheVariants as row_command
use Rattle.command_checks.specs.Checks.{
  date_in,
  demanded_at,
  demanded_in,
  each,
  next_free,
  passed,
  said_place_at,
  text_in,
}
use Rattle.command_checks.specs.Entries.{key_is_free, mentions_in, texts_fit}
use Rattle.command_checks.specs.declared.kinds.Demand.TheVariants as demand
use Rattle.archive_steps.proofs.Following.{Follows, row_follows}
use Rattle.command_checks.specs.Exact.{IsExact}
use Rattle.command_checks.specs.Numbers.{Draws, UsesNoneAgain}
use Rattle.archive_steps.specs.Steps.{creates, entry_of, new_entry}
use Rattle.archive_steps.specs.Words.{IsUtf8Entry}
use Rattle.entry_batches.specs.Batches.{
  batch_step,
  first_number,
  is_left,
  key_is_new,
  number_behind,
  place_behind,
  row_entry,
  with_entry,
  with_made,
  with_rows,
}
use Rattle.entry_batches.specs.Laws.{all_commands, one_by_one}
use Rattle.entry_batches.specs.Placed.{Step, onward, placed}
use Rattle.entry_batches.specs.Words.{AreUtf8Entries}
use Rattle.entry_batches.proofs.Behind.{
  IsBehind,
  IsFrom,
  ascending,
  behind_none,
  behind_one,
  none_before,
  one_behind,
  put_of,
  puts_behind,
  taken,
  untouched,
}
use Rattle.commands.proofs.Chains.{both_answered}
use Rattle.archive_state.proofs.Later.{none_later}
use Rattle.list_laws.proofs.Lists.{more_behind}

-- ---- the entry of a row is of the source
given_source : (source : ℕ) (row : EntryRow) (e : model.Entry) → entry_of source row ≡ Ok e → e.source ≡ source
given_source source row e h =
    let p = both_answered (text_in row.page)
    (λ p. and_then (text_in row.text)
    (λ t. and_then (each date_in row.date) (λ d. and_then (mentions_in row.kind row.mentions) (λ ms.
    Ok (record {
      source = source;
      kind = row.kind;
      page = p;
      item = row.item;
      date = d;
      place = row.place;
      text = t;
      mentions = ms;
    }))))) e h in
    let t = both_answered (text_in row.text)
    (λ t. and_then (each date_in row.date) (λ d. and_then (mentions_in row.kind row.mentions) (λ ms.
    Ok (record {
      source = source;
      kind = row.kind;
      page = p.0;
      item = row.item;
      date = d;
      place = row.place;
      text = t;
      mentions = ms;
    })))) e p.2 in
    let d = both_answered (each date_in row.date) (λ d. and_then (mentions_in row.kind row.mentions) (λ ms.
    Ok (record {
      source = source;
      kind = row.kind;
      page = p.0;
      item = row.item;
      date = d;
      place = row.place;
      text = t.0;
      mentions = ms;
    }))) e t.2 in
    let ms = both_answered (mentions_in row.kind row.mentions) (λ ms.
    Ok (record {
      source = source;
      kind = row.kind;
      page = p.0;
      item = row.item;
      date = d.0;
      place = row.place;
      text = t.0;
      mentions = ms;
    })) e d.2 in
    let made : model.Entry = record {
      source = source;
      kind = row.kind;
      page = p.0;
      item = row.item;
      date = d.0;
      place = row.place;
      text = t.0;
      mentions = ms.0;
    } in
    let same : made ≡ e = let f = ms.2 in cc in
    ap (λ (x : model.Entry). x.source) (sym same)

row_source : (c : Content) (source : ℕ) (made : List Numbered) (row : EntryRow) (e : model.Entry)
    → row_entry c source made row ≡ Ok e → e.source ≡ source
row_source c source made row e h =
    let a = both_answered (texts_fit row) (λ _. and_then (passed (each (place_behind c (length made)) row.place))
    (λ _. and_then (entry_of source row)
    (λ x. and_then (key_is_free c.records source x.kind x.page x.item)
    (λ _. and_then (key_is_new made x) (λ _. Ok x))))) e h in
    let b = both_answered (passed (each (place_behind c (length made)) row.place))
    (λ _. and_then (entry_of source row)
    (λ x. and_then (key_is_free c.records source x.kind x.page x.item)
    (λ _. and_then (key_is_new made x) (λ _. Ok x)))) e a.2 in
    let x = both_answered (entry_of source row) (λ x. and_then (key_is_free c.records source x.kind x.page x.item)
    (λ _. and_then (key_is_new made x) (λ _. Ok x))) e b.2 in
    let k = both_answered (key_is_free c.records source x.0.kind x.0.page x.0.item)
    (λ _. and_then (key_is_new made x.0) (λ _. Ok x.0)) e x.2 in
    let n = both_answered (key_is_new made x.0) (λ _. Ok x.0) e k.2 in
    let same : x.0 ≡ e = let f = n.2 in cc in
    given_source source row e (x.1 ∙ ap Ok same)

-- ---- one row
same_number : (next count : ℕ) → 2 ≤ next → is_left next count ≡ nat_le (next + count) 4_294_967_295
same_number next count two = grind (arith, nat_tests)

left_number : (c : Content) (made : List Numbered) → 2 ≤ c.next → number_behind c.next (length made)
    ≡ next_free (with_made c made)
left_number c made two = ap (λ b. if b then Ok (c.next + length made) else Err Full)
    (same_number c.next (length made) two)

each_same : (f g : ℕ → Result (Unit {0}) RefusalKind) (o : Option ℕ) → ((n : ℕ) → f n ≡ g n)
    → passed (each f o) ≡ passed (each g o)
each_same f g None h = refl
each_same f g (Some n) h = ap (λ r. passed (and_then r (λ b. Ok (Some b)))) (h n)

-- the checks of one entry there, with the source known
abbrev checked : Content → ℕ → EntryRow → Result model.Entry RefusalKind
checked d source row =
    and_then (texts_fit row) (λ _.
    and_then (passed (each (said_place_at d) row.place)) (λ _.
    and_then (entry_of source row) (λ e.
    and_then (key_is_free d.records source e.kind e.page e.item) (λ _.
    Ok e))))

last_kept : (d : Content) (e : model.Entry) (q : Result (Unit {0}) RefusalKind)
    → and_then q (λ _. creates d (kind.Entry e)) ≡ and_then (and_then q (λ _. Ok e)) (λ x. creates d (kind.Entry x))
last_kept d e (Ok w) = refl
last_kept d e (Err x) = refl

chain : (d : Content) (t p : Result (Unit {0}) RefusalKind) (r : Result model.Entry RefusalKind)
    (k : model.Entry → Result (Unit {0}) RefusalKind)
    → and_then t (λ _. and_then p (λ _. and_then r (λ e. and_then (k e) (λ _. creates d (kind.Entry e)))))
    ≡ and_then (and_then t (λ _. and_then p (λ _. and_then r (λ e. and_then (k e) (λ _. Ok e)))))
    (λ e. creates d (kind.Entry e))
chain d (Err x) p r k = refl
chain d (Ok u) (Err x) r k = refl
chain d (Ok u) (Ok v) (Err x) k = refl
chain d (Ok u) (Ok v) (Ok e) k = last_kept d e (k e)

grouped : (d : Content) (source : ℕ) (row : EntryRow) → demanded_at d demand.Source source ≡ Ok tt
    → new_entry d source row ≡ and_then (checked d source row) (λ e. creates d (kind.Entry e))
grouped d source row there =
    ap (λ r. and_then (texts_fit row)
    (λ _. and_then r (λ _. and_then (passed (each (said_place_at d) row.place))
    (λ _. and_then (entry_of source row)
    (λ e. and_then (key_is_free d.records source e.kind e.page e.item) (λ _. creates d (kind.Entry e))))))) there
    ∙ chain d (texts_fit row) (passed (each (said_place_at d) row.place)) (entry_of source row)
    (λ e. key_is_free d.records source e.kind e.page e.item)

same_checks : (c : Content) (source : ℕ) (made : List Numbered) (row : EntryRow) → IsBehind c source made
    → checked (with_made c made) source row ≡ row_entry c source made row
same_checks c source made row is =
    ap (λ r. and_then (texts_fit row)
    (λ _. and_then r (λ _. and_then (entry_of source row)
    (λ e. and_then (key_is_free (with_puts c.records made) source e.kind e.page e.item) (λ _. Ok e)))))
    (each_same (said_place_at (with_made c made)) (place_behind c (length made)) row.place is.places)
    ∙ by (texts_fit row) (passed (each (place_behind c (length made)) row.place)) (entry_of source row)
  where
    last : (e : model.Entry) (q : Result (Unit {0}) RefusalKind) → key_is_free (with_puts c.records made) source e.kind
        e.page e.item ≡ and_then q (λ _. key_is_new made e)
        → and_then (key_is_free (with_puts c.records made) source e.kind e.page e.item) (λ _. Ok e)
        ≡ and_then q (λ _. and_then (key_is_new made e) (λ _. Ok e))
    last e (Ok u) h = ap (λ r. and_then r (λ _. Ok e)) h
    last e (Err k) h = ap (λ r. and_then r (λ _. Ok e)) h

    by : (t p : Result (Unit {0}) RefusalKind) (r : Result model.Entry RefusalKind)
        → and_then t (λ _. and_then p
        (λ _. and_then r (λ e. and_then (key_is_free (with_puts c.records made) source e.kind e.page e.item)
        (λ _. Ok e))))
        ≡ and_then t (λ _. and_then p
        (λ _. and_then r (λ e. and_then (key_is_free c.records source e.kind e.page e.item)
        (λ _. and_then (key_is_new made e) (λ _. Ok e)))))
    by (Err x) p r = refl
    by (Ok u) (Err x) r = refl
    by (Ok u) (Ok v) (Err x) = refl
    by (Ok u) (Ok v) (Ok e) = last e (key_is_free c.records source e.kind e.page e.item) (is.keys e)

one_entry : (c : Content) (source : ℕ) (made : List Numbered) (row : EntryRow) → IsBehind c source made
    → new_entry (with_made c made) source row ≡ and_then (row_entry c source made row)
    (λ e. creates (with_made c made) (kind.Entry e))
one_entry c source made row is = grouped (with_made c made) source row is.sourced
    ∙ ap (λ r. and_then r (λ e. creates (with_made c made) (kind.Entry e))) (same_checks c source made row is)

-- ---- all rows
abbrev left : Content → Result (List Numbered) Refusal → Result Content Refusal
left c r = onward r (λ made. Ok (with_made c made))

made_more : (c : Content) (made : List Numbered) (e : model.Entry)
    → record (with_made c made) {
      records = insert (with_puts c.records made) (c.next + length made) (kind.Entry e);
      next = c.next + length made + 1;
    } ≡ with_made c (made ++ (put_of c made e ∷ []))
made_more c made e =
    let count : c.next + length made + 1 ≡ c.next + length (made ++ (put_of c made e ∷ [])) = omega
    (arith, more_behind made (put_of c made e)) in
    ap (λ (m : Records). record c { records = m; next = c.next + length made + 1 })
    (sym (puts_behind c.records made (put_of c made e)))
    ∙ ap (λ n. record c { records = with_puts c.records (made ++ (put_of c made e ∷ [])); next = n }) count

-- what is to be shown of one row, whose look has answered so
abbrev RowIs : Content → ℕ → List Numbered → List EntryRow → Result model.Entry RefusalKind → Type 0
RowIs c source made rows r =
    onward (placed (Some (length made + 1)) (and_then r (λ e. creates (with_made c made) (kind.Entry e))))
    (λ (done : Content × Answer). one_by_one source (length made + 1 + 1) done.0 rows)
    ≡ left c (onward (placed (Some (length made + 1)) (and_then r (with_entry c.next made)))
    (λ more. with_rows c source more rows))

-- the same of its number
abbrev commands_from : Content → ℕ → List Numbered → List EntryRow → model.Entry → Result ℕ RefusalKind
    → Result Content Refusal
commands_from c source made rows e o =
    onward (placed (Some (length made + 1))
    (and_then o (λ n. Ok (
      record (with_made c made) {
        records = insert (with_puts c.records made) n (kind.Entry e);
        next = n + 1;
      },
      record { first = n; count = 1 },
    ))))
    (λ (done : Content × Answer). one_by_one source (length made + 1 + 1) done.0 rows)

abbrev rows_from : Content → ℕ → List Numbered → List EntryRow → model.Entry → Result ℕ RefusalKind
    → Result Content Refusal
rows_from c source made rows e o =
    left c (onward (placed (Some (length made + 1))
    (and_then o (λ n. Ok (made ++ (record { number = n; «record» = kind.Entry e } ∷ [])))))
    (λ more. with_rows c source more rows))

number_is : (m n : ℕ) (b : Bool) → ◌≡◌ {A = Result ℕ RefusalKind} (if b then Ok m else Err Full) (Ok n) → m ≡ n
number_is m n true e = cc
number_is m n false e = absurd cc

one_numbered : (c : Content) (source : ℕ) (made : List Numbered) (rows : List EntryRow) (e : model.Entry) (n : ℕ)
    → c.next + length made ≡ n
    → one_by_one source (length (made ++ (put_of c made e ∷ [])) + 1) (with_made c (made ++ (put_of c made e ∷ [])))
    rows ≡ left c (with_rows c source (made ++ (put_of c made e ∷ [])) rows)
    → commands_from c source made rows e (Ok n) ≡ rows_from c source made rows e (Ok n)
one_numbered c source made rows e n here again =
    let count : length made + 1 + 1 ≡ length (made ++ (put_of c made e ∷ [])) + 1 = ap (λ k. k + 1)
    (sym (more_behind made (put_of c made e))) in
    ap (λ k. one_by_one source (length made + 1 + 1)
    (record (with_made c made) { records = insert (with_puts c.records made) k (kind.Entry e); next = k + 1 }) rows)
    (sym here)
    ∙ ap (λ (d : Content). one_by_one source (length made + 1 + 1) d rows) (made_more c made e)
    ∙ ap (λ k. one_by_one source k (with_made c (made ++ (put_of c made e ∷ []))) rows) count
    ∙ again
    ∙ ap (λ k. left c (with_rows c source (made ++ (record { number = k; «record» = kind.Entry e } ∷ [])) rows)) here

numbered_row : (c : Content) (source : ℕ) (made : List Numbered) (rows : List EntryRow) (e : model.Entry)
    (o : Result ℕ RefusalKind) → next_free (with_made c made) ≡ o
    → one_by_one source (length (made ++ (put_of c made e ∷ [])) + 1) (with_made c (made ++ (put_of c made e ∷ [])))
    rows ≡ left c (with_rows c source (made ++ (put_of c made e ∷ [])) rows)
    → commands_from c source made rows e o ≡ rows_from c source made rows e o
numbered_row c source made rows e (Err k) f again = refl
numbered_row c source made rows e (Ok n) f again = one_numbered c source made rows e n
    (number_is (c.next + length made) n (nat_le (c.next + length made) 4_294_967_295) f) again

rows_are : (c : Content) (source : ℕ) (made : List Numbered) (rows : List EntryRow) → 2 ≤ c.next
    → IsBehind c source made → one_by_one source (length made + 1) (with_made c made) rows ≡ left c
    (with_rows c source made rows)
rows_are c source made [] two is = refl
rows_are c source made (row ∷ rows) two is =
    ap (λ r. onward (placed (Some (length made + 1)) r)
    (λ (done : Content × Answer). one_by_one source (length made + 1 + 1) done.0 rows))
    (one_entry c source made row is)
    ∙ elim (row_entry c source made row) as (λ r. row_entry c source made row ≡ r → RowIs c source made rows r) [
      | Ok e ↦ λ h.
          numbered_row c source made rows e (next_free (with_made c made)) refl
          (rows_are c source (made ++ (put_of c made e ∷ [])) rows two
          (behind_one c source made e (row_source c source made row e h) is))
          ∙ ap (rows_from c source made rows e) (sym (left_number c made two))
      | Err k ↦ λ h. refl
    ] refl

same_content : (c : Content) → with_made c [] ≡ c
same_content c = let none : c.next + 0 ≡ c.next = omega arith in ap (λ n. record c { next = n }) none

-- as many are made as rows are, with numbers that follow each other
abbrev Counted : Content → List Numbered → ℕ → List Numbered → Type 0
Counted c made count all = IsFrom c.next all × (length all ≡ length made + count)

count_more : (c : Content) (made all : List Numbered) (e : model.Entry) (count : ℕ)
    → Counted c (made ++ (put_of c made e ∷ [])) count all → Counted c made (suc count) all
count_more c made all e count h =
    let more : length (made ++ (put_of c made e ∷ [])) ≡ length made + 1 = more_behind made (put_of c made e) in
    let total : length all ≡ length (made ++ (put_of c made e ∷ [])) + count = h.1 in
    (h.0, omega (arith, more, total))

row_count : (c : Content) (source : ℕ) (made : List Numbered) (rows : List EntryRow) (all : List Numbered)
    → with_rows c source made rows ≡ Ok all → IsFrom c.next made → Counted c made (length rows) all
row_count c source made [] all h from =
    let same : made ≡ all = cc in
    let none : length made ≡ length made + 0 = omega arith in
    (subst (IsFrom c.next) same from, ap length (sym same) ∙ none)
row_count c source made (row ∷ rows) all h from =
    elim (row_entry c source made row) as (λ r. onward
    (placed (Some (length made + 1)) (and_then r (with_entry c.next made))) (λ more. with_rows c source more rows)
    ≡ Ok all → Counted c made (suc (length rows)) all) [
      | Ok e ↦ elim (is_left c.next (length made)) as (λ b. onward
          (placed (Some (length made + 1)) (and_then (if b then Ok (c.next + length made) else Err Full)
          (λ n. Ok (made ++ (record { number = n; «record» = kind.Entry e } ∷ [])))))
          (λ more. with_rows c source more rows) ≡ Ok all → Counted c made (suc (length rows)) all) [
            | true ↦ λ g. count_more c made all e (length rows)
                (row_count c source (made ++ (put_of c made e ∷ [])) rows all g
                (one_behind c.next made (put_of c made e) from refl))
            | false ↦ λ g. absurd cc
          ]
      | Err k ↦ λ g. absurd cc
    ] h

-- ---- the law
demanded_is : (c : Content) (source : ℕ) (u : Unit {0}) → demanded_at c demand.Source source ≡ Ok u
    → (r : Record) × (get c.records source ≡ Some r)
demanded_is c source u e = by (get c.records source) refl
  where
    by : (o : Option Record) → get c.records source ≡ o → (r : Record) × (get c.records source ≡ Some r)
    by (Some r) q = (r, q)
    by None q = let wrong = sym (ap (demanded_in demand.Source) q) ∙ e in absurd cc

at_two : (c : Content) (source : ℕ) → IsSound c → (r : Record) → get c.records source ≡ Some r → 2 ≤ c.next
at_two c source sound r e = let number = sound.rules.numbered source r e in omega (arith, number.0, number.1)

begun : (c : Content) (source : ℕ) (rows : List EntryRow) (u : Unit {0}) → IsSound c
    → demanded_at c demand.Source source ≡ Ok u → one_by_one source 1 c rows ≡ left c (with_rows c source [] rows)
begun c source rows u sound e =
    let one = demanded_is c source u e in
    ap (λ (d : Content). one_by_one source 1 d rows) (sym (same_content c))
    ∙ rows_are c source [] rows (at_two c source sound one.0 one.1) (behind_none c source (none_later c sound) e)

abbrev answered : Content → Content → ℕ → Step
answered c d count = onward (placed None (first_number c.next)) (λ n. Ok (d, record { first = n; count = count }))

pub batch_is_commands : (c : Content) (source : ℕ) (rows : List EntryRow) → IsSound c
    → batch_step c source rows ≡ all_commands c source rows
batch_is_commands c source rows sound = by (demanded_at c demand.Source source) refl
  where
    each_row : (r : Result (List Numbered) Refusal) → with_rows c source [] rows ≡ r
        → onward r (λ made. answered c (with_made c made) (length made)) ≡ onward (left c r)
        (λ after. answered c after (length rows))
    each_row (Err k) q = refl
    each_row (Ok made) q =
        let counted = row_count c source [] rows made q tt in
        let count : length made ≡ 0 + length rows = counted.1 in
        let same : length made ≡ length rows = omega (arith, count) in
        ap (answered c (with_made c made)) same

    by : (r : Result (Unit {0}) RefusalKind) → demanded_at c demand.Source source ≡ r
        → onward (placed None r)
        (λ _. onward (with_rows c source [] rows) (λ made. answered c (with_made c made) (length made)))
        ≡ onward (placed None r)
        (λ _. onward (one_by_one source 1 c rows) (λ after. answered c after (length rows)))
    by (Err k) q = refl
    by (Ok u) q = each_row (with_rows c source [] rows) refl
        ∙ sym (ap (λ r. onward r (λ after. answered c after (length rows))) (begun c source rows u sound q))

-- ---- what a batch leaves
one_sound : (source place : ℕ) (c : Content) (rows : List EntryRow) (after : Content) → AreUtf8Entries rows → IsSound c
    → one_by_one source place c rows ≡ Ok after → IsSound after
one_sound source place c [] after words sound e = let same : c ≡ after = cc in subst IsSound same sound
one_sound source place c (row ∷ rows) after words sound e =
    elim (new_entry c source row) as (λ r. Follows (IsUtf8Entry row) c r → onward (placed (Some place) r)
    (λ (done : Content × Answer). one_by_one source (place + 1) done.0 rows) ≡ Ok after → IsSound after) [
      | Ok done ↦ λ f g. one_sound source (place + 1) done.0 rows after words.1 (f.3 words.0 sound) g
      | Err k ↦ λ f g. absurd cc
    ] (row_follows c (row_command.Entry source row)) e

made_follows : (c : Content) (source : ℕ) (rows : List EntryRow) (made : List Numbered) (u : Unit {0})
    → demanded_at c demand.Source source ≡ Ok u → with_rows c source [] rows ≡ Ok made
    → Follows {E = Refusal} (AreUtf8Entries rows) c
    (Ok (with_made c made, record { first = c.next; count = length made }))
made_follows c source rows made u there e =
    let from : IsFrom c.next made = (row_count c source [] rows made e tt).0 in (
      refl,
      (refl, inl refl, λ n low high. inl (taken c.records c.next made n from low high)),
      (
        omega arith,
        (λ n less none. none),
        (λ n used. (omega (arith, used.0), untouched c.records c.next made n from used.0 ∙ used.1, used.2)),
      ),
      (λ words sound. one_sound source 1 c rows (with_made c made) words sound
          (begun c source rows u sound there ∙ ap (left c) e)),
    )

pub batch_follows : (c : Content) (source : ℕ) (rows : List EntryRow) → Follows (AreUtf8Entries rows) c
    (batch_step c source rows)
batch_follows c source rows = by (demanded_at c demand.Source source) refl
  where
    answered : (made : List Numbered) (u : Unit {0}) → demanded_at c demand.Source source ≡ Ok u
        → with_rows c source [] rows ≡ Ok made → (b : Bool)
        → Follows (AreUtf8Entries rows) c (onward (placed None (if b then Ok c.next else Err Full))
        (λ n. Ok (with_made c made, record { first = n; count = length made })))
    answered made u q e true = made_follows c source rows made u q e
    answered made u q e false = tt

    each_row : (u : Unit {0}) → demanded_at c demand.Source source ≡ Ok u → (r : Result (List Numbered) Refusal)
        → with_rows c source [] rows ≡ r
        → Follows (AreUtf8Entries rows) c
        (onward r (λ made. onward (placed None (first_number c.next))
        (λ n. Ok (with_made c made, record { first = n; count = length made }))))
    each_row u q (Ok made) e = answered made u q e (nat_le c.next 4_294_967_295)
    each_row u q (Err k) e = tt

    by : (r : Result (Unit {0}) RefusalKind) → demanded_at c demand.Source source ≡ r
        → Follows (AreUtf8Entries rows) c
        (onward (placed None r)
        (λ _. onward (with_rows c source [] rows)
        (λ made. onward (placed None (first_number c.next))
        (λ n. Ok (with_made c made, record { first = n; count = length made })))))
    by (Ok u) q = each_row u q (with_rows c source [] rows) refl
    by (Err k) q = tt

-- ---- changes
pub made_is_exact : (c : Content) (source : ℕ) (rows : List EntryRow) (made : List Numbered) (next : ℕ) (a : Answer)
    (changes : Changes) → with_rows c source [] rows ≡ Ok made
    → changes ≡ record { puts = made; removals = []; next = next; answer = a; kept = None; slip = None }
    → IsExact c changes
made_is_exact c source rows made next a changes e is =
    let from : IsFrom c.next made = (row_count c source [] rows made e tt).0 in
    subst (IsExact c) (sym is) (record {
      puts = λ _. ascending c.next made from;
      removals = tt;
      apart = tt;
      new = λ sound. none_before c.records c.next made (none_later c sound) from;
      there = tt;
      slip = λ _. tt;
    })

-- ---- the laws
pub batch_sound : (c after : Content) (source : ℕ) (rows : List EntryRow) (a : Answer) → AreUtf8Entries rows → IsSound c
    → batch_step c source rows ≡ Ok (after, a) → IsSound after
batch_sound c after source rows a words sound e =
    let f : Follows {E = Refusal} (AreUtf8Entries rows) c (Ok (after, a)) = subst (Follows (AreUtf8Entries rows) c) e
    (batch_follows c source rows) in f.3 words sound

pub batch_draws : (c after : Content) (source : ℕ) (rows : List EntryRow) (a : Answer)
    → batch_step c source rows ≡ Ok (after, a) → Draws c a after
batch_draws c after source rows a e =
    let f : Follows {E = Refusal} (AreUtf8Entries rows) c (Ok (after, a)) = subst (Follows (AreUtf8Entries rows) c) e
    (batch_follows c source rows) in f.1

pub batch_again : (c after : Content) (source : ℕ) (rows : List EntryRow) (a : Answer)
    → batch_step c source rows ≡ Ok (after, a) → UsesNoneAgain c after
batch_again c after source rows a e =
    let f : Follows {E = Refusal} (AreUtf8Entries rows) c (Ok (after, a)) = subst (Follows (AreUtf8Entries rows) c) e
    (batch_follows c source rows) in f.2

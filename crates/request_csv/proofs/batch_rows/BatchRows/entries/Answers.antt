use Rattle.std.proofs.Common.{rules, ◌≡◌, ◌∷◌, ◌++◌, ◌+◌, [], ℕ, List, Ok, Err, subst, sym}
use Rattle.std.specs.Prelude.{Option, Result}
use Rattle.std.specs.Vec.Iter.{into_iter_items}
use Rattle.record_text.specs.declared.refusal.Refusal.{Refusal}
use Rattle.commands.specs.declared.entry_row.EntryRow.{EntryRow}
use Rattle.request_csv.specs.Batches.{IsRead, ReadsPlaced, Settles, SettlesRow, number_at}
use Rattle.request_csv.specs.Input.{Row}
use Rattle.request_csv.specs.declared.batch_rows.BatchRow.{BatchRow}
use Rattle.request_csv.proofs.Placing.{Placing, none_yet, one_placed, row_lacks}
use Rattle.request_csv.proofs.batch_rows.BatchRows.entries.Goals as goal

pub rows-init : goal.rows-init
rows-init c =
    let all : c.args.self ≡ into_iter_items c.into_iter-rows.result = search rules in
    let none : c.new-entries.result.items ≡ [] = search rules in
    subst (λ (left : List BatchRow). Placing c.args.numbers.now c.args.self left c.new-entries.result.items 0) all
    (none_yet c.args.numbers.now c.args.self c.new-entries.result.items none)

pub rows-preserved : goal.rows-preserved
rows-preserved c =
    let left = into_iter_items c.next.new.self in
    let here : into_iter_items c.rows.rows ≡ c.in-Some.row ∷ left = search rules in
    let w = subst (λ (rest : List BatchRow). Placing c.args.numbers.now c.args.self rest c.rows.entries.items
    c.rows.before) here c.rows.invariant in
    let number : c.number_at-number.result ≡ number_at c.args.numbers.now c.rows.before = search rules in
    let done : c.placed_entry.result ≡ Ok c.in_ok-entry-in-Some.entry = search rules in
    let more : c.add_entry.new.entries.items ≡ c.rows.entries.items ++ c.in_ok-entry-in-Some.entry ∷ [] =
    search rules in
    let is : (raw : Row) → IsRead raw c.in-Some.row
    → ReadsPlaced (number_at c.args.numbers.now c.rows.before) raw (Ok c.in_ok-entry-in-Some.entry) = λ raw read.
    subst (λ (n : Option ℕ). ReadsPlaced n raw (Ok c.in_ok-entry-in-Some.entry)) number
    (rw done at (c.placed_entry.ensures raw read)) in
    one_placed c.args.numbers.now c.args.self left c.rows.entries.items c.rows.before c.in-Some.row w
    c.in_ok-entry-in-Some.entry is c.add_entry.new.entries.items more

pub returns-in_err-entry-in-Some : goal.returns-in_err-entry-in-Some
returns-in_err-entry-in-Some c =
    let left = into_iter_items c.next.new.self in
    let here : into_iter_items c.rows.rows ≡ c.in-Some.row ∷ left = search rules in
    let w = subst (λ (rest : List BatchRow). Placing c.args.numbers.now c.args.self rest c.rows.entries.items
    c.rows.before) here c.rows.invariant in
    let number : c.number_at-number.result ≡ number_at c.args.numbers.now c.rows.before = search rules in
    let why : Refusal = c.in_err-entry-in-Some.field-0.0 in
    let done : c.placed_entry.result ≡ Err why = search rules in
    let same : c.from_residual.result ≡ Err why = search rules in
    let is : (raw : Row) → IsRead raw c.in-Some.row
    → SettlesRow (number_at c.args.numbers.now c.rows.before) raw (c.rows.before + 1) (Err why) = λ raw read.
    subst (λ (n : Option ℕ). SettlesRow n raw (c.rows.before + 1) (Err why)) number
    (rw done at (c.placed_entry.ensures raw read)) in
    λ rows read.
    subst (λ (r : Result (List EntryRow) Refusal). Settles c.args.numbers.now rows r) (sym same)
    (row_lacks c.args.numbers.now c.args.self left c.rows.entries.items c.rows.before c.in-Some.row w why is rows
    read)

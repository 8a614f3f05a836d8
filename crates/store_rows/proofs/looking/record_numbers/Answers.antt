use Rattle.std.proofs.Common.{◌≡◌, ◌<◌, ◌∙◌, Ok, ap, map}
use Rattle.std.specs.BTreeSet as set
use Rattle.std.specs.Ordering.{nat_cmp}
use Rattle.sqlite.specs.Tree.{IsAscending}
use Rattle.store_tables.specs.Reading.{read_record}
use Rattle.store_tables.specs.Rows.{RecordRow}
use Rattle.store_tables.proofs.ReadingRows.{looks_where}
use Rattle.store_rows.specs.Grouped.{numbers_by}
use Rattle.store_rows.specs.Meaning.{is_closed}
use Rattle.store_rows.proofs.RecordNumbers.{same_numbers}
use Rattle.store_rows.proofs.Seen.{sees_with}
use Rattle.store_rows.proofs.looking.record_numbers.Goals as goal

pub returns-clause-sees : goal.returns-clause-sees
returns-clause-sees g c =
    let closed = set.contains nat_cmp c.in_ok-closed.closed in
    sees_with (Ok c.in_ok-numbers_in.field-0)
    (looks_where {Q = λ rows all. ((all.0.items ≡ rows.batches) × (all.1.items ≡ map read_record rows.records))
    × IsAscending (λ (a b : RecordRow). a.no < b.no) rows.records} _
    (λ rows was all is. (is, was.good.holds.records.rise)) c.in_ok-batches.ensures.looks)
    (λ rows is content means. c.in_ok-numbers_in.ensures
    ∙ ap (numbers_by closed) (c.deref-2.ensures.value ∙ is.0.1)
    ∙ same_numbers rows content closed means is.1
    (λ n. c.in_ok-closed.ensures n ∙ ap (is_closed n) (c.deref.ensures.value ∙ is.0.0))) tt

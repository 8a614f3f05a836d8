-- A page that was tried, by its request.
use Rattle.std.proofs.Common.{◌≡◌, ◌∙◌, ℕ, List, Ok, ap, subst, sym}
use Rattle.std.specs.Prelude.{Result}
use Rattle.archive_state.specs.Content.{Content}
use Rattle.archive_state.specs.Looks.{Looked}
use Rattle.archive_core.specs.Machine.{outcome}
use Rattle.archive_core.specs.declared.request.Request.{Request}
use Rattle.commands.specs.declared.entry_row.EntryRow.{EntryRow}
use Rattle.page_batches.specs.Batches.{rows_by}
use Rattle.page_batches.specs.Looks.{Found}
use Rattle.page_batches.specs.Words.{numbers_of}
use Rattle.page_batches.specs.declared.rows.BatchRefusal.{BatchRefusal}
use Rattle.page_entries.specs.Entries.{and_then}
use Rattle.page_entries.specs.declared.entries.PageEntry.{PageEntry}
use Rattle.record_text.specs.declared.refusal.RefusalKind.{RefusalKind}
use Rattle.archive_tables.specs.Entering.{page_request}
use Rattle.archive_tables.specs.Making.{Trial, taken, tried}

pub tried_is : (c : Content) (token its : List ℕ) (source : ℕ) (entries : List PageEntry) (places : List Found)
    (paths : List (List ℕ)) (rows : List EntryRow) (request : Request) (numbers : List ℕ)
    (found : Result Trial RefusalKind) → rows_by entries (Ok places) ≡ Ok rows
    → its ≡ token → request ≡ page_request its source entries rows → numbers ≡ numbers_of entries
    → Looked found (λ r. r ≡ taken numbers paths (outcome c request))
    → Looked found (λ r. r ≡ tried c token source entries (Ok (record { places = places; paths = paths })))
tried_is c token its source entries places paths rows request numbers found e et er en h =
    let same : taken numbers paths (outcome c request)
    ≡ tried c token source entries (Ok (record { places = places; paths = paths })) =
    ap (λ (r : Request). taken numbers paths (outcome c r))
    (er ∙ ap (λ (t : List ℕ). page_request t source entries rows) et)
    ∙ (ap (λ (n : List ℕ). taken n paths (outcome c (page_request token source entries rows))) en
    ∙ sym (ap (λ (q : Result (List EntryRow) BatchRefusal). and_then q (λ these.
    taken (numbers_of entries) paths (outcome c (page_request token source entries these)))) e)) in
    subst (λ (t : Trial). Looked found (λ r. r ≡ t)) same h

-- Without a person there is no pedigree.
use Rattle.std.proofs.Common.{◌≡◌, ℕ, List, Option, Some, None, Result, Err, refl}
use Rattle.std.specs.FinMap.{get}
use Rattle.record_kinds.specs.declared.record.Record.{Record}
use Rattle.record_kinds.specs.declared.record.Record.TheVariants as kind
use Rattle.record_text.specs.declared.refusal.RefusalKind.{RefusalKind}
use Rattle.archive_state.specs.Content.{Records}
use Rattle.sheets.specs.Gathered.{Gathered, gathered}
use Rattle.sheets.specs.Pedigrees.{pedigree_in}
use Rattle.room_requests.specs.declared.pages.PageFound.{PageFound}
use Rattle.room_requests.specs.declared.pages.PageFound.TheVariants as found
use Rattle.reading_room.specs.Room.{IsPersonIn, pedigree_page, sheet_page, wrongly_asked}

-- the two pages of a pedigree, of a record that is none of a person
none_in : (page : Result (List ℕ) RefusalKind → PageFound) → ((e : RefusalKind) → page (Err e) ≡ found.NotShown)
    → (g : Gathered) (n generations : ℕ) (o : Option Record) → ((p : _) → o ≡ Some (kind.Person p) → ⊥)
    → page (pedigree_in g n generations o) ≡ found.NotShown
none_in page errs g n generations None h = errs _
none_in page errs g n generations (Some (kind.Person p)) h = absurd (h p refl)
none_in page errs g n generations (Some (kind.Place p)) h = errs _
none_in page errs g n generations (Some (kind.Repo p)) h = errs _
none_in page errs g n generations (Some (kind.Source p)) h = errs _
none_in page errs g n generations (Some (kind.Family p)) h = errs _
none_in page errs g n generations (Some (kind.Event p)) h = errs _
none_in page errs g n generations (Some (kind.Citation p)) h = errs _
none_in page errs g n generations (Some (kind.Entry p)) h = errs _
none_in page errs g n generations (Some (kind.Other p)) h = errs _

pub no_pedigree : (m : Records) (n : ℕ) (asked : Option ℕ) → (IsPersonIn m n → ⊥)
    → pedigree_page m n asked ≡ found.NotShown
no_pedigree m n (Some generations) h =
    none_in sheet_page (λ e. refl) (gathered m) n generations (get m n) (λ p is. h (p, is))
no_pedigree m n None h = none_in wrongly_asked (λ e. refl) (gathered m) n 1 (get m n) (λ p is. h (p, is))

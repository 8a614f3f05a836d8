-- Tasks of a day, whose number is read from a word of 32 bits.
use Rattle.std.proofs.Common.{◌≡◌, ◌⊎◌, ℕ, List, subst, Ok}
use Rattle.std.specs.Prelude.{◌≤ℤ◌, ℤ, Bool, Option, Some, IfErr, OnErr, OnOk}
use Rattle.std.specs.declared.io.Read as read
use Rattle.std.specs.declared.io.Write as write
use Rattle.sqlite.specs.State.{State}
use Rattle.sqlite_trees.specs.declared.store.Store.{Ghosts}
use Rattle.archive_state.specs.Content.{Content}
use Rattle.archive_output.specs.Ends.{AreCut, AreReversed, AreWritten}
use Rattle.devices.specs.declared.device.Device as device
use Rattle.record_text.specs.declared.refusal.RefusalKind.TheVariants.{WriteFailed}
use Rattle.archive_output.specs.Reading.{OnOpen}
use Rattle.store.specs.Archives.{HasArchive}
use Rattle.store.specs.Histories.{has_broken}
use Rattle.archive_output.specs.Showing.{IsShown, OfSound}
use Rattle.archive_output.specs.Plain.{IsPartPlainPublished, IsPlainPublished}
use Rattle.archive_output.specs.Writing.{IsPartPublished, IsPublished, IsSheetRefused, IsSheetWritten}
use Rattle.archive_output.specs.declared.sheet.Sheet.{Sheet}
use Rattle.tasks.specs.Ends.{
  HasWriteFailed,
  IsQuiet,
  IsUntouched,
  ListsDays,
  LooksAt,
  OnHeld,
  OnSound,
  PrintsSheet,
  Publishes,
  PublishesPlain,
  Reports,
}
use Rattle.tasks.specs.Moments.{Moment}
use Rattle.tasks.specs.Parts.{Shelves}
use Rattle.tasks.specs.Status.{Outcome, Plain}

pub shelves_on : (old new : State) (f d : ℤ) (o : Outcome) (shown : Option Content) → f ≡ d
    → Shelves old new f o shown → Shelves old new d o shown
shelves_on old new f d o shown e did = subst (λ (t : ℤ). Shelves old new t o shown) e did

pub library_on : (old new : State) (f d : ℤ) (shown : Content) → f ≡ d
    → OnOpen old new (λ society c. IsShown c f shown × HasArchive society c new)
    → OfSound old new (λ c. IsShown c f shown)
    → Shelves old new d (Ok tt) (Some shown)
library_on old new f d shown e is sound = subst (λ (t : ℤ). Shelves old new t (Ok tt) (Some shown)) e (
  (λ clean. let at = is clean in (at.0, λ society content has. let p = at.1 society content has in (p.0.0, p.1))),
  sound,
)

module _ {S R W F : Type 0} (g : Ghosts S) (reader : read.Ghosts R) (reads : device.Ghosts R) (writer : write.Ghosts W)
    (writes : device.Ghosts W) (faulter : write.Ghosts F) (fails : device.Ghosts F) (a b : Moment g R W F) where
  pub publishes_on : (f d : ℤ) (r : Plain) → f ≡ d
      → OnOk r (OnHeld g reader reads writer writes faulter fails a b
      (IsPublished (writer.contents a.output) (writer.contents b.output) f))
      → IfErr r (λ kind. OnHeld g reader reads writer writes faulter fails a b
      (IsPartPublished kind (writer.contents a.output) (writer.contents b.output) f))
      → OnOk r (OnSound g reader reads writer writes faulter fails a b (λ c. (society : List ℕ)
      × IsPublished (writer.contents a.output) (writer.contents b.output) f
      society c))
      → IsUntouched g reader reads writer writes faulter fails a b r
      → IfErr r (λ kind. kind ≡ WriteFailed → HasWriteFailed g reader reads writer writes faulter fails a b)
      → LooksAt g reader reads writer writes faulter fails a b (has_broken r)
      → Publishes g reader reads writer writes faulter fails a b d r
  publishes_on f d r e written begun sound unread blamed looks =
      subst (λ (t : ℤ). Publishes g reader reads writer writes faulter fails a b t r) e
      (record { written = written; begun = begun; sound = sound; unread = unread; blamed = blamed; looks = looks })

  pub publishes_plain_on : (f d : ℤ) (r : Plain) → f ≡ d
      → OnOk r ((left_out : List ℕ) × Reports g reader reads writer writes faulter fails a b left_out
      × OnHeld g reader reads writer writes faulter fails a b
      (IsPlainPublished (writer.contents a.output) (writer.contents b.output) left_out f)
      × OnSound g reader reads writer writes faulter fails a b (λ c. (society : List ℕ)
      × IsPlainPublished (writer.contents a.output) (writer.contents b.output) left_out f society c))
      → OnErr r (IsQuiet g reader reads writer writes faulter fails a b)
      → IfErr r (λ kind. OnHeld g reader reads writer writes faulter fails a b
      (IsPartPlainPublished kind (writer.contents a.output) (writer.contents b.output) f))
      → IsUntouched g reader reads writer writes faulter fails a b r
      → IfErr r (λ kind. kind ≡ WriteFailed → HasWriteFailed g reader reads writer writes faulter fails a b)
      → LooksAt g reader reads writer writes faulter fails a b (has_broken r)
      → PublishesPlain g reader reads writer writes faulter fails a b d r
  publishes_plain_on f d r e written quiet begun unread blamed looks =
      subst (λ (t : ℤ). PublishesPlain g reader reads writer writes faulter fails a b t r) e
      (record { written = written; quiet = quiet; begun = begun; unread = unread; blamed = blamed; looks = looks })

  pub prints_on : (sheet : Sheet) (f d : ℤ) (r : Plain) → f ≡ d
      → OnOk r (OnHeld g reader reads writer writes faulter fails a b
      (λ _ c. IsSheetWritten (writer.contents a.output) (writer.contents b.output) sheet f c))
      → IfErr r (λ kind. OnHeld g reader reads writer writes faulter fails a b
      (λ _ c. IsSheetRefused kind (writer.contents a.output) (writer.contents b.output) sheet f c))
      → OnOk r (OnSound g reader reads writer writes faulter fails a b
      (λ c. IsSheetWritten (writer.contents a.output) (writer.contents b.output) sheet f c))
      → IsUntouched g reader reads writer writes faulter fails a b r
      → IfErr r (λ kind. kind ≡ WriteFailed → HasWriteFailed g reader reads writer writes faulter fails a b)
      → LooksAt g reader reads writer writes faulter fails a b (has_broken r)
      → PrintsSheet g reader reads writer writes faulter fails a b sheet d r
  prints_on sheet f d r e written refused sound unread blamed looks =
      subst (λ (t : ℤ). PrintsSheet g reader reads writer writes faulter fails a b sheet t r) e
      (record { written = written; refused = refused; sound = sound; unread = unread; blamed = blamed; looks = looks })

  pub lists_on : (words : Bool) (f first l last : ℤ) (r : Plain) → f ≡ first → l ≡ last
      → OnOk r ((f ≤ℤ l) × OnHeld g reader reads writer writes faulter fails a b
      (λ _ c. AreWritten words f l (writer.contents a.output) (writer.contents b.output) c))
      → IfErr r (λ kind. (AreReversed kind f l (writer.contents a.output) (writer.contents b.output)
      × (b.archive.conn ≡ a.archive.conn))
      ⊎ ((f ≤ℤ l) × OnHeld g reader reads writer writes faulter fails a b
      (λ _ c. AreCut kind words f l (writer.contents a.output) (writer.contents b.output) c)))
      → IsUntouched g reader reads writer writes faulter fails a b r
      → IfErr r (λ kind. kind ≡ WriteFailed → HasWriteFailed g reader reads writer writes faulter fails a b)
      → LooksAt g reader reads writer writes faulter fails a b (has_broken r)
      → ListsDays g reader reads writer writes faulter fails a b words first last r
  lists_on words f first l last r e h written cut unread blamed looks =
      subst (λ (t : ℤ). ListsDays g reader reads writer writes faulter fails a b words t last r) e
      (subst (λ (u : ℤ). ListsDays g reader reads writer writes faulter fails a b words f u r) h
      (record { written = written; cut = cut; unread = unread; blamed = blamed; looks = looks }))

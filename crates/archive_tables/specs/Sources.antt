-- What is entered of a source whose number a word gives: it is that number; or it is what the archive has for a token,
-- before anything is entered. Rules of our own.
use Rattle.std.specs.Prelude.{◌≡◌, ◌⊎◌, ℕ, List, Some, None}
use Rattle.sqlite.specs.Held.{state}
use Rattle.sqlite.specs.State.{HasCleanDisk}
use Rattle.sqlite_trees.specs.declared.store.Store.{Ghosts}
use Rattle.record_text.specs.declared.refusal.RefusalKind.{RefusalKind}
use Rattle.record_text.specs.declared.refusal.RefusalKind.TheVariants.{NoSuch}
use Rattle.row_references.specs.References.{kept_number}
use Rattle.row_references.specs.declared.words.NumberWord.{NumberWord}
use Rattle.row_references.specs.declared.words.NumberWord.TheVariants.{Number, Reference}
use Rattle.store.specs.Histories.{is_storage}
use Rattle.store.specs.Viewing.{OnReadable}
use Rattle.store.specs.declared.archive.Archive.{Archive}
use Rattle.store_tables.specs.Looking.{IsFailure}
use Rattle.archive_output.specs.Reading.{OnlyReads}
use Rattle.archive_tables.specs.Ends.{OnRead}

module _ {S : Type 0} (g : Ghosts S) (old new : Archive S g) where
  -- the archive had this number for the token
  abbrev pub HadNumber : List ℕ → ℕ → Type 0
  HadNumber token n = HasCleanDisk (state g new.conn) → HasCleanDisk (state g old.conn)
      × OnReadable (state g old.conn) (λ rows c. kept_number c token ≡ Some n)

  -- the archive was only looked at: it has none for the token, which is 50; or memory was refused or the database
  -- failed
  pub record HasNoNumber (token : List ℕ) (why : RefusalKind) : Type 0 where
    pub reads : OnlyReads g old new
    pub lost : new.is_lost ≡ is_storage why
    pub right : OnRead (state g old.conn) (state g new.conn)
        (λ c. IsFailure why ⊎ ((why ≡ NoSuch) × (kept_number c token ≡ None)))

  -- P of the number that a word gives; or why it gives none, as `Refused` says it
  abbrev pub BySource : NumberWord → (ℕ → Type 0) → (RefusalKind → Type 0) → Type 0
  BySource (Number n) P Refused = P n
  BySource (Reference token) P Refused = ((n : ℕ) × HadNumber token n × P n)
      ⊎ ((why : RefusalKind) × HasNoNumber token why × Refused why)

-- What was done under a token, or on a day, was done under an equal one.
use Rattle.std.proofs.Common.{◌≡◌, ℕ, List, false, inl, subst, true}
use Rattle.std.specs.Prelude.{ℤ, Bool, Option}
use Rattle.std.specs.declared.io.Read as read
use Rattle.std.specs.declared.io.Write as write
use Rattle.sqlite_disk.specs.declared.Disk as disk
use Rattle.sqlite_wal.specs.Recovery.{Image}
use Rattle.archive_runs.specs.Tasks.{EndsOnFile}
use Rattle.archive_state.specs.Content.{Content}
use Rattle.archive_files.specs.declared.left.Left.{Left}
use Rattle.devices.specs.declared.device.Device as device
use Rattle.parish.specs.Doing.{DoesImport, DoesTask, Finished, IsNoToken, OpensNothing}
use Rattle.parish.specs.Reporting.{ImportsReported}
use Rattle.parish.specs.declared.visits.Visits.{Visits}
use Rattle.tasks.specs.Moments.{Streams}
use Rattle.tasks.specs.declared.task.Task.{Task}
use Rattle.tasks.specs.declared.task.Task.TheVariants as task

module _ {D S R W F : Type 0} {g : disk.Ghosts D} (reader : read.Ghosts R) (reads : device.Ghosts R)
    (writer : write.Ghosts W) (writes : device.Ghosts W) (faulter : write.Ghosts F) (fails : device.Ghosts F)
    (image : Image) (status : ℕ)
    (x y : Streams R W F) (left : Left S D g) where
  pub under_token : (room : Option Visits) (t : List ℕ → Task) (word token : List ℕ) → word ≡ token
      → DoesTask reader reads writer writes faulter fails image status x y left room (t word)
      → DoesTask reader reads writer writes faulter fails image status x y left room (t token)
  under_token room t word token e did =
      subst (λ (v : List ℕ). DoesTask reader reads writer writes faulter fails image status x y left room (t v)) e did

  pub on_day : (room : Option Visits) (t : ℤ → Task) (today day : ℤ) → today ≡ day
      → DoesTask reader reads writer writes faulter fails image status x y left room (t today)
      → DoesTask reader reads writer writes faulter fails image status x y left room (t day)
  on_day room t today day e did =
      subst (λ (d : ℤ). DoesTask reader reads writer writes faulter fails image status x y left room (t d)) e did

  pub between : (room : Option Visits) (words : Bool) (f first l last : ℤ) → f ≡ first → l ≡ last
      → DoesTask reader reads writer writes faulter fails image status x y left room (task.Days f l words)
      → DoesTask reader reads writer writes faulter fails image status x y left room (task.Days first last words)
  between room words f first l last e h did =
      on_day room (λ (d : ℤ). task.Days first d words) l last h
      (on_day room (λ (d : ℤ). task.Days d l words) f first e did)

  pub in_task : (room : Option Visits) (t u : Task) → t ≡ u
      → DoesTask reader reads writer writes faulter fails image status x y left room t
      → DoesTask reader reads writer writes faulter fails image status x y left room u
  in_task room t u e did = subst (DoesTask reader reads writer writes faulter fails image status x y left room) e did

  pub library_on : (shown : Option Content) (today day : ℤ) → today ≡ day
      → EndsOnFile reader reads writer writes faulter fails image (task.Library today) x y status shown left
      → EndsOnFile reader reads writer writes faulter fails image (task.Library day) x y status shown left
  library_on shown today day e did =
      subst (λ (d : ℤ). EndsOnFile reader reads writer writes faulter fails image
      (task.Library d) x y status shown left) e
      did

  pub reported_under : (room : Option Visits) (progress : Bool) (word token : List ℕ) → word ≡ token
      → ImportsReported reader reads writer writes faulter fails image status x y left room word progress
      → ImportsReported reader reads writer writes faulter fails image status x y left room token progress
  reported_under room progress word token e did =
      subst (λ (v : List ℕ). ImportsReported reader reads writer writes faulter fails image status x y left room v
      progress) e did

  -- of a word that is no token nothing is done, whether a report is asked for or not
  pub no_token_either : (room : Option Visits) (reported : Bool) (word : List ℕ) (progress : Bool)
      → Finished reader reads writer writes faulter fails image status x y left room
      (IsNoToken reader reads writer writes faulter fails image status x y left room word)
      → y.input ≡ x.input → y.output ≡ x.output
      → OpensNothing reader reads writer writes faulter fails image status x y left room
      → DoesImport reader reads writer writes faulter fails image status x y left room reported word progress
  no_token_either room false word progress none unread unwritten opens = inl (none, unread, unwritten, opens)
  no_token_either room true word progress none unread unwritten opens = inl (none, unread, unwritten, opens)

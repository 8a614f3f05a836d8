use Rattle.std.proofs.Common.{◌≡◌, ◌∙◌, ap, ap₂, inl, inr, refl, subst, sym, codes, map, string_bytes, arith, Err}
use Rattle.std.specs.Prelude.{◌||◌, List, ℕ, Bool, true, false, Option, None, Some, IfSome, is_some, option_map}
use Rattle.clap.specs.Words.{subcommand_of}
use Rattle.command_line.specs.Asking.{HasWords, IsTaken, command_named, given_in, is_told, name_of}
use Rattle.command_line.specs.Commands.{program}
use Rattle.command_line.specs.declared.tasks.Asked.{Asked}
use Rattle.command_line.specs.declared.tasks.Asked.TheVariants as asked
use Rattle.command_line.specs.declared.tasks.Refused.{Refused}
use Rattle.command_line.specs.declared.tasks.Refused.TheVariants.{OutOfMemory, Words}
use Rattle.sqlite_wal.specs.Files.{image_at}
use Rattle.archive_files.specs.declared.left.Left.TheVariants.{Untouched}
use Rattle.record_text.specs.declared.refusal.RefusalText.{RefusalText}
use Rattle.tasks.specs.Status.{Finishes}
use Rattle.parish.specs.Doing.{tells}
use Rattle.parish.specs.Ends.{AreOf, AreOfEnteredTable, AreOfPlainExport, AreOfReportedImport, AreOfToldImport}
use Rattle.parish.proofs.Ending.{does_at_most_1, does_quietly}
use Rattle.parish.proofs.Untaken.{untaken}
use Rattle.parish.proofs.command.command.Goals as goal

-- words that were refused are not out of memory
abbrev IsWords : Refused → Type 0
IsWords (Words text) = Unit {0}
IsWords OutOfMemory = ⊥

no_want : (r : Refused) → IsWords r → r ≡ OutOfMemory → ⊥
no_want r is same = subst IsWords same is

-- of an import nothing is said but where it is asked for
untold : (progress : Bool) (words : List (List ℕ)) → AreOf words (codes "import")
    → progress ≡ is_told (subcommand_of program words) → ¬ (AreOfToldImport words) → progress ≡ false
untold false words of is no_import = refl
untold true words of is no_import = absurd (no_import (of, sym is))

-- nor where no report is asked for
unreported : {A : Type 0} (text : A → List ℕ) (report : Option A) (words : List (List ℕ))
    → AreOf words (codes "import")
    → option_map text report ≡ given_in (subcommand_of program words) (codes "report")
    → ¬ (AreOfReportedImport words) → is_some report ≡ false
unreported text None words of is no_report = refl
unreported text (Some path) words of is no_report = absurd (no_report (of, ap is_some (sym is)))

-- what is asked for says nothing where it is done, but for those six
quiet : (a : Asked) (words : List (List ℕ)) → IfSome (name_of a) (λ n. IsTaken words × (command_named words ≡ Some n))
    → HasWords (subcommand_of program words) a → ¬ (AreOf words (codes "apply")) → ¬ (AreOf words (codes "convert"))
    → ¬ (AreOfToldImport words) → ¬ (AreOfReportedImport words) → ¬ (AreOfPlainExport words)
    → ¬ (AreOfEnteredTable words)
    → tells a ≡ false
quiet (asked.Apply file stops answers) words of has no_apply no_convert no_import no_report no_plain
    no_table = absurd (no_apply of)
quiet (asked.Import file token progress report) words of has no_apply no_convert no_import no_report no_plain
    no_table =
    ap₂ (λ (p r : Bool). p || r) (untold progress words of has.2 no_import)
    (unreported _ report words of has.3 no_report)
quiet (asked.Convert from) words of has no_apply no_convert no_import no_report no_plain
    no_table = absurd (no_convert of)
quiet asked.Norm words of has no_apply no_convert no_import no_report no_plain no_table = refl
quiet asked.Check words of has no_apply no_convert no_import no_report no_plain no_table = refl
quiet asked.CheckAll words of has no_apply no_convert no_import no_report no_plain no_table = refl
quiet (asked.Init file society) words of has no_apply no_convert no_import no_report no_plain no_table = refl
quiet (asked.Entries file source token) words of has no_apply no_convert no_import no_report no_plain no_table = refl
quiet (asked.EnterTable file source form token) words of has no_apply no_convert no_import no_report no_plain no_table =
    absurd (no_table (of, has.2, has.4))
quiet (asked.CheckTable file source form) words of has no_apply no_convert no_import no_report no_plain no_table = refl
quiet (asked.Export file) words of has no_apply no_convert no_import no_report no_plain no_table = refl
quiet (asked.ExportPublic file today) words of has no_apply no_convert no_import no_report no_plain no_table = refl
quiet (asked.ExportPlain file) words of has no_apply no_convert no_import no_report no_plain no_table =
    absurd (no_plain (of, has.3))
quiet (asked.ExportPublicPlain file today) words of has no_apply no_convert no_import no_report no_plain no_table =
    absurd (no_plain (of, has.3))
quiet (asked.Sheet file which number generations today) words of has no_apply no_convert no_import no_report no_plain
    no_table =
    refl
quiet (asked.Serve file port count today pages) words of has no_apply no_convert no_import no_report no_plain
    no_table = refl
quiet (asked.Audit file) words of has no_apply no_convert no_import no_report no_plain no_table = refl
quiet (asked.Days file first last told) words of has no_apply no_convert no_import no_report no_plain no_table = refl
quiet (asked.List file which source after limit csv) words of has no_apply no_convert no_import no_report no_plain
    no_table = refl
quiet (asked.Find file names which limit csv) words of has no_apply no_convert no_import no_report no_plain
    no_table = refl
quiet (asked.Show file numbers) words of has no_apply no_convert no_import no_report no_plain no_table = refl
quiet (asked.History file number) words of has no_apply no_convert no_import no_report no_plain no_table = refl
quiet (asked.Review file csv) words of has no_apply no_convert no_import no_report no_plain no_table = refl
quiet (asked.Completions text) words of has no_apply no_convert no_import no_report no_plain no_table = refl
quiet (asked.Text text) words of has no_apply no_convert no_import no_report no_plain no_table = refl

pub returns-in-Ok-clause-status : goal.returns-in-Ok-clause-status
returns-in-Ok-clause-status g c =
    let one = does_at_most_1 g.R.Read g.R.Device g.W.Write g.W.Device g.F.Write g.F.Device
    (image_at g.S.Start) _ _ _ _ _
    c.in-Ok.asked c.work.ensures in
    omega (arith, one)

pub returns-in-Ok-clause-words : goal.returns-in-Ok-clause-words
returns-in-Ok-clause-words g c = λ two.
    let one = does_at_most_1 g.R.Read g.R.Device g.W.Write g.W.Device g.F.Write g.F.Device
    (image_at g.S.Start) _ _ _ _ _
    c.in-Ok.asked c.work.ensures in
    absurd (omega (arith, one, two))

pub returns-in-Ok-clause-done : goal.returns-in-Ok-clause-done
returns-in-Ok-clause-done g c = λ zero no_apply no_convert no_import no_report no_plain no_table.
    does_quietly g.R.Read g.R.Device g.W.Write g.W.Device g.F.Write g.F.Device
    (image_at g.S.Start) _ _ _ _ _ c.in-Ok.asked
    c.work.ensures
    (quiet c.in-Ok.asked (map string_bytes c.args.words.now) c.in-Ok.ensures.asked.0 c.in-Ok.ensures.asked.1
    no_apply no_convert no_import no_report no_plain no_table) zero

pub returns-in-Ok-clause-does : goal.returns-in-Ok-clause-does
returns-in-Ok-clause-does g c = λ taken.
    inr (c.in-Ok.asked, c.in-Ok.ensures.taken taken, c.in-Ok.ensures.asked, c.work.ensures)

pub returns-in-Ok-clause-others : goal.returns-in-Ok-clause-others
returns-in-Ok-clause-others g c = λ none.
    untaken g.R.Read g.R.Device g.W.Write g.W.Device g.F.Write g.F.Device (image_at g.S.Start) _ _ _ _ _
    (map string_bytes c.args.words.now) none c.in-Ok.asked c.in-Ok.ensures.asked.0 c.work.ensures
    c.in-Ok.ensures.shown

pub returns-in-Ok-clause-carries : goal.returns-in-Ok-clause-carries
returns-in-Ok-clause-carries g c = λ bytes seen unseen ended after s as_seen finds. inl (
  c.in-Ok.asked,
  c.in-Ok.ensures.asked,
  c.what_is_asked_for_loses_nothing.ensures.asked (image_at g.S.Start) after c.in-Ok.asked _ _ _ _ _ bytes seen
      unseen ended c.work.ensures s as_seen finds,
)

pub returns-in-Err-Words-clause-others : goal.returns-in-Err-Words-clause-others
returns-in-Err-Words-clause-others g c = λ none. (refl, (tt, refl), inr (refl, inl c.refuse_words.ensures.status))

pub returns-in-Err-Words-clause-carries : goal.returns-in-Err-Words-clause-carries
returns-in-Err-Words-clause-carries g c = λ bytes seen unseen ended after s as_seen finds.
    c.what_is_asked_for_loses_nothing.ensures.refused (image_at g.S.Start) after (map string_bytes c.args.words.now)
    c.refuse_words.result _ _ (Untouched c.args.start) bytes seen unseen ended s as_seen finds tt refl
    (λ zero. omega (arith, zero, c.refuse_words.ensures.status))
    (λ taken two. no_want _ tt (sym c.in-Err-Words.field-0-is ∙ c.in-Err-Words.ensures.taken taken))

pub returns-in-Err-OutOfMemory-clause-carries : goal.returns-in-Err-OutOfMemory-clause-carries
returns-in-Err-OutOfMemory-clause-carries g c = λ bytes seen unseen ended after s as_seen finds.
    c.what_is_asked_for_loses_nothing.ensures.refused (image_at g.S.Start) after (map string_bytes c.args.words.now)
    c.status_of.result _ _ (Untouched c.args.start) bytes seen unseen ended s as_seen finds tt refl
    (λ zero. omega (arith, zero, c.status_of.ensures.0)) (λ taken two. omega (arith, two, c.status_of.ensures.0))

pub returns-in-Err-OutOfMemory-clause-others : goal.returns-in-Err-OutOfMemory-clause-others
returns-in-Err-OutOfMemory-clause-others g c = λ none. (
  refl,
  (tt, refl),
  inr (
    refl,
    inr (record {
      finishes = subst
          (λ (t : RefusalText). Finishes g.F.Write.contents g.F.Device.failed (Err t) c.status_of.result
          c.args.faults.now c.status_of.new.faults) c.placeless.ensures c.status_of.ensures;
      unread = refl;
      unwritten = refl;
      unopened = (tt, refl);
    }),
  ),
)

pub returns-in-Err-OutOfMemory-clause-does : goal.returns-in-Err-OutOfMemory-clause-does
returns-in-Err-OutOfMemory-clause-does g c = λ taken. inl (record {
  finishes = subst
      (λ (t : RefusalText). Finishes g.F.Write.contents g.F.Device.failed (Err t) c.status_of.result c.args.faults.now
      c.status_of.new.faults) c.placeless.ensures c.status_of.ensures;
  unread = refl;
  unwritten = refl;
  unopened = (tt, refl);
})

-- How the commands end that open no archive, and words of commands.
use Rattle.std.specs.Prelude.{
  ◌≡◌,
  ◌⊎◌,
  ◌++◌,
  ◌∷◌,
  [],
  ℕ,
  false,
  List,
  Option,
  Some,
  IfSome,
  IfErr,
  OnOk,
  codes,
  is_some,
  true,
}
use Rattle.std.specs.Fmt.{decimal}
use Rattle.std.specs.Io.KnownBytes.{Appends, Keeps}
use Rattle.clap.specs.Words.{subcommand_of}
use Rattle.command_line.specs.Asking.{IsTaken, command_named, given_in, is_checked, is_plain, is_table, is_told}
use Rattle.command_line.specs.Commands.{program}
use Rattle.devices.specs.Devices.{AppendsBeginning}
use Rattle.archive_input.specs.Faults.{refusal_of}
use Rattle.file_faults.specs.Faults.{faults}
use Rattle.file_faults.specs.Shown.{listing}
use Rattle.file_faults.specs.Streams.{Begins, Unread}
use Rattle.gedcom_rules.specs.Faults.{Fault, FaultOf}
use Rattle.gedcom_tree.specs.File.{ReadsFile}
use Rattle.gedcom_tree.specs.Forest.{Item}
use Rattle.gedcom_tree.specs.Streams.{Begun, Normalised, NotRead, NotWritten}
use Rattle.gedcom_tree.specs.Text.{record_count}
use Rattle.record_text.specs.declared.refusal.RefusalKind.{RefusalKind}
use Rattle.record_text.specs.declared.refusal.RefusalText.{RefusalText}
use Rattle.record_text.specs.declared.refusal.Unit.TheVariants as unit
use Rattle.tasks.specs.Parts.{IsPrintedPart}
use Rattle.tasks.specs.Status.{Outcome, placeless_text}

-- the words are those of this command, with nothing that it does not take
abbrev pub AreOf : List (List ℕ) → List ℕ → Type 0
AreOf words name = IsTaken words × (command_named words ≡ Some name)

-- the words are those of an import that says how far it is
abbrev pub AreOfToldImport : List (List ℕ) → Type 0
AreOfToldImport words = AreOf words (codes "import") × (is_told (subcommand_of program words) ≡ true)

-- the words are those of an import with a report
abbrev pub AreOfReportedImport : List (List ℕ) → Type 0
AreOfReportedImport words = AreOf words (codes "import")
    × (is_some (given_in (subcommand_of program words) (codes "report")) ≡ true)

-- the words are those of a table that is entered
abbrev pub AreOfEnteredTable : List (List ℕ) → Type 0
AreOfEnteredTable words = AreOf words (codes "entries") × (is_table (subcommand_of program words) ≡ true)
    × (is_checked (subcommand_of program words) ≡ false)

-- the words are those of an export without tags of our own
abbrev pub AreOfPlainExport : List (List ℕ) → Type 0
AreOfPlainExport words = AreOf words (codes "export") × (is_plain (subcommand_of program words) ≡ true)

-- a fault of a file as it is printed, with its line
abbrev pub fault_text : Fault → RefusalText
fault_text f = record { refusal = refusal_of f; unit = unit.Line }

-- ---- norm
-- why it was not done: no forest was read, and nothing is written; or a prefix of its text is. The first type says
-- that the reader failed in this call, the second that the writer did
abbrev pub Unfinished : Option (List ℕ) → Option (List ℕ) → Option (List ℕ) → Type 0 → Type 0 → Fault → Type 0
Unfinished known old new ReaderFailed WriterFailed f =
    (NotRead known ReaderFailed f × Keeps old new) ⊎ Begun known old new WriterFailed f

-- the output has got the canonical text of the forest that the input is; or there is a reason why not
pub record Normalises (known old new : Option (List ℕ)) (ReaderFailed WriterFailed : Type 0)
    (outcome : Outcome) : Type 0 where
  pub done : OnOk outcome (Normalised known old new)
  pub refused : IfErr outcome (λ t. (f : Fault) × (t ≡ fault_text f)
      × Unfinished known old new ReaderFailed WriterFailed f)

-- ---- check
-- how many records a file has, as it is printed
abbrev pub records_text : ℕ → List ℕ
records_text n = codes "ok: " ++ (decimal n ++ (codes " records" ++ 10 ∷ []))

-- how many records a forest has
abbrev pub count_text : List Item → List ℕ
count_text f = records_text (record_count f)

-- the bytes are a forest, whose records were counted
pub record Told (known old new : Option (List ℕ)) : Type 0 where
  pub forest : List Item
  pub read : IfSome known (λ b. ReadsFile b forest)
  pub written : Appends old new (count_text forest)

-- of what is printed of the forest that the bytes are, the writer got a prefix
pub record Telling (known old new : Option (List ℕ)) (Failed : Type 0) (f : Fault) : Type 0 where
  pub forest : List Item
  pub read : IfSome known (λ b. ReadsFile b forest)
  pub why : NotWritten Failed f
  pub written : AppendsBeginning old new (count_text forest)

-- why it was not done: no forest was read, and nothing is written; or a prefix of what is printed
abbrev pub Untold : Option (List ℕ) → Option (List ℕ) → Option (List ℕ) → Type 0 → Type 0 → Fault → Type 0
Untold known old new ReaderFailed WriterFailed f =
    (NotRead known ReaderFailed f × Keeps old new) ⊎ Telling known old new WriterFailed f

-- the records of the forest that the input is were counted; or there is a reason why not
pub record Checks (known old new : Option (List ℕ)) (ReaderFailed WriterFailed : Type 0)
    (outcome : Outcome) : Type 0 where
  pub done : OnOk outcome (Told known old new)
  pub refused : IfErr outcome (λ t. (f : Fault) × (t ≡ fault_text f) × Untold known old new ReaderFailed WriterFailed f)

-- ---- check --all
-- what is written of bytes that are a forest with so many records: nothing is listed, and these are counted
pub record IsCount (known : Option (List ℕ)) (text : List ℕ) : Type 0 where
  pub records : ℕ
  pub read : IfSome known (λ b. (f : List Item) × (ReadsFile b f × (records ≡ record_count f)))
  pub listed : List ℕ
  pub bare : IfSome known (λ b. listed ≡ [])
  pub parts : text ≡ listed ++ records_text records

-- it was written
abbrev pub Counted : Option (List ℕ) → Option (List ℕ) → Option (List ℕ) → Type 0
Counted known old new = (text : List ℕ) × IsCount known text × Appends old new text

-- a prefix of it was
abbrev pub Counting : Option (List ℕ) → Option (List ℕ) → Option (List ℕ) → Type 0 → Fault → Type 0
Counting known old new Failed f = (text : List ℕ) × IsCount known text × NotWritten Failed f
    × AppendsBeginning old new text

-- the bytes have this fault, and the list of all their faulty lines was written
pub record Listed (known old new : Option (List ℕ)) (f : Fault) : Type 0 where
  pub text : List ℕ
  pub fault : IfSome known (λ b. FaultOf b f)
  pub list : IfSome known (λ b. text ≡ listing (faults b))
  pub written : Appends old new text

-- why no records were counted: the bytes have a fault, and all faulty lines were listed; or nothing was read, or a
-- prefix of the list was written; or a prefix of how many records they have
abbrev pub UntoldAll : Option (List ℕ) → Option (List ℕ) → Option (List ℕ) → Type 0 → Type 0 → Fault → Type 0
UntoldAll known old new ReaderFailed WriterFailed f = Listed known old new f
    ⊎ ((Unread old new ReaderFailed f ⊎ Begins known old new WriterFailed f) ⊎ Counting known old new WriterFailed f)

-- the records of the forest that the input is were counted, and nothing was listed; or there is a reason why not
pub record ChecksAll (known old new : Option (List ℕ)) (ReaderFailed WriterFailed : Type 0)
    (outcome : Outcome) : Type 0 where
  pub done : OnOk outcome (Counted known old new)
  pub refused : IfErr outcome (λ t. (f : Fault) × (t ≡ fault_text f)
      × UntoldAll known old new ReaderFailed WriterFailed f)

-- ---- help
-- the text was printed, or a prefix of it
pub record Shows (text : List ℕ) (old new : Option (List ℕ)) (WriterFailed : Type 0) (outcome : Outcome) : Type 0 where
  pub done : OnOk outcome (Appends old new text)
  pub refused : IfErr outcome (λ t. (kind : RefusalKind) × (t ≡ placeless_text kind)
      × IsPrintedPart text kind old new WriterFailed)

-- ---- words that are refused
-- why a command line is refused of which a word is not UTF-8
unfoldable pub not_utf8_text : List ℕ
not_utf8_text = codes "error: a word of the command line is not UTF-8" ++ (10 ∷ 10 ∷ codes
    "For more information, try '--help'." ++ (10 ∷ []))

-- What follows the line of a refusal: a line that begins with two spaces, of what was found or what to do. Rules of our
-- own.
use Rattle.std.specs.Prelude.{◌≡◌, ◌⊎◌, ◌++◌, ◌∷◌, [], ℕ, List, codes}
use Rattle.conversion_reports.specs.Hints.{char_hint}
use Rattle.record_text.specs.declared.refusal.RefusalKind.{RefusalKind}
use Rattle.record_text.specs.declared.refusal.RefusalKind.TheVariants as kind

-- what to do, by the kind of the refusal alone; nothing where nobody can do anything, and of what only a row of
-- requests is answered
abbrev pub advice : RefusalKind → List ℕ
advice kind.OutOfMemory = codes "  run it again with more memory free" ++ 10 ∷ []
advice kind.NotUtf8 = codes "  parish convert makes the file UTF-8" ++ 10 ∷ []
advice kind.BadLevel =
    codes "  the line has no level: was a text broken over two lines, or is it no GEDCOM file?" ++ 10 ∷ []
advice kind.BadXref = codes "  after the level an @ begins a cross reference, as in @I1@, and a tag follows" ++ 10 ∷ []
advice kind.BadTag = codes "  a tag has letters, digits and _ only, with one space before and after it" ++ 10 ∷ []
advice kind.TooLong = codes "  have the line ends been lost? CONC and CONT break a long text" ++ 10 ∷ []
advice kind.Nul = codes "  the file is damaged, or in UTF-16: parish convert makes that UTF-8" ++ 10 ∷ []
advice kind.LevelJump = codes "  a line is missing before it, or its level is wrong" ++ 10 ∷ []
advice kind.NoHead = codes "  the file has to begin with 0 HEAD: is it the right one, and whole?" ++ 10 ∷ []
advice kind.NoTrailer = codes "  the file has to end with 0 TRLR: it was cut off" ++ 10 ∷ []
advice kind.AfterTrailer = codes "  two files were joined: separate them" ++ 10 ∷ []
advice kind.BadContinuation = codes "  CONC and CONT stand one level below the text that they continue" ++ 10 ∷ []
advice kind.ContinuationHasChildren =
    codes "  nothing stands below CONC and CONT: all continuations of a text have one level" ++ 10 ∷ []
advice kind.DuplicateXref = codes "  an earlier line has this cross reference: give one of the two another" ++ 10 ∷ []
advice kind.FileTooLarge = codes "  a file has at most 67,108,864 bytes: have its program write several" ++ 10 ∷ []
advice kind.TextTooLong = codes "  a text has at most 1,048,576 bytes: is a picture in it?" ++ 10 ∷ []
advice kind.Charset = codes "  CHAR names another character set: parish convert makes the file UTF-8" ++ 10 ∷ []
advice kind.Version = codes "  have the file written as GEDCOM 5.5.1" ++ 10 ∷ []
advice kind.BadStored = codes "  another program has written the file: go back to the last good copy" ++ 10 ∷ []
advice kind.NoSuch = codes "  parish list and parish find show which numbers there are" ++ 10 ∷ []
advice kind.WrongKind = codes "  the number is that of a record of another kind" ++ 10 ∷ []
advice kind.TokenReused =
    codes "  the token was used for something else: give each page, file and request its own" ++ 10 ∷ []
advice kind.BadText = codes "  a text is too long, or has U+0000 or CR, or a name or place is empty" ++ 10 ∷ []
advice kind.DuplicateEntry =
    codes "  an entry of this source, kind, page and item is there already, or twice in the file" ++ 10 ∷ []
advice kind.NotOfKind = codes "  a role is none of the kind, or empty: remove commas that a spreadsheet adds" ++ 10 ∷ []
advice kind.ExportTooLarge = codes "  keep copies of the archive's file instead, which may be larger" ++ 10 ∷ []
advice kind.Storage = codes "  the archive could not be read or written: run it again, nothing is done twice" ++ 10 ∷ []
advice kind.NotAnArchive = codes "  name the file of an archive, or for init a file that does not exist yet" ++ 10 ∷ []
advice kind.NewerSchema = codes "  a later version of parish has written it: use that one" ++ 10 ∷ []
advice kind.DaysReversed = codes "  the day of --from is after that of --to: swap them" ++ 10 ∷ []
advice kind.BadRow = codes "  a field is not UTF-8, or its kind, item, date or place is not of its type" ++ 10 ∷ []
advice kind.FieldCount = codes "  a row has 1 to 100 mentions, each with a role: count its commas" ++ 10 ∷ []
advice kind.BadToken = codes "  a token is 1 to 64 characters from ! to ~, none of them a space" ++ 10 ∷ []
advice kind.ReadFailed =
    codes "  it could not be read, or for serve another program has the port: run it again" ++ 10 ∷ []
advice kind.WriteFailed = codes "  it could not be written: is the disk full, or has its reader left?" ++ 10 ∷ []
advice _ = []

-- ---- why the file of an archive is not opened or made, or not written
abbrev pub in_use : List ℕ
in_use = codes "  another program has the file open" ++ 10 ∷ []

abbrev pub no_file : List ℕ
no_file = codes "  it is a folder, or something else that is no file" ++ 10 ∷ []

abbrev pub no_folder : List ℕ
no_folder = codes "  the folder does not exist" ++ 10 ∷ []

abbrev pub no_reading : List ℕ
no_reading = codes "  no right to read it" ++ 10 ∷ []

abbrev pub no_writing : List ℕ
no_writing = codes "  no right to write it" ++ 10 ∷ []

abbrev pub a_journal : List ℕ
a_journal = codes "  SQLite has left a journal beside it: open it once with sqlite3" ++ 10 ∷ []

abbrev pub a_second_name : List ℕ
a_second_name = codes "  it could not be opened: has it a second name (a hard link)?" ++ 10 ∷ []

abbrev pub no_database : List ℕ
no_database = codes "  it is no database that parish can read" ++ 10 ∷ []

abbrev pub damaged : List ℕ
damaged = codes "  the database in it is damaged: go back to the last good copy" ++ 10 ∷ []

abbrev pub no_place : List ℕ
no_place = codes "  no place on the disk" ++ 10 ∷ []

abbrev pub no_device : List ℕ
no_device = codes "  it could not be read or written" ++ 10 ∷ []

abbrev pub no_memory : List ℕ
no_memory = codes "  run it again with more memory free" ++ 10 ∷ []

-- one of these, of which none has anything of an archive
abbrev pub IsCause : List ℕ → Type 0
IsCause hint = (hint ≡ in_use) ⊎ ((hint ≡ no_file) ⊎ ((hint ≡ no_folder) ⊎ ((hint ≡ no_reading) ⊎ ((hint ≡ no_writing)
    ⊎ ((hint ≡ a_journal) ⊎ ((hint ≡ a_second_name) ⊎ ((hint ≡ no_database) ⊎ ((hint ≡ damaged) ⊎ ((hint ≡ no_place)
    ⊎ ((hint ≡ no_device) ⊎ (hint ≡ no_memory)))))))))))

-- ---- the hint of a refusal
-- what was found beyond its kind: what the first bytes of a file say of its character set; and why the file of an
-- archive is not opened, made or written
abbrev pub IsFound : RefusalKind → List ℕ → Type 0
IsFound kind.Charset hint = (start : List ℕ) × (hint ≡ char_hint start)
IsFound kind.Storage hint = IsCause hint
IsFound _ hint = ⊥

abbrev pub IsHint : RefusalKind → List ℕ → Type 0
IsHint k hint = (hint ≡ advice k) ⊎ IsFound k hint

use Rattle.std.proofs.Common.{List, SFits, refl, rules, subst, w32}
use Rattle.std.proofs.lemmas.Int.{to_z-of_z}
use Rattle.sqlite.specs.Held.{state}
use Rattle.archive_tables.specs.Ends.{EndsWriting, OnRead}
use Rattle.archive_tables.specs.Texts.{shown_text}
use Rattle.row_references.specs.declared.words.NumberWord.{NumberWord}
use Rattle.tasks.proofs.Aloud.{says_far}
use Rattle.tasks.proofs.Blamed.{blamed_by}
use Rattle.tasks.proofs.Days.{lists_on, prints_on, publishes_on, publishes_plain_on, shelves_on}
use Rattle.tasks.proofs.perform.do_task.Goals as goal

pub returns-in-Apply : goal.returns-in-Apply
returns-in-Apply g c =
    let did = c.apply.ensures in
    rw c.in-Apply.is (
      (
        c.apply.result,
        c.plain.ensures,
        record {
          applied = did.applied;
          ended = did.ended;
          blamed = blamed_by c.apply.result _ _ did.read_failed did.write_failed;
        },
      ),
      refl,
    )

pub returns-in-ApplyUntilRefused : goal.returns-in-ApplyUntilRefused
returns-in-ApplyUntilRefused g c =
    let did = c.apply_until_refused.ensures in
    rw c.in-ApplyUntilRefused.is (
      (
        c.apply_until_refused.result,
        c.stopped.ensures,
        record {
          applied = did.applied;
          ended = did.ended;
          blamed = blamed_by c.apply_until_refused.result _ _ did.read_failed did.write_failed;
        },
      ),
      refl,
    )

pub returns-in-ApplyAsExpected : goal.returns-in-ApplyAsExpected
returns-in-ApplyAsExpected g c = rw c.in-ApplyAsExpected.is (c.apply_expected.ensures, refl)

pub returns-in-Entries : goal.returns-in-Entries
returns-in-Entries g c =
    let did = c.enter_batch.ensures in
    rw c.in-Entries.is (record { entered = did.entered; refused = did.refused }, refl, refl)

pub returns-in-EnterTable : goal.returns-in-EnterTable
returns-in-EnterTable g c = rw c.in-EnterTable.is (c.enter_table.ensures, refl)

pub returns-in-CheckTable : goal.returns-in-CheckTable
returns-in-CheckTable g c = rw c.in-CheckTable.is (c.check_table.ensures, refl)

pub returns-in-Import : goal.returns-in-Import
returns-in-Import g c =
    let did = c.import_file.ensures in
    rw c.in-Import.is (
      record { imported = did.imported; refused = did.refused },
      says_far g.S.Store g.R.Read g.R.Device g.W.Write g.W.Device g.F.Write g.F.Device
          (record {
            archive = c.args.archive.now;
            input = c.args.input.now;
            output = c.args.output.now;
            faults = c.args.faults.now;
          })
          (record {
            archive = c.import_file.new.archive;
            input = c.import_file.new.input;
            output = c.import_file.new.output;
            faults = c.import_file.new.faults;
          })
          c.in-Import.progress c.in-Import.token c.import_file.result did.silent did.told did.told_done,
      refl,
    )

pub returns-in-Export : goal.returns-in-Export
returns-in-Export g c =
    let did = c.write_archive.ensures in
    rw c.in-Export.is (
      (
        c.write_archive.result,
        c.plain-in-Export.ensures,
        record {
          written = did.written;
          begun = did.begun;
          blamed = did.writer;
          stays = did.reads;
          told = did.told;
        },
      ),
      refl,
      refl,
      refl,
    )

pub returns-in-ExportPublic : goal.returns-in-ExportPublic
returns-in-ExportPublic g c =
    let did = c.write_public.ensures in
    let fits : SFits w32 c.in-ExportPublic.today = search rules in
    rw c.in-ExportPublic.is (
      (
        c.write_public.result,
        c.plain-in-ExportPublic.ensures,
        publishes_on _ _ _ _ _ _ _ _ _ _ c.in-ExportPublic.today c.write_public.result
            (to_z-of_z w32 c.in-ExportPublic.today fits) did.written did.begun did.sound did.unread did.writer
            (record { stays = did.reads; lost = did.lost }),
      ),
      refl,
      refl,
      refl,
    )

pub returns-in-ExportPlain : goal.returns-in-ExportPlain
returns-in-ExportPlain g c =
    let did = c.export_plain.ensures in
    rw c.in-ExportPlain.is (
      (
        c.export_plain.result,
        c.plain-in-ExportPlain.ensures,
        record {
          written = did.written;
          quiet = did.quiet;
          begun = did.begun;
          unread = did.unread;
          blamed = did.writer;
          looks = record { stays = did.reads; lost = did.lost };
        },
      ),
      refl,
      refl,
    )

pub returns-in-ExportPublicPlain : goal.returns-in-ExportPublicPlain
returns-in-ExportPublicPlain g c =
    let did = c.export_public_plain.ensures in
    let fits : SFits w32 c.in-ExportPublicPlain.today = search rules in
    rw c.in-ExportPublicPlain.is (
      (
        c.export_public_plain.result,
        c.plain-in-ExportPublicPlain.ensures,
        publishes_plain_on _ _ _ _ _ _ _ _ _ _ c.in-ExportPublicPlain.today c.export_public_plain.result
            (to_z-of_z w32 c.in-ExportPublicPlain.today fits) did.written did.quiet did.begun did.unread did.writer
            (record { stays = did.reads; lost = did.lost }),
      ),
      refl,
      refl,
    )

pub returns-in-Sheet : goal.returns-in-Sheet
returns-in-Sheet g c =
    let did = c.write_sheet.ensures in
    let fits : SFits w32 c.in-Sheet.today = search rules in
    rw c.in-Sheet.is (
      (
        c.write_sheet.result,
        c.plain-in-Sheet.ensures,
        prints_on _ _ _ _ _ _ _ _ _ _ _ c.in-Sheet.today c.write_sheet.result
            (to_z-of_z w32 c.in-Sheet.today fits) did.written did.refused did.sound did.unread did.writer
            (record { stays = did.reads; lost = did.lost }),
      ),
      refl,
      refl,
      refl,
    )

pub returns-in-Library : goal.returns-in-Library
returns-in-Library g c =
    let did = c.show_library.ensures in
    let fits : SFits w32 c.in-Library.today = search rules in
    rw c.in-Library.is (
      shelves_on (state g.S.Store c.args.archive.now.conn) (state g.S.Store c.show_library.new.archive.conn) _
          c.in-Library.today c.show_library.result.0 c.show_library.result.1
          (to_z-of_z w32 c.in-Library.today fits) did.shelves,
      record { stays = did.reads; lost = did.lost },
      refl,
      refl,
      refl,
    )

pub returns-in-Audit : goal.returns-in-Audit
returns-in-Audit g c =
    let did = c.audit_archive.ensures in
    rw c.in-Audit.is (
      (
        did.audits.0,
        record { stays = did.reads; lost = did.audits.1 },
        did.audits.2,
        did.audits.3,
        did.quiet,
      ),
      refl,
      refl,
    )

pub returns-in-Days : goal.returns-in-Days
returns-in-Days g c =
    let did = c.write_days.ensures in
    let fits_first : SFits w32 c.in-Days.first = search rules in
    let fits_last : SFits w32 c.in-Days.last = search rules in
    rw c.in-Days.is (
      (
        c.write_days.result,
        c.plain-in-Days.ensures,
        lists_on _ _ _ _ _ _ _ _ _ c.in-Days.words _ c.in-Days.first _ c.in-Days.last c.write_days.result
            (to_z-of_z w32 c.in-Days.first fits_first) (to_z-of_z w32 c.in-Days.last fits_last) did.written did.cut
            did.unread did.writer (record { stays = did.reads; lost = did.lost }),
      ),
      refl,
      refl,
      refl,
    )

pub returns-in-List : goal.returns-in-List
returns-in-List g c =
    let did = c.write_list.ensures in
    rw c.in-List.is (
      (
        c.write_list.result,
        c.plain-in-List.ensures,
        record {
          ended = did.ended;
          unread = did.unread;
          blamed = did.writer;
          stays = did.reads;
          lost = did.lost;
        },
      ),
      refl,
      refl,
      refl,
    )

pub returns-in-Show : goal.returns-in-Show
returns-in-Show g c =
    let did = c.write_shown.ensures in
    let ended = subst (λ (ns : List NumberWord). OnRead (state g.S.Store c.args.archive.now.conn)
    (state g.S.Store c.write_shown.new.archive.conn) (λ k. EndsWriting c.write_shown.result
    (g.W.Write.contents c.args.output.now) (g.W.Write.contents c.write_shown.new.writer) (shown_text k ns)))
    c.deref.ensures.value did.ended in
    rw c.in-Show.is (
      (
        c.write_shown.result,
        c.plain-in-Show.ensures,
        record {
          ended = ended;
          unread = did.unread;
          blamed = did.writer;
          stays = did.reads;
          lost = did.lost;
        },
      ),
      refl,
      refl,
      refl,
    )

pub returns-in-History : goal.returns-in-History
returns-in-History g c =
    let did = c.write_history.ensures in
    rw c.in-History.is (
      (
        c.write_history.result,
        c.plain-in-History.ensures,
        record {
          ended = did.ended;
          unread = did.unread;
          blamed = did.writer;
          stays = did.reads;
          lost = did.lost;
        },
      ),
      refl,
      refl,
      refl,
    )

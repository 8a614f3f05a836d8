use Rattle.std.proofs.Common.{ℕ, ℤ, List, subst, w32}
use Rattle.std.proofs.lemmas.Int.{to_z-of_z}
use Rattle.std.specs.Prelude.{IfErr, IfOk, string_bytes}
use Rattle.sqlite.specs.Held.{state}
use Rattle.archive_output.specs.Reading.{OnOpen}
use Rattle.archive_output.proofs.Calls.{reads_any_then}
use Rattle.archive_output.proofs.Named.{each_of_named, not_blamed, part_of_named}
use Rattle.archive_output.specs.Plain.{IsPartPlainPublished, IsPlainPublished}
use Rattle.archive_output.specs.Showing.{OfSound}
use Rattle.archive_output.proofs.Sound.{each_under}
use Rattle.archive_output.proofs.Masked.{not_begun}
use Rattle.archive_output.proofs.plain_publishing.write_public_plain.Goals as goal
use Rattle.list_laws.proofs.Outcomes.{keeps}

pub returns-in-Ok-clause-written : goal.returns-in-Ok-clause-written
returns-in-Ok-clause-written g c =
    let old = state g.S.Store c.args.archive.now.conn in
    let new = state g.S.Store c.write_named.new.archive.conn in
    let before = g.W.Write.contents c.args.writer.now in
    let after = g.W.Write.contents c.write_named.new.writer in
    subst (λ (t : ℤ). IfOk c.write_named.result
    (λ left_out. OnOpen old new (IsPlainPublished before after (string_bytes left_out) t)))
    (to_z-of_z w32 c.args.today c.ranges.today)
    (each_of_named c.write_named.result old (state g.S.Store c.society_of.new.archive.conn) new c.in-Ok.society
    c.as_str.result.now (λ left_out. IsPlainPublished before after (string_bytes left_out) _) c.as_str.ensures.same
    c.in-Ok.ensures.named
    c.write_named.ensures.written)

pub returns-in-Ok-clause-begun : goal.returns-in-Ok-clause-begun
returns-in-Ok-clause-begun g c =
    let old = state g.S.Store c.args.archive.now.conn in
    let new = state g.S.Store c.write_named.new.archive.conn in
    let before = g.W.Write.contents c.args.writer.now in
    let after = g.W.Write.contents c.write_named.new.writer in
    subst (λ (t : ℤ). IfErr c.write_named.result (λ kind. OnOpen old new (IsPartPlainPublished kind before after t)))
    (to_z-of_z w32 c.args.today c.ranges.today)
    (part_of_named c.write_named.result old (state g.S.Store c.society_of.new.archive.conn) new c.in-Ok.society
    c.as_str.result.now (λ kind. IsPartPlainPublished kind before after _) c.as_str.ensures.same c.in-Ok.ensures.named
    c.write_named.ensures.begun)

pub returns-in-Err-clause-begun : goal.returns-in-Err-clause-begun
returns-in-Err-clause-begun g c =
    not_begun (state g.S.Store c.args.archive.now.conn) (state g.S.Store c.society_of.new.archive.conn) c.in-Err.kind
    (g.W.Write.contents c.args.writer.now) _ c.in-Err.ensures.unnamed

pub returns-in-Err-clause-writer : goal.returns-in-Err-clause-writer
returns-in-Err-clause-writer g c = not_blamed c.in-Err.kind _ c.in-Err.ensures.stops

pub returns-in-Err-clause-unread : goal.returns-in-Err-clause-unread
returns-in-Err-clause-unread g c = λ _. keeps (g.W.Write.contents c.args.writer.now)

pub returns-in-Ok-clause-sound : goal.returns-in-Ok-clause-sound
returns-in-Ok-clause-sound g c =
    let old = state g.S.Store c.args.archive.now.conn in
    let new = state g.S.Store c.write_named.new.archive.conn in
    let before = g.W.Write.contents c.args.writer.now in
    let after = g.W.Write.contents c.write_named.new.writer in
    subst (λ (t : ℤ). IfOk c.write_named.result (λ left_out. OfSound old new (λ of. (society : List ℕ)
    × IsPlainPublished before after (string_bytes left_out) t society of)))
    (to_z-of_z w32 c.args.today c.ranges.today)
    (each_under old (state g.S.Store c.society_of.new.archive.conn) new c.society_of.new.archive.is_lost
    c.in-Ok.ensures.lost (λ clean. (c.write_named.ensures.reads.stays clean).clean) c.in-Ok.ensures.reads.stays
    c.write_named.result c.as_str.result.now (λ left_out. IsPlainPublished before after (string_bytes left_out) _)
    c.write_named.ensures.sound)

pub returns-in-Ok-clause-reads : goal.returns-in-Ok-clause-reads
returns-in-Ok-clause-reads g c =
    reads_any_then g.S.Store c.args.archive.now c.society_of.new.archive c.write_named.new.archive
    c.in-Ok.ensures.lost c.in-Ok.ensures.reads c.write_named.ensures.reads

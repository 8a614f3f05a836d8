-- Two plain public exports that are done, of archives which differ only in what is hidden, send the same.
use Rattle.std.proofs.Common.{◌≡◌, ℕ, ℤ, List, Ok, Err, sym, subst}
use Rattle.std.specs.Prelude.{Option, OnOk}
use Rattle.std.specs.declared.io.Read as read
use Rattle.std.specs.declared.io.Write as write
use Rattle.sqlite_trees.specs.declared.store.Store.{Ghosts}
use Rattle.archive_state.specs.Content.{Content}
use Rattle.archive_output.specs.Plain.{IsPlainPublished}
use Rattle.devices.specs.declared.device.Device as device
use Rattle.tasks.specs.Ends.{Ends, PublishesPlain}
use Rattle.tasks.specs.Faults.{IsReported}
use Rattle.tasks.specs.Hiding.{DifferInHidden, GotTheSame, IsOver, ReportTheSame}
use Rattle.tasks.specs.Moments.{Moment}
use Rattle.tasks.specs.Status.{Finishes, Outcome, Plain, as_text}
use Rattle.tasks.specs.declared.task.Task.TheVariants as task

module _ {S R W F : Type 0} (g : Ghosts S) (reader : read.Ghosts R) (reads : device.Ghosts R) (writer : write.Ghosts W)
    (writes : device.Ghosts W) (faulter : write.Ghosts F) (fails : device.Ghosts F)
    (printed : (a b : Content) (today : ℤ) (society : List ℕ) (x y v w : Option (List ℕ)) (left_out more : List ℕ)
    → DifferInHidden a b today → IsPlainPublished x y left_out today society a
    → IsPlainPublished v w more today society b → GotTheSame x y v w × (left_out ≡ more))
    (today : ℤ) (society : List ℕ) (c d : Content) (a b v w : Moment g R W F) where
  abbrev Same : Type 0
  Same = GotTheSame (writer.contents a.output) (writer.contents b.output) (writer.contents v.output)
      (writer.contents w.output) × ReportTheSame faulter.contents fails.failed a.faults b.faults v.faults w.faults

  -- the moments before the line of a refusal
  abbrev before : Moment g R W F → F → Moment g R W F
  before m between = record { archive = m.archive; input = m.input; output = m.output; faults = between }

  both : (x z : F) (r q : Plain) → OnOk (as_text r) (b.faults ≡ x) → OnOk (as_text q) (w.faults ≡ z)
      → DifferInHidden c d today → IsOver g society c a b → IsOver g society d v w
      → PublishesPlain g reader reads writer writes faulter fails a (before b x) today r
      → PublishesPlain g reader reads writer writes faulter fails v (before w z) today q
      → OnOk (as_text r) (OnOk (as_text q) Same)
  both x z (Ok done) (Ok _) last ends differ over also one two =
      let first = one.written in
      let second = two.written in
      let same = printed c d today society _ _ _ _ first.0 second.0 differ
      ((first.2 over.clean).1 society c over.has).0 ((second.2 also.clean).1 society d also.has).0 in (
        same.0,
        (
          first.0,
          subst (λ (f : F). IsReported faulter.contents fails.failed a.faults f first.0) (sym last) first.1,
          subst (λ (f : F). IsReported faulter.contents fails.failed v.faults f first.0) (sym ends)
              (subst (IsReported faulter.contents fails.failed v.faults z) (sym same.1) second.1),
        ),
      )
  both x z (Ok done) (Err kind) last ends differ over also one two = tt
  both x z (Err kind) q last ends differ over also one two = tt

  -- where a task is done nothing more is said on the faults
  settled : (o : Outcome) (status : ℕ) (between last : F) → Finishes faulter.contents fails.failed o status between last
      → OnOk o (last ≡ between)
  settled (Ok done) status between last finishes = finishes.1
  settled (Err t) status between last finishes = tt

  pub plain_alike : (status number : ℕ) (shown more : Option Content)
      (first : Ends g reader reads writer writes faulter fails (task.ExportPublicPlain today) a b status shown)
      (second : Ends g reader reads writer writes faulter fails (task.ExportPublicPlain today) v w number more)
      → DifferInHidden c d today → IsOver g society c a b → IsOver g society d v w
      → OnOk first.outcome (OnOk second.outcome Same)
  plain_alike status number shown more first second differ over also =
      let one = first.does over.kept in
      let two = second.does also.kept in
      subst (λ (o : Outcome). OnOk o (OnOk second.outcome Same)) (sym one.0.1)
      (subst (λ (o : Outcome). OnOk (as_text one.0.0) (OnOk o Same)) (sym two.0.1)
      (both first.between second.between one.0.0 two.0.0
      (subst (λ (o : Outcome). OnOk o (b.faults ≡ first.between)) one.0.1
      (settled first.outcome status first.between b.faults first.finishes))
      (subst (λ (o : Outcome). OnOk o (w.faults ≡ second.between)) two.0.1
      (settled second.outcome number second.between w.faults second.finishes))
      differ over also one.0.2 two.0.2))

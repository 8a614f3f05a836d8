-- Two runs that show archives which differ only in what is hidden end alike.
use Rattle.std.proofs.Common.{◌≡◌, ◌⊎◌, ◌∙◌, ℕ, ℤ, List, Some, None, Ok, Err, ap, inl, inr, refl, sym, subst}
use Rattle.std.specs.Prelude.{Option, OnOk}
use Rattle.std.specs.declared.io.Read as read
use Rattle.std.specs.declared.io.Write as write
use Rattle.sqlite.specs.Held.{state}
use Rattle.sqlite_trees.specs.declared.store.Store.{Ghosts}
use Rattle.archive_state.specs.Content.{Content}
use Rattle.devices.specs.declared.device.Device as device
use Rattle.masking.specs.Hidden.{AreAlike}
use Rattle.record_text.specs.declared.refusal.RefusalKind.{RefusalKind}
use Rattle.archive_output.specs.Showing.{IsShown}
use Rattle.archive_output.specs.Writing.{IsPartPublished, IsPublished, IsSheetRefused, IsSheetWritten}
use Rattle.archive_output.specs.declared.sheet.Sheet.{Sheet}
use Rattle.tasks.specs.Ends.{Ends, Publishes, PrintsSheet}
use Rattle.tasks.specs.Hiding.{
  DifferInHidden,
  EndAlike,
  GotTheSame,
  HasFailed,
  IsCutShort,
  IsOver,
  ShowTheSame,
  ShowsOn,
}
use Rattle.tasks.specs.Moments.{Moment}
use Rattle.tasks.specs.Parts.{Shelves}
use Rattle.tasks.specs.Status.{Finishes, Outcome, Plain, as_text, placeless_text}
use Rattle.tasks.specs.declared.task.Task.{Task}
use Rattle.tasks.specs.declared.task.Task.TheVariants as task

turned_alike : (a b : Content) (today : ℤ) → AreAlike a b today → AreAlike b a today
turned_alike a b today alike = record {
  judged = alike.judged;
  first = alike.second;
  second = alike.first;
  alike = λ n. elim (alike.alike n) [
    | inl hidden ↦ inl (hidden.1, hidden.0)
    | inr there ↦ inr (there.1, there.0, there.3, there.2, sym there.4)
  ];
}

turned : (a b : Content) (today : ℤ) → DifferInHidden a b today → DifferInHidden b a today
turned a b today differ = record {
  first = differ.second;
  second = differ.first;
  alike = turned_alike a b today differ.alike;
}

-- what two outcomes without a place say of each other; where both are done, the outputs got the same
abbrev Agree : Type 0 → Plain → Plain → Type 0
Agree Same (Ok done) (Ok also) = Same
Agree Same (Ok done) (Err kind) = HasFailed kind
Agree Same (Err kind) (Ok done) = HasFailed kind
Agree Same (Err kind) (Err other) = (kind ≡ other) ⊎ (HasFailed kind ⊎ HasFailed other)

module _ {S R W F : Type 0} (g : Ghosts S) (reader : read.Ghosts R) (reads : device.Ghosts R) (writer : write.Ghosts W)
    (writes : device.Ghosts W) (faulter : write.Ghosts F) (fails : device.Ghosts F) (today : ℤ) (society : List ℕ)
    (c d : Content)
    (differ : DifferInHidden c d today)
    (printed : (a b : Content) (today : ℤ) (sheet : Sheet) (x y v w : Option (List ℕ)) → DifferInHidden a b today
    → IsSheetWritten x y sheet today a → IsSheetWritten v w sheet today b → GotTheSame x y v w)
    (cut : (a b : Content) (today : ℤ) (sheet : Sheet) (x y v w : Option (List ℕ)) (kind : RefusalKind)
    → DifferInHidden a b today → IsSheetWritten x y sheet today a → IsSheetRefused kind v w sheet today b
    → HasFailed kind)
    (refused : (a b : Content) (today : ℤ) (sheet : Sheet) (x y v w : Option (List ℕ)) (kind other : RefusalKind)
    → DifferInHidden a b today → IsSheetRefused kind x y sheet today a → IsSheetRefused other v w sheet today b
    → (kind ≡ other) ⊎ (HasFailed kind ⊎ HasFailed other))
    (published : (a b : Content) (today : ℤ) (society : List ℕ) (x y v w : Option (List ℕ))
    → DifferInHidden a b today → IsPublished x y today society a → IsPublished v w today society b
    → GotTheSame x y v w)
    (part : (a b : Content) (today : ℤ) (society : List ℕ) (x y v w : Option (List ℕ)) (kind : RefusalKind)
    → DifferInHidden a b today → IsPublished x y today society a → IsPartPublished kind v w today society b
    → HasFailed kind)
    (parts : (a b : Content) (today : ℤ) (society : List ℕ) (x y v w : Option (List ℕ)) (kind other : RefusalKind)
    → DifferInHidden a b today → IsPartPublished kind x y today society a
    → IsPartPublished other v w today society b → (kind ≡ other) ⊎ (HasFailed kind ⊎ HasFailed other))
    (room : (a b : Content) (today : ℤ) (s t : Content) → DifferInHidden a b today → IsShown a today s
    → IsShown b today t → s.records ≡ t.records)
    (a b v w : Moment g R W F) (status number : ℕ) (over : IsOver g society c a b) (also : IsOver g society d v w) where
  abbrev GotSame : Type 0
  GotSame = GotTheSame (writer.contents a.output) (writer.contents b.output) (writer.contents v.output)
      (writer.contents w.output)

  abbrev Written : Type 0
  Written = GotSame ⊎ ((b.output ≡ a.output) × (w.output ≡ v.output))

  -- the status is given by the outcome
  one_status : (o : Outcome) (x y z u : F) → Finishes faulter.contents fails.failed o status x y
      → Finishes faulter.contents fails.failed o number z u → status ≡ number
  one_status (Ok done) x y z u first second = first.0 ∙ sym second.0
  one_status (Err t) x y z u first second = first.0 ∙ sym second.0

  module _ (shown more : Option Content) (o p : Outcome) (x z : F)
      (first : Finishes faulter.contents fails.failed o status x b.faults)
      (second : Finishes faulter.contents fails.failed p number z w.faults) where
    abbrev Alike : Type 0
    Alike = EndAlike writer.contents a b v w o p status number shown more

    agreed : o ≡ p → OnOk o Written → ShowTheSame shown more → Alike
    agreed same written shows = record {
      same = same;
      status_same =
          one_status o x b.faults z w.faults first
          (subst (λ (k : Outcome). Finishes faulter.contents fails.failed k number z w.faults) (sym same) second);
      written = written;
      shows = shows;
    }

    by_plain : (r q : Plain) → Agree GotSame r q → o ≡ as_text r → p ≡ as_text q → ShowTheSame shown more
        → IsCutShort o ⊎ (IsCutShort p ⊎ Alike)
    by_plain (Ok done) (Ok _) texts is so shows = inr (inr (agreed (is ∙ sym so)
        (subst (λ (k : Outcome). OnOk k Written) (sym is) (inl texts)) shows))
    by_plain (Ok done) (Err kind) failed is so shows = inr (inl (subst IsCutShort (sym so) failed))
    by_plain (Err kind) (Ok done) failed is so shows = inl (subst IsCutShort (sym is) failed)
    by_plain (Err kind) (Err other) (inl same) is so shows = inr (inr (agreed
        (is ∙ ap (λ (k : RefusalKind). Err (placeless_text k)) same ∙ sym so)
        (subst (λ (k : Outcome). OnOk k Written) (sym is) tt) shows))
    by_plain (Err kind) (Err other) (inr (inl failed)) is so shows = inl (subst IsCutShort (sym is) failed)
    by_plain (Err kind) (Err other) (inr (inr failed)) is so shows = inr (inl (subst IsCutShort (sym so) failed))

  -- ---- each task
  -- the moments before the line of a refusal
  abbrev before : Moment g R W F → F → Moment g R W F
  before m between = record { archive = m.archive; input = m.input; output = m.output; faults = between }

  sheets : (sheet : Sheet) (x z : F) (r q : Plain)
      → PrintsSheet g reader reads writer writes faulter fails a (before b x) sheet today r
      → PrintsSheet g reader reads writer writes faulter fails v (before w z) sheet today q → Agree GotSame r q
  sheets sheet x z (Ok done) (Ok _) one two = printed c d today sheet _ _ _ _ differ
      ((one.written over.clean).1 society c over.has).0 ((two.written also.clean).1 society d also.has).0
  sheets sheet x z (Ok done) (Err kind) one two = cut c d today sheet _ _ _ _ kind differ
      ((one.written over.clean).1 society c over.has).0 ((two.refused also.clean).1 society d also.has).0
  sheets sheet x z (Err kind) (Ok done) one two = cut d c today sheet _ _ _ _ kind (turned c d today differ)
      ((two.written also.clean).1 society d also.has).0 ((one.refused over.clean).1 society c over.has).0
  sheets sheet x z (Err kind) (Err other) one two = refused c d today sheet _ _ _ _ kind other differ
      ((one.refused over.clean).1 society c over.has).0 ((two.refused also.clean).1 society d also.has).0

  exports : (x z : F) (r q : Plain) → Publishes g reader reads writer writes faulter fails a (before b x) today r
      → Publishes g reader reads writer writes faulter fails v (before w z) today q → Agree GotSame r q
  exports x z (Ok done) (Ok _) one two = published c d today society _ _ _ _ differ
      ((one.written over.clean).1 society c over.has).0 ((two.written also.clean).1 society d also.has).0
  exports x z (Ok done) (Err kind) one two = part c d today society _ _ _ _ kind differ
      ((one.written over.clean).1 society c over.has).0 ((two.begun also.clean).1 society d also.has).0
  exports x z (Err kind) (Ok done) one two = part d c today society _ _ _ _ kind (turned c d today differ)
      ((two.written also.clean).1 society d also.has).0 ((one.begun over.clean).1 society c over.has).0
  exports x z (Err kind) (Err other) one two = parts c d today society _ _ _ _ kind other differ
      ((one.begun over.clean).1 society c over.has).0 ((two.begun also.clean).1 society d also.has).0

  rooms : (o p : Outcome) (shown more : Option Content) (x z : F)
      → Shelves (state g a.archive.conn) (state g b.archive.conn) today o shown
      → Shelves (state g v.archive.conn) (state g w.archive.conn) today p more → b.output ≡ a.output
      → w.output ≡ v.output → Finishes faulter.contents fails.failed o status x b.faults
      → Finishes faulter.contents fails.failed p number z w.faults
      → IsCutShort o ⊎ (IsCutShort p ⊎ EndAlike writer.contents a b v w o p status number shown more)
  rooms (Ok done) (Ok _) (Some s) (Some t) x z one two same unwritten first second = inr (inr
      (agreed (Some s) (Some t) (Ok done) (Ok _) x z first second refl (inr (same, unwritten))
      (room c d today s t differ ((one.0 over.clean).1 society c over.has).0
      ((two.0 also.clean).1 society d also.has).0)))
  rooms (Err e) p None more x z one two same unwritten first second =
      inl (inl ((one over.clean).1 society c over.has).0)
  rooms (Ok done) (Err e) (Some s) None x z one two same unwritten first second =
      inr (inl (inl ((two also.clean).1 society d also.has).0))
  rooms (Ok done) p None more x z one two same unwritten first second = absurd one
  rooms (Err e) p (Some s) more x z one two same unwritten first second = absurd one
  rooms (Ok done) (Ok _) (Some s) None x z one two same unwritten first second = absurd two
  rooms (Ok done) (Err e) (Some s) (Some t) x z one two same unwritten first second = absurd two

  none_shown : (shown more : Option Content) → shown ≡ None → more ≡ None → ShowTheSame shown more
  none_shown None None is so = tt
  none_shown (Some s) more is so = let wrong : ⊥ = cc in absurd wrong
  none_shown None (Some t) is so = let wrong : ⊥ = cc in absurd wrong

  pub ends_alike : (t : Task) (shown more : Option Content)
      (e : Ends g reader reads writer writes faulter fails t a b status shown)
      (f : Ends g reader reads writer writes faulter fails t v w number more) → ShowsOn t today
      → IsCutShort e.outcome
      ⊎ (IsCutShort f.outcome ⊎ EndAlike writer.contents a b v w e.outcome f.outcome status number shown more)
  ends_alike (task.Sheet sheet day) shown more e f is =
      let one = e.does over.kept in
      let two = f.does also.kept in
      by_plain shown more e.outcome f.outcome e.between f.between e.finishes f.finishes one.0.0 two.0.0
      (sheets sheet e.between f.between one.0.0 two.0.0
      (subst
      (λ (t : ℤ). PrintsSheet g reader reads writer writes faulter fails a (before b e.between) sheet t one.0.0) is
      one.0.2)
      (subst
      (λ (t : ℤ). PrintsSheet g reader reads writer writes faulter fails v (before w f.between) sheet t two.0.0) is
      two.0.2))
      one.0.1 two.0.1 (none_shown shown more one.3 two.3)
  ends_alike (task.ExportPublic day) shown more e f is =
      let one = e.does over.kept in
      let two = f.does also.kept in
      by_plain shown more e.outcome f.outcome e.between f.between e.finishes f.finishes one.0.0 two.0.0
      (exports e.between f.between one.0.0 two.0.0
      (subst (λ (t : ℤ). Publishes g reader reads writer writes faulter fails a
      (before b e.between) t one.0.0) is one.0.2)
      (subst (λ (t : ℤ). Publishes g reader reads writer writes faulter fails v
      (before w f.between) t two.0.0) is two.0.2))
      one.0.1 two.0.1 (none_shown shown more one.3 two.3)
  ends_alike (task.Library day) shown more e f is =
      let one = e.does over.kept in
      let two = f.does also.kept in
      rooms e.outcome f.outcome shown more e.between f.between
      (subst (λ (t : ℤ). Shelves (state g a.archive.conn) (state g b.archive.conn) t e.outcome shown) is one.0)
      (subst (λ (t : ℤ). Shelves (state g v.archive.conn) (state g w.archive.conn) t f.outcome more) is two.0)
      one.3 two.3 e.finishes f.finishes
  ends_alike _ shown more e f none = absurd none

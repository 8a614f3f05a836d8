-- An archive with other dates for its own is sound where it was, and so is what an archive of that time is today.
use Rattle.std.proofs.Common.{◌≡◌, ◌<◌, ◌≤◌, ℕ, List, [], ◌∷◌, refl, sym, ap, subst, ◌∙◌}
use Rattle.std.specs.Prelude.{Option, Some, None, map, option_map, IfSome}
use Rattle.std.specs.FinMap.{get}
use Rattle.gedcom_date.proofs.Deciding.{some_value}
use Rattle.node_reading.proofs.Spelt.{spelt_as_text}
use Rattle.record_fields.specs.Dated.{spelt, written_by}
use Rattle.record_fields.specs.Dates.{IsWritten}
use Rattle.record_fields.specs.declared.date.Date.{Date}
use Rattle.record_fields.proofs.Dated.{date_back}
use Rattle.record_kinds.specs.declared.record.Record.{Record}
use Rattle.record_shapes.specs.Reading.{dated, read_by}
use Rattle.record_text.specs.Text.{IsText}
use Rattle.archive_state.specs.Content.{Content}
use Rattle.archive_state.specs.Slips.{Slip}
use Rattle.archive_state.specs.Sound.{EachIn, HasSoundRecords, IsPerson, IsSound, IsSoundSlip}
use Rattle.archive_state.specs.declared.slip.Change.{Change}
use Rattle.date_spans.specs.Spans.{date_in}
use Rattle.older_archives.specs.Anew.{
  IsAnew,
  IsOldBy,
  IsRedated,
  IsSoundOld,
  OldContent,
  anew,
  change_anew,
  old_by,
  old_change_by,
  old_slip_by,
  redated,
  redated_change,
  redated_slip,
  slip_anew,
  with_date,
}
use Rattle.older_archives.proofs.AllRecords.{named_still, rules_still}
use Rattle.older_archives.proofs.OldLines.{put_twice}
use Rattle.older_archives.proofs.OneRecord.{person_still}
use Rattle.older_archives.proofs.SlipsAnew.{slip_still}
use Rattle.gedcom_date.proofs.SaidAgain.{said_again}

-- ---- other dates for those of an archive
slip_from : (f : Date → Date) (o : Option Slip) (x : Slip) → option_map (redated_slip f) o ≡ Some x → (s : Slip)
    × (o ≡ Some s) × (redated_slip f s ≡ x)
slip_from f None x e = absurd cc
slip_from f (Some s) x e = (s, refl, cc)

module _ (f : Date → Date) (are : (d : Date) → IsText d.text → IsText (f d).text) (c after : Content)
    (sound : IsSound c) (is : IsRedated f c after) where
  each_slip : (P Q : ℕ → Slip → Type 0) → ((n : ℕ) (s : Slip) → P n s → Q n (redated_slip f s)) → EachIn c.slips P
      → EachIn after.slips Q
  each_slip P Q still h n x e =
      let (s, was, same) = slip_from f (get c.slips n) x (sym (is.slips n) ∙ e) in
      subst (Q n) same (still n s (h n s was))

  none_slip : (n : ℕ) → get c.slips n ≡ None → get after.slips n ≡ None
  none_slip n e = is.slips n ∙ ap (option_map (redated_slip f)) e

  person_or_none : (o : Option Record) → IfSome o IsPerson → IfSome (option_map (redated f) o) IsPerson
  person_or_none None h = tt
  person_or_none (Some r) h = person_still f r h

  no_slip : (n : ℕ) (x : Record) → get after.records n ≡ Some x → get after.slips n ≡ None
  no_slip n x e = by (get c.records n) refl (sym (is.records n) ∙ e)
    where
      by : (o : Option Record) → get c.records n ≡ o → option_map (redated f) o ≡ Some x → get after.slips n ≡ None
      by None was there = absurd cc
      by (Some r) was there = none_slip n (sound.distinct n r was)

  pub redated_sound : IsSound after
  redated_sound = record {
    begun = subst (λ n. 0 < n) (sym is.next) sound.begun;
    bounded = subst (λ n. n ≤ 4294967296) (sym is.next) sound.bounded;
    distinct = no_slip;
    named = named_still f c.records after.records is.records sound.named;
    rules = subst (λ n. HasSoundRecords n after.records) (sym is.next)
        (rules_still f c.records after.records is.records are c.next sound.rules);
    slips = each_slip (IsSoundSlip c.next) (IsSoundSlip after.next)
        (λ n s h. subst (λ k. IsSoundSlip k n (redated_slip f s)) (sym is.next) (slip_still f are c.next n s h))
        sound.slips;
    stayed = each_slip (λ n s. IfSome (get c.records s.keep) IsPerson)
        (λ n s. IfSome (get after.records s.keep) IsPerson)
        (λ n s h. subst (λ (o : Option Record). IfSome o IsPerson) (sym (is.records s.keep))
        (person_or_none (get c.records s.keep) h)) sound.stayed;
    free = each_slip (λ n s. get c.slips s.gone ≡ None) (λ n s. get after.slips s.gone ≡ None)
        (λ n s h. none_slip s.gone h) sound.free;
  }

-- ---- each text says a date today

pub spelt_written : (text : List ℕ) → IsWritten (spelt text)
spelt_written text =
    let said = some_value text in written_by (spelt text) said.0 (said_again text said.0 said.1) refl

abbrev pub said : List ℕ → Date
said text = record { text = spelt text; written = spelt_written text }

pub dated_is : (text : List ℕ) → dated text ≡ Some (said text)
dated_is text = date_back (Some (said text))

said_text : (text : List ℕ) → IsText text → IsText (said text).text
said_text text is = let value = some_value text in spelt_as_text text value.0 value.1 is

-- ---- what an archive of that time is today
module _ (text : Date → List ℕ) where
  abbrev now : Date → Date
  now d = said (text d)

  date_now : (o : Option Date) → read_by dated (option_map text o) ≡ option_map (λ d. said (text d)) o
  date_now None = refl
  date_now (Some d) = dated_is (text d)

  record_now : (r : Record) → anew (old_by text r) ≡ redated (λ d. said (text d)) r
  record_now r = put_twice (read_by dated (option_map text (date_in r))) None r
      ∙ ap (λ d. with_date d r) (date_now (date_in r))

  new_now : (o : Option Record) → option_map anew (option_map (old_by text) o)
      ≡ option_map (redated (λ d. said (text d))) o
  new_now None = refl
  new_now (Some r) = ap Some (record_now r)

  change_now : (c : Change) → change_anew (old_change_by text c) ≡ redated_change (λ d. said (text d)) c
  change_now c = λ i. record { number = c.number; old = record_now c.old i; «new» = new_now c.«new» i }

  changes_now : (cs : List Change) → map change_anew (map (old_change_by text) cs)
      ≡ map (redated_change (λ d. said (text d))) cs
  changes_now [] = refl
  changes_now (c ∷ cs) = λ i. change_now c i ∷ changes_now cs i

  slip_now : (o : Option Slip) → option_map slip_anew (option_map (old_slip_by text) o)
      ≡ option_map (redated_slip (λ d. said (text d))) o
  slip_now None = refl
  slip_now (Some s) = λ i. Some (record {
    keep = s.keep;
    gone = s.gone;
    changes = changes_now s.changes i;
    is_undone = s.is_undone;
  })

  pub redated_now : (c : Content) (before : OldContent) (after : Content) → IsOldBy text c before → IsAnew before after
      → IsRedated (λ d. said (text d)) c after
  redated_now c before after was is = record {
    records = λ n. is.records n ∙ ap (option_map anew) (was.records n) ∙ new_now (get c.records n);
    next = is.next ∙ was.next;
    slips = λ n. is.slips n ∙ ap (option_map slip_anew) (was.slips n) ∙ slip_now (get c.slips n);
  }

pub anew_sound : (before : OldContent) (c : Content) → IsSoundOld before → IsAnew before c → IsSound c
anew_sound before c old is =
    redated_sound (λ d. said (old.text d)) (λ d h. said_text (old.text d) (old.are_texts d h)) old.content c old.sound
    (redated_now old.text old.content before c old.is is)

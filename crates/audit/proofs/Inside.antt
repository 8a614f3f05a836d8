-- What is judged by the old records of a slip.
use Rattle.std.proofs.Common.{
  ◌≡◌,
  ℕ,
  ◌<◌,
  List,
  [],
  ◌∷◌,
  ◌++◌,
  Bool,
  true,
  false,
  not,
  refl,
  sym,
  ap,
  subst,
  ◌∙◌,
}
use Rattle.std.specs.Prelude.{Option, Some, None, Result, Ok, Err, IfOk, MatchOption}
use Rattle.std.specs.List.{flat_map}
use Rattle.std.specs.Bool.{Decides}
use Rattle.std.specs.FinMap.{get}
use Rattle.record_kinds.specs.declared.record.Record.{Record}
use Rattle.record_shapes.specs.Lists.{Ascends, EachOf}
use Rattle.archive_state.specs.Content.{Records}
use Rattle.archive_state.specs.Merging.{clashes}
use Rattle.archive_state.specs.Slips.{Slip}
use Rattle.archive_state.specs.Sound.{IsNumber, IsSoundSlip, change_names, new_names, old_records}
use Rattle.archive_state.specs.declared.slip.Change.{Change}
use Rattle.archive_state.specs.Links.{names}
use Rattle.sound_records.specs.Knowing.{HasAll}
use Rattle.sound_records.proofs.Keyed.{in_list}
use Rattle.audit.specs.Clashes.{IsJoinableAt}
use Rattle.audit.specs.Olds.{records_before}
use Rattle.audit.specs.Parts.{AreJoinable, BreaksInside, BreaksSlip, KeepsInside, all_numbers, changed}
use Rattle.audit.specs.declared.part.SlipPart.{SlipPart}
use Rattle.audit.specs.declared.part.SlipPart.TheVariants as part
use Rattle.record_shapes.proofs.Each.{each_back}

-- what holds at the numbers of all records holds of all records
pub joinable_all : (m : Records) (keep gone : ℕ) (ns : List ℕ) → HasAll ns m → EachOf (IsJoinableAt m keep gone) ns
    → AreJoinable m keep gone
joinable_all m keep gone ns all h n r at = in_list (IsJoinableAt m keep gone) ns n h (all n r at) r at

pub joinable_each : (m : Records) (keep gone : ℕ) (ns : List ℕ) → AreJoinable m keep gone
    → EachOf (IsJoinableAt m keep gone) ns
joinable_each m keep gone [] h = tt
joinable_each m keep gone (n ∷ ns) h = (λ r at. h n r at, joinable_each m keep gone ns h)

-- a slip that keeps all parts is sound
slip_sound : (next n : ℕ) (s : Slip) → EachOf (IsNumber next) (all_numbers n s) → Ascends (changed s.changes)
    → KeepsInside next (old_records s) s.keep s.gone s.changes → IsSoundSlip next n s
slip_sound next n s numbers asc h = record {
  numbered = numbers;
  ascending = asc;
  gone = h.persons.gone_person;
  keep = h.persons.keep_person;
  apart = h.persons.apart;
  joinable = h.persons.joinable;
  merges = h.merges;
  named = h.whole.named;
  rules = h.whole.rules;
}

inside_breaks : (next n : ℕ) (s : Slip) (p : SlipPart)
    → BreaksInside next (old_records s) s.keep s.gone s.changes p → BreaksSlip next n s p
inside_breaks next n s part.Number h = absurd h
inside_breaks next n s part.Order h = absurd h
inside_breaks next n s part.Gone h = h
inside_breaks next n s part.Keep h = h
inside_breaks next n s part.Same h = h
inside_breaks next n s part.Clash h = h
inside_breaks next n s part.Merge h = h
inside_breaks next n s (part.Old b) h = h

decided : {E : Type 0} (next n : ℕ) (s : Slip) (r : Result (Option SlipPart) E)
    → EachOf (IsNumber next) (all_numbers n s) → Ascends (changed s.changes)
    → IfOk r (λ o. MatchOption o (KeepsInside next (old_records s) s.keep s.gone s.changes)
    (BreaksInside next (old_records s) s.keep s.gone s.changes))
    → IfOk r (λ o. MatchOption o (IsSoundSlip next n s) (BreaksSlip next n s))
decided next n s (Ok None) numbers asc h = slip_sound next n s numbers asc h
decided next n s (Ok (Some p)) numbers asc h = inside_breaks next n s p h
decided next n s (Err e) numbers asc h = tt

-- the same, where what was judged is what the slip has
pub slip_decided : {E : Type 0} (next n : ℕ) (s : Slip) (keep gone : ℕ) (cs : List Change)
    (r : Result (Option SlipPart) E) → keep ≡ s.keep → gone ≡ s.gone → cs ≡ s.changes
    → EachOf (IsNumber next) (all_numbers n s) → Ascends (changed s.changes)
    → (Ascends (changed cs) → IfOk r (λ o. MatchOption o (KeepsInside next (records_before cs) keep gone cs)
    (BreaksInside next (records_before cs) keep gone cs)))
    → IfOk r (λ o. MatchOption o (IsSoundSlip next n s) (BreaksSlip next n s))
slip_decided next n s keep gone cs r k g e numbers asc h = decided next n s r numbers asc
    (subst (λ ds. IfOk r (λ o. MatchOption o (KeepsInside next (records_before ds) s.keep s.gone ds)
    (BreaksInside next (records_before ds) s.keep s.gone ds))) e
    (subst (λ x. IfOk r (λ o. MatchOption o (KeepsInside next (records_before cs) x s.gone cs)
    (BreaksInside next (records_before cs) x s.gone cs))) k
    (subst (λ y. IfOk r (λ o. MatchOption o (KeepsInside next (records_before cs) keep y cs)
    (BreaksInside next (records_before cs) keep y cs))) g
    (h (subst (λ ds. Ascends (changed ds)) (sym e) asc)))))

-- the numbers of changes are from 1, if all numbers in them are
from_one : (next : ℕ) (cs : List Change) → EachOf (IsNumber next) (flat_map change_names cs)
    → EachOf (λ m. 0 < m) (changed cs)
from_one next [] h = tt
from_one next (c ∷ cs) h = (
  h.0.0,
  from_one next cs (each_back (IsNumber next) (names_of c)
      (flat_map change_names cs) h.1),
)
  where
    names_of : Change → List ℕ
    names_of x = names x.old ++ new_names x.new

pub ascend_from : (next n : ℕ) (s : Slip) → EachOf (IsNumber next) (all_numbers n s) → Ascends (changed s.changes)
    → Ascends (0 ∷ changed s.changes)
ascend_from next n s h asc = (from_one next s.changes h.1.1.1, asc)

-- what stands at the number, said
pub joinable_there : (m : Records) (keep gone n : ℕ) (r : Record) (b : Bool) → Some r ≡ get m n
    → b ≡ clashes keep gone r → Decides (not b) (IsJoinableAt m keep gone n)
joinable_there m keep gone n r b is clash = (
  λ e s at. let both : Some r ≡ Some s = is ∙ at in let same : r ≡ s = cc in
      sym (ap (clashes keep gone) same) ∙ sym clash ∙ not_not b e,
  λ h. ap not (clash ∙ h r (sym is)),
)
  where
    not_not : (x : Bool) → not x ≡ true → x ≡ false
    not_not true e = absurd cc
    not_not false e = refl

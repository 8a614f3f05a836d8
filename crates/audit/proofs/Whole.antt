-- What keeps all rules is sound.
use Rattle.std.proofs.Common.{◌≡◌, ℕ, Bool, true, false, not, sym, ap, ◌∙◌}
use Rattle.std.specs.Bool.{Decides}
use Rattle.std.specs.Prelude.{Option, Some, None, Result, Ok, Err, IfOk, IfSome, MatchOption}
use Rattle.std.specs.FinMap.{get, keys}
use Rattle.archive_state.specs.Content.{Content}
use Rattle.archive_state.specs.Slips.{Slip}
use Rattle.archive_state.specs.Sound.{IsSound}
use Rattle.sound_records.specs.Knowing.{HasAll}
use Rattle.sound_records.specs.Parts.{AreWhole}
use Rattle.audit.specs.Faults.{IsFault, IsNext, KeepSlips, KeepsSlip, KeepsSlipAt}
use Rattle.audit.specs.declared.fault.Fault.{Fault}
use Rattle.audit.proofs.Broken.{fault_breaks, none_where}
use Rattle.archive_state.proofs.MapKeys.{among_keys, each_among}

-- the keys are the numbers of all records
pub has_all : (c : Content) → HasAll (keys c.records) c.records
has_all c = among_keys c.records

is_sound : (c : Content) → IsNext c.next → AreWhole c.next false c.records → KeepSlips c (keys c.slips) → IsSound c
is_sound c next whole slips =
    let kept : (n : ℕ) (s : Slip) → get c.slips n ≡ Some s → KeepsSlip c n s =
    λ n s at. each_among (KeepsSlipAt c) (keys c.slips) n slips (among_keys c.slips n s at) s at in
    record {
      begun = next.0;
      bounded = next.1;
      distinct = λ n r at. none_where (get c.slips n)
          (λ s there. let both : None ≡ Some r = sym ((kept n s there).distinct) ∙ at in absurd cc);
      named = whole.named;
      rules = whole.rules;
      slips = λ n s at. (kept n s at).sound;
      stayed = λ n s at. (kept n s at).stayed;
      free = λ n s at. (kept n s at).free;
    }

-- no slip breaks a rule, or one does
pub all_sound : {E : Type 0} (c : Content) (r : Result (Option Fault) E) → IsNext c.next
    → AreWhole c.next false c.records → IfOk r (λ o. MatchOption o (KeepSlips c (keys c.slips)) (IsFault c))
    → IfOk r (λ o. MatchOption o (IsSound c) (IsFault c))
all_sound c (Ok None) next whole slips = is_sound c next whole slips
all_sound c (Ok (Some f)) next whole is = is
all_sound c (Err e) next whole slips = tt

-- ---- what is found, and what the answer tells of it
pub none_sound : (c : Content) (o : Option Fault) → MatchOption o (IsSound c) (IsFault c)
    → IfSome o (λ f. ¬ (IsSound c))
none_sound c None h = tt
none_sound c (Some f) h = fault_breaks c f h

pub there : {P : Type 0} (b : Bool) → Decides (not b) P → b ≡ true → P → ⊥
there b d is p = let both : true ≡ false = sym (d.1 p) ∙ ap not is in absurd cc

pub not_there : {P : Type 0} (b : Bool) → Decides (not b) P → b ≡ false → P
not_there b d is = d.0 (ap not is)

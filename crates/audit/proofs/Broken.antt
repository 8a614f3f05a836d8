-- What is found breaks the rule.
use Rattle.std.proofs.Common.{◌≡◌, ℕ, List, [], ◌∷◌, Bool, true, false, refl, sym, ◌∙◌, inl, inr, subst}
use Rattle.std.specs.Prelude.{Option, Some, None}
use Rattle.std.specs.FinMap.{get}
use Rattle.archive_state.specs.Links.{Link, links}
use Rattle.record_shapes.specs.Lists.{EachOf}
use Rattle.archive_state.specs.Content.{Content, Records}
use Rattle.archive_state.specs.Slips.{Slip}
use Rattle.archive_state.specs.Sound.{IsSound, IsSoundSlip, old_records}
use Rattle.sound_records.specs.Standing.{IsOne, Meets, link_of}
use Rattle.sound_records.specs.Parts.{AreWhole, BreaksAt, IsBreach}
use Rattle.sound_records.specs.declared.part.Breach.{Breach}
use Rattle.sound_records.specs.declared.part.Part.{Part}
use Rattle.sound_records.specs.declared.part.Part.TheVariants as part
use Rattle.audit.specs.Parts.{BreaksSlip}
use Rattle.audit.specs.declared.part.SlipPart.{SlipPart}
use Rattle.audit.specs.declared.part.SlipPart.TheVariants as slip_part
use Rattle.audit.specs.Faults.{IsFault}
use Rattle.audit.specs.declared.fault.Fault.{Fault}
use Rattle.audit.specs.declared.fault.Fault.TheVariants as fault

one_of : (may_miss : Bool) (m : Records) (P : Link → Type 0) (ls : List Link) (l : Link) → IsOne may_miss m l ls
    → EachOf P ls → P l
one_of may_miss m P [] l one h = absurd one
one_of may_miss m P (k ∷ ls) l (inl same) h = subst P same h.0
one_of may_miss m P (k ∷ ls) l (inr rest) h = one_of may_miss m P ls l rest h.1

module _ (next : ℕ) (may_miss : Bool) (m : Records) (n : ℕ) where
  not_whole : (p : Part) → BreaksAt next may_miss m n p → AreWhole next may_miss m → ⊥
  not_whole part.Path (path, has, fails) w = fails (w.rules.paths n path has)
  not_whole part.Key (e, at, (k, is, apart)) w = apart (w.rules.keys n k e at is)
  not_whole (part.Link u) (r, at, inl gap) w = gap
  not_whole (part.Link u) (r, at, inr fails) w = fails.1
      (one_of may_miss m (Meets may_miss m) (links r) (link_of u) fails.0 (w.named n r at))
  not_whole part.Number (r, at, inl fails) w = fails (w.rules.numbered n r at)
  not_whole part.Number (r, at, inr gap) w = gap
  not_whole part.Parent (r, at, inl fails) w = fails (w.rules.parents n r at)
  not_whole part.Parent (r, at, inr gap) w = gap
  not_whole part.Name (r, at, inl fails) w = fails (w.rules.normal n r at)
  not_whole part.Name (r, at, inr gap) w = gap
  not_whole part.Members (r, at, inl fails) w = fails (w.rules.once n r at)
  not_whole part.Members (r, at, inr gap) w = gap
  not_whole part.Tags (r, at, inl fails) w = fails (w.rules.tags n r at)
  not_whole part.Tags (r, at, inr gap) w = gap
  not_whole part.Trailer (r, at, inl fails) w = fails (w.rules.trailers n r at)
  not_whole part.Trailer (r, at, inr gap) w = gap
  not_whole part.Texts (r, at, inl fails) w = fails (w.rules.texts n r at)
  not_whole part.Texts (r, at, inr gap) w = gap
  not_whole part.Mentions (r, at, inl fails) w = fails (w.rules.mentions n r at)
  not_whole part.Mentions (r, at, inr gap) w = gap
  not_whole part.Place (r, at, inl gap) w = gap
  not_whole part.Place (r, at, inr fails) w = fails (w.rules.places n r at)
  not_whole part.EventTag (r, at, inl gap) w = gap
  not_whole part.EventTag (r, at, inr fails) w = fails (w.rules.events n r at)
  not_whole part.Untaken (r, at, inl gap) w = gap
  not_whole part.Untaken (r, at, inr fails) w = fails (w.rules.untaken n r at)
  not_whole part.Shape (r, at, inl gap) w = gap
  not_whole part.Shape (r, at, inr fails) w = fails (w.rules.shapes n r at)
  not_whole part.Levels (r, at, inl gap) w = gap
  not_whole part.Levels (r, at, inr fails) w = fails (w.rules.levels n r at)

pub breach_breaks : (next : ℕ) (may_miss : Bool) (m : Records) (b : Breach) → IsBreach next may_miss m b
    → AreWhole next may_miss m → ⊥
breach_breaks next may_miss m b is w = not_whole next may_miss m b.number b.part is w

pub slip_breaks : (next n : ℕ) (s : Slip) (p : SlipPart) → BreaksSlip next n s p → IsSoundSlip next n s → ⊥
slip_breaks next n s slip_part.Number fails h = fails h.numbered
slip_breaks next n s slip_part.Order fails h = fails h.ascending
slip_breaks next n s slip_part.Gone fails h = fails h.gone
slip_breaks next n s slip_part.Keep fails h = fails h.keep
slip_breaks next n s slip_part.Same same h = h.apart same
slip_breaks next n s slip_part.Clash fails h = fails h.joinable
slip_breaks next n s slip_part.Merge fails h = fails h.merges
slip_breaks next n s (slip_part.Old b) is h = breach_breaks next true (old_records s) b is
    (record { rules = h.rules; named = h.named })

pub none_where : {X : Type 0} (o : Option X) → ((x : X) → o ≡ Some x → ⊥) → o ≡ None
none_where None h = refl
none_where (Some x) h = absurd (h x refl)

-- in a sound archive no record has the number of a slip
pub unshared : (c : Content) (n : ℕ) (s : Slip) → IsSound c → get c.slips n ≡ Some s → get c.records n ≡ None
unshared c n s sound at = none_where (get c.records n)
    (λ r there. let both : None ≡ Some s = sym (sound.distinct n r there) ∙ at in absurd cc)

pub fault_breaks : (c : Content) (f : Fault) → IsFault c f → IsSound c → ⊥
fault_breaks c fault.Next fails sound = fails (sound.begun, sound.bounded)
fault_breaks c (fault.Record b) is sound = breach_breaks c.next false c.records b is
    (record { rules = sound.rules; named = sound.named })
fault_breaks c (fault.Shared n) (s, at, fails) sound = fails (unshared c n s sound at)
fault_breaks c (fault.Slip n p) (s, at, is) sound = slip_breaks c.next n s p is (sound.slips n s at)
fault_breaks c (fault.Stayed n) (s, at, fails) sound = fails (sound.stayed n s at)
fault_breaks c (fault.Taken n) (s, at, fails) sound = fails (sound.free n s at)

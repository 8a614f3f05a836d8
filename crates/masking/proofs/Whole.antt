-- What is shown of a sound archive is sound.
use Rattle.std.proofs.Common.{◌≡◌, ℕ, false, sym, ap, subst, ◌∙◌, arith, inr}
use Rattle.std.specs.Prelude.{Some, None, ℤ}
use Rattle.std.specs.FinMap.{get, empty, get-empty}
use Rattle.std.specs.Ordering.{nat_cmp}
use Rattle.record_kinds.specs.Model as model
use Rattle.record_kinds.specs.declared.record.Record.{Record}
use Rattle.record_kinds.specs.declared.record.Record.TheVariants as kind
use Rattle.archive_state.specs.Content.{Content, Slips}
use Rattle.archive_state.specs.Slips.{Slip}
use Rattle.archive_state.specs.Sound.{IsSound}
use Rattle.archive_state.proofs.Keeping.{KeepsRules, kept_rules, keeps_sound}
use Rattle.masking.specs.Masking.{Judged, IsMasked, is_gone, shown_of}
use Rattle.masking.proofs.Ruled.{path_back, rules_shown}
use Rattle.masking.proofs.Showing.{came_from}

-- an entry is shown as it is
entry_back : (j : Judged) (n : ℕ) (e : model.Entry) (r : Record) → kind.Entry e ≡ shown_of j n r → r ≡ kind.Entry e
entry_back j n e (kind.Entry f) h = sym h
entry_back j n e _ h = absurd cc

no_slip : (s : Slips) (n : ℕ) (x : Slip) → s ≡ empty → get s n ≡ Some x → ⊥
no_slip s n x is at =
    let none : None ≡ Some x = sym (ap (λ m. get m n) is ∙ get-empty nat_cmp n) ∙ at in absurd cc

module _ (c : Content) (today : ℤ) (d : Content) (sound : IsSound c) (h : IsMasked c today d) where
  was : (n : ℕ) (r : Record) → get d.records n ≡ Some r
      → (old : Record) × (get c.records n ≡ Some old) × (is_gone h.judged (get c.records) n old ≡ false)
      × (r ≡ shown_of h.judged n old)
  was n r at = came_from h.judged (get c.records) n (get c.records n) r (sym (h.records n) ∙ at)

  entry_was : (n : ℕ) (e : model.Entry) → get d.records n ≡ Some (kind.Entry e)
      → get c.records n ≡ Some (kind.Entry e)
  entry_was n e at = let old = was n (kind.Entry e) at in old.1 ∙ ap Some (entry_back h.judged n e old.0 old.3)

  ruled : (n : ℕ) (r : Record) → get d.records n ≡ Some r → KeepsRules d.next d.records n r
  ruled n r at =
      let old = was n r at in
      subst (λ (x : Record). KeepsRules d.next d.records n x) (sym old.3)
      (subst (λ (next : ℕ). KeepsRules next d.records n (shown_of h.judged n old.0)) (sym h.next)
      (rules_shown c today d h n old.0 old.2 (kept_rules c n old.0 sound old.1)))

  pub shown_sound : IsSound d
  shown_sound =
      let next : d.next ≡ c.next = h.next in
      let bound = sound.bounded in
      keeps_sound c d sound (record {
        later = omega (arith, next);
        bounded = omega (arith, next, bound);
        records = λ n r at. inr (ruled n r at);
        distinct = λ n r at. ap (λ m. get m n) h.slips ∙ get-empty nat_cmp n;
        paths = λ n path has. sound.rules.paths n path (path_back c today d h n path has);
        keys = λ n k e at (f, there, key). sound.rules.keys n k e (entry_was n e at) (f, entry_was k f there, key);
        slips = λ n s at. absurd (no_slip d.slips n s h.slips at);
        stayed = λ n s at. absurd (no_slip d.slips n s h.slips at);
        free = λ n s at. absurd (no_slip d.slips n s h.slips at);
      })

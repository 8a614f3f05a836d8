-- The old records of a slip, put one after the other.
use Rattle.std.proofs.Common.{◌≡◌, ℕ, ◌==◌, ◌||◌, List, [], ◌∷◌, map, true, false, refl, sym, ◌∙◌, cond, eq-eqb}
use Rattle.std.specs.Prelude.{Some}
use Rattle.std.specs.List.{list_any}
use Rattle.std.specs.Ordering.{nat_cmp, eq_by_cmp}
use Rattle.std.specs.Cmp.{nat_cmp_total}
use Rattle.std.specs.FinMap.{find, get-from_entries}
use Rattle.record_kinds.specs.declared.record.Record.{Record}
use Rattle.archive_state.specs.declared.slip.Change.{Change}
use Rattle.archive_state.proofs.Putting.{one_number}
use Rattle.sound_records.specs.Knowing.{HasAll}
use Rattle.audit.specs.Olds.{records_before}
use Rattle.audit.specs.Parts.{changed}
use Rattle.list_laws.proofs.Booleans.{or_left, or_right}

listed : (cs : List Change) (n : ℕ) (r : Record)
    → find nat_cmp n (map (λ (c : Change). (c.number, c.old)) cs) ≡ Some r → list_any (λ k. k == n) (changed cs) ≡ true
listed [] n r e = absurd cc
listed (c ∷ cs) n r e = elim (eq_by_cmp nat_cmp n c.number) as (λ b. eq_by_cmp nat_cmp n c.number ≡ b
    → cond b (Some c.old) (find nat_cmp n (map (λ (x : Change). (x.number, x.old)) cs)) ≡ Some r
    → ((c.number == n) || list_any (λ k. k == n) (changed cs)) ≡ true) [
      | true ↦ λ is _. or_left (c.number == n) (list_any (λ k. k == n) (changed cs))
          (eq-eqb c.number n (sym (one_number n c.number is)))
      | false ↦ λ _ rest. or_right (c.number == n) (list_any (λ k. k == n) (changed cs)) (listed cs n r rest)
    ] refl e

-- the numbers of the changes are those of all old records
pub all_listed : (cs : List Change) → HasAll (changed cs) (records_before cs)
all_listed cs n r e = listed cs n r
    (sym (get-from_entries nat_cmp_total (map (λ (c : Change). (c.number, c.old)) cs) n) ∙ e)

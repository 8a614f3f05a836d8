-- What an accepted undoing puts back, and what the slip of an accepted merge holds.
use Rattle.std.proofs.Common.{◌≡◌, ℕ, ◌+◌, true, false, refl, sym, ap, ◌∙◌}
use Rattle.std.specs.Prelude.{List, [], ◌∷◌, map, Some, None, Ok}
use Rattle.std.specs.FinMap.{get}
use Rattle.receipts.specs.declared.answer.Answer.{Answer}
use Rattle.archive_state.specs.Content.{Content, Records}
use Rattle.record_kinds.specs.declared.record.Record.{Record}
use Rattle.record_shapes.specs.Lists.{EachOf}
use Rattle.archive_state.specs.declared.slip.Change.{Change}
use Rattle.archive_state.specs.Slips.{Slip}
use Rattle.archive_state.specs.Merging.{merged}
use Rattle.archive_state.specs.Sound.{IsSound, old_records}
use Rattle.merging.specs.Merges.{over, is_changed, change_at, merged_records, slip_of, with_merge, HoldsChanges}
use Rattle.merging.specs.Steps.{merge_step, undo_step}
use Rattle.archive_state.proofs.Putting.{put_here}
use Rattle.merging.proofs.Changing.{old_there, old_left, made_none, made_left}
use Rattle.merging.proofs.Differs.{changed_differs}
use Rattle.merging.proofs.Merge.{no_clashes, made_merged, sub}
use Rattle.merging.proofs.PutBack.{undone_over}
use Rattle.merging.proofs.Stepping.{Merged, merged_by, Undone, undone_by}

-- the numbers of the slip have their old records then, and all others what they had
pub restored : (c after : Content) (n : ℕ) (a : Answer) → IsSound c → undo_step c n ≡ Ok (after, a)
    → (s : Slip) × (get c.slips n ≡ Some s)
    × ((k : ℕ) → get after.records k ≡ over (get (old_records s) k) (get c.records k))
restored c after n a sound e =
    let h : Undone c n after = undone_by c after n a e in
    let rises = (sound.slips n h.slip h.there).ascending in (
      h.slip,
      h.there,
      λ k. ap (λ (x : Content). get x.records k) (sym h.left)
          ∙ undone_over h.slip rises c.records h.now k,
    )

new_ones : (keep gone : ℕ) (m : Records) (es : List (ℕ × Record))
    → EachOf (λ (x : Change). x.new ≡ merged keep gone (get m) x.number) (map (change_at keep gone m) es)
new_ones keep gone m [] = tt
new_ones keep gone m (e ∷ es) = (refl, new_ones keep gone m es)

pub slip_holds : (c after : Content) (keep gone : ℕ) (a : Answer) → IsSound c → merge_step c keep gone ≡ Ok (after, a)
    → (s : Slip) × (get after.slips a.first ≡ Some s) × HoldsChanges keep gone c.records s
slip_holds c after keep gone a sound e =
    let h : Merged c keep gone after a = merged_by c after keep gone a e in
    let m : Records = c.records in
    let s : Slip = slip_of keep gone m in
    let free = no_clashes keep gone m h.free in (
      s,
      ap (λ (x : Content). get x.slips a.first) (sym h.left) ∙ ap (get (with_merge keep gone c (c.next + 1)).slips)
          (sym h.first) ∙ put_here c.slips c.next s,
      record {
        keeps = refl;
        goes = refl;
        new = new_ones keep gone m _;
        differs = λ n r o.
            let at : get m n ≡ Some r = sub c keep gone h.k h.g sound h.at_k h.at_g h.apart free n r o in (
              at,
              elim (is_changed keep gone m n r) as (λ b. is_changed keep gone m n r ≡ b
                  → merged keep gone (get m) n ≡ Some r → ⊥) [
                    | true ↦ λ t. changed_differs keep gone m h.k h.g h.apart h.at_k h.at_g n r at t
                    | false ↦ λ t. let never : None ≡ Some r = sym (old_left keep gone m n r at t) ∙ o in absurd cc
                  ] refl,
            );
        others = λ n o.
            sym (made_merged c keep gone h.k h.g sound h.at_k h.at_g h.apart free n)
            ∙ elim (get m n) as (λ x. get m n ≡ x → get (merged_records keep gone m) n ≡ x) [
              | None ↦ λ at. made_none keep gone m n at
              | Some r ↦ λ at. elim (is_changed keep gone m n r) as (λ b. is_changed keep gone m n r ≡ b
                  → get (merged_records keep gone m) n ≡ Some r) [
                    | true ↦ λ t. let never : Some r ≡ None = sym (old_there keep gone m n r at t) ∙ o in absurd cc
                    | false ↦ λ t. made_left keep gone m n r at t
                  ] refl
            ] refl;
      },
    )

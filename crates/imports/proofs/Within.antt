-- Paths that the archive and the file have, and what holds of lists.
use Rattle.std.proofs.Common.{◌≡◌, ℕ, Bool, true, false, List, [], refl, sym, ◌∙◌, subst}
use Rattle.std.specs.Prelude.{Option, Some, None, IfSome, map, codes}
use Rattle.std.specs.FinMap.{entries}
use Rattle.std.specs.List.{filter, slice_get}
use Rattle.stored_lines.specs.Line.{Line, Lines}
use Rattle.stored_lines.specs.Tree.{Tree}
use Rattle.record_kinds.specs.declared.record.Record.{Record}
use Rattle.std.specs.Option.{unwrap_or}
use Rattle.record_shapes.specs.Fields.{a_parent, is_above, is_same, parent_field, path_below}
use Rattle.record_shapes.specs.Forms.{below, number_of, tagged}
use Rattle.record_shapes.specs.Paths.{is_within_limits}
use Rattle.record_shapes.specs.Reading.{has_path, parent_line, path_from, path_on, place_name}
use Rattle.archive_state.specs.Content.{Records}
use Rattle.archive_state.specs.Known.{path_of}
use Rattle.import_definitions.specs.Made.{lowest_place}
use Rattle.import_definitions.specs.Positions.{known_before, path_at, paths}
use Rattle.imports.proofs.Agreeing.{f}
use Rattle.imports.proofs.Left.{first_is}
use Rattle.imports.proofs.LinksMet.{parent_met}
use Rattle.imports.proofs.Paths.{path_of_none, path_of_other, path_of_place}
use Rattle.imports.proofs.ReadPlaces.{place_name_within}
use Rattle.imports.proofs.SoundLists.{filter_holds, if_first}
use Rattle.record_shapes.proofs.PathTexts.{path_has}

-- ---- the places of the archive
pub lowest_has : (m : Records) (q : List ℕ) (n : ℕ) → lowest_place m q ≡ Some n → path_of m n ≡ Some q
unfolding lowest_place
lowest_has m q n e =
    let test : ℕ → Bool = λ k. has_path q (path_of m k) in
    let ns : List ℕ = map (λ (x : ℕ × Record). x.0) (entries m) in
    path_has q (path_of m n) (subst (λ o. IfSome o (λ k. test k ≡ true)) e
    (if_first (λ k. test k ≡ true) (filter test ns) (filter_holds test ns)))

-- ---- the paths of a file are within the limits
above_within : (rs : Lines) (k : ℕ) (ts : Lines) (o : Option (Tree Line))
    → IfSome o (λ t. is_same (parent_field (known_before rs k) (place_name ts) t) a_parent ≡ true)
    → is_within_limits (path_on (known_before rs k) (place_name ts) o) ≡ true
above_within rs k ts None e = place_name_within ts
above_within rs k ts (Some t) e = by ((known_before rs k).path (number_of t)) (parent_met rs k (place_name ts) t e)
  where
    by : (o : Option (List ℕ)) → is_above (place_name ts) o ≡ true
        → is_within_limits (path_below (place_name ts) (unwrap_or o [])) ≡ true
    by None f = absurd cc
    by (Some q) f = f

pub file_within : (rs : Lines) (k : ℕ) (q : List ℕ) → path_at (paths rs) k ≡ Some q → is_within_limits q ≡ true
file_within rs k q e = by (slice_get rs k) refl
  where
    by : (o : Option (Tree Line)) → slice_get rs k ≡ o → is_within_limits q ≡ true
    by None at = let both : None ≡ Some q = sym (path_of_none rs k at) ∙ e in absurd cc
    by (Some r) at =
        elim (tagged (codes "_LOC") r) as (λ b. tagged (codes "_LOC") r ≡ b → is_within_limits q ≡ true) [
          | false ↦ λ is. let both : None ≡ Some q = sym (path_of_other rs k r at is) ∙ e in absurd cc
          | true ↦ λ is.
              let before = known_before rs k in
              let ts : Lines = below r in
              let both : Some (path_from before ts) ≡ Some q = sym (path_of_place rs k r at is) ∙ e in
              let same : path_from before ts ≡ q = cc in
              subst (λ p. is_within_limits p ≡ true) same
              (above_within rs k ts (parent_line before ts) (first_is (parent_field before
              (place_name ts)) a_parent ts))
        ] refl

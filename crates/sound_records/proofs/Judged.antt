-- What is judged by what is known of records, of exactly known ones.
use Rattle.std.proofs.Common.{◌≡◌, ℕ, List, Bool, true, nat_lt, sym, subst, ◌∙◌}
use Rattle.std.specs.Prelude.{None, Result, Ok, Err, IfOk, if◌then◌else◌}
use Rattle.std.specs.Bool.{Decides}
use Rattle.std.proofs.lemmas.Bool.Decides.{Decides-at}
use Rattle.std.specs.FinMap.{get}
use Rattle.record_kinds.specs.declared.record.Record.{Record}
use Rattle.record_kinds.specs.declared.record.Record.TheVariants as kind
use Rattle.record_shapes.specs.Paths.{has_part}
use Rattle.record_shapes.specs.Untaken.{HasUntaken}
use Rattle.archive_state.specs.Content.{Records}
use Rattle.archive_state.specs.Known.{known_before, known_of, tag_at}
use Rattle.archive_state.specs.Paths.{HasPath}
use Rattle.archive_state.specs.Sound.{HasOwnShape}
use Rattle.archive_state.proofs.Known.{path_known}
use Rattle.record_rules.specs.Judged.{all_some, has_own_shape, has_untaken}
use Rattle.record_rules.proofs.Parts as part
use Rattle.record_rules.proofs.Tests.{from_some, to_some}
use Rattle.sound_records.specs.Knowing.{KnowsPaths, PathMap, known_by, known_by_before}

-- an answer that is a test, which decides
pub if_ok_decides : {E P : Type 0} (r : Result Bool E) (t : Bool) → IfOk r (λ b. b ≡ t) → Decides t P
    → IfOk r (λ b. Decides b P)
if_ok_decides (Ok b) t e d = Decides-at b t e d
if_ok_decides (Err x) t e d = tt

module _ (m : Records) (paths : PathMap) (knows : KnowsPaths m paths) where
  known_is : known_by m paths ≡ known_of m
  known_is = λ i. record { tag = λ n. tag_at (get m n); path = λ n. knows n i }

  before_is : (k : ℕ) → known_by_before m paths k ≡ known_before m k
  before_is k = λ i. record { tag = λ n. tag_at (get m n); path = λ n. if nat_lt n k then knows n i else None }

  shape_of : (r : Record) → Decides (has_own_shape (known_of m) r) (HasOwnShape m r)
  shape_of (kind.Other o) = part.other_shape (known_of m) o
  shape_of _ = part.yes

  pub shape : (r : Record) → Decides (has_own_shape (known_by m paths) r) (HasOwnShape m r)
  shape r = subst (λ k. Decides (has_own_shape k r) (HasOwnShape m r)) (sym known_is) (shape_of r)

  pub untaken : (n : ℕ) (r : Record) → Decides (has_untaken (known_by_before m paths n) (known_by m paths) r)
      (HasUntaken (known_before m n) (known_of m) r)
  untaken n r = subst (λ k. Decides (has_untaken (known_by_before m paths n) k r)
      (HasUntaken (known_before m n) (known_of m) r)) (sym known_is)
      (subst (λ k. Decides (has_untaken k (known_of m) r)
      (HasUntaken (known_before m n) (known_of m) r)) (sym (before_is n))
      (part.untaken (known_before m n) (known_of m) r))

  pub said : (p : ℕ) → Decides (all_some has_part (get paths p))
      ((path : List ℕ) → HasPath m p path → has_part path ≡ true)
  said p = (
    λ h path has. from_some has_part (get paths p) path (knows p ∙ (path_known m p path).0 has) h,
    λ h. to_some has_part (get paths p) (λ path found. h path ((path_known m p path).1 (sym (knows p) ∙ found))),
  )

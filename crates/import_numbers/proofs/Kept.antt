-- What is kept under paths, and of looks at an archive.
use Rattle.std.proofs.Common.{◌≡◌, ℕ, true, false, List, refl, sym, ap, ◌∙◌, cond}
use Rattle.std.specs.Prelude.{Option, Some, bytes_eq}
use Rattle.std.specs.BTreeMap.{BTreeMap}
use Rattle.std.specs.Map.{update}
use Rattle.std.specs.declared.string.String.{String}
use Rattle.std.specs.Global.{Global}
use Rattle.std.proofs.lemmas.Slice.Eq.{bytes_eq-Decides}
use Rattle.archive_state.specs.Content.{Content}
use Rattle.import_definitions.specs.Made.{lowest_place}
use Rattle.import_numbers.specs.Settling.{Knows}
use Rattle.import_numbers.specs.Views.{under}

-- a path that is put
pub kept : {X : Type 0} (path key : List ℕ) (old new : List ℕ → Option X) (w : Option X) → key ≡ path
    → ((q : List ℕ) → new q ≡ update bytes_eq old key w q) → (q : List ℕ) → new q ≡ cond (bytes_eq path q) w (old q)
kept path key old new w same h q = h q ∙ ap (λ x. update bytes_eq old x w q) same

some_is : {X : Type 0} (a b : X) → Some a ≡ Some b → b ≡ a
some_is a b e = cc

-- one more look that was right
pub knows_more : (old new : BTreeMap (String Global) (Option ℕ)) (c : Content) (path : List ℕ) (found : Option ℕ)
    → ((q : List ℕ) → under new q ≡ cond (bytes_eq path q) (Some found) (under old q))
    → found ≡ lowest_place c.records path → Knows old c → Knows new c
knows_more old new c path found more is knows = λ q f e.
    elim (bytes_eq path q) as (λ b. bytes_eq path q ≡ b → cond b (Some found) (under old q) ≡ Some f
    → f ≡ lowest_place c.records q) [
      | true ↦ λ h g. some_is found f g ∙ is ∙ ap (lowest_place c.records) ((bytes_eq-Decides path q).0 h)
      | false ↦ λ h g. knows q f g
    ] refl (sym (more q) ∙ e)

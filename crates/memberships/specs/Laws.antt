-- What holds of members added and removed.
use Rattle.std.specs.Prelude.{◌≡◌, ℕ, false, IfOk, Ok}
use Rattle.record_fields.specs.declared.words.Partnership.{Partnership}
use Rattle.record_kinds.specs.Model as model
use Rattle.memberships.specs.Members.{is_child, is_partner, with_partner, without_child, without_partner}

-- who is removed is no member of that sort; the other members and the carried lines stay
abbrev pub TakesOut : Type 0
TakesOut = (n : ℕ) (f : model.Family)
    → IfOk (without_partner n f) (λ g. (is_partner n g ≡ false) × (g.children ≡ f.children) × (g.carried ≡ f.carried))
    × IfOk (without_child n f) (λ g. (is_child n g ≡ false) × (g.partners ≡ f.partners) × (g.carried ≡ f.carried))

-- a partner who is added and removed again leaves the family as it was
abbrev pub PutsBack : Type 0
PutsBack = (as_what : Partnership) (n : ℕ) (f : model.Family)
    → IfOk (with_partner as_what n f) (λ g. without_partner n g ≡ Ok f)

-- What is known of the persons of a pedigree, so that who stands at many numbers is looked at once.
use Rattle.std.specs.Prelude.{ℕ, ◌≡◌, List, Option, Some, string_bytes}
use Rattle.std.specs.Ordering.{nat_cmp}
use Rattle.std.specs.Map.{lookup}
use Rattle.std.specs.BTreeMap.{is_at}
use Rattle.record_fields.specs.declared.words.Partnership.TheVariants.{Husband, Wife}
use Rattle.sheets.specs.Gathered.{Gathered}
use Rattle.sheets.specs.Pedigrees.{parent, words_of}
use Rattle.sheets.specs.declared.known.Ancestor.{Ancestor}

-- that is what a pedigree tells of the person, and these are the parents
pub record IsAncestor (g : Gathered) (person : ℕ) (a : Ancestor) : Type 0 where
  pub words : string_bytes a.words ≡ words_of g person
  pub father : a.father ≡ parent g Husband person
  pub mother : a.mother ≡ parent g Wife person

-- who is known by a number
abbrev pub at_number : List (ℕ × Ancestor) → ℕ → Option Ancestor
at_number es n = lookup (is_at (nat_cmp n)) es

-- all that is known is so
abbrev pub AreKnown : Gathered → List (ℕ × Ancestor) → Type 0
AreKnown g es = (n : ℕ) (a : Ancestor) → at_number es n ≡ Some a → IsAncestor g n a

-- One byte more than a file may have is all that its list and its fault depend on.
use Rattle.std.proofs.Common.{
  ◌≡◌,
  ℕ,
  zero,
  suc,
  ◌<◌,
  ◌≤◌,
  List,
  [],
  ◌∷◌,
  length,
  take,
  drop,
  refl,
  ap,
  ◌∙◌,
  subst,
  arith,
  inl,
  inr,
  Option,
}
use Rattle.std.specs.Prelude.{slice_get, IfSome, Some, None}
use Rattle.std.proofs.lemmas.Bool.{cases_lt}
use Rattle.std.proofs.lemmas.List.{length-take-le, take_all, take-take, take-append-drop}
use Rattle.gedcom_rules.specs.Faults.{Fault, FaultOf, max_file, within, extra}
use Rattle.gedcom_tree.specs.File.{ReadsFile}
use Rattle.gedcom_tree.specs.Forest.{Item}
use Rattle.gedcom_tree.proofs.Stays.{stays_decided}
use Rattle.file_faults.specs.declared.streams.Checked.{Checked}
use Rattle.file_faults.specs.declared.streams.Checked.TheVariants as checked
use Rattle.file_faults.specs.Faults.{faults}
use Rattle.file_faults.specs.Shown.{listed, listing}
use Rattle.file_faults.specs.Streams.{IsFirst}
use Rattle.file_faults.proofs.Firsts.{none_of_clean}

get_front : (xs : List ℕ) (k n : ℕ) → n < k → slice_get (take k xs) n ≡ slice_get xs n
get_front xs zero n h = absurd (omega arith)
get_front [] (suc k) n h = refl
get_front (x ∷ xs) (suc k) zero h = refl
get_front (x ∷ xs) (suc k) (suc n) h = get_front xs k n (omega (arith, h))

within-front : (b : List ℕ) → within (take 67108865 b) ≡ within b
unfolding within
within-front b = take-take max_file 67108865 b (omega arith)

extra-front : (b : List ℕ) → extra (take 67108865 b) ≡ extra b
unfolding extra
extra-front b = get_front b 67108865 max_file (omega arith)

pub faults-front : (b : List ℕ) → faults (take 67108865 b) ≡ faults b
unfolding faults
faults-front b = rw (within-front b, extra-front b) refl

-- a file that is not too large is there as a whole
whole : (b : List ℕ) → length (take 67108865 b) ≤ max_file → take 67108865 b ≡ b
whole b s = elim (cases_lt max_file (length b)) [
  | inl lt ↦ absurd (omega (arith, s, length-take-le 67108865 b (omega (arith, lt))))
  | inr le ↦ take_all 67108865 b (omega (arith, le))
]

fault-front : (b : List ℕ) (f : Fault) → FaultOf (take 67108865 b) f → FaultOf b f
fault-front b f (inl h) = subst (λ (x : List ℕ). FaultOf x f) (take-append-drop 67108865 b)
    (stays_decided (take 67108865 b) (drop 67108865 b) f h.1)
fault-front b f (inr h) = subst (λ (x : List ℕ). FaultOf x f) (whole b h.0) (inr h)

read-front : (b : List ℕ) (g : List Item) → ReadsFile (take 67108865 b) g → ReadsFile b g
read-front b g h = subst (λ (x : List ℕ). ReadsFile x g) (whole b h.size) h

first-front : (b : List ℕ) (c : Checked) → IsFirst (take 67108865 b) c → IsFirst b c
first-front b (checked.Sound n) h = (h.0, (read-front b h.0 h.1.0, h.1.1))
first-front b (checked.Faulty t) h = fault-front b _ h

-- what is known of all that was read
pub known_first : (known : Option (List ℕ)) (bytes : List ℕ) (c : Checked)
    → IfSome known (λ b. bytes ≡ take 67108865 b) → IsFirst bytes c → IfSome known (λ b. IsFirst b c)
known_first None bytes c e h = tt
known_first (Some b) bytes c e h = first-front b c (subst (λ (x : List ℕ). IsFirst x c) e h)

pub known_list : (known : Option (List ℕ)) (bytes text : List ℕ) → IfSome known (λ b. bytes ≡ take 67108865 b)
    → text ≡ listing (faults bytes) → IfSome known (λ b. text ≡ listing (faults b))
known_list None bytes text e h = tt
known_list (Some b) bytes text e h = h ∙ ap (λ (x : List ℕ). listing (faults x)) e ∙ ap listing (faults-front b)

-- nothing is written of a file that reads as a forest
none_listing : listing [] ≡ []
unfolding listing listed
none_listing = refl

pub sound_list : (b : List ℕ) (g : List Item) → ReadsFile b g → listing (faults b) ≡ []
sound_list b g h = ap listing (none_of_clean b h.lines h.size h.clean h.ended) ∙ none_listing

pub sound_first : (b : List ℕ) (c : Checked) (n : ℕ) → c ≡ checked.Sound n → IsFirst b c → listing (faults b) ≡ []
sound_first b c n e h = let k : IsFirst b (checked.Sound n) = subst (IsFirst b) e h in sound_list b k.0 k.1.0

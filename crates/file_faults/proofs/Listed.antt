-- One faulty line more in the list.
use Rattle.std.proofs.Common.{
  ◌≡◌,
  ℕ,
  ◌+◌,
  ◌<◌,
  ◌≤◌,
  List,
  [],
  ◌∷◌,
  ◌++◌,
  length,
  length-append,
  refl,
  sym,
  ap,
  ◌∙◌,
  arith,
  append-nil,
}
use Rattle.std.specs.List.{flat_map}
use Rattle.std.proofs.lemmas.List.{take_all, take-append-le}
use Rattle.std.proofs.lemmas.List.Concat.{flat_map-append}
use Rattle.file_faults.specs.Faults.{Faulty}
use Rattle.file_faults.specs.Shown.{fault_line, listed, listing, max_listed, more_line}

listed_more : (fs : List Faulty) (f : Faulty) → length fs < max_listed
    → listed (fs ++ f ∷ []) ≡ listed fs ++ fault_line f
unfolding listed
listed_more fs f lt =
    ap (flat_map fault_line) (take_all max_listed (fs ++ f ∷ []) (omega (arith, lt, length-append fs (f ∷ []))))
    ∙ flat_map-append fault_line fs (f ∷ [])
    ∙ ap (λ (x : List ℕ). flat_map fault_line fs ++ x) (append-nil (fault_line f))
    ∙ ap (λ (x : List Faulty). flat_map fault_line x ++ fault_line f) (sym (take_all max_listed fs (omega (arith, lt))))

listed_full : (fs : List Faulty) (f : Faulty) → max_listed ≤ length fs → listed (fs ++ f ∷ []) ≡ listed fs
unfolding listed
listed_full fs f h = ap (flat_map fault_line) (take-append-le max_listed fs (f ∷ []) h)

pub one_listed : (fs : List Faulty) (f : Faulty) (out new : List ℕ) (total : ℕ) → total ≡ length fs → total < max_listed
    → out ≡ listed fs → new ≡ out ++ fault_line f → new ≡ listed (fs ++ f ∷ [])
one_listed fs f out new total t lt o e = e ∙ ap (λ (x : List ℕ). x ++ fault_line f) o
    ∙ sym (listed_more fs f (omega (arith, t, lt)))

pub one_counted : (fs : List Faulty) (f : Faulty) (out new : List ℕ) (total : ℕ) → total ≡ length fs
    → max_listed ≤ total → out ≡ listed fs → new ≡ out → new ≡ listed (fs ++ f ∷ [])
one_counted fs f out new total t h o e = e ∙ o ∙ sym (listed_full fs f (omega (arith, t, h)))

pub total_more : (fs : List Faulty) (f : Faulty) (total new : ℕ) → total ≡ length fs → new ≡ total
    → new + 1 ≡ length (fs ++ f ∷ [])
total_more fs f total new t e = omega (arith, t, e, length-append fs (f ∷ []))

pub finished : (out new more : List ℕ) (total : ℕ) (fs : List Faulty) → new ≡ out ++ more → more ≡ more_line total
    → out ≡ listed fs → total ≡ length fs → new ≡ listing fs
unfolding listing
finished out new more total fs e m o t = e ∙ ap (λ (x : List ℕ). x ++ more) o
    ∙ ap (λ (x : List ℕ). listed fs ++ x) (m ∙ ap more_line t)

pub none_listed : listed [] ≡ []
unfolding listed
none_listed = refl

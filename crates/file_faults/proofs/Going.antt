-- The list on its way: a piece more, and the end of a file.
use Rattle.std.proofs.Common.{
  ◌≡◌,
  ℕ,
  Bool,
  true,
  cond,
  not,
  List,
  [],
  ◌∷◌,
  ◌++◌,
  refl,
  sym,
  ap,
  ◌∙◌,
  subst,
  inl,
  inr,
  append_assoc,
  append-nil,
  Option,
  Some,
  None,
}
use Rattle.std.proofs.lemmas.Bool.{cases_Bool}
use Rattle.gedcom_rules.specs.declared.fault.TreeKind.{TreeKind}
use Rattle.file_faults.specs.declared.listing.Listing.{Listing}
use Rattle.gedcom_rules.specs.Pieces.{pieces, skip_mark}
use Rattle.gedcom_rules.specs.Faults.{within, extra}
use Rattle.std.specs.Prelude.{slice_get, take}
use Rattle.file_faults.specs.Faults.{Faulty, faults, faulty, faults_in, is_last, last_of}
use Rattle.file_faults.specs.Reading.{Course, at_start, fault_of, left_by}
use Rattle.file_faults.specs.Views.{IsGoing, IsList}
use Rattle.file_faults.proofs.Firsts.{passed_by}

-- a faulty line is added to the list
abbrev pub Adds : Listing → Listing → Faulty → Type 0
Adds old new f = (fs : List Faulty) → IsList old fs → IsList new (fs ++ f ∷ [])

pub goes_by : (list : Listing) (all xs ys : List Faulty) → xs ≡ ys → IsGoing list all xs → IsGoing list all ys
goes_by list all xs ys e g = record {
  front = g.front;
  list = g.list;
  parts = g.parts ∙ ap (λ (x : List Faulty). g.front ++ x) e;
}

pub goes_more : (old new : Listing) (all rest : List Faulty) (f : Faulty) → Adds old new f → IsGoing old all (f ∷ rest)
    → IsGoing new all rest
goes_more old new all rest f h g = record {
  front = g.front ++ f ∷ [];
  list = h g.front g.list;
  parts = g.parts ∙ sym (append_assoc g.front (f ∷ []) rest);
}

-- a piece that is not faulty, and one that is
pub goes_past : (list : Listing) (c d : Course) (p : List ℕ) → fault_of c p ≡ None → d ≡ left_by c p
    → (all : List Faulty) (ps : List (List ℕ)) (rest : Course → List Faulty)
    → IsGoing list all (faults_in c (p ∷ ps) rest)
    → IsGoing list all (faults_in d ps rest)
goes_past list c d p h e all ps rest g = goes_by list all _ _ (passed_by c d p ps rest h (sym e)) g

noted_by : (c d : Course) (p : List ℕ) (k : TreeKind) (goes : Bool) → fault_of c p ≡ Some k → d ≡ left_by c p
    → goes ≡ not (is_last k) → (ps : List (List ℕ)) (rest : Course → List Faulty)
    → faults_in c (p ∷ ps) rest ≡ faulty c k p ∷ cond goes (faults_in d ps rest) []
unfolding faults_in
noted_by c d p k goes h e g ps rest = elim (cases_Bool (is_last k)) [
  | inl l ↦ rw (h, g, l) refl
  | inr l ↦ rw (h, g, l, e) refl
]

pub goes_on : (old new : Listing) (c d : Course) (p : List ℕ) (k : TreeKind) (goes : Bool) → fault_of c p ≡ Some k
    → d ≡ left_by c p → goes ≡ not (is_last k) → Adds old new (faulty c k p) → (all : List Faulty) (ps : List (List ℕ))
    (rest : Course → List Faulty) → IsGoing old all (faults_in c (p ∷ ps) rest)
    → IsGoing new all (cond goes (faults_in d ps rest) [])
goes_on old new c d p k goes h e n a all ps rest g =
    goes_more old new all _ (faulty c k p) a (goes_by old all _ _ (noted_by c d p k goes h e n ps rest) g)

-- no piece is left
pub ends_pieces : (list : Listing) (all : List Faulty) (c : Course) (ps : List (List ℕ)) (rest : Course → List Faulty)
    → ps ≡ [] → IsGoing list all (faults_in c ps rest) → IsGoing list all (rest c)
unfolding faults_in
ends_pieces list all c ps rest e g = rw e at g

pub ends_last : (list : Listing) (all : List Faulty) (c : Course) (goes : Bool) (rest : Course → List Faulty)
    → goes ≡ true → IsGoing list all (cond goes (faults_in c [] rest) []) → IsGoing list all (rest c)
unfolding faults_in
ends_last list all c goes rest e g = rw e at g

pub is_last_line : (list : Listing) (all : List Faulty) (c : Course) (open_ : List ℕ) (next : Option ℕ) → next ≡ None
    → IsGoing list all (last_of open_ next c) → IsGoing list all (last_of open_ None c)
is_last_line list all c open_ next e g = rw e at g

-- the whole file
pub begun : (list : Listing) (b front bare : List ℕ) (next : Option ℕ) (c : Course) → IsList list []
    → front ≡ take 67108864 b → next ≡ slice_get b 67108864 → bare ≡ skip_mark front → c ≡ at_start
    → IsGoing list (faults b) (faults_in c (pieces bare).ended (last_of (pieces bare).open_ next))
unfolding faults within extra
begun list b front bare next c h f n s e = record { front = []; list = h; parts = rw (e, s, f, n) refl }

pub done_list : (list : Listing) (all : List Faulty) → IsGoing list all [] → IsList list all
done_list list all g = subst (IsList list) (sym (g.parts ∙ append-nil g.front)) g.list

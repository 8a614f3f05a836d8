-- A reader that is fed a file piece by piece answers what the file is.
use Rattle.std.proofs.Common.{
  ◌≡◌,
  ℕ,
  ◌+◌,
  ◌≤◌,
  List,
  [],
  ◌∷◌,
  ◌++◌,
  length,
  length-append,
  refl,
  sym,
  ap,
  subst,
  inl,
  inr,
  ◌⊎◌,
  arith,
  Option,
  Some,
  None,
  Ok,
  Err,
  Result,
}
use Rattle.std.specs.Prelude.{IfSome, IfOk, IfErr}
use Rattle.std.specs.Io.KnownBytes.{Consumes}
use Rattle.std.proofs.KnownBytes.{Consumes-trans}
use Rattle.gedcom_rules.specs.Views.{fault_view, outcome}
use Rattle.gedcom_rules.specs.declared.fault.TreeFault.{TreeFault}
use Rattle.std.specs.List.{flat_map}
use Rattle.gedcom_rules.specs.declared.fault.TreeKind.TheVariants.{OutOfMemory}
use Rattle.gedcom_tree.specs.Forest.{Item}
use Rattle.gedcom_rules.specs.Faults.{max_file, Fault, IsLineless, Decides, FaultOf}
use Rattle.gedcom_tree.specs.File.{ReadsFile}
use Rattle.gedcom_tree.specs.Reading.{Reader}
use Rattle.gedcom_tree.specs.State.{Holds, Takes, Finishes}
use Rattle.gedcom_tree.specs.Streams.{NotRead, ReadAs, Feeds}
use Rattle.std.proofs.lemmas.Bool.{le-leb}
use Rattle.gedcom_tree.specs.Text.{EachNode, IsForest, IsLow, text, node_text, line_text, trailer}
use Rattle.gedcom_tree.proofs.Shaped.{reads_forest}
use Rattle.gedcom_tree.proofs.Stays.{stays_decided}
use Rattle.gedcom_rules.proofs.Decided.{decided_small, open_undecided}
use Rattle.gedcom_tree.proofs.Ends.{decides_of_file, fault_of_file}

finishes_read : (b : List ℕ) (r : Result (List Item) Fault) → Finishes b r → ReadAs b r
finishes_read b (Ok f) h = h
finishes_read b (Err f) (inl m) = inl m
finishes_read b (Err f) (inr h) = inr (fault_of_file b f h, h)

-- what `read_forest` owes
known_forest : (known : Option (List ℕ)) (bytes : List ℕ) (f : List Item) → IfSome known (λ b. bytes ≡ b)
    → ReadsFile bytes f → IfSome known (λ b. ReadsFile b f)
known_forest None bytes f e h = tt
known_forest (Some b) bytes f e h = subst (λ (x : List ℕ). ReadsFile x f) e h

known_fault : (known : Option (List ℕ)) (bytes : List ℕ) (f : Fault) → IfSome known (λ b. bytes ≡ b) → FaultOf bytes f
    → IfSome known (λ b. FaultOf b f)
known_fault None bytes f e h = tt
known_fault (Some b) bytes f e h = subst (λ (x : List ℕ). FaultOf x f) e h

known_refused : (known : Option (List ℕ)) (bytes : List ℕ) (Failed : Type 0) (f : Fault) → IfSome known (λ b. bytes ≡ b)
    → ReadAs bytes (Err f) → NotRead known Failed f
known_refused known bytes Failed f e (inl m) = inl m
known_refused known bytes Failed f e (inr h) = inr (inr (h.0, known_fault known bytes f e h.1))

-- each file that goes on so has the fault that is decided
known_decided : (known left : Option (List ℕ)) (bytes : List ℕ) (f : Fault) → Consumes known left bytes
    → Decides bytes f → IfSome known (λ b. FaultOf b f)
known_decided None left bytes f e h = tt
known_decided (Some b) None bytes f e h = absurd e
known_decided (Some b) (Some c) bytes f e h = subst (λ (x : List ℕ). FaultOf x f) (sym e) (stays_decided bytes c f h)

decided_refused : (known left : Option (List ℕ)) (bytes : List ℕ) (Failed : Type 0) (f : Fault)
    → Consumes known left bytes → IsLineless OutOfMemory f ⊎ Decides bytes f → NotRead known Failed f
decided_refused known left bytes Failed f e (inl m) = inl m
decided_refused known left bytes Failed f e (inr h) =
    inr (inr (decides_of_file bytes f h, known_decided known left bytes f e h))

pub fed_refused : (known mid left : Option (List ℕ)) (old new : Reader) (total : ℕ) (piece : List ℕ) (Failed : Type 0)
    (f : Fault) → Feeds known mid old total → Consumes mid left piece
    → ((b : List ℕ) → Holds old b → Takes new (b ++ piece) (Some f)) → NotRead known Failed f
fed_refused known mid left old new total piece Failed f h e t = decided_refused known left (h.bytes ++ piece) Failed f
    (Consumes-trans known mid left h.bytes piece h.read e) (t h.bytes h.holds).1

-- one piece more
pub fed_more : (known mid left : Option (List ℕ)) (old new : Reader) (total more : ℕ) (piece : List ℕ)
    → Feeds known mid old total → Consumes mid left piece → more ≡ length piece
    → ((b : List ℕ) → Holds old b → Takes new (b ++ piece) None) → Feeds known left new (total + more)
fed_more known mid left old new total more piece h e n t = record {
  bytes = h.bytes ++ piece;
  holds = (t h.bytes h.holds).0;
  read = Consumes-trans known mid left h.bytes piece h.read e;
  count = omega (arith, h.count, n, length-append h.bytes piece);
}

-- not more than a file may have
pub fed_small : (known mid left : Option (List ℕ)) (old new : Reader) (total more : ℕ) (piece : List ℕ)
    → Feeds known mid old total → more ≡ length piece → ((b : List ℕ) → Holds old b → Takes new (b ++ piece) None)
    → total + more ≤ max_file
fed_small known mid left old new total more piece h n t = omega (
  arith,
  h.count,
  n,
  length-append h.bytes piece,
  decided_small (h.bytes ++ piece) (open_undecided (h.bytes ++ piece) (t h.bytes h.holds).1),
)

-- a reader that was fed all answers what the file is
pub forest_read : (known : Option (List ℕ)) (bytes : List ℕ) (r : Result (List Item) TreeFault)
    → IfSome known (λ b. bytes ≡ b) → Finishes bytes (outcome r) → IfOk r (λ f. IfSome known (λ b. ReadsFile b f))
forest_read known bytes (Ok f) e h = known_forest known bytes f e h
forest_read known bytes (Err f) e h = tt

pub forest_refused : (known : Option (List ℕ)) (Failed : Type 0) (bytes : List ℕ) (r : Result (List Item) TreeFault)
    → IfSome known (λ b. bytes ≡ b) → Finishes bytes (outcome r) → IfErr r (λ f. NotRead known Failed (fault_view f))
forest_refused known Failed bytes (Ok f) e h = tt
forest_refused known Failed bytes (Err f) e h = known_refused known bytes Failed (fault_view f) e
    (finishes_read bytes (Err (fault_view f)) h)

pub forest_shaped : (bytes : List ℕ) (r : Result (List Item) TreeFault) → Finishes bytes (outcome r)
    → IfOk r (λ f. IsForest f)
forest_shaped bytes (Ok f) h = reads_forest bytes f h
forest_shaped bytes (Err f) h = tt

-- no level of a forest is above 98
nodes_low : (f : List Item) → EachNode f → IsLow f
nodes_low [] h = refl
nodes_low (i ∷ is) h = rw (le-leb i.level 98 h.0.low, nodes_low is h.1) refl

pub forest_low : (f g : List Item) → g ≡ f → IsForest f → IsLow g
forest_low f g e h = subst IsLow (sym e) (nodes_low f h.nodes)

pub text_is : (f g : List Item) → g ≡ f → flat_map node_text g ++ line_text trailer ≡ text f
unfolding text
text_is f g e = ap (λ (x : List Item). flat_map node_text x ++ line_text trailer) e

-- A writer that gets a text in parts, with a buffer in between.
use Rattle.std.proofs.Common.{
  ◌≡◌,
  ℕ,
  suc,
  ◌+◌,
  ◌<◌,
  ◌≤◌,
  leb,
  List,
  [],
  ◌∷◌,
  ◌++◌,
  length,
  get_or,
  take,
  drop,
  length-append,
  sym,
  ap,
  ◌∙◌,
  subst,
  arith,
  append_assoc,
  add-one,
  drop-cons,
  append-nil,
  Option,
  Ok,
  Err,
  Result,
}
use Rattle.std.specs.Prelude.{IfErr, OnErr}
use Rattle.std.proofs.Math.ListN.{drop_of_length-le}
use Rattle.std.specs.List.{flat_map}
use Rattle.std.proofs.lemmas.List.Concat.{flat_map-append}
use Rattle.gedcom_tree.specs.Flat.{flat, flats}
use Rattle.gedcom_tree.specs.Text.{node_text, IsLow}
use Rattle.gedcom_tree.specs.declared.node.Node.{Node}
use Rattle.std.specs.Io.KnownBytes.{Appends}
use Rattle.std.proofs.KnownBytes.{Appends-trans}
use Rattle.std.proofs.Math.Seq.{take-append-add}
use Rattle.std.proofs.lemmas.List.{take-append-le, take_all}
use Rattle.devices.specs.Devices.{AppendsBeginning}
use Rattle.gedcom_tree.specs.Streams.{Handed}
use Rattle.gedcom_line.proofs.Written.{all_parts}

-- of the whole text the writer has a front, the buffer what follows it, and the rest is still to come
pub record Going (old new : Option (List ℕ)) (whole out rest : List ℕ) : Type 0 where
  pub front : List ℕ
  pub taken : Appends old new front
  pub parts : front ++ (out ++ rest) ≡ whole

pub going_on : (a b c : Option (List ℕ)) (whole out t rest more left : List ℕ) → Going a b whole out rest
    → rest ≡ t ++ left → Handed b c (out ++ t) more → Going a c whole more left
going_on a b c whole out t rest more left g e h = record {
  front = g.front ++ h.front;
  taken = Appends-trans a b c g.front h.front g.taken h.taken;
  parts =
      append_assoc g.front h.front (more ++ left)
      ∙ ap (λ (x : List ℕ). g.front ++ x) (sym (append_assoc h.front more left) ∙ ap (λ (x : List ℕ). x ++ left) h.parts
      ∙ append_assoc out t left ∙ ap (λ (x : List ℕ). out ++ x) (sym e))
      ∙ g.parts;
}

pub going_stops : (a b c : Option (List ℕ)) (whole out t rest left : List ℕ) → Going a b whole out rest
    → rest ≡ t ++ left → AppendsBeginning b c (out ++ t) → AppendsBeginning a c whole
going_stops a b c whole out t rest left g e h =
    let n : ℕ = h.0 in
    let bytes : List ℕ = out ++ t in
    let same : g.front ++ (bytes ++ left) ≡ whole = ap (λ (x : List ℕ). g.front ++ x)
    (append_assoc out t left ∙ ap (λ (x : List ℕ). out ++ x) (sym e)) ∙ g.parts in
    let size : length whole ≡ length g.front + (length bytes + length left) = ap length (sym same)
    ∙ length-append g.front (bytes ++ left) ∙ ap (λ (k : ℕ). length g.front + k) (length-append bytes left) in
    let begun : take (length g.front + n) whole ≡ g.front ++ take n bytes = ap (take (length g.front + n)) (sym same)
    ∙ take-append-add g.front (bytes ++ left) n ∙ ap (λ (x : List ℕ). g.front ++ x)
    (take-append-le n bytes left h.1) in (
      length g.front + n,
      omega (arith, size, h.1),
      subst (Appends a c) (sym begun) (Appends-trans a b c g.front (take n bytes) g.taken h.2),
    )

-- nothing goes out any more
pub going_rests : (a b : Option (List ℕ)) (whole out rest : List ℕ) → Going a b whole out rest
    → AppendsBeginning a b whole
going_rests a b whole out rest g =
    let begun : take (length g.front) whole ≡ g.front = ap (take (length g.front)) (sym g.parts)
    ∙ take-append-le (length g.front) g.front (out ++ rest) (omega arith) ∙ take_all (length g.front) g.front
    (omega arith) in
    let size : length whole ≡ length g.front + length (out ++ rest) = ap length (sym g.parts)
    ∙ length-append g.front (out ++ rest) in
    (length g.front, omega (arith, size), subst (Appends a b) (sym begun) g.taken)

-- the next node of a list of nodes
pub node_next : (nodes : List Node) (i : ℕ) (n : Node) (end_ : List ℕ) → i < length nodes → n ≡ get_or nodes i n
    → flat_map node_text (flats 0 (drop i nodes)) ++ end_ ≡ flat_map node_text (flat n 0)
    ++ (flat_map node_text (flats 0 (drop (i + 1) nodes)) ++ end_)
node_next nodes i n end_ lt at =
    let more : List Node = drop (i + 1) nodes in
    let cut : drop i nodes ≡ n ∷ more = drop-cons nodes i n lt ∙ ap (λ (x : Node). x ∷ drop (suc i) nodes) (sym at)
    ∙ ap (λ (k : ℕ). n ∷ drop k nodes) (sym (add-one i)) in
    ap (λ (x : List Node). flat_map node_text (flats 0 x) ++ end_) cut
    ∙ ap (λ (x : List ℕ). x ++ end_) (flat_map-append node_text (flat n 0) (flats 0 more))
    ∙ append_assoc (flat_map node_text (flat n 0)) (flat_map node_text (flats 0 more)) end_

pub low_next : (nodes : List Node) (i : ℕ) (n : Node) → i < length nodes → n ≡ get_or nodes i n
    → IsLow (flats 0 (drop i nodes)) → IsLow (flat n 0) × IsLow (flats 0 (drop (i + 1) nodes))
low_next nodes i n lt at h =
    let more : List Node = drop (i + 1) nodes in
    let cut : drop i nodes ≡ n ∷ more = drop-cons nodes i n lt ∙ ap (λ (x : Node). x ∷ drop (suc i) nodes) (sym at)
    ∙ ap (λ (k : ℕ). n ∷ drop k nodes) (sym (add-one i)) in
    all_parts (λ j. leb j.level 98) (flat n 0) (flats 0 more) (subst (λ (x : List Node). IsLow (flats 0 x)) cut h)

pub node_last : (nodes : List Node) (i : ℕ) (end_ : List ℕ) → length nodes ≤ i
    → flat_map node_text (flats 0 (drop i nodes)) ++ end_ ≡ end_ ++ []
node_last nodes i end_ le = ap (λ (x : List Node). flat_map node_text (flats 0 x) ++ end_) (drop_of_length-le nodes le)
    ∙ sym (append-nil end_)

-- what is said of an error follows from what another says of it
pub if_err : {A E : Type 0} (r : Result A E) (P Q : E → Type 0) → ((e : E) → P e → Q e) → IfErr r P → IfErr r Q
if_err (Ok x) P Q f h = tt
if_err (Err e) P Q f h = f e h

pub begins_same : (b c : Option (List ℕ)) (bytes other : List ℕ) → bytes ≡ other → AppendsBeginning b c bytes
    → AppendsBeginning b c other
begins_same b c bytes other e h = subst (AppendsBeginning b c) e h

pub on_err : {A E : Type 0} (r : Result A E) (P : E → Type 0) (Q S : Type 0) → (Q → S)
    → IfErr r (λ e. P e × Q) → OnErr r S
on_err (Ok x) P Q S f h = tt
on_err (Err e) P Q S f h = f h.1

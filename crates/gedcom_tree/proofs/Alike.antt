-- The comparison by computing says whether two forests are the same but for the numbers of their lines.
use Rattle.std.proofs.Common.{
  ◌≡◌,
  ◌↔◌,
  IsTrue,
  ℕ,
  Bool,
  true,
  false,
  ◌&&◌,
  eqb,
  eq-eqb,
  List,
  [],
  ◌∷◌,
  map,
  refl,
  sym,
  ap,
  ◌∙◌,
  subst,
  Option,
  Some,
  None,
}
use Rattle.std.specs.Option.{option_eq}
use Rattle.std.specs.Str.{bytes_eq}
use Rattle.std.proofs.lemmas.Bool.{eqb-true, and_parts}
use Rattle.gedcom_line.specs.Value.{Meaning, Text, Pointer}
use Rattle.gedcom_tree.specs.Comparing.{is_same_value, is_same_item, are_same}
use Rattle.gedcom_tree.specs.Forest.{Item}
use Rattle.gedcom_tree.specs.Text.{unnumbered, IsSame}
use Rattle.gedcom_tree.proofs.Matched.{heads, tails}
use Rattle.list_laws.proofs.Bytes.{bytes_same}

own_bytes : (x : List ℕ) → bytes_eq x x ≡ true
own_bytes [] = refl
own_bytes (b ∷ bs) = rw (eq-eqb b b refl, own_bytes bs) refl

own_xref : (x : Option (List ℕ)) → option_eq bytes_eq x x ≡ true
own_xref None = refl
own_xref (Some x) = own_bytes x

own_value : (v : Meaning) → is_same_value v v ≡ true
own_value (Text t) = own_bytes t
own_value (Pointer p) = own_bytes p

own_item : (i : Item) → is_same_item i i ≡ true
own_item i = rw (eq-eqb i.level i.level refl, own_xref i.xref, own_bytes i.tag, own_value i.value) refl

same_xref : (x y : Option (List ℕ)) → option_eq bytes_eq x y ≡ true → x ≡ y
same_xref None None h = refl
same_xref None (Some y) h = absurd cc
same_xref (Some x) None h = absurd cc
same_xref (Some x) (Some y) h = ap Some (bytes_same x y h)

same_value : (v w : Meaning) → is_same_value v w ≡ true → v ≡ w
same_value (Text s) (Text t) h = ap Text (bytes_same s t h)
same_value (Text s) (Pointer q) h = absurd cc
same_value (Pointer p) (Text t) h = absurd cc
same_value (Pointer p) (Pointer q) h = ap Pointer (bytes_same p q h)

same_item : (i j : Item) → is_same_item i j ≡ true → unnumbered i ≡ unnumbered j
same_item i j h =
    let a = and_parts (eqb i.level j.level)
    (option_eq bytes_eq i.xref j.xref && (bytes_eq i.tag j.tag && is_same_value i.value j.value)) h in
    let b = and_parts (option_eq bytes_eq i.xref j.xref) (bytes_eq i.tag j.tag && is_same_value i.value j.value) a.1 in
    let c = and_parts (bytes_eq i.tag j.tag) (is_same_value i.value j.value) b.1 in
    let level = eqb-true i.level j.level a.0 in
    let xref = same_xref i.xref j.xref b.0 in
    let tag = bytes_same i.tag j.tag c.0 in
    let value = same_value i.value j.value c.1 in
    λ k. record { line = 0; level = level k; xref = xref k; tag = tag k; value = value k }

item_same : (i j : Item) → unnumbered i ≡ unnumbered j → is_same_item i j ≡ true
item_same i j e = subst (λ (x : Item). is_same_item (unnumbered i) x ≡ true) e (own_item (unnumbered i))

pub told_same : (f g : List Item) → IsTrue (are_same f g) → IsSame f g
told_same [] [] h = refl
told_same [] (j ∷ js) h = absurd cc
told_same (i ∷ is) [] h = absurd cc
told_same (i ∷ is) (j ∷ js) h =
    let r = and_parts (is_same_item i j) (are_same is js) h in
    ap (λ (x : Item). x ∷ map unnumbered is) (same_item i j r.0) ∙ ap (λ (x : List Item). unnumbered j ∷ x)
    (told_same is js r.1)

pub same_told : (f g : List Item) → IsSame f g → IsTrue (are_same f g)
same_told [] [] e = refl
same_told [] (j ∷ js) e = absurd cc
same_told (i ∷ is) [] e = absurd cc
same_told (i ∷ is) (j ∷ js) e =
    let one = item_same i j (heads (unnumbered i) (unnumbered j) (map unnumbered is) (map unnumbered js) e) in
    let more = same_told is js (tails (unnumbered i) (unnumbered j) (map unnumbered is) (map unnumbered js) e) in
    rw (one, more) refl

pub one_answer : (p q : Bool) → (IsTrue p → IsTrue q) → (IsTrue q → IsTrue p) → p ≡ q
one_answer true q f g = sym (f refl)
one_answer false true f g = g refl
one_answer false false f g = refl

-- what says whether two forests are the same answers as this comparison does
pub told_by : (f g : List Item) (r : Bool) → (IsTrue r ↔ IsSame f g) → r ≡ are_same f g
told_by f g r h = one_answer r (are_same f g) (λ e. same_told f g (h.0 e)) (λ e. h.1 (told_same f g e))

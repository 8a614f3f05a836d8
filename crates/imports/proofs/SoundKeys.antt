-- No two entries of a file have one key, where none is refused.
use Rattle.std.proofs.Common.{
  ◌≡◌,
  ℕ,
  ◌+◌,
  zero,
  suc,
  ◌<◌,
  Bool,
  true,
  false,
  cond,
  List,
  [],
  ◌∷◌,
  refl,
  sym,
  ap,
  ◌∙◌,
  subst,
  inl,
  inr,
  ◌⊎◌,
  arith,
}
use Rattle.std.specs.Prelude.{Some, None, ◌&&◌}
use Rattle.std.specs.List.{list_any, slice_get}
use Rattle.std.proofs.lemmas.Bool.{eq-eqb, or_parts}
use Rattle.stored_lines.specs.Line.{Line, Lines}
use Rattle.stored_lines.specs.Tree.{Tree, label}
use Rattle.record_kinds.specs.Model as model
use Rattle.record_fields.specs.Bytes.{bytes_same}
use Rattle.record_fields.specs.Words.{entry_kind_word}
use Rattle.record_fields.specs.declared.item.Item.{Item}
use Rattle.record_shapes.specs.Lists.{EachOf}
use Rattle.record_kinds.specs.declared.record.Record.TheVariants as kind
use Rattle.record_shapes.specs.Reading.{Draft, read}
use Rattle.import_definitions.specs.Made.{has_key_of, same_key, second}
use Rattle.import_definitions.specs.Sides.{draft_at}

none_same : (before : List Draft) (d : Draft) → list_any (λ b. same_key b d) before ≡ false
    → EachOf (λ b. same_key b d ≡ false) before
none_same [] d e = tt
none_same (b ∷ bs) d e = let p = or_parts (same_key b d) (list_any (λ x. same_key x d) bs) e in
    (p.0, none_same bs d p.1)

-- where none is a second one, those before it are not alike
second_none : (rs : Lines) (k : ℕ) (before : List Draft) (r : Tree Line) (behind : Lines)
    → second rs k before (r ∷ behind) ≡ None
    → (list_any (λ b. same_key b (label (draft_at rs k r))) before ≡ false)
    × (second rs (k + 1) (label (draft_at rs k r) ∷ before) behind ≡ None)
second_none rs k before r behind e =
    let d : Draft = label (draft_at rs k r) in
    elim (list_any (λ b. same_key b d) before) as (λ v. cond v (Some k) (second rs (k + 1) (d ∷ before) behind) ≡ None
    → (v ≡ false) × (second rs (k + 1) (d ∷ before) behind ≡ None)) [
      | true ↦ λ f. absurd cc
      | false ↦ λ f. (refl, f)
    ] e

-- each of those before is not alike any after
before_apart : (rs : Lines) (k : ℕ) (before : List Draft) (behind : Lines) → second rs k before behind ≡ None → (i : ℕ)
    (r : Tree Line) → slice_get behind i ≡ Some r
    → EachOf (λ b. same_key b (label (draft_at rs (k + i) r)) ≡ false) before
before_apart rs k before [] e i r at = absurd cc
before_apart rs k before (q ∷ behind) e zero r at =
    let same : q ≡ r = cc in
    let number : k ≡ k + zero = omega arith in
    subst (λ n. EachOf (λ b. same_key b (label (draft_at rs n r)) ≡ false) before) number
    (subst (λ x. EachOf (λ b. same_key b (label (draft_at rs k x)) ≡ false) before) same
    (none_same before (label (draft_at rs k q)) (second_none rs k before q behind e).0))
before_apart rs k before (q ∷ behind) e (suc i) r at =
    let rest = before_apart rs (k + 1) (label (draft_at rs k q) ∷ before) behind
    (second_none rs k before q behind e).1 i r at in
    let number : (k + 1) + i ≡ k + suc i = omega arith in
    subst (λ n. EachOf (λ b. same_key b (label (draft_at rs n r)) ≡ false) before) number rest.1

all_apart : (rs : Lines) (k : ℕ) (before : List Draft) (behind : Lines) → second rs k before behind ≡ None
    → (j i : ℕ) (q r : Tree Line) → j < i → slice_get behind j ≡ Some q → slice_get behind i ≡ Some r
    → same_key (label (draft_at rs (k + j) q)) (label (draft_at rs (k + i) r)) ≡ false
all_apart rs k before [] e j i q r less at there = absurd cc
all_apart rs k before (x ∷ behind) e j zero q r less at there = absurd (omega arith)
all_apart rs k before (x ∷ behind) e zero (suc i) q r less at there =
    let same : x ≡ q = cc in
    let rest = before_apart rs (k + 1) (label (draft_at rs k x) ∷ before) behind
    (second_none rs k before x behind e).1 i r there in
    let number : (k + 1) + i ≡ k + suc i = omega arith in
    let first : k ≡ k + zero = omega arith in
    subst (λ n. same_key (label (draft_at rs (k + zero) q)) (label (draft_at rs n r)) ≡ false) number
    (subst (λ n. same_key (label (draft_at rs n q)) (label (draft_at rs ((k + 1) + i) r)) ≡ false) first
    (subst (λ y. same_key (label (draft_at rs k y)) (label (draft_at rs ((k + 1) + i) r)) ≡ false) same rest.0))
all_apart rs k before (x ∷ behind) e (suc j) (suc i) q r less at there =
    let rest = all_apart rs (k + 1) (label (draft_at rs k x) ∷ before) behind
    (second_none rs k before x behind e).1 j i q r
    (omega arith) at there in
    let one : (k + 1) + j ≡ k + suc j = omega arith in
    let two : (k + 1) + i ≡ k + suc i = omega arith in
    subst (λ n. same_key (label (draft_at rs (k + suc j) q)) (label (draft_at rs n r)) ≡ false) two
    (subst (λ n. same_key (label (draft_at rs n q)) (label (draft_at rs ((k + 1) + i) r)) ≡ false) one rest)

-- of two positions
pub keys_apart : (rs : Lines) → second rs 0 [] rs ≡ None → (j i : ℕ) (q r : Tree Line) → j < i
    → slice_get rs j ≡ Some q → slice_get rs i ≡ Some r
    → same_key (label (draft_at rs j q)) (label (draft_at rs i r)) ≡ false
keys_apart rs e j i q r less at there =
    let one : 0 + j ≡ j = omega arith in
    let two : 0 + i ≡ i = omega arith in
    subst (λ n. same_key (label (draft_at rs j q)) (label (draft_at rs n r)) ≡ false) two
    (subst (λ n. same_key (label (draft_at rs n q)) (label (draft_at rs (0 + i) r)) ≡ false) one
    (all_apart rs 0 [] rs e j i q r less at there))

-- two entries of one key
pub keys_same : (e h : model.Entry) → e.source ≡ h.source → e.kind ≡ h.kind → e.page ≡ h.page → e.item ≡ h.item
    → has_key_of e h ≡ true
keys_same e h source kinds page item =
    λ i. eq-eqb e.source h.source source i
    && (bytes_same (entry_kind_word e.kind) (entry_kind_word h.kind) (ap entry_kind_word kinds) i
    && (bytes_same e.page h.page page i
    && eq-eqb e.item.number h.item.number (ap (λ (x : Item). x.number) item) i))

-- the nodes of two entries of one key are one
pub one_node : (rs : Lines) → second rs 0 [] rs ≡ None → (k j : ℕ) (t u : Tree Line) (e d : model.Entry)
    → slice_get rs k ≡ Some t → slice_get rs j ≡ Some u
    → label (draft_at rs k t) ≡ read (kind.Entry e) None → label (draft_at rs j u) ≡ read (kind.Entry d) None
    → e.source ≡ d.source → e.kind ≡ d.kind → e.page ≡ d.page → e.item ≡ d.item → k ≡ j
one_node rs none_second k j t u e d at there from of source kinds page item = elim (order k j) as (λ _. k ≡ j) [
  | inl same ↦ same
  | inr r ↦ elim r as (λ _. k ≡ j) [
    | inl less ↦ absurd
        (clash (same_key (read (kind.Entry e) None) (read (kind.Entry d) None)) (keys_same e d source kinds page item)
        ((λ i. same_key (sym from i) (sym of i)) ∙ keys_apart rs none_second k j t u less at there))
    | inr less ↦ absurd
        (clash (same_key (read (kind.Entry d) None) (read (kind.Entry e) None))
        (keys_same d e (sym source) (sym kinds) (sym page) (sym item))
        ((λ i. same_key (sym of i) (sym from i)) ∙ keys_apart rs none_second j k u t less there at))
  ]
]
  where
    order : (a b : ℕ) → (a ≡ b) ⊎ ((a < b) ⊎ (b < a))
    order a b = grind arith

    clash : (b : Bool) → b ≡ true → b ≡ false → ⊥
    clash b yes_is not_is = let both : true ≡ false = sym yes_is ∙ not_is in cc

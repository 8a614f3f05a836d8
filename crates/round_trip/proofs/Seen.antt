-- What stands at the position of a number among the nodes of an export: the node of its record, where that is written
-- at level 0.
use Rattle.std.specs.Prelude.{
  ℕ,
  zero,
  suc,
  ◌≡◌,
  ◌+◌,
  ◌==◌,
  ◌||◌,
  nat_lt,
  Bool,
  true,
  false,
  cond,
  List,
  [],
  ◌∷◌,
  map,
  Option,
  Some,
  None,
  option_map,
  refl,
  slice_get,
}
use Rattle.std.specs.Option.{unwrap_or}
use Rattle.std.specs.FinMap.{get}
use Rattle.std.proofs.Common.{ap, sym, ◌∙◌, subst, arith, eqb}
use Rattle.std.proofs.lemmas.Bool.{eqb-true}
use Rattle.record_kinds.specs.declared.record.Record.{Record}
use Rattle.record_kinds.specs.declared.record.Record.TheVariants as kind
use Rattle.record_shapes.specs.Forms.{tag_of}
use Rattle.record_shapes.specs.Lists.{EachOf, IsOnce}
use Rattle.archive_state.specs.Content.{Records}
use Rattle.archive_state.specs.Known.{known_of}
use Rattle.archive_state.specs.Known as archive
use Rattle.import_definitions.specs.Positions.{tag_at}
use Rattle.gedcom_export.specs.Order.{Numbered, rank}
use Rattle.round_trip.specs.Positions.{nodes_by_position, position_of}
use Rattle.round_trip.proofs.Positions.{get_next, same_position}
use Rattle.round_trip.proofs.Entries.{keys, same_entry, Stands}
use Rattle.round_trip.proofs.Ordered.{order, order_has, order_stands, StandsAt0}
use Rattle.round_trip.proofs.Nodes.{node_tree, nodes_are, pos, positions_are}
use Rattle.record_shapes.proofs.Each.{each_more, has}
use Rattle.list_laws.proofs.Booleans.{or_right, true_not_false}
use Rattle.list_laws.proofs.Numbers.{same_self}

-- ---- the entry of a number, and what stands at its position
abbrev pub seen : ℕ → List Numbered → Option Numbered
seen n [] = None
seen n (e ∷ es) = cond (e.0 == n) (Some e) (seen n es)

pub at_seen : {Y : Type 0} (f : Numbered → Y) (n : ℕ) (es : List Numbered)
    → slice_get (map f es) (position_of n (keys es)) ≡ option_map f (seen n es)
at_seen f n [] = refl
at_seen f n (e ∷ es) =
    elim (e.0 == n) as (λ b. slice_get (f e ∷ map f es) (cond b 0 (position_of n (keys es) + 1))
    ≡ option_map f (cond b (Some e) (seen n es))) [
      | true ↦ refl
      | false ↦ get_next (position_of n (keys es)) (f e) (map f es) ∙ at_seen f n es
    ]

-- of a list without doubles: what stands at a position has that position
pub position_back : (k n : ℕ) (ks : List ℕ) → IsOnce ks → slice_get ks k ≡ Some n → position_of n ks ≡ k
position_back k n [] o e = absurd cc
position_back zero n (j ∷ ks) o e =
    let same : j ≡ n = cc in
    ap (λ b. cond b 0 (position_of n ks + 1)) (ap (λ i. i == n) same ∙ same_self n)
position_back (suc k) n (j ∷ ks) o e =
    elim (eqb j n) as (λ b. eqb j n ≡ b → cond b 0 (position_of n ks + 1) ≡ suc k) [
      | true ↦ λ i. absurd (true_not_false (sym (there k n ks e) ∙ ap (λ x. has x ks) (sym (eqb-true j n i)) ∙ o.0))
      | false ↦ λ i. let rest : position_of n ks ≡ k = position_back k n ks o.1 e in omega arith
    ] refl
  where
    there : (k n : ℕ) (ks : List ℕ) → slice_get ks k ≡ Some n → has n ks ≡ true
    there k n [] e = absurd cc
    there zero n (j ∷ ks) e = let same : j ≡ n = cc in ap (λ b. b || has n ks) (ap (λ i. i == n) same ∙ same_self n)
    there (suc k) n (j ∷ ks) e = or_right (j == n) (has n ks) (there k n ks e)

pub each_at : {A : Type 0} (P : A → Type 0) (k : ℕ) (xs : List A) (x : A) → EachOf P xs → slice_get xs k ≡ Some x → P x
each_at P k [] x h e = absurd cc
each_at P zero (y ∷ xs) x h e = let same : y ≡ x = cc in subst P same h.0
each_at P (suc k) (y ∷ xs) x h e = each_at P k xs x h.1 e

module _ (m : Records) where
  -- the record of a number, where it is written at level 0
  abbrev pub if_level_0 : ℕ → Option Record → Option Numbered
  if_level_0 n None = None
  if_level_0 n (Some r) = cond (nat_lt 0 (rank r)) (Some (n, r)) None

  seen_is : (n : ℕ) (r : Record) (es : List Numbered) → get m n ≡ Some r → EachOf (Stands m) es → has n (keys es) ≡ true
      → seen n es ≡ Some (n, r)
  seen_is n r [] g h e = absurd cc
  seen_is n r (x ∷ es) g h e =
      elim (eqb x.0 n) as (λ b. eqb x.0 n ≡ b → (b || has n (keys es)) ≡ true
      → cond b (Some x) (seen n es) ≡ Some (n, r)) [
        | true ↦ λ i k. λ j. Some (eqb-true x.0 n i j, same_entry m n r x g h.0 i j)
        | false ↦ λ i k. seen_is n r es g h.1 k
      ] refl e

  seen_none : (n : ℕ) (es : List Numbered) → EachOf (λ (e : Numbered). e.0 ≡ n → ⊥) es → seen n es ≡ None
  seen_none n [] h = refl
  seen_none n (e ∷ es) h =
      elim (eqb e.0 n) as (λ b. eqb e.0 n ≡ b → cond b (Some e) (seen n es) ≡ None) [
        | true ↦ λ i. absurd (h.0 (eqb-true e.0 n i))
        | false ↦ λ i. seen_none n es h.1
      ] refl

  no_other : (n : ℕ) (o : Option Record) → get m n ≡ o → ((r : Record) → o ≡ Some r → nat_lt 0 (rank r) ≡ true → ⊥)
      → seen n (order m) ≡ None
  no_other n o g f = seen_none n (order m) (each_more (StandsAt0 m) (λ e. e.0 ≡ n → ⊥)
      (λ (e : Numbered) (h : StandsAt0 m e) (i : e.0 ≡ n). f e.1 (sym g ∙ ap (get m) (sym i) ∙ h.0) h.1) (order m)
      (order_stands m))

  pub seen_0 : (n : ℕ) → seen n (order m) ≡ if_level_0 n (get m n)
  seen_0 n = by (get m n) refl
    where
      by : (o : Option Record) → get m n ≡ o → seen n (order m) ≡ if_level_0 n o
      by None g = no_other n None g (λ r e z. let wrong : ⊥ = cc in wrong)
      by (Some r) g = case (nat_lt 0 (rank r)) refl
        where
          case : (b : Bool) → nat_lt 0 (rank r) ≡ b → seen n (order m) ≡ cond b (Some (n, r)) None
          case true i = seen_is n r (order m) g
              (each_more (StandsAt0 m) (Stands m) (λ e h. h.0) (order m) (order_stands m)) (order_has m n r g i)
          case false i = no_other n (Some r) g (λ q e z. let same : r ≡ q = cc in
              true_not_false (sym z ∙ ap (λ y. nat_lt 0 (rank y)) (sym same) ∙ i))

  pub at_node : (n : ℕ) → slice_get (nodes_by_position m) (pos m n) ≡ option_map (node_tree m) (if_level_0 n (get m n))
  at_node n = (λ i. slice_get (nodes_are m i) (positions_are m n i)) ∙ at_seen (node_tree m) n (order m)
      ∙ ap (option_map (node_tree m)) (seen_0 n)

  -- two numbers with one position are one, where one of them is of level 0
  pub positions_apart : (n : ℕ) (r : Record) → get m n ≡ Some r → nat_lt 0 (rank r) ≡ true → (j : ℕ) → pos m j ≡ pos m n
      → j ≡ n
  positions_apart n r g h j e = same_position n j (keys (order m)) (order_has m n r g h)
      (sym (positions_are m j) ∙ e ∙ positions_are m n)

  -- ---- tags
  pub tags_back : (n : ℕ) → tag_at (nodes_by_position m) (pos m n) ≡ (known_of m).tag n
  tags_back n = ap (λ o. unwrap_or (option_map tag_of o) []) (at_node n) ∙ by (get m n)
    where
      by : (o : Option Record) → unwrap_or (option_map tag_of (option_map (node_tree m) (if_level_0 n o))) []
          ≡ archive.tag_at o
      by None = refl
      by (Some (kind.Place p)) = refl
      by (Some (kind.Repo p)) = refl
      by (Some (kind.Source p)) = refl
      by (Some (kind.Person p)) = refl
      by (Some (kind.Family p)) = refl
      by (Some (kind.Entry p)) = refl
      by (Some (kind.Other p)) = refl
      by (Some (kind.Event p)) = refl
      by (Some (kind.Citation p)) = refl

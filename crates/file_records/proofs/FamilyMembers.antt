-- The members of a family, by the first line that names each.
use Rattle.std.proofs.Common.{
  ◌≡◌,
  ℕ,
  Bool,
  true,
  false,
  List,
  [],
  ◌∷◌,
  ◌++◌,
  refl,
  sym,
  ap,
  ◌∙◌,
  cond,
  map,
  eq-eqb,
}
use Rattle.std.specs.Prelude.{◌&&◌, ◌||◌, ◌==◌, not, Option, Some, None}
use Rattle.std.specs.List.{filter, list_any}
use Rattle.std.proofs.lemmas.Bool.{eqb-true}
use Rattle.std.proofs.lemmas.List.Folds.{list_any-append}
use Rattle.stored_lines.specs.Tree.{Tree}
use Rattle.stored_lines.specs.Line.{Line, Lines}
use Rattle.record_kinds.specs.Model as model
use Rattle.record_shapes.specs.Fields.{a_member, family_field, is_same}
use Rattle.record_shapes.specs.Forms.{Known, is_some, number_of}
use Rattle.record_shapes.specs.Members.{members}
use Rattle.record_shapes.specs.Picking.{all_of}
use Rattle.record_shapes.specs.Reading.{child_from, family_from, is_child_line, once, once_behind, partner_from}
use Rattle.import_definitions.specs.Numbers.{or_else}
use Rattle.file_records.proofs.Partners.{line_as, line_first}
use Rattle.list_laws.proofs.Booleans.{neither}

abbrev has : List ℕ → ℕ → Bool
has seen n = list_any (λ m. m == n) seen

true_false : {A : Type 0} → true ≡ false → A
true_false e = absurd cc

module _ (k : Known) where
  -- ---- each member is the person of the first line that names it
  module _ {Y : Type 0} (keep : Tree Line → Bool) (want : Option Bool) (f g : Tree Line → Y)
      (keeps : (t : Tree Line) → keep t ≡ true → Some (not (is_child_line t)) ≡ want) where
    abbrev Same : List ℕ → Lines → Type 0
    Same seen ts = (t : Tree Line) → has seen (number_of t) ≡ false → line_first k (number_of t) ts ≡ want
        → f t ≡ g t

    abbrev Kept : List ℕ → Lines → Type 0
    Kept seen us = map f (filter keep (once_behind seen us)) ≡ map g (filter keep (once_behind seen us))

    -- a line of no member, or of a person who was seen, is no first line of another
    passed : (t : Tree Line) (ts : Lines) (seen : List ℕ) → Same seen (t ∷ ts)
        → ((u : Tree Line) → has seen (number_of u) ≡ false → line_as k (number_of u) t ≡ None) → Same seen ts
    passed t ts seen h other u free e =
        h u free (ap (λ o. or_else o (line_first k (number_of u) ts)) (other u free) ∙ e)

    -- of persons other than that of the line
    behind_line : (t : Tree Line) (ts : Lines) (seen : List ℕ) → Same seen (t ∷ ts) → Same (number_of t ∷ seen) ts
    behind_line t ts seen h u free e =
        let p = neither (number_of t == number_of u) (has seen (number_of u)) free in
        h u p.1 (ap (λ o. or_else o (line_first k (number_of u) ts)) (none_as p.0) ∙ e)
      where
        none_as : (number_of t == number_of u) ≡ false → line_as k (number_of u) t ≡ None
        none_as q = ap (λ x. cond (is_same (family_field k t) a_member && x) (Some (not (is_child_line t))) None) q
            ∙ and_none (is_same (family_field k t) a_member)
          where
            and_none : (b : Bool) → cond (b && false) (Some (not (is_child_line t))) None ≡ None
            and_none true = refl
            and_none false = refl

    own : (t : Tree Line) (ts : Lines) (seen : List ℕ) → Same seen (t ∷ ts)
        → is_same (family_field k t) a_member ≡ true → has seen (number_of t) ≡ false → keep t ≡ true → f t ≡ g t
    own t ts seen h is free kept =
        h t free (ap (λ b. or_else (cond (b && (number_of t == number_of t)) (Some (not (is_child_line t))) None)
        (line_first k (number_of t) ts)) is ∙ first_own (number_of t == number_of t) (eq_self (number_of t)))
      where
        first_own : (x : Bool) → x ≡ true → or_else (cond (true && x) (Some (not (is_child_line t))) None)
            (line_first k (number_of t) ts) ≡ want
        first_own x e = ap (λ y. or_else (cond (true && y) (Some (not (is_child_line t))) None)
            (line_first k (number_of t) ts)) e ∙ keeps t kept

        eq_self : (x : ℕ) → (x == x) ≡ true
        eq_self x = eq-eqb x x refl

    with_line : (t : Tree Line) (us : Lines) (b : Bool) → (b ≡ true → f t ≡ g t)
        → map f (filter keep us) ≡ map g (filter keep us)
        → map f (cond b (t ∷ filter keep us) (filter keep us)) ≡ map g (cond b (t ∷ filter keep us) (filter keep us))
    with_line t us true one rest = (λ i. one refl i ∷ rest i)
    with_line t us false one rest = rest

    pub each_same : (ts : Lines) (seen : List ℕ) → Same seen ts → Kept seen (all_of (family_field k) a_member ts)
    each_same [] seen h = refl
    each_same (t ∷ ts) seen h =
        let rest : Lines = all_of (family_field k) a_member ts in
        elim (is_same (family_field k t) a_member) as (λ b. is_same (family_field k t) a_member ≡ b
        → Kept seen (cond b (t ∷ rest) rest)) [
          | true ↦ λ is. elim (has seen (number_of t)) as (λ w. has seen (number_of t) ≡ w
              → map f (filter keep (cond w (once_behind seen rest) (t ∷ once_behind (number_of t ∷ seen) rest)))
              ≡ map g (filter keep (cond w (once_behind seen rest) (t ∷ once_behind (number_of t ∷ seen) rest)))) [
                | true ↦ λ there. each_same ts seen (passed t ts seen h (λ u free. seen_other t seen u there free))
                | false ↦ λ free. with_line t (once_behind (number_of t ∷ seen) rest) (keep t)
                    (λ kept. own t ts seen h is free kept)
                    (each_same ts (number_of t ∷ seen) (behind_line t ts seen h))
              ] refl
          | false ↦ λ none. each_same ts seen (passed t ts seen h (λ u free. no_member t u none))
        ] refl
      where
        no_member : (t u : Tree Line) → is_same (family_field k t) a_member ≡ false → line_as k (number_of u) t ≡ None
        no_member t u e = ap (λ b. cond (b && (number_of t == number_of u)) (Some (not (is_child_line t))) None) e

        seen_other : (t : Tree Line) (seen : List ℕ) (u : Tree Line) → has seen (number_of t) ≡ true
            → has seen (number_of u) ≡ false → line_as k (number_of u) t ≡ None
        seen_other t seen u there free =
            elim (number_of t == number_of u) as (λ x. (number_of t == number_of u) ≡ x
            → cond (is_same (family_field k t) a_member && x) (Some (not (is_child_line t))) None ≡ None) [
              | true ↦ λ e. true_false (sym there ∙ ap (has seen) (eqb-true (number_of t) (number_of u) e) ∙ free)
              | false ↦ λ e. and_none (is_same (family_field k t) a_member)
            ] refl
          where
            and_none : (b : Bool) → cond (b && false) (Some (not (is_child_line t))) None ≡ None
            and_none true = refl
            and_none false = refl

  -- ---- who is a member
  module _ (n : ℕ) where
    abbrev named : Lines → Bool
    named us = list_any (λ t. number_of t == n) us

    -- of a list that is parted by a test
    parted : (us : Lines) → list_any (λ m. m == n) (map (λ (p : model.Partner). p.person)
        (map partner_from (filter (λ t. not (is_child_line t)) us))
        ++ map (λ (c : model.Child). c.person) (map child_from (filter is_child_line us))) ≡ named us
    parted us = list_any-append (λ m. m == n) (map (λ (p : model.Partner). p.person)
        (map partner_from (filter (λ t. not (is_child_line t)) us)))
        (map (λ (c : model.Child). c.person) (map child_from (filter is_child_line us)))
        ∙ both us
      where
        swap : (x a b c : Bool) → (a || b) ≡ c → (a || (x || b)) ≡ (x || c)
        swap true true b c e = refl
        swap true false b c e = refl
        swap false a b c e = e

        front : (x a b c : Bool) → (a || b) ≡ c → ((x || a) || b) ≡ (x || c)
        front true a b c e = refl
        front false a b c e = e

        both : (vs : Lines) → (list_any (λ m. m == n) (map (λ (p : model.Partner). p.person)
            (map partner_from (filter (λ t. not (is_child_line t)) vs)))
            || list_any (λ m. m == n) (map (λ (c : model.Child). c.person)
            (map child_from (filter is_child_line vs)))) ≡ named vs
        both [] = refl
        both (t ∷ vs) =
            let ps : Lines = filter (λ t. not (is_child_line t)) vs in
            let cs : Lines = filter is_child_line vs in
            elim (is_child_line t) as (λ b. (list_any (λ m. m == n) (map (λ (p : model.Partner). p.person)
            (map partner_from (cond (not b) (t ∷ ps) ps)))
            || list_any (λ m. m == n) (map (λ (c : model.Child). c.person) (map child_from (cond b (t ∷ cs) cs))))
            ≡ ((number_of t == n) || named vs)) [
              | true ↦ swap (number_of t == n)
                  (list_any (λ m. m == n) (map (λ (p : model.Partner). p.person) (map partner_from ps)))
                  (list_any (λ m. m == n) (map (λ (c : model.Child). c.person) (map child_from cs))) (named vs)
                  (both vs)
              | false ↦ front (number_of t == n)
                  (list_any (λ m. m == n) (map (λ (p : model.Partner). p.person) (map partner_from ps)))
                  (list_any (λ m. m == n) (map (λ (c : model.Child). c.person) (map child_from cs))) (named vs)
                  (both vs)
            ]

    and_no : (b : Bool) → (b && false) ≡ false
    and_no true = refl
    and_no false = refl

    -- a further line of a person is no other
    dropped : (x s v : Bool) (rest : Option Bool) → (x ≡ true → s ≡ true)
        → (not s && is_some rest) ≡ (not s && is_some (or_else (cond x (Some v) None) rest))
    dropped true s v rest h = ap (λ b. not b && is_some rest) (h refl)
        ∙ ap (λ b. not b && is_some (or_else (Some v) rest)) (sym (h refl))
    dropped false s v rest h = refl

    first_one : (x s v : Bool) (rest : Option Bool) → (x ≡ true → s ≡ false)
        → (x || (not (x || s) && is_some rest)) ≡ (not s && is_some (or_else (cond x (Some v) None) rest))
    first_one true s v rest h = ap (λ b. not b && true) (sym (h refl))
    first_one false s v rest h = refl

    named_once : (ts : Lines) (seen : List ℕ) → named (once_behind seen (all_of (family_field k) a_member ts))
        ≡ (not (has seen n) && is_some (line_first k n ts))
    named_once [] seen = sym (and_no (not (has seen n)))
    named_once (t ∷ ts) seen =
        let rest : Lines = all_of (family_field k) a_member ts in
        let s : Bool = has seen n in
        let x : Bool = number_of t == n in
        let v : Bool = not (is_child_line t) in
        elim (is_same (family_field k t) a_member) as (λ b. named (once_behind seen (cond b (t ∷ rest) rest))
        ≡ (not s && is_some (or_else (cond (b && x) (Some v) None) (line_first k n ts)))) [
          | true ↦ elim (has seen (number_of t)) as (λ w. has seen (number_of t) ≡ w
              → named (cond w (once_behind seen rest) (t ∷ once_behind (number_of t ∷ seen) rest))
              ≡ (not s && is_some (or_else (cond x (Some v) None) (line_first k n ts)))) [
                | true ↦ λ e. named_once ts seen ∙ dropped x s v (line_first k n ts)
                    (λ h. ap (has seen) (sym (eqb-true (number_of t) n h)) ∙ e)
                | false ↦ λ e. ap (λ b. x || b) (named_once ts (number_of t ∷ seen))
                    ∙ first_one x s v (line_first k n ts)
                    (λ h. ap (has seen) (sym (eqb-true (number_of t) n h)) ∙ e)
              ] refl
          | false ↦ named_once ts seen
        ]

    -- a member is one whom a line names
    pub is_member : (ts : Lines)
        → list_any (λ m. m == n) (members (family_from k ts)) ≡ is_some (line_first k n ts)
    is_member ts = parted (once (all_of (family_field k) a_member ts)) ∙ named_once ts []

-- What is sorted by lines in a stable way is what `in_order` makes.
use Rattle.std.proofs.Common.{
  ◌≡◌,
  ℕ,
  zero,
  suc,
  ◌≤◌,
  ◌<◌,
  List,
  [],
  ◌∷◌,
  length,
  get_or,
  true,
  false,
  ◌==◌,
  cond,
  refl,
  sym,
  ap,
  ◌∙◌,
  arith,
  leb,
  eqb-true,
}
use Rattle.std.specs.List.{filter}
use Rattle.std.specs.List.Sorted.{IsNonDecreasingBy}
use Rattle.std.proofs.lemmas.Bool.Decides.{nat_tests}
use Rattle.receipts.specs.declared.report.ReportLine.{ReportLine}
use Rattle.import_definitions.specs.Report.{in_order, put_in}
use Rattle.list_laws.proofs.Numbers.{same_self}

-- no item has a number below this one
abbrev IsFrom : {X : Type 0} → (X → ℕ) → ℕ → List X → Type 0
IsFrom {X} number least xs = (j : ℕ) (d : X) → j < length xs → least ≤ number (get_or xs j d)

tail_up : {X : Type 0} (number : X → ℕ) (x : X) (xs : List X) → IsNonDecreasingBy number (x ∷ xs)
    → IsNonDecreasingBy number xs
tail_up number x xs h i j d le lt = h (suc i) (suc j) d (omega arith) (omega arith)

tail_from : {X : Type 0} (number : X → ℕ) (x : X) (xs : List X) → IsNonDecreasingBy number (x ∷ xs)
    → IsFrom number (number x) xs
tail_from number x xs h j d lt = h 0 (suc j) d (omega arith) (omega arith)

more_up : {X : Type 0} (number : X → ℕ) (x : X) (xs : List X) → IsFrom number (number x) xs
    → IsNonDecreasingBy number xs → IsNonDecreasingBy number (x ∷ xs)
more_up number x xs far up zero zero d le lt = omega arith
more_up number x xs far up zero (suc j) d le lt = far j d (omega arith)
more_up number x xs far up (suc i) zero d le lt = absurd (omega arith)
more_up number x xs far up (suc i) (suc j) d le lt = up i j d (omega arith) (omega arith)

more_from : {X : Type 0} (number : X → ℕ) (least : ℕ) (x : X) (xs : List X) → least ≤ number x
    → IsFrom number least xs → IsFrom number least (x ∷ xs)
more_from number least x xs le far zero d lt = le
more_from number least x xs le far (suc j) d lt = far j d (omega arith)

-- ---- two lists that ascend and have the same items of each number are one
found_from : {X : Type 0} (number : X → ℕ) (least n : ℕ) (xs : List X) → IsFrom number least xs
    → (x : X) (more : List X)
    → filter (λ y. number y == n) xs ≡ x ∷ more → least ≤ n
found_from number least n [] far x more e = absurd cc
found_from number least n (y ∷ ys) far x more e =
    elim (number y == n) as (λ b. (number y == n) ≡ b
    → cond b (y ∷ filter (λ z. number z == n) ys) (filter (λ z. number z == n) ys) ≡ x ∷ more → least ≤ n) [
      | true ↦ λ t is. omega (arith, eqb-true (number y) n t, far 0 y (omega arith))
      | false ↦ λ t is. found_from number least n ys (λ j d lt. far (suc j) d (omega arith)) x more is
    ] refl e

own_found : {X : Type 0} (number : X → ℕ) (x : X) (xs : List X)
    → filter (λ y. number y == number x) (x ∷ xs) ≡ x ∷ filter (λ y. number y == number x) xs
own_found number x xs =
    ap (λ b. cond b (x ∷ filter (λ y. number y == number x) xs) (filter (λ y. number y == number x) xs))
    (same_self (number x))

abbrev HaveSame : {X : Type 0} → (X → ℕ) → List X → List X → Type 0
HaveSame number xs ys = (n : ℕ) → filter (λ x. number x == n) xs ≡ filter (λ x. number x == n) ys

-- the first of one list has no greater number than that of the other
first_least : {X : Type 0} (number : X → ℕ) (x : X) (xs : List X) (y : X) (ys : List X)
    → IsNonDecreasingBy number (y ∷ ys) → HaveSame number (x ∷ xs) (y ∷ ys) → number y ≤ number x
first_least number x xs y ys up same =
    found_from number (number y) (number x) (y ∷ ys)
    (more_from number (number y) y ys (omega arith) (tail_from number y ys up))
    x (filter (λ z. number z == number x) xs) (sym (same (number x)) ∙ own_found number x xs)

first_of : {X : Type 0} (a b : X) (us vs : List X) → a ∷ us ≡ b ∷ vs → a ≡ b
first_of a b us vs e = cc

rest_of : {X : Type 0} (a b : X) (us vs : List X) → a ∷ us ≡ b ∷ vs → us ≡ vs
rest_of a b us vs e = cc

-- what is after the first of each has the same items too
rest_same : {X : Type 0} (number : X → ℕ) (x : X) (xs ys : List X) → HaveSame number (x ∷ xs) (x ∷ ys)
    → HaveSame number xs ys
rest_same {X = X} number x xs ys same n =
    elim (number x == n) as (λ b. cond b (x ∷ filter (λ z. number z == n) xs) (filter (λ z. number z == n) xs)
    ≡ cond b (x ∷ filter (λ z. number z == n) ys) (filter (λ z. number z == n) ys)
    → filter (λ z. number z == n) xs ≡ filter (λ z. number z == n) ys) [
      | true ↦ λ e. rest_of x x (filter (λ z. number z == n) xs) (filter (λ z. number z == n) ys) e
      | false ↦ λ e. e
    ] (same n)

first_same : {X : Type 0} (number : X → ℕ) (x y : X) (xs ys : List X) → number x ≡ number y
    → HaveSame number (x ∷ xs) (y ∷ ys) → x ≡ y
first_same number x y xs ys e same =
    first_of x y (filter (λ z. number z == number x) xs) (filter (λ z. number z == number x) ys)
    (sym (own_found number x xs) ∙ same (number x)
    ∙ ap (λ n. filter (λ z. number z == n) (y ∷ ys)) e ∙ own_found number y ys
    ∙ ap (λ n. y ∷ filter (λ z. number z == n) ys) (sym e))

nothing_has : {X : Type 0} (number : X → ℕ) (x : X) (xs : List X) → HaveSame number [] (x ∷ xs) → ⊥
nothing_has number x xs same =
    let e : [] ≡ x ∷ filter (λ z. number z == number x) xs = same (number x) ∙ own_found number x xs in absurd cc

pub one_order : {X : Type 0} (number : X → ℕ) (xs ys : List X) → IsNonDecreasingBy number xs
    → IsNonDecreasingBy number ys → HaveSame number xs ys → xs ≡ ys
one_order number [] [] up up′ same = refl
one_order number [] (y ∷ ys) up up′ same = absurd (nothing_has number y ys same)
one_order number (x ∷ xs) [] up up′ same = absurd (nothing_has number x xs (λ n. sym (same n)))
one_order number (x ∷ xs) (y ∷ ys) up up′ same =
    let back : HaveSame number (y ∷ ys) (x ∷ xs) = λ n. sym (same n) in
    let below : number y ≤ number x = first_least number x xs y ys up′ same in
    let above : number x ≤ number y = first_least number y ys x xs up back in
    let one : x ≡ y = first_same number x y xs ys (omega arith) same in
    let rest : HaveSame number xs ys =
    rest_same number x xs ys (λ n. same n ∙ ap (λ z. filter (λ w. number w == n) (z ∷ ys)) (sym one)) in
    ap (λ z. z ∷ xs) one
    ∙ ap (λ zs. y ∷ zs) (one_order number xs ys (tail_up number x xs up) (tail_up number y ys up′) rest)

-- ---- `in_order` ascends and has the same items of each line
put_from : (least : ℕ) (r : ReportLine) (qs : List ReportLine) → least ≤ r.line → IsFrom (λ q. q.line) least qs
    → IsFrom (λ q. q.line) least (put_in r qs)
put_from least r [] le far = more_from (λ q. q.line) least r [] le far
put_from least r (q ∷ qs) le far =
    elim (leb r.line q.line) as (λ b. IsFrom (λ q. q.line) least (cond b (r ∷ (q ∷ qs)) (q ∷ put_in r qs))) [
      | true ↦ more_from (λ q. q.line) least r (q ∷ qs) le far
      | false ↦ more_from (λ q. q.line) least q (put_in r qs) (far 0 q (omega arith))
          (put_from least r qs le (λ j d lt. far (suc j) d (omega arith)))
    ]

put_up : (r : ReportLine) (qs : List ReportLine) → IsNonDecreasingBy (λ q. q.line) qs
    → IsNonDecreasingBy (λ q. q.line) (put_in r qs)
put_up r [] up = more_up (λ q. q.line) r [] (λ j d lt. absurd (omega arith)) up
put_up r (q ∷ qs) up =
    elim (leb r.line q.line) as (λ b. leb r.line q.line ≡ b
    → IsNonDecreasingBy (λ p. p.line) (cond b (r ∷ (q ∷ qs)) (q ∷ put_in r qs))) [
      | true ↦ λ e. let le : r.line ≤ q.line = grind (arith, nat_tests) in
          more_up (λ p. p.line) r (q ∷ qs)
          (more_from (λ p. p.line) r.line q qs le
          (λ j d lt. omega (arith, tail_from (λ p. p.line) q qs up j d lt))) up
      | false ↦ λ e. let le : q.line ≤ r.line = grind (arith, nat_tests) in
          more_up (λ p. p.line) q (put_in r qs)
          (put_from q.line r qs le (tail_from (λ p. p.line) q qs up))
          (put_up r qs (tail_up (λ p. p.line) q qs up))
    ] refl

order_up : (rs : List ReportLine) → IsNonDecreasingBy (λ q. q.line) (in_order rs)
order_up [] = λ i j d le lt. absurd (omega arith)
order_up (r ∷ rs) = put_up r (in_order rs) (order_up rs)

-- two items, of which the second has a lower line, may change places
changed_places : (n : ℕ) (r q : ReportLine) (qs : List ReportLine) → q.line < r.line
    → cond (q.line == n) (q ∷ cond (r.line == n) (r ∷ qs) qs) (cond (r.line == n) (r ∷ qs) qs)
    ≡ cond (r.line == n) (r ∷ cond (q.line == n) (q ∷ qs) qs) (cond (q.line == n) (q ∷ qs) qs)
changed_places n r q qs less =
    elim (q.line == n) as (λ b. (q.line == n) ≡ b
    → cond b (q ∷ cond (r.line == n) (r ∷ qs) qs) (cond (r.line == n) (r ∷ qs) qs)
    ≡ cond (r.line == n) (r ∷ cond b (q ∷ qs) qs) (cond b (q ∷ qs) qs)) [
      | false ↦ λ e. refl
      | true ↦ λ e. let far : (r.line == n) ≡ false = grind (arith, nat_tests) in
          ap (λ c. q ∷ cond c (r ∷ qs) qs) far
          ∙ sym (ap (λ c. cond c (r ∷ (q ∷ qs)) (q ∷ qs)) far)
    ] refl

put_same : (r : ReportLine) (qs : List ReportLine) → HaveSame (λ q. q.line) (put_in r qs) (r ∷ qs)
put_same r [] n = refl
put_same r (q ∷ qs) n =
    elim (leb r.line q.line) as (λ b. leb r.line q.line ≡ b
    → filter (λ p. p.line == n) (cond b (r ∷ (q ∷ qs)) (q ∷ put_in r qs))
    ≡ filter (λ p. p.line == n) (r ∷ (q ∷ qs))) [
      | true ↦ λ e. refl
      | false ↦ λ e. let less : q.line < r.line = grind (arith, nat_tests) in
          ap (λ l. cond (q.line == n) (q ∷ l) l) (put_same r qs n)
          ∙ changed_places n r q (filter (λ p. p.line == n) qs) less
    ] refl

order_same : (rs : List ReportLine) → HaveSame (λ q. q.line) (in_order rs) rs
order_same [] n = refl
order_same (r ∷ rs) n =
    put_same r (in_order rs) n
    ∙ ap (λ l. cond (r.line == n) (r ∷ l) l) (order_same rs n)

-- what ascends, with the items of each line as they stood, is in order
pub arranged_is : (before after : List ReportLine) → IsNonDecreasingBy (λ q. q.line) after
    → ((n : ℕ) → filter (λ q. q.line == n) after ≡ filter (λ q. q.line == n) before) → after ≡ in_order before
arranged_is before after up same =
    one_order (λ q. q.line) after (in_order before) up (order_up before)
    (λ n. same n ∙ sym (order_same before n))

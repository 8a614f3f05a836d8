-- No person stands twice in a family after a merge.
use Rattle.std.proofs.Common.{
  ◌≡◌,
  ◌⊎◌,
  ℕ,
  ◌+◌,
  ◌≤◌,
  List,
  [],
  ◌∷◌,
  ◌++◌,
  Bool,
  true,
  false,
  refl,
  sym,
  ap,
  ◌∙◌,
  inl,
  inr,
  subst,
  arith,
}
use Rattle.std.specs.Prelude.{map, not, ◌&&◌, ◌||◌, ◌==◌, if◌then◌else◌}
use Rattle.std.specs.List.{list_any}
use Rattle.std.proofs.lemmas.Bool.{or_parts, eqb-true}
use Rattle.record_kinds.specs.Model as model
use Rattle.record_kinds.specs.declared.record.Record.TheVariants as kind
use Rattle.archive_state.specs.Merging.{
  renamed,
  family_with,
  partner_with,
  child_with,
  once_child,
  child_of_all,
  others,
  joined_child,
  has_child,
  clashes,
}
use Rattle.record_shapes.specs.Lists.{IsOnce}
use Rattle.record_shapes.specs.Members.{members}
use Rattle.merging.proofs.Once.{number_other}
use Rattle.merging.proofs.Merged.{which, renamed_gone, renamed_other}
use Rattle.list_laws.proofs.Numbers.{same_self}

zero_more : (x : ℕ) → 0 + x ≡ x
zero_more x = omega arith

one_if : Bool → ℕ
one_if true = 1
one_if false = 0

-- how often a number stands there
count : ℕ → List ℕ → ℕ
count n [] = 0
count n (m ∷ ms) = one_if (m == n) + count n ms

count_both : (n : ℕ) (xs ys : List ℕ) → count n (xs ++ ys) ≡ count n xs + count n ys
unfolding count one_if
count_both n [] ys = sym (zero_more (count n ys))
count_both n (x ∷ xs) ys = let e : count n (xs ++ ys) ≡ count n xs + count n ys = count_both n xs ys in omega arith

none_counted : (n : ℕ) (xs : List ℕ) → list_any (λ m. m == n) xs ≡ false → count n xs ≡ 0
unfolding count one_if
none_counted n [] e = refl
none_counted n (x ∷ xs) e =
    let rest : count n xs ≡ 0 = none_counted n xs (or_parts (x == n) (list_any (λ m. m == n) xs) e).1 in
    ap (λ b. one_if b + count n xs) (or_parts (x == n) (list_any (λ m. m == n) xs) e).0 ∙ zero_more (count n xs) ∙ rest

some_counted : (n : ℕ) (xs : List ℕ) → list_any (λ m. m == n) xs ≡ true → 1 ≤ count n xs
unfolding count one_if
some_counted n [] e = absurd cc
some_counted n (x ∷ xs) e = elim (x == n) as (λ b. (b || list_any (λ m. m == n) xs) ≡ true
    → 1 ≤ one_if b + count n xs) [
      | true ↦ λ q. omega arith
      | false ↦ λ q. let rest : 1 ≤ count n xs = some_counted n xs q in omega arith
    ] e

no_count : (n : ℕ) (xs : List ℕ) → count n xs ≡ 0 → list_any (λ m. m == n) xs ≡ false
no_count n xs e = elim (list_any (λ m. m == n) xs) as (λ b. list_any (λ m. m == n) xs ≡ b → b ≡ false) [
  | true ↦ λ q. let one : 1 ≤ count n xs = some_counted n xs q in absurd (omega arith)
  | false ↦ λ q. refl
] refl

once_counted : (xs : List ℕ) → IsOnce xs → (n : ℕ) → count n xs ≤ 1
unfolding count one_if
once_counted [] h n = omega arith
once_counted (x ∷ xs) h n = elim (x == n) as (λ b. (x == n) ≡ b → one_if b + count n xs ≤ 1) [
  | true ↦ λ e. let none : count n xs ≡ 0 = none_counted n xs
      (subst (λ k. list_any (λ m. m == k) xs ≡ false) (eqb-true x n e) h.0) in omega arith
  | false ↦ λ e. let rest : count n xs ≤ 1 = once_counted xs h.1 n in omega arith
] refl

counted_once : (xs : List ℕ) → ((n : ℕ) → count n xs ≤ 1) → IsOnce xs
unfolding count one_if
counted_once [] h = tt
counted_once (x ∷ xs) h = (
  let here : one_if (x == x) + count x xs ≤ 1 = h x in
      let one : one_if (x == x) ≡ 1 = ap one_if (same_self x) in
      let none : count x xs ≡ 0 = omega arith in
      no_count x xs none,
  counted_once xs (λ n. let more : one_if (x == n) + count n xs ≤ 1 = h n in omega arith),
)

-- ---- numbers changed
module _ (keep gone : ℕ) (apart : keep ≡ gone → ⊥) where
  abbrev f : ℕ → ℕ
  f = renamed keep gone

  one_other : (x n : ℕ) → (n ≡ gone → ⊥) → (n ≡ keep → ⊥) → (f x == n) ≡ (x == n)
  one_other x n h k = elim (which keep gone x) as (λ _. (f x == n) ≡ (x == n)) [
    | inl e ↦
        let left : (f x == n) ≡ false = number_other (f x) n (λ q. k (sym q ∙ ap f e ∙ renamed_gone keep gone)) in
        let right : (x == n) ≡ false = number_other x n (λ q. h (sym q ∙ e)) in left ∙ sym right
    | inr other ↦
        let no : x ≡ gone → ⊥ = elim other as (λ _. x ≡ gone → ⊥) [ inl e ↦ e.0 | inr e ↦ e.0 ] in
        ap (λ y. y == n) (renamed_other keep gone x no)
  ]

  one_gone : (x : ℕ) → (f x == gone) ≡ false
  one_gone x = number_other (f x) gone (λ q. elim (which keep gone x) as (λ _. ⊥) [
    | inl e ↦ apart (sym (renamed_gone keep gone) ∙ ap f (sym e) ∙ q)
    | inr other ↦
        let no : x ≡ gone → ⊥ = elim other as (λ _. x ≡ gone → ⊥) [ inl e ↦ e.0 | inr e ↦ e.0 ] in
        no (sym (renamed_other keep gone x no) ∙ q)
  ])

  one_keep : (x : ℕ) → one_if (f x == keep) ≡ one_if (x == keep) + one_if (x == gone)
  unfolding one_if
  one_keep x = elim (which keep gone x) as (λ _. one_if (f x == keep) ≡ one_if (x == keep) + one_if (x == gone)) [
    | inl e ↦
        let a : one_if (f x == keep) ≡ 1 = ap (λ y. one_if (y == keep)) (ap f e ∙ renamed_gone keep gone)
        ∙ ap one_if (same_self keep) in
        let b : one_if (x == keep) ≡ 0 = ap one_if (number_other x keep (λ q. apart (sym q ∙ e))) in
        let d : one_if (x == gone) ≡ 1 = ap (λ y. one_if (y == gone)) e ∙ ap one_if (same_self gone) in omega arith
    | inr other ↦
        let no : x ≡ gone → ⊥ = elim other as (λ _. x ≡ gone → ⊥) [ inl e ↦ e.0 | inr e ↦ e.0 ] in
        let a : one_if (f x == keep) ≡ one_if (x == keep) = ap (λ y. one_if (y == keep))
        (renamed_other keep gone x no) in
        let d : one_if (x == gone) ≡ 0 = ap one_if (number_other x gone no) in omega arith
  ]

  count_other : (n : ℕ) → (n ≡ gone → ⊥) → (n ≡ keep → ⊥) → (xs : List ℕ) → count n (map f xs) ≡ count n xs
  unfolding count
  count_other n h k [] = refl
  count_other n h k (x ∷ xs) = ap (λ b. one_if b + count n (map f xs)) (one_other x n h k)
      ∙ ap (λ y. one_if (x == n) + y) (count_other n h k xs)

  count_gone : (xs : List ℕ) → count gone (map f xs) ≡ 0
  unfolding count one_if
  count_gone [] = refl
  count_gone (x ∷ xs) = ap (λ b. one_if b + count gone (map f xs)) (one_gone x) ∙ zero_more
      (count gone (map f xs)) ∙ count_gone xs

  count_keep : (xs : List ℕ) → count keep (map f xs) ≡ count keep xs + count gone xs
  unfolding count
  count_keep [] = refl
  count_keep (x ∷ xs) =
      let here : one_if (f x == keep) ≡ one_if (x == keep) + one_if (x == gone) = one_keep x in
      let rest : count keep (map f xs) ≡ count keep xs + count gone xs = count_keep xs in omega arith

-- ---- children joined
abbrev person : model.Child → ℕ
person c = c.person

person_of_all : (k : ℕ) (c : model.Child) (ds : List model.Child) → (child_of_all k c ds).person ≡ c.person
person_of_all k c [] = refl
person_of_all k c (d ∷ ds) =
    elim (d.person == k) as (λ b. (if b then child_of_all k (joined_child c d) ds else child_of_all k c ds).person
    ≡ c.person) [
      | true ↦ person_of_all k (joined_child c d) ds
      | false ↦ person_of_all k c ds
    ]

others_none : (k : ℕ) (ds : List model.Child) → count k (map person (others k ds)) ≡ 0
unfolding count one_if
others_none k [] = refl
others_none k (d ∷ ds) =
    elim (d.person == k) as (λ b. (d.person == k) ≡ b
    → count k (map person (if b then others k ds else d ∷ others k ds)) ≡ 0) [
      | true ↦ λ e. others_none k ds
      | false ↦ λ e. ap (λ b. one_if b + count k (map person (others k ds))) e ∙ zero_more
          (count k (map person (others k ds))) ∙ others_none k ds
    ] refl

others_other : (k n : ℕ) → (n ≡ k → ⊥) → (ds : List model.Child) → count n (map person (others k ds))
    ≡ count n (map person ds)
unfolding count one_if
others_other k n h [] = refl
others_other k n h (d ∷ ds) =
    elim (d.person == k) as (λ b. (d.person == k) ≡ b
    → count n (map person (if b then others k ds else d ∷ others k ds)) ≡ one_if (d.person == n) + count n
    (map person ds)) [
      | true ↦ λ e. others_other k n h ds ∙ sym (zero_more (count n (map person ds)))
          ∙ ap (λ b. one_if b + count n (map person ds))
          (sym (number_other d.person n (λ q. h (sym q ∙ eqb-true d.person k e))))
      | false ↦ λ e. ap (λ y. one_if (d.person == n) + y) (others_other k n h ds)
    ] refl

once_other : (k n : ℕ) → (n ≡ k → ⊥) → (cs : List model.Child) → count n (map person (once_child k cs))
    ≡ count n (map person cs)
unfolding count one_if
once_other k n h [] = refl
once_other k n h (c ∷ cs) =
    elim (c.person == k) as (λ b. count n
    (map person (if b then child_of_all k c cs ∷ others k cs else c ∷ once_child k cs)) ≡ one_if (c.person == n)
    + count n (map person cs)) [
      | true ↦ ap (λ y. one_if (y == n) + count n (map person (others k cs))) (person_of_all k c cs)
          ∙ ap (λ y. one_if (c.person == n) + y) (others_other k n h cs)
      | false ↦ ap (λ y. one_if (c.person == n) + y) (once_other k n h cs)
    ]

-- at most once, and not at all where there was none
once_one : (k : ℕ) (cs : List model.Child) → (count k (map person (once_child k cs)) ≤ 1)
    × (count k (map person (once_child k cs)) ≤ count k (map person cs))
unfolding count one_if
once_one k [] = (omega arith, omega arith)
once_one k (c ∷ cs) = elim (c.person == k) as (λ b. (c.person == k) ≡ b
    → (count k (map person (if b then child_of_all k c cs ∷ others k cs else c ∷ once_child k cs)) ≤ 1)
    × (count k (map person (if b then child_of_all k c cs ∷ others k cs else c ∷ once_child k cs)) ≤ one_if
    (c.person == k) + count k (map person cs))) [
      | true ↦ λ e.
          let a : one_if ((child_of_all k c cs).person == k) ≡ 1 = ap (λ y. one_if (y == k)) (person_of_all k c cs)
          ∙ ap one_if e in
          let b : count k (map person (others k cs)) ≡ 0 = others_none k cs in
          let d : one_if (c.person == k) ≡ 1 = ap one_if e in
          (omega arith, omega arith)
      | false ↦ λ e.
          let a : one_if (c.person == k) ≡ 0 = ap one_if e in
          let rest = once_one k cs in
          let b : count k (map person (once_child k cs)) ≤ 1 = rest.0 in
          let d : count k (map person (once_child k cs)) ≤ count k (map person cs) = rest.1 in
          (omega arith, omega arith)
    ] refl

-- ---- families

persons_of : (f : ℕ → ℕ) (cs : List model.Child) → map person (map (child_with f) cs) ≡ map f (map person cs)
persons_of f [] = refl
persons_of f (c ∷ cs) = ap (λ l. f c.person ∷ l) (persons_of f cs)

partners_of : (f : ℕ → ℕ) (ps : List model.Partner) → map (λ (p : model.Partner). p.person) (map (partner_with f) ps)
    ≡ map f (map (λ (p : model.Partner). p.person) ps)
partners_of f [] = refl
partners_of f (p ∷ ps) = ap (λ l. f p.person ∷ l) (partners_of f ps)

any_of : {A : Type 0} (g : A → ℕ) (n : ℕ) (xs : List A) → list_any (λ x. g x == n) xs ≡ list_any
    (λ m. m == n) (map g xs)
any_of g n [] = refl
any_of g n (x ∷ xs) = ap (λ b. (g x == n) || b) (any_of g n xs)

-- tests of a clash, as counts
no_clash : (a b c d : Bool) → (((a || b) && (c || d)) && not (b && d)) ≡ false → ((a ≡ false) × (b ≡ false))
    ⊎ (((c ≡ false) × (d ≡ false)) ⊎ ((b ≡ true) × (d ≡ true)))
no_clash false false c d e = inl (refl, refl)
no_clash true b false false e = inr (inl (refl, refl))
no_clash false true false false e = inr (inl (refl, refl))
no_clash true true c true e = inr (inr (refl, refl))
no_clash false true c true e = inr (inr (refl, refl))
no_clash true false true d e = absurd cc
no_clash true false false true e = absurd cc
no_clash true true true false e = absurd cc
no_clash false true true false e = absurd cc

pub merged_once : (keep gone : ℕ) → (keep ≡ gone → ⊥) → (x : model.Family) → IsOnce (members x)
    → clashes keep gone (kind.Family x) ≡ false
    → IsOnce (members (record {
      partners = map (partner_with (renamed keep gone)) x.partners;
      children = once_child keep (map (child_with (renamed keep gone)) x.children);
      carried = (family_with (renamed keep gone) x).carried;
    }))
merged_once keep gone apart x h clash =
    let f : ℕ → ℕ = renamed keep gone in
    let ps : List ℕ = map (λ (p : model.Partner). p.person) x.partners in
    let cs : List ℕ = map person x.children in
    let qs : List ℕ = map (λ (p : model.Partner). p.person) (map (partner_with f) x.partners) in
    let ds : List ℕ = map person (once_child keep (map (child_with f) x.children)) in
    let before : (n : ℕ) → count n ps + count n cs ≤ 1 = λ n. subst (λ k. k ≤ 1) (count_both n ps cs)
    (once_counted (ps ++ cs) h n) in
    counted_once (qs ++ ds) (λ n.
    subst (λ k. k ≤ 1) (sym (count_both n qs ds))
    (elim (which keep gone n) as (λ _. count n qs + count n ds ≤ 1) [
      | inl e ↦
          let a : count n qs ≡ 0 = ap (λ k. count k qs) e ∙ ap (count gone) (partners_of f x.partners)
          ∙ count_gone keep gone apart ps in
          let b : count n ds ≡ 0 = ap (λ k. count k ds) e ∙ once_other keep gone (λ q. apart (sym q))
          (map (child_with f) x.children) ∙ ap (count gone) (persons_of f x.children)
          ∙ count_gone keep gone apart cs in
          omega arith
      | inr other ↦ elim other as (λ _. count n qs + count n ds ≤ 1) [
        | inl e ↦
            let same : n ≡ keep = e.1 in
            let a : count n qs ≡ count keep ps + count gone ps = ap (λ k. count k qs) same
            ∙ ap (count keep) (partners_of f x.partners) ∙ count_keep keep gone apart ps in
            let one = once_one keep (map (child_with f) x.children) in
            let b : count n ds ≡ count keep ds = ap (λ k. count k ds) same in
            let less : count keep ds ≤ 1 = one.0 in
            let few : count keep ds ≤ count keep (map person (map (child_with f) x.children)) = one.1 in
            let all : count keep (map person (map (child_with f) x.children)) ≡ count keep cs + count gone cs = ap
            (count keep) (persons_of f x.children) ∙ count_keep keep gone apart cs in
            let hk : count keep ps + count keep cs ≤ 1 = before keep in
            let hg : count gone ps + count gone cs ≤ 1 = before gone in
            elim (no_clash (list_any (λ (p : model.Partner). p.person == keep) x.partners) (has_child keep x)
            (list_any (λ (p : model.Partner). p.person == gone) x.partners) (has_child gone x) clash) as (λ _.
            count n qs + count n ds ≤ 1) [
              | inl none ↦
                  let kp : count keep ps ≡ 0 = none_counted keep ps
                  (sym (any_of (λ (p : model.Partner). p.person) keep x.partners) ∙ none.0) in
                  let kc : count keep cs ≡ 0 = none_counted keep cs (sym (any_of person keep x.children) ∙ none.1) in
                  omega arith
              | inr more ↦ elim more as (λ _. count n qs + count n ds ≤ 1) [
                | inl none ↦
                    let gp : count gone ps ≡ 0 = none_counted gone ps
                    (sym (any_of (λ (p : model.Partner). p.person) gone x.partners) ∙ none.0) in
                    let gc : count gone cs ≡ 0 = none_counted gone cs (sym (any_of person gone x.children) ∙ none.1) in
                    omega arith
                | inr both ↦
                    let kc : 1 ≤ count keep cs = some_counted keep cs (sym (any_of person keep x.children) ∙ both.0) in
                    let gc : 1 ≤ count gone cs = some_counted gone cs (sym (any_of person gone x.children) ∙ both.1) in
                    omega arith
              ]
            ]
        | inr e ↦
            let a : count n qs ≡ count n ps = ap (count n) (partners_of f x.partners)
            ∙ count_other keep gone apart n e.0 e.1 ps in
            let b : count n ds ≡ count n cs = once_other keep n e.1 (map (child_with f) x.children)
            ∙ ap (count n) (persons_of f x.children) ∙ count_other keep gone apart n e.0 e.1 cs in
            let some : count n ps + count n cs ≤ 1 = before n in
            omega arith
      ]
    ]))

-- Those of some numbers of which something holds, in their order.
use Rattle.std.proofs.Common.{
  ◌≡◌,
  ◌⊎◌,
  ◌↔◌,
  ℕ,
  ◌+◌,
  ◌<◌,
  List,
  [],
  ◌∷◌,
  ◌++◌,
  length,
  take,
  get_or,
  false,
  refl,
  sym,
  subst,
  ◌∙◌,
  inl,
  inr,
  eqb-true,
  eq-eqb,
}
use Rattle.std.specs.Prelude.{◌==◌, ◌||◌}
use Rattle.std.specs.List.{list_any}
use Rattle.std.proofs.lemmas.List.{take_more}
use Rattle.std.proofs.lemmas.List.Folds.{list_any-append}
use Rattle.record_shapes.specs.Lists.{EachOf, Ascends}
use Rattle.date_spans.specs.Between.{IsAmong, AreAll}
use Rattle.date_spans.specs.Gathered.{Takes}
use Rattle.list_laws.proofs.Booleans.{or_true_either}

-- found are those of ns of which P holds
pub record IsPicked (P : ℕ → Type 0) (ns found : List ℕ) : Type 0 where
  pub ascends : Ascends ns → Ascends found
  pub among : (n : ℕ) → IsAmong n found ↔ (IsAmong n ns × P n)

-- ---- what is among numbers and one more

one_is : (n k : ℕ) → IsAmong n (k ∷ []) ↔ (k ≡ n)
one_is n k = (
  λ e. elim ((or_true_either (k == n) false).0 e) as (λ _. k ≡ n) [
    | inl same ↦ eqb-true k n same
    | inr other ↦ absurd cc
  ],
  λ same. (or_true_either (k == n) false).1 (inl (eq-eqb k n same)),
)

among_more : (n k : ℕ) (ns : List ℕ) → IsAmong n (ns ++ k ∷ []) ↔ (IsAmong n ns ⊎ (k ≡ n))
among_more n k ns =
    let apart : list_any (λ m. m == n) (ns ++ k ∷ []) ≡ (list_any (λ m. m == n) ns || list_any (λ m. m == n) (k ∷ [])) =
    list_any-append (λ m. m == n) ns (k ∷ []) in
    let by = or_true_either (list_any (λ m. m == n) ns) (list_any (λ m. m == n) (k ∷ [])) in (
      λ e. elim (by.0 (sym apart ∙ e)) as (λ _. IsAmong n ns ⊎ (k ≡ n)) [
        | inl i ↦ inl i
        | inr i ↦ inr ((one_is n k).0 i)
      ],
      λ o. apart ∙ by.1 (elim o as (λ _. IsAmong n ns ⊎ IsAmong n (k ∷ [])) [
        | inl i ↦ inl i
        | inr same ↦ inr ((one_is n k).1 same)
      ]),
    )

-- ---- numbers that ascend, and one more
each_front : (P : ℕ → Type 0) (ns : List ℕ) (k : ℕ) → EachOf P (ns ++ k ∷ []) → EachOf P ns × P k
each_front P [] k h = (tt, h.0)
each_front P (n ∷ ns) k h = let (front, last) = each_front P ns k h.1 in ((h.0, front), last)

each_joined : (P : ℕ → Type 0) (ns : List ℕ) (k : ℕ) → EachOf P ns → P k → EachOf P (ns ++ k ∷ [])
each_joined P [] k h p = (p, tt)
each_joined P (n ∷ ns) k h p = (h.0, each_joined P ns k h.1 p)

ascends_front : (ns : List ℕ) (k : ℕ) → Ascends (ns ++ k ∷ []) → Ascends ns × EachOf (λ m. m < k) ns
ascends_front [] k h = (tt, tt)
ascends_front (n ∷ ns) k h =
    let (above, less) = each_front (λ m. n < m) ns k h.0 in
    let (front, below) = ascends_front ns k h.1 in ((above, front), (less, below))

ascends_joined : (ns : List ℕ) (k : ℕ) → Ascends ns → EachOf (λ m. m < k) ns → Ascends (ns ++ k ∷ [])
ascends_joined [] k h below = (tt, tt)
ascends_joined (n ∷ ns) k h below = (
  each_joined (λ m. n < m) ns k h.0 below.0,
  ascends_joined ns k h.1 below.1,
)

pub among_cases : (n k : ℕ) (ks : List ℕ) → IsAmong n (k ∷ ks) → (k ≡ n) ⊎ IsAmong n ks
among_cases n k ks i =
    elim ((or_true_either (k == n) (list_any (λ m. m == n) ks)).0 i) as (λ _. (k ≡ n) ⊎ IsAmong n ks) [
      | inl same ↦ inl (eqb-true k n same)
      | inr more ↦ inr more
    ]

pub first_among : (k : ℕ) (ks : List ℕ) → IsAmong k (k ∷ ks)
first_among k ks = (or_true_either (k == k) (list_any (λ m. m == k) ks)).1 (inl (eq-eqb k k refl))

pub rest_among : (n k : ℕ) (ks : List ℕ) → IsAmong n ks → IsAmong n (k ∷ ks)
rest_among n k ks i = (or_true_either (k == n) (list_any (λ m. m == n) ks)).1 (inr i)

pub each_known : (P : ℕ → Type 0) (ns : List ℕ) (n : ℕ) → EachOf P ns → IsAmong n ns → P n
each_known P [] n h i = absurd cc
each_known P (k ∷ ks) n h i = elim (among_cases n k ks i) as (λ _. P n) [
  | inl same ↦ subst P same h.0
  | inr more ↦ each_known P ks n h.1 more
]

each_shown : (P : ℕ → Type 0) (ns : List ℕ) → ((n : ℕ) → IsAmong n ns → P n) → EachOf P ns
each_shown P [] h = tt
each_shown P (k ∷ ks) h = (
  h k (first_among k ks),
  each_shown P ks (λ n i. h n (rest_among n k ks i)),
)

-- ---- one more, that is picked or is not
module _ (P : ℕ → Type 0) where
  pub none_picked : IsPicked P [] []
  none_picked = record { ascends = λ h. h; among = λ n. (λ i. absurd cc, λ (i, p). absurd cc) }

  pub one_picked : (ns found : List ℕ) (k : ℕ) → IsPicked P ns found → P k
      → IsPicked P (ns ++ k ∷ []) (found ++ k ∷ [])
  one_picked ns found k h p = record {
    ascends = λ up.
        let (front, below) = ascends_front ns k up in
        ascends_joined found k (h.ascends front)
        (each_shown (λ m. m < k) found (λ n i. each_known (λ m. m < k) ns n below ((h.among n).0 i).0));
    among = λ n. (
      λ i. elim ((among_more n k found).0 i) as (λ _. IsAmong n (ns ++ k ∷ []) × P n) [
        | inl was ↦ ((among_more n k ns).1 (inl ((h.among n).0 was).0), ((h.among n).0 was).1)
        | inr same ↦ ((among_more n k ns).1 (inr same), subst P same p)
      ],
      λ (i, q). elim ((among_more n k ns).0 i) as (λ _. IsAmong n (found ++ k ∷ [])) [
        | inl was ↦ (among_more n k found).1 (inl ((h.among n).1 (was, q)))
        | inr same ↦ (among_more n k found).1 (inr same)
      ],
    );
  }

  pub one_left : (ns found : List ℕ) (k : ℕ) → IsPicked P ns found → (P k → ⊥) → IsPicked P (ns ++ k ∷ []) found
  one_left ns found k h lacks = record {
    ascends = λ up. h.ascends (ascends_front ns k up).0;
    among = λ n. (
      λ i. ((among_more n k ns).1 (inl ((h.among n).0 i).0), ((h.among n).0 i).1),
      λ (i, q). elim ((among_more n k ns).0 i) as (λ _. IsAmong n found) [
        | inl was ↦ (h.among n).1 (was, q)
        | inr same ↦ absurd (lacks (subst P (sym same) q))
      ],
    );
  }

  -- the same of the first numbers of a list
  pub next_taken : (ns before after : List ℕ) (i d : ℕ) → i < length ns → IsPicked P (take i ns) before
      → Takes P (get_or ns i d) before after → IsPicked P (take (i + 1) ns) after
  next_taken ns before after i d less h o = subst (λ (ms : List ℕ). IsPicked P ms after) (sym (take_more ns i d less))
      (elim o as (λ _. IsPicked P (take i ns ++ get_or ns i d ∷ []) after) [
        | inl t ↦ subst (λ (xs : List ℕ). IsPicked P (take i ns ++ get_or ns i d ∷ []) xs) (sym t.1)
            (one_picked (take i ns) before (get_or ns i d) h t.0)
        | inr t ↦ subst (λ (xs : List ℕ). IsPicked P (take i ns ++ get_or ns i d ∷ []) xs) (sym t.1)
            (one_left (take i ns) before (get_or ns i d) h t.0)
      ])

  -- where each of which P holds is among numbers that ascend, those that are picked are all
  pub all_picked : (ns found : List ℕ) → IsPicked P ns found → Ascends ns → ((n : ℕ) → P n → IsAmong n ns)
      → AreAll P found
  all_picked ns found h up every = record {
    ascending = h.ascends up;
    all = λ n. (λ i. ((h.among n).0 i).1, λ p. (h.among n).1 (every n p, p));
  }

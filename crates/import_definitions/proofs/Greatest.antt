-- The nodes from which no chain of as many steps as there are nodes breaks off are the greatest closed set.
use Rattle.std.proofs.Common.{
  ◌≡◌,
  ℕ,
  zero,
  suc,
  ◌+◌,
  ◌-◌,
  ◌<◌,
  ◌≤◌,
  ◌⊎◌,
  inl,
  inr,
  Bool,
  cond,
  true,
  false,
  not,
  ◌&&◌,
  ◌||◌,
  List,
  [],
  ◌∷◌,
  length,
  map,
  subst,
  refl,
  sym,
  ap,
  arith,
  Option,
  Some,
  None,
}
use Rattle.std.specs.List.{filter, list_any, list_all}
use Rattle.stored_lines.specs.Tree.{label}
use Rattle.import_definitions.specs.Nodes.{FileNode}
use Rattle.import_definitions.specs.Roots.{
  is_called,
  name_in,
  names_one,
  IsClosed,
  IsWithin,
  IsGreatest,
  leads,
  is_kept,
  kept,
}
use Rattle.list_laws.proofs.Booleans.{both_true}

-- ---- tests

pub and_of : (a b : Bool) → a ≡ true → b ≡ true → (a && b) ≡ true
and_of a b h k = rw (h, k) refl

implied : (a b : Bool) → (not a || b) ≡ true → a ≡ true → b ≡ true
implied true b h e = h
implied false b h e = absurd cc

implies : (a b : Bool) → (a ≡ true → b ≡ true) → (not a || b) ≡ true
implies true b h = h refl
implies false b h = refl

-- ---- sets
within_head : (P Q : FileNode → Bool) (t : FileNode) (ts : List FileNode) → IsWithin (t ∷ ts) P Q
    → P t ≡ true → Q t ≡ true
within_head P Q t ts h = implied (P t) (Q t) (both_true (not (P t) || Q t) (list_all (λ u. not (P u) || Q u) ts) h).0

within_tail : (P Q : FileNode → Bool) (t : FileNode) (ts : List FileNode) → IsWithin (t ∷ ts) P Q → IsWithin ts P Q
within_tail P Q t ts h = (both_true (not (P t) || Q t) (list_all (λ u. not (P u) || Q u) ts) h).1

within_cons : (P Q : FileNode → Bool) (t : FileNode) (ts : List FileNode) → (P t ≡ true → Q t ≡ true) → IsWithin ts P Q
    → IsWithin (t ∷ ts) P Q
within_cons P Q t ts h k = and_of (not (P t) || Q t) (list_all (λ u. not (P u) || Q u) ts) (implies (P t) (Q t) h) k

within_all : (P Q : FileNode → Bool) (ts : List FileNode) → ((t : FileNode) → P t ≡ true → Q t ≡ true) → IsWithin ts P Q
within_all P Q [] h = refl
within_all P Q (t ∷ ts) h = within_cons P Q t ts (h t) (within_all P Q ts h)

within_then : (P Q R : FileNode → Bool) (ts : List FileNode) → IsWithin ts P Q
    → ((t : FileNode) → Q t ≡ true → R t ≡ true)
    → IsWithin ts P R
within_then P Q R [] h k = refl
within_then P Q R (t ∷ ts) h k = within_cons P R t ts (λ e. k t (within_head P Q t ts h e))
    (within_then P Q R ts (within_tail P Q t ts h) k)

any_within : (P Q : FileNode → Bool) (name : List ℕ) (ts : List FileNode) → IsWithin ts P Q
    → list_any (λ t. is_called name t && P t) ts ≡ true → list_any (λ t. is_called name t && Q t) ts ≡ true
any_within P Q name [] h e = e
any_within P Q name (t ∷ ts) h e =
    any_step (is_called name t) (P t) (Q t) (list_any (λ u. is_called name u && P u) ts)
    (list_any (λ u. is_called name u && Q u) ts) (within_head P Q t ts h)
    (any_within P Q name ts (within_tail P Q t ts h)) e
  where
    any_step : (c p q a b : Bool) → (p ≡ true → q ≡ true) → (a ≡ true → b ≡ true) → ((c && p) || a) ≡ true
        → ((c && q) || b) ≡ true
    any_step true true q a b f g e = rw (f refl) refl
    any_step true false true a b f g e = refl
    any_step true false false a b f g e = g e
    any_step false p q a b f g e = g e

named_within : (P Q : FileNode → Bool) (ts : List FileNode) (o : Option (List ℕ)) → IsWithin ts P Q
    → names_one P ts o ≡ true → names_one Q ts o ≡ true
named_within P Q ts None h e = refl
named_within P Q ts (Some name) h e = any_within P Q name ts h e

-- ---- one step less can always be taken
pub leads_less : (ts : List FileNode) (n : ℕ) (t : FileNode) → leads ts (suc n) t ≡ true → leads ts n t ≡ true
leads_less ts zero t h = refl
leads_less ts (suc n) t h = named_within (leads ts (suc n)) (leads ts n) ts (name_in (label t))
    (within_all (leads ts (suc n)) (leads ts n) ts (leads_less ts n)) h

leads_more : (ts : List FileNode) (n : ℕ) → IsWithin ts (leads ts n) (leads ts (suc n)) → (t : FileNode)
    → leads ts (suc n) t ≡ true → leads ts (suc (suc n)) t ≡ true
leads_more ts n h t e = named_within (leads ts n) (leads ts (suc n)) ts (name_in (label t)) h e

-- ---- as many steps as there are nodes are enough
abbrev count : (FileNode → Bool) → List FileNode → ℕ
count P [] = 0
count P (t ∷ ts) = cond (P t) 1 0 + count P ts

count_few : (P : FileNode → Bool) (ts : List FileNode) → count P ts ≤ length ts
count_few P [] = omega arith
count_few P (t ∷ ts) = few_step (P t) (count_few P ts)
  where
    few_step : (p : Bool) → count P ts ≤ length ts → cond p 1 0 + count P ts ≤ length (t ∷ ts)
    few_step true h = omega arith
    few_step false h = omega arith

not_more : (P Q : FileNode → Bool) (ts : List FileNode) → IsWithin ts Q P → count Q ts ≤ count P ts
not_more P Q [] h = omega arith
not_more P Q (t ∷ ts) h =
    count_step (P t) (Q t) (count P ts) (count Q ts) (within_head Q P t ts h)
    (not_more P Q ts (within_tail Q P t ts h))
  where
    count_step : (p q : Bool) (m n : ℕ) → (q ≡ true → p ≡ true) → n ≤ m → cond q 1 0 + n ≤ cond p 1 0 + m
    count_step true true m n f h = omega arith
    count_step true false m n f h = omega arith
    count_step false true m n f h = absurd (let e : false ≡ true = f refl in cc)
    count_step false false m n f h = omega arith

less_or_same : (P Q : FileNode → Bool) (ts : List FileNode) → IsWithin ts Q P
    → IsWithin ts P Q ⊎ (count Q ts < count P ts)
less_or_same P Q [] h = inl refl
less_or_same P Q (t ∷ ts) h =
    same_step (P t) (Q t) (within_head Q P t ts h) refl refl (less_or_same P Q ts (within_tail Q P t ts h))
  where
    same_step : (p q : Bool) → (q ≡ true → p ≡ true) → P t ≡ p → Q t ≡ q
        → IsWithin ts P Q ⊎ (count Q ts < count P ts)
        → IsWithin (t ∷ ts) P Q ⊎ (count Q (t ∷ ts) < count P (t ∷ ts))
    same_step true true f a b (inl w) = inl (within_cons P Q t ts (λ e. b) w)
    same_step true true f a b (inr w) = inr (rw (a, b) (omega arith))
    same_step true false f a b w = inr (rw (a, b) (omega (arith, not_more P Q ts (within_tail Q P t ts h))))
    same_step false true f a b w = absurd (let e : false ≡ true = f refl in cc)
    same_step false false f a b (inl w) = inl (within_cons P Q t ts (λ e. absurd cc) w)
    same_step false false f a b (inr w) = inr (rw (a, b) (omega arith))

none_within : (P Q : FileNode → Bool) (ts : List FileNode) → count P ts ≡ 0 → IsWithin ts P Q
none_within P Q [] h = refl
none_within P Q (t ∷ ts) h = none_step (P t) refl (none_within P Q ts)
  where
    none_step : (p : Bool) → P t ≡ p → (count P ts ≡ 0 → IsWithin ts P Q) → IsWithin (t ∷ ts) P Q
    none_step true a rest = absurd (let e : 1 + count P ts ≡ 0 = rw a at h in omega arith)
    none_step false a rest = within_cons P Q t ts (λ e. absurd cc)
        (rest (let e : 0 + count P ts ≡ 0 = rw a at h in omega arith))

-- after so many steps none is lost any more, or as many are lost already
settled : (ts : List FileNode) (n : ℕ) → IsWithin ts (leads ts n) (leads ts (suc n))
    ⊎ (count (leads ts n) ts + n ≤ length ts)
settled ts zero = inr (omega (arith, count_few (leads ts zero) ts))
settled ts (suc n) = settled_step (settled ts n)
  where
    next : IsWithin ts (leads ts n) (leads ts (suc n)) → IsWithin ts (leads ts (suc n)) (leads ts (suc (suc n)))
    next w = within_all (leads ts (suc n)) (leads ts (suc (suc n))) ts (leads_more ts n w)

    settled_step : IsWithin ts (leads ts n) (leads ts (suc n)) ⊎ (count (leads ts n) ts + n ≤ length ts)
        → IsWithin ts (leads ts (suc n)) (leads ts (suc (suc n))) ⊎ (count (leads ts (suc n)) ts + suc n ≤ length ts)
    settled_step (inl w) = inl (next w)
    settled_step (inr few) = elim (less_or_same (leads ts n) (leads ts (suc n)) ts
        (within_all (leads ts (suc n)) (leads ts n) ts (leads_less ts n))) [
          | inl w ↦ inl (next w)
          | inr less ↦ inr (omega arith)
        ]

-- the next step can be taken from each that is kept
kept_steps : (ts : List FileNode) → IsWithin ts (leads ts (length ts)) (leads ts (suc (length ts)))
kept_steps ts = elim (settled ts (length ts)) [
  | inl w ↦ w
  | inr few ↦ none_within (leads ts (length ts)) (leads ts (suc (length ts))) ts (omega arith)
]

-- what is closed leads on however far
closed_leads : (ts : List FileNode) (Q : FileNode → Bool) → IsClosed ts Q → (n : ℕ) → IsWithin ts Q (leads ts n)
closed_leads ts Q h zero = within_all Q (leads ts zero) ts (λ t e. refl)
closed_leads ts Q h (suc n) =
    within_then Q (λ t. names_one Q ts (name_in (label t))) (leads ts (suc n)) ts h
    (λ t e. named_within Q (leads ts n) ts (name_in (label t)) (closed_leads ts Q h n) e)

pub kept_closed : (ts : List FileNode) → IsClosed ts (is_kept ts)
unfolding is_kept
kept_closed ts = kept_steps ts

kept_most : (ts : List FileNode) (Q : FileNode → Bool) → IsClosed ts Q → IsWithin ts Q (is_kept ts)
unfolding is_kept
kept_most ts Q h = closed_leads ts Q h (length ts)

pub kept_greatest : (ts : List FileNode) → IsGreatest ts (is_kept ts)
kept_greatest ts = record { closed = kept_closed ts; greatest = kept_most ts }

filter_same : (P Q : FileNode → Bool) (ts : List FileNode) → IsWithin ts P Q → IsWithin ts Q P
    → filter P ts ≡ filter Q ts
filter_same P Q [] h k = refl
filter_same P Q (t ∷ ts) h k =
    same_step (P t) (Q t) refl refl (filter_same P Q ts (within_tail P Q t ts h) (within_tail Q P t ts k))
  where
    same_step : (p q : Bool) → P t ≡ p → Q t ≡ q → filter P ts ≡ filter Q ts → filter P (t ∷ ts) ≡ filter Q (t ∷ ts)
    same_step true true a b rest = rw (a, b) (ap (λ us. t ∷ us) rest)
    same_step false false a b rest = rw (a, b) rest
    same_step true false a b rest = absurd (let e : Q t ≡ true = within_head P Q t ts h a in cc)
    same_step false true a b rest = absurd (let e : P t ≡ true = within_head Q P t ts k b in cc)

pub kept_one : (ts : List FileNode) (P : FileNode → Bool) → IsGreatest ts P → kept ts ≡ filter P ts
kept_one ts P g = filter_same (is_kept ts) P ts (g.greatest (is_kept ts) (kept_closed ts))
    ((kept_greatest ts).greatest P g.closed)

-- more steps than there are nodes say no more
less_by : (ts : List FileNode) (n k : ℕ) (t : FileNode) → leads ts (n + k) t ≡ true → leads ts n t ≡ true
less_by ts n zero t h = let e : n + 0 ≡ n = omega arith in subst (λ m. leads ts m t ≡ true) e h
less_by ts n (suc k) t h =
    let e : n + suc k ≡ suc (n + k) = omega arith in
    less_by ts n k t (leads_less ts (n + k) t (subst (λ m. leads ts m t ≡ true) e h))

same_test : (P Q : FileNode → Bool) (t : FileNode) → (P t ≡ true → Q t ≡ true) → (Q t ≡ true → P t ≡ true) → P t ≡ Q t
same_test P Q t h k = same_bool (P t) (Q t) h k
  where
    same_bool : (p q : Bool) → (p ≡ true → q ≡ true) → (q ≡ true → p ≡ true) → p ≡ q
    same_bool true q h k = sym (h refl)
    same_bool false true h k = k refl
    same_bool false false h k = refl

same_each : (P Q : FileNode → Bool) (ts : List FileNode) → IsWithin ts P Q → ((t : FileNode) → Q t ≡ true → P t ≡ true)
    → map P ts ≡ map Q ts
same_each P Q [] h k = refl
same_each P Q (t ∷ ts) h k = λ i. same_test P Q t (within_head P Q t ts h) (k t) i
    ∷ same_each P Q ts (within_tail P Q t ts h) k i

pub enough : (ts : List FileNode) (n : ℕ) → length ts ≤ n → map (is_kept ts) ts ≡ map (leads ts n) ts
unfolding is_kept
enough ts n h =
    let e : length ts + (n - length ts) ≡ n = omega arith in
    same_each (leads ts (length ts)) (leads ts n) ts (closed_leads ts (leads ts (length ts)) (kept_steps ts) n)
    (λ t g. less_by ts (length ts) (n - length ts) t (subst (λ m. leads ts m t ≡ true) (sym e) g))

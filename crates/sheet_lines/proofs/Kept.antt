-- Numbers that are put after others one after another, where each of them stays once.
use Rattle.std.proofs.Common.{
  ◌≡◌,
  ℕ,
  ◌+◌,
  ◌<◌,
  ◌++◌,
  ◌∷◌,
  [],
  List,
  length,
  get_or,
  take,
  map,
  Bool,
  true,
  false,
  ◌||◌,
  T,
  cond,
  ap,
  refl,
  sym,
  subst,
  ◌∙◌,
  add-one,
  arith,
  append-nil,
  append_assoc,
}
use Rattle.std.specs.FinMap.Entries.{below_all, is_sorted}
use Rattle.std.specs.Cmp.{nat_cmp_total, tied_itself}
use Rattle.std.specs.List.{filter, fold, list_any}
use Rattle.std.specs.Ordering.{is_lt, nat_cmp}
use Rattle.std.proofs.lemmas.Bool.Decides.{nat_tests}
use Rattle.std.proofs.lemmas.List.Folds.{list_any-append}
use Rattle.std.proofs.lemmas.List.Sums.{fold-append}
use Rattle.std.proofs.lemmas.List.{take_more}
use Rattle.std.proofs.Math.Seq.{take-suc}
use Rattle.sheet_lines.specs.Numbers.{stands_last, with_last}
use Rattle.list_laws.proofs.Booleans.{rest_holds, first_holds}

-- ---- the last of a list
last_put : (n : ℕ) (ks : List ℕ) → stands_last n (ks ++ n ∷ []) ≡ true
last_put n [] = grind (arith, nat_tests)
last_put n (k ∷ []) = last_put n []
last_put n (j ∷ k ∷ ks) = last_put n (k ∷ ks)

last_of_put : (n y : ℕ) (ks : List ℕ) → stands_last y (ks ++ n ∷ []) ≡ true → n ≡ y
last_of_put n y [] h = grind (arith, nat_tests)
last_of_put n y (k ∷ []) h = last_of_put n y [] h
last_of_put n y (j ∷ k ∷ ks) h = last_of_put n y (k ∷ ks) h

is_last : (n : ℕ) (ks : List ℕ) → stands_last n (with_last n ks) ≡ true
is_last n ks = here (stands_last n ks) refl
  where
    here : (b : Bool) → stands_last n ks ≡ b → stands_last n (cond b ks (ks ++ n ∷ [])) ≡ true
    here true e = e
    here false e = last_put n ks

twice : (n : ℕ) (ks : List ℕ) → with_last n (with_last n ks) ≡ with_last n ks
twice n ks = ap (λ (b : Bool). cond b (with_last n ks) (with_last n ks ++ n ∷ [])) (is_last n ks)

-- ---- the names of one person
names_more : (n : ℕ) (ks : List ℕ) (a b : Bool)
    → cond b (with_last n (cond a (with_last n ks) ks)) (cond a (with_last n ks) ks)
    ≡ cond (a || b) (with_last n ks) ks
names_more n ks true true = twice n ks
names_more n ks true false = refl
names_more n ks false true = refl
names_more n ks false false = refl

module _ {X : Type 0} (p : X → Bool) (xs : List X) (i : ℕ) (x : X) (n : ℕ) (old before after : List ℕ) where
  -- one more name has the surname, or has it not
  pub then_name : i < length xs → x ≡ get_or xs i x → before ≡ cond (list_any p (take i xs)) (with_last n old) old
      → after ≡ cond (p x) (with_last n before) before
      → after ≡ cond (list_any p (take (i + 1) xs)) (with_last n old) old
  then_name less at is step =
      let more : take (i + 1) xs ≡ take i xs ++ x ∷ [] = ap (λ (k : ℕ). take k xs) (add-one i) ∙ take-suc xs i x less
      ∙ ap (λ (y : X). take i xs ++ y ∷ []) (sym at) in
      let any : list_any p (take (i + 1) xs) ≡ (list_any p (take i xs) || p x) =
      ap (list_any p) more ∙ list_any-append p (take i xs) (x ∷ []) ∙ one (list_any p (take i xs)) (p x) in
      step ∙ ap (λ (ks : List ℕ). cond (p x) (with_last n ks) ks) is
      ∙ names_more n old (list_any p (take i xs)) (p x)
      ∙ ap (λ (b : Bool). cond b (with_last n old) old) (sym any)
    where
      one : (a b : Bool) → (a || (b || false)) ≡ (a || b)
      one true b = refl
      one false true = refl
      one false false = refl

-- ---- one person after another
abbrev pub put_if : (ℕ → Bool) → List ℕ → ℕ → List ℕ
put_if f ks n = cond (f n) (with_last n ks) ks

-- those of the list who pass, each of whom is put after the others
abbrev pub kept : (ℕ → Bool) → List ℕ → List ℕ
kept f ns = fold (put_if f) [] ns

pub then_person : (f : ℕ → Bool) (ns : List ℕ) (i : ℕ) (before after : List ℕ) → i < length ns
    → before ≡ kept f (take i ns) → after ≡ put_if f before (get_or ns i 0) → after ≡ kept f (take (i + 1) ns)
then_person f ns i before after less is step =
    step ∙ ap (λ (ks : List ℕ). put_if f ks (get_or ns i 0)) is
    ∙ sym (fold-append (put_if f) [] (take i ns) (get_or ns i 0 ∷ [])) ∙ ap (kept f) (sym (take_more ns i 0 less))

-- ---- where numbers ascend, nobody is there already

irreflexive : (n : ℕ) → T (is_lt (nat_cmp n n)) → ⊥
irreflexive n h = subst (λ o. T (is_lt o)) (tied_itself nat_cmp_total n) h

module _ {X : Type 0} (f : ℕ → Bool) (p : ℕ × X → Bool) where
  abbrev told : List (ℕ × X) → List ℕ
  told es = map (λ (e : ℕ × X). e.0) (filter p es)

  -- whoever stands last is below all that come
  abbrev LastBelow : List ℕ → List (ℕ × X) → Type 0
  LastBelow ks es = (y : ℕ) → stands_last y ks ≡ true → T (below_all nat_cmp y es)

  not_last : (ks : List ℕ) (e : ℕ × X) (es : List (ℕ × X)) → LastBelow ks (e ∷ es) → stands_last e.0 ks ≡ false
  not_last ks e es low = here (stands_last e.0 ks) refl
    where
      here : (b : Bool) → stands_last e.0 ks ≡ b → stands_last e.0 ks ≡ false
      here true is = absurd (irreflexive e.0 (first_holds (is_lt (nat_cmp e.0 e.0)) (below_all nat_cmp e.0 es)
          (low e.0 is)))
      here false is = is

  low_tail : (ks : List ℕ) (e : ℕ × X) (es : List (ℕ × X)) → LastBelow ks (e ∷ es) → LastBelow ks es
  low_tail ks e es low = λ y is. rest_holds (is_lt (nat_cmp y e.0)) (below_all nat_cmp y es) (low y is)

  low_next : (ks : List ℕ) (e : ℕ × X) (es : List (ℕ × X)) → T (below_all nat_cmp e.0 es)
      → LastBelow (ks ++ e.0 ∷ []) es
  low_next ks e es h = λ y is. subst (λ k. T (below_all nat_cmp k es)) (last_of_put e.0 y ks is) h

  abbrev Puts : List ℕ → List ℕ → Type 0
  Puts ks ns = fold (put_if f) ks ns ≡ ks ++ filter f ns

  -- one more in front of those that are put
  put_one : (e : ℕ × X) (es : List (ℕ × X)) (ks : List ℕ) → LastBelow ks (e ∷ es) → Puts ks (told es)
      → Puts (ks ++ e.0 ∷ []) (told es) → Puts ks (told (e ∷ es))
  put_one e es ks low passed behind = here (p e)
    where
      put : fold (put_if f) (with_last e.0 ks) (told es) ≡ ks ++ e.0 ∷ filter f (told es)
      put = ap (λ (b : Bool). fold (put_if f) (cond b ks (ks ++ e.0 ∷ [])) (told es)) (not_last ks e es low) ∙ behind
          ∙ append_assoc ks (e.0 ∷ []) (filter f (told es))

      inside : (b : Bool) → fold (put_if f) (cond b (with_last e.0 ks) ks) (told es)
          ≡ ks ++ cond b (e.0 ∷ filter f (told es)) (filter f (told es))
      inside true = put
      inside false = passed

      here : (b : Bool) → Puts ks (map (λ (x : ℕ × X). x.0) (cond b (e ∷ filter p es) (filter p es)))
      here true = inside (f e.0)
      here false = passed

  each_put : (es : List (ℕ × X)) (ks : List ℕ) → T (is_sorted nat_cmp es) → LastBelow ks es → Puts ks (told es)
  each_put [] ks rise low = sym (append-nil ks)
  each_put (e ∷ es) ks rise low =
      let below = first_holds (below_all nat_cmp e.0 es) (is_sorted nat_cmp es) rise in
      let rest = rest_holds (below_all nat_cmp e.0 es) (is_sorted nat_cmp es) rise in
      put_one e es ks low (each_put es ks rest (low_tail ks e es low))
      (each_put es (ks ++ e.0 ∷ []) rest (low_next ks e es below))

  -- of numbers that ascend each is put
  pub kept_all : (es : List (ℕ × X)) → T (is_sorted nat_cmp es) → kept f (told es) ≡ filter f (told es)
  kept_all es rise = each_put es [] rise (λ y is. absurd cc)

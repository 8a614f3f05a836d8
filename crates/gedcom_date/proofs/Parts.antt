-- A list of words, parted at the first that passes.
use Rattle.std.proofs.Common.{
  ◌≡◌,
  ℕ,
  ◌+◌,
  suc,
  Bool,
  true,
  false,
  not,
  ◌||◌,
  cond,
  List,
  [],
  ◌∷◌,
  ◌++◌,
  length,
  take,
  drop,
  ◌<◌,
  ◌≤◌,
  ◌-◌,
  Some,
  None,
  Option,
  option_map,
  refl,
  ap,
  sym,
  ◌∙◌,
  arith,
}
use Rattle.std.proofs.lemmas.List.{take_rest}
use Rattle.std.specs.Borrow.{Bor}
use Rattle.std.specs.List.{list_any, prefix_len}
use Rattle.gedcom_date.specs.Words.{views}
use Rattle.gedcom_date.specs.Reading.{parted, Halves, onto_front}

at_cons : (p : List ℕ → Bool) (w : List ℕ) (ws : List (List ℕ)) (x : List ℕ) (back : List (List ℕ)) (b : Bool) → p w ≡ b
    → (b || list_any p ws) ≡ false → (list_any p ws ≡ false → parted p (ws ++ x ∷ back) ≡ Some (ws, back))
    → parted p (w ∷ (ws ++ x ∷ back)) ≡ Some (w ∷ ws, back)
at_cons p w ws x back true e none more = absurd cc
at_cons p w ws x back false e none more = rw (e, more none) refl

-- where none of those in front passes, that is the place
pub parted_at : (p : List ℕ → Bool) (front : List (List ℕ)) (x : List ℕ) (back : List (List ℕ))
    → list_any p front ≡ false → p x ≡ true → parted p (front ++ x ∷ back) ≡ Some (front, back)
parted_at p [] x back none is = rw is refl
parted_at p (w ∷ ws) x back none is = at_cons p w ws x back (p w) refl none (λ h. parted_at p ws x back h is)

none_cons : (p : List ℕ → Bool) (w : List ℕ) (ws : List (List ℕ)) (b : Bool) → p w ≡ b → (b || list_any p ws) ≡ false
    → (list_any p ws ≡ false → parted p ws ≡ None) → parted p (w ∷ ws) ≡ None
none_cons p w ws true e none more = absurd cc
none_cons p w ws false e none more = rw (e, more none) refl

-- where none passes, there is no place
pub parted_none : (p : List ℕ → Bool) (ws : List (List ℕ)) → list_any p ws ≡ false → parted p ws ≡ None
parted_none p [] none = refl
parted_none p (w ∷ ws) none = none_cons p w ws (p w) refl none (parted_none p ws)

-- the word at the place
pub record IsPartedAt (p : List ℕ → Bool) (ws front back : List (List ℕ)) : Type 0 where
  pub word : List ℕ
  pub parts : ws ≡ front ++ word ∷ back
  pub passes : p word ≡ true

front_of : (x y : Halves) → Some x ≡ Some y → x.0 ≡ y.0
front_of x y h = let e : x ≡ y = cc in ap (λ (x : Halves). x.0) e

back_of : (x y : Halves) → Some x ≡ Some y → x.1 ≡ y.1
back_of x y h = let e : x ≡ y = cc in ap (λ (x : Halves). x.1) e

is_none : (p : List ℕ → Bool) (w : List ℕ) (ws front back : List (List ℕ)) (o : Option Halves) → o ≡ parted p ws
    → option_map (onto_front w) o ≡ Some (front, back)
    → ((f b : List (List ℕ)) → parted p ws ≡ Some (f, b) → IsPartedAt p ws f b) → IsPartedAt p (w ∷ ws) front back
is_none p w ws front back None e h more = absurd cc
is_none p w ws front back (Some parts) e h more =
    let at = more parts.0 parts.1 (sym e) in
    let f : w ∷ parts.0 ≡ front = front_of (w ∷ parts.0, parts.1) (front, back) h in
    let b : parts.1 ≡ back = back_of (w ∷ parts.0, parts.1) (front, back) h in
    let whole : w ∷ ws ≡ (w ∷ parts.0) ++ at.word ∷ parts.1 = ap (λ (l : List (List ℕ)). w ∷ l) at.parts in
    let joined : (w ∷ parts.0) ++ at.word ∷ parts.1 ≡ front ++ at.word ∷ back = ap
    (λ (l : List (List ℕ)). l ++ at.word ∷ parts.1) f ∙ ap (λ (l : List (List ℕ)). front ++ at.word ∷ l) b in
    record { word = at.word; parts = whole ∙ joined; passes = at.passes }

is_cons : (p : List ℕ → Bool) (w : List ℕ) (ws front back : List (List ℕ)) (b : Bool) → p w ≡ b
    → cond {A = Option Halves} b (Some ([], ws)) (option_map (onto_front w) (parted p ws)) ≡ Some (front, back)
    → ((f b : List (List ℕ)) → parted p ws ≡ Some (f, b) → IsPartedAt p ws f b) → IsPartedAt p (w ∷ ws) front back
is_cons p w ws front back true e h more =
    let f : [] ≡ front = front_of ([], ws) (front, back) h in
    let b : ws ≡ back = back_of ([], ws) (front, back) h in
    let joined : w ∷ ws ≡ front ++ w ∷ back = rw (← f, ← b) refl in
    record { word = w; parts = joined; passes = e }
is_cons p w ws front back false e h more = is_none p w ws front back (parted p ws) refl h more

-- the list is what stands before, a word that passes, and what stands after
pub parted_is : (p : List ℕ → Bool) (ws front back : List (List ℕ)) → parted p ws ≡ Some (front, back)
    → IsPartedAt p ws front back
parted_is p [] front back h = absurd cc
parted_is p (w ∷ ws) front back h = is_cons p w ws front back (p w) refl h (parted_is p ws)

split_cons : (p : List ℕ → Bool) (w : Bor (List ℕ)) (ws rest : List (Bor (List ℕ))) (o : Option Halves) (b : Bool)
    → p w.now ≡ b → suc (length ws) ≡ cond (not b) (1 + prefix_len (λ (x : Bor (List ℕ)). not (p x.now)) (ws ++ rest)) 0
    → (length ws ≡ prefix_len (λ (x : Bor (List ℕ)). not (p x.now)) (ws ++ rest) → parted p (views (ws ++ rest)) ≡ o)
    → parted p (views (w ∷ (ws ++ rest))) ≡ option_map (onto_front w.now) o
split_cons p w ws rest o true e h more = absurd (omega arith)
split_cons p w ws rest o false e h more = rw (e, more (omega arith)) refl

-- where those that fail end at the end
pub split_none : (p : List ℕ → Bool) (front : List (Bor (List ℕ))) → length front ≡ prefix_len
    (λ (x : Bor (List ℕ)). not (p x.now)) (front ++ []) → parted p (views (front ++ [])) ≡ None
split_none p [] h = refl
split_none p (w ∷ ws) h = split_cons p w ws [] None (p w.now) refl h (split_none p ws)

some_here : (p : List ℕ → Bool) (x : Bor (List ℕ)) (rest : List (Bor (List ℕ))) (b : Bool) → p x.now ≡ b
    → 0 ≡ cond (not b) (1 + prefix_len (λ (x : Bor (List ℕ)). not (p x.now)) rest) 0
    → parted p (views (x ∷ rest)) ≡ Some ([], views rest)
some_here p x rest true e h = rw e refl
some_here p x rest false e h = absurd (omega arith)

-- where they end before a word
pub split_some : (p : List ℕ → Bool) (front : List (Bor (List ℕ))) (x : Bor (List ℕ)) (rest : List (Bor (List ℕ)))
    → length front ≡ prefix_len (λ (x : Bor (List ℕ)). not (p x.now)) (front ++ x ∷ rest)
    → parted p (views (front ++ x ∷ rest)) ≡ Some (views front, views rest)
split_some p [] x rest h = some_here p x rest (p x.now) refl h
split_some p (w ∷ ws) x rest h = split_cons p w ws (x ∷ rest) (Some (views ws, views rest)) (p w.now) refl h
    (split_some p ws x rest)

-- the same of a list that was split at that place
pub split_empty : (p : List ℕ → Bool) (ws front back : List (Bor (List ℕ))) → ws ≡ front ++ back
    → length front ≡ prefix_len (λ (x : Bor (List ℕ)). not (p x.now)) ws → length back < 1 → None ≡ parted p (views ws)
split_empty p ws front [] e h short = sym (rw e (split_none p front (rw e at h)))
split_empty p ws front (x ∷ rest) e h short = absurd (omega arith)

pub split_word : (p : List ℕ → Bool) (ws front back : List (Bor (List ℕ))) → ws ≡ front ++ back
    → length front ≡ prefix_len (λ (x : Bor (List ℕ)). not (p x.now)) ws → 1 ≤ length back
    → Some (views front, views (take (length back - 1) (drop 1 back))) ≡ parted p (views ws)
split_word p ws front [] e h some = absurd (omega arith)
split_word p ws front (x ∷ rest) e h some =
    let whole : take (length (x ∷ rest) - 1) (drop 1 (x ∷ rest)) ≡ rest = take_rest (x ∷ rest) 1 in
    sym (rw (e, whole) (split_some p front x rest (rw e at h)))

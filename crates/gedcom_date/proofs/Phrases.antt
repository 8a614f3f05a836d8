-- A text has one phrase at most.
use Rattle.std.proofs.Common.{
  ◌≡◌,
  ◌≢◌,
  ℕ,
  suc,
  true,
  false,
  List,
  [],
  ◌∷◌,
  ◌++◌,
  subst,
  append_assoc,
  refl,
  ap,
  sym,
  ◌∙◌,
  arith,
}
use Rattle.std.specs.List.{list_all}
use Rattle.std.proofs.lemmas.Bool.{and_parts}
use Rattle.gedcom_date.specs.Words.{is_space, Without}
use Rattle.gedcom_date.specs.Grammar.{IsPhrased}
use Rattle.list_laws.proofs.Lists.{head_same, tail_same}

-- the facts of a list but for its first
pub without_tail : (c x : ℕ) (xs : List ℕ) → Without c (x ∷ xs) → Without c xs
without_tail c x xs none = λ i h. none (suc i) (omega arith)

without_head : (c : ℕ) (xs : List ℕ) → Without c (c ∷ xs) → ⊥
without_head c xs none = none 0 (omega arith) refl

all_tail : (x : ℕ) (xs : List ℕ) → list_all is_space (x ∷ xs) ≡ true → list_all is_space xs ≡ true
all_tail x xs all = (and_parts (is_space x) (list_all is_space xs) all).1

-- among spaces there is nothing else
no_other : (c : ℕ) (xs ys : List ℕ) → is_space c ≡ false → list_all is_space (xs ++ c ∷ ys) ≡ true → ⊥
no_other c [] ys other all = absurd (let h = (and_parts (is_space c) (list_all is_space ys) all).0 in cc)
no_other c (x ∷ xs) ys other all = no_other c xs ys other (all_tail x (xs ++ c ∷ ys) all)

-- the first place of a byte is one
first_front : (c : ℕ) (a b x y : List ℕ) → Without c a → Without c b → a ++ c ∷ x ≡ b ++ c ∷ y → a ≡ b
first_front c [] [] x y na nb e = refl
first_front c [] (q ∷ qs) x y na nb e =
    absurd (without_head c qs (subst (λ (h : ℕ). Without c (h ∷ qs)) (sym (head_same c q x (qs ++ c ∷ y) e)) nb))
first_front c (r ∷ rs) [] x y na nb e =
    absurd (without_head c rs (subst (λ (h : ℕ). Without c (h ∷ rs)) (head_same r c (rs ++ c ∷ x) y e) na))
first_front c (r ∷ rs) (q ∷ qs) x y na nb e =
    let tails = first_front c rs qs x y (without_tail c r rs na) (without_tail c q qs nb)
    (tail_same r q (rs ++ c ∷ x) (qs ++ c ∷ y) e) in
    let heads : r ≡ q = head_same r q (rs ++ c ∷ x) (qs ++ c ∷ y) e in
    cc

first_back : (c : ℕ) (a b x y : List ℕ) → Without c a → Without c b → a ++ c ∷ x ≡ b ++ c ∷ y → x ≡ y
first_back c [] [] x y na nb e = tail_same c c x y e
first_back c [] (q ∷ qs) x y na nb e =
    absurd (without_head c qs (subst (λ (h : ℕ). Without c (h ∷ qs)) (sym (head_same c q x (qs ++ c ∷ y) e)) nb))
first_back c (r ∷ rs) [] x y na nb e =
    absurd (without_head c rs (subst (λ (h : ℕ). Without c (h ∷ rs)) (head_same r c (rs ++ c ∷ x) y e) na))
first_back c (r ∷ rs) (q ∷ qs) x y na nb e = first_back c rs qs x y (without_tail c r rs na) (without_tail c q qs nb)
    (tail_same r q (rs ++ c ∷ x) (qs ++ c ∷ y) e)

-- a text and spaces, the text without a bracket
no_bracket : (a sp front x : List ℕ) → Without 40 a → list_all is_space sp ≡ true → a ++ sp ≡ front ++ 40 ∷ x → ⊥
no_bracket [] sp front x none all e = no_other 40 front x refl
    (subst (λ (l : List ℕ). list_all is_space l ≡ true) e all)
no_bracket (r ∷ rs) sp [] x none all e = without_head 40 rs
    (subst (λ (h : ℕ). Without 40 (h ∷ rs)) (head_same r 40 (rs ++ sp) x e) none)
no_bracket (r ∷ rs) sp (q ∷ qs) x none all e = no_bracket rs sp qs x (without_tail 40 r rs none) all
    (tail_same r q (rs ++ sp) (qs ++ 40 ∷ x) e)

-- spaces end with a space
abbrev Ended : List ℕ → Type 0
Ended xs = (front : List ℕ) × (xs ≡ front ++ 32 ∷ [])

space_is : (x : ℕ) → is_space x ≡ true → x ≡ 32
space_is x h = grind arith

ended : (x : ℕ) (xs : List ℕ) → list_all is_space (x ∷ xs) ≡ true → Ended (x ∷ xs)
ended x [] all = ([], ap (λ (h : ℕ). h ∷ []) (space_is x (and_parts (is_space x) true all).0))
ended x (y ∷ ys) all = let more = ended y ys (all_tail x (y ∷ ys) all) in
    (x ∷ more.0, ap (λ (l : List ℕ). x ∷ l) more.1)

abbrev pub NotEnded : List ℕ → Type 0
NotEnded xs = (front : List ℕ) → xs ≢ front ++ 32 ∷ []

not_tail : (x : ℕ) (xs : List ℕ) → NotEnded (x ∷ xs) → NotEnded xs
not_tail x xs none = λ front e. none (x ∷ front) (ap (λ (l : List ℕ). x ∷ l) e)

-- the front of spaces
front_all : (xs ys : List ℕ) → list_all is_space (xs ++ ys) ≡ true → list_all is_space xs ≡ true
front_all [] ys all = refl
front_all (x ∷ xs) ys all =
    let here = (and_parts (is_space x) (list_all is_space (xs ++ ys)) all).0 in
    let more = front_all xs ys (and_parts (is_space x) (list_all is_space (xs ++ ys)) all).1 in
    rw (here, more) refl

-- what stands before the spaces at an end, up to its bracket
up_to : (rest sp p after : List ℕ) → NotEnded rest → list_all is_space sp ≡ true → list_all is_space after ≡ true
    → rest ++ sp ≡ p ++ 41 ∷ after → rest ≡ p ++ 41 ∷ []
up_to [] sp p after none all more e =
    absurd (no_other 41 p after refl (subst (λ (l : List ℕ). list_all is_space l ≡ true) e all))
up_to (r ∷ []) sp [] after none all more e = ap (λ (h : ℕ). h ∷ []) (head_same r 41 sp after e)
up_to (r ∷ (s ∷ ss)) sp [] after none all more e =
    let spaces = subst (λ (l : List ℕ). list_all is_space l ≡ true)
    (sym (tail_same r 41 ((s ∷ ss) ++ sp) after e)) more in
    let end = ended s ss (front_all (s ∷ ss) sp spaces) in
    absurd (none (r ∷ end.0) (ap (λ (l : List ℕ). r ∷ l) end.1))
up_to (r ∷ rs) sp (q ∷ qs) after none all more e =
    let tails = up_to rs sp qs after (not_tail r rs none) all more (tail_same r q (rs ++ sp) (qs ++ 41 ∷ after) e) in
    let heads : r ≡ q = head_same r q (rs ++ sp) (qs ++ 41 ∷ after) e in
    cc

-- what stands before the last bracket
last_bracket : (p q a b : List ℕ) → list_all is_space a ≡ true → list_all is_space b ≡ true
    → p ++ 41 ∷ a ≡ q ++ 41 ∷ b → p ≡ q
last_bracket [] [] a b all more e = refl
last_bracket [] (q ∷ qs) a b all more e =
    absurd (no_other 41 qs b refl
    (subst (λ (l : List ℕ). list_all is_space l ≡ true) (tail_same 41 q a (qs ++ 41 ∷ b) e) all))
last_bracket (p ∷ ps) [] a b all more e =
    absurd (no_other 41 ps a refl
    (subst (λ (l : List ℕ). list_all is_space l ≡ true) (sym (tail_same p 41 (ps ++ 41 ∷ a) b e)) more))
last_bracket (p ∷ ps) (q ∷ qs) a b all more e =
    let tails = last_bracket ps qs a b all more (tail_same p q (ps ++ 41 ∷ a) (qs ++ 41 ∷ b) e) in
    let heads : p ≡ q = head_same p q (ps ++ 41 ∷ a) (qs ++ 41 ∷ b) e in
    cc

-- brackets, regrouped
regroup : (front phrase after : List ℕ) → front ++ 40 ∷ phrase ++ 41 ∷ after ≡ front ++ 40 ∷ (phrase ++ 41 ∷ after)
regroup front phrase after = append_assoc front (40 ∷ phrase) (41 ∷ after)

-- without a bracket there is no phrase
pub no_phrase : (text trim sp front phrase : List ℕ) → text ≡ trim ++ sp → list_all is_space sp ≡ true → Without 40 trim
    → IsPhrased text front phrase → ⊥
no_phrase text trim sp front phrase e all none is =
    no_bracket trim sp front (phrase ++ 41 ∷ is.after) none all (sym e ∙ is.parts ∙ regroup front phrase is.after)

abbrev pub NotBracketed : List ℕ → Type 0
NotBracketed xs = (front : List ℕ) → xs ≢ front ++ 41 ∷ []

-- nor where no bracket ends the text
pub no_end : (text trim sp f rest front phrase : List ℕ) → text ≡ trim ++ sp → list_all is_space sp ≡ true
    → NotEnded trim → trim ≡ f ++ 40 ∷ rest → Without 40 f → NotBracketed rest → IsPhrased text front phrase → ⊥
no_end text trim sp f rest front phrase e all ends cut none bare is =
    let whole : f ++ 40 ∷ (rest ++ sp) ≡ front ++ 40 ∷ (phrase ++ 41 ∷ is.after) =
    sym (append_assoc f (40 ∷ rest) sp) ∙ ap (λ (l : List ℕ). l ++ sp) (sym cut) ∙ sym e ∙ is.parts
    ∙ regroup front phrase is.after in
    let back = first_back 40 f front (rest ++ sp) (phrase ++ 41 ∷ is.after) none is.first whole in
    let ends_rest : NotEnded rest = λ l h. ends (f ++ 40 ∷ l)
    (cut ∙ ap (λ (k : List ℕ). f ++ 40 ∷ k) h ∙ sym (append_assoc f (40 ∷ l) (32 ∷ []))) in
    bare phrase (up_to rest sp phrase is.after ends_rest all is.spaces back)

-- the phrase is one, and what stands before it
pub one_phrase : (text f p g q : List ℕ) → IsPhrased text f p → IsPhrased text g q → (f ≡ g) × (p ≡ q)
one_phrase text f p g q a b =
    let whole : f ++ 40 ∷ (p ++ 41 ∷ a.after) ≡ g ++ 40 ∷ (q ++ 41 ∷ b.after) = sym (regroup f p a.after) ∙ sym a.parts
    ∙ b.parts ∙ regroup g q b.after in
    let back = first_back 40 f g (p ++ 41 ∷ a.after) (q ++ 41 ∷ b.after) a.first b.first whole in (
      first_front 40 f g (p ++ 41 ∷ a.after) (q ++ 41 ∷ b.after) a.first b.first whole,
      last_bracket p q a.after b.after a.spaces b.spaces back,
    )

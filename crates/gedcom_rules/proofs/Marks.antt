-- The pieces of a file that goes on, with a byte order mark that may be cut in two.
use Rattle.std.proofs.Common.{
  ◌≡◌,
  ℕ,
  suc,
  ◌+◌,
  ◌≤◌,
  Bool,
  true,
  false,
  eqb,
  ◌&&◌,
  List,
  [],
  ◌∷◌,
  ◌++◌,
  length,
  refl,
  sym,
  ap,
  ◌∙◌,
  arith,
  inl,
  inr,
  eq-eqb,
}
use Rattle.std.proofs.Math.Bool.{and-false}
use Rattle.std.proofs.lemmas.Bool.{cases_eq, cases_Bool}
use Rattle.std.proofs.lemmas.Bool.Decides.{nat_tests}
use Rattle.gedcom_line.specs.Words.{is_end}
use Rattle.gedcom_line.proofs.Steps.{eqb_false}
use Rattle.gedcom_rules.specs.Pieces.{Pieces, pieces, onto_first, skip_mark, file_pieces}

-- the open rest goes on
abbrev pub on : Pieces → List ℕ → Pieces
on p c = record { ended = p.ended ++ (pieces (p.open_ ++ c)).ended; open_ = (pieces (p.open_ ++ c)).open_ }

onto_on : (x : ℕ) (e : List (List ℕ)) (o c : List ℕ) → is_end x ≡ false → onto_first x (e ++ (pieces (o ++ c)).ended)
    (pieces (o ++ c)).open_ ≡ on (onto_first x e o) c
unfolding pieces
onto_on x [] o c h = rw h refl
onto_on x (p ∷ ps) o c h = refl

pub pieces-append : (b c : List ℕ) → pieces (b ++ c) ≡ on (pieces b) c
unfolding pieces
pieces-append [] c = refl
pieces-append (x ∷ xs) c = elim (cases_Bool (is_end x)) [
  | inl h ↦ rw (h, pieces-append xs c) refl
  | inr h ↦ rw (h, pieces-append xs c) (onto_on x (pieces xs).ended (pieces xs).open_ c h)
]

-- where the open rest is all, nothing has ended
open_le_onto : (x : ℕ) (e : List (List ℕ)) (o : List ℕ) → length (onto_first x e o).open_ ≤ suc (length o)
open_le_onto x [] o = omega arith
open_le_onto x (p ∷ ps) o = omega arith

open_le : (t : List ℕ) → length (pieces t).open_ ≤ length t
unfolding pieces
open_le [] = omega arith
open_le (x ∷ xs) = elim (cases_Bool (is_end x)) [
  | inl h ↦ rw h (let k = open_le xs in omega arith)
  | inr h ↦ rw h (let k = open_le xs in let g = open_le_onto x (pieces xs).ended (pieces xs).open_ in omega arith)
]

abbrev AllOpen : Pieces → List ℕ → Type 0
AllOpen p t = (p.ended ≡ []) × (p.open_ ≡ t)

onto_open : (x : ℕ) (xs : List ℕ) (e : List (List ℕ)) (o : List ℕ) → length o ≤ length xs
    → (length o ≡ length xs → (e ≡ []) × (o ≡ xs)) → length (onto_first x e o).open_ ≡ suc (length xs)
    → AllOpen (onto_first x e o) (x ∷ xs)
onto_open x xs [] o le h k = let s : length o ≡ length xs = omega arith in (refl, ap (λ (t : List ℕ). x ∷ t) (h s).1)
onto_open x xs (p ∷ ps) o le h k = absurd (omega arith)

open_is_all : (t : List ℕ) → length (pieces t).open_ ≡ length t → AllOpen (pieces t) t
unfolding pieces
open_is_all [] h = (refl, refl)
open_is_all (x ∷ xs) h = elim (cases_Bool (is_end x)) [
  | inl e ↦ let k : length (pieces xs).open_ ≡ suc (length xs) = rw e at h in absurd (let g = open_le xs in omega arith)
  | inr e ↦
      let k : length (onto_first x (pieces xs).ended (pieces xs).open_).open_ ≡ suc (length xs) = rw e at h in
      rw e (onto_open x xs (pieces xs).ended (pieces xs).open_ (open_le xs) (open_is_all xs) k)
]

-- the three bytes of the mark
abbrev pub is_mark : ℕ → ℕ → ℕ → Bool
is_mark a b c = eqb a 239 && eqb b 187 && eqb c 191

pub skip_le : (b : List ℕ) → length (skip_mark b) ≤ length b
skip_le [] = omega arith
skip_le (a ∷ []) = omega arith
skip_le (a ∷ b ∷ []) = omega arith
skip_le (a ∷ b ∷ c ∷ bs) = elim (cases_Bool (is_mark a b c)) [ inl h ↦ rw h (omega arith) | inr h ↦ rw h (omega arith) ]

skip_same : (b : List ℕ) → length (skip_mark b) ≡ length b → skip_mark b ≡ b
skip_same [] h = refl
skip_same (a ∷ []) h = refl
skip_same (a ∷ b ∷ []) h = refl
skip_same (a ∷ b ∷ c ∷ bs) h = elim (cases_Bool (is_mark a b c)) [
  | inl e ↦ let k : length bs ≡ length (a ∷ b ∷ c ∷ bs) = rw e at h in absurd (omega arith)
  | inr e ↦ rw e refl
]

file_open : (b : List ℕ) → length (file_pieces b).open_ ≡ length b → AllOpen (file_pieces b) b
file_open b h =
    let le = open_le (skip_mark b) in
    let sk = skip_le b in
    let same : skip_mark b ≡ b = skip_same b (omega arith) in
    let all = open_is_all (skip_mark b) (omega arith) in
    (all.0, all.1 ∙ same)

-- a mark needs a line of three bytes or more
end_no_mark : (x : ℕ) → is_end x ≡ true → eqb x 239 ≡ false
end_no_mark x h = grind (arith, nat_tests)

end_no_second : (x : ℕ) → is_end x ≡ true → eqb x 187 ≡ false
end_no_second x h = grind (arith, nat_tests)

nil_open : length (pieces []).open_ ≡ 0
unfolding pieces
nil_open = refl

open_one : (a : ℕ) → is_end a ≡ false → length (pieces (a ∷ [])).open_ ≡ 1
unfolding pieces
open_one a h = rw h refl

open_two : (a b : ℕ) → is_end a ≡ false → is_end b ≡ false → length (pieces (a ∷ b ∷ [])).open_ ≡ 2
unfolding pieces
open_two a b h k = rw (h, k) refl

short_mark : (a : ℕ) (c : List ℕ) → is_end a ≡ true → skip_mark (a ∷ c) ≡ a ∷ c
short_mark a [] h = refl
short_mark a (b ∷ []) h = refl
short_mark a (b ∷ c ∷ cs) h = rw (end_no_mark a h) refl

second_mark : (a b : ℕ) (c : List ℕ) → is_end b ≡ true → skip_mark (a ∷ b ∷ c) ≡ a ∷ b ∷ c
second_mark a b [] h = refl
second_mark a b (c ∷ cs) h = elim (cases_Bool (eqb a 239)) [
  | inl e ↦ rw (e, end_no_second b h) refl
  | inr e ↦ rw e refl
]

skip-append : (b c : List ℕ) → (length (file_pieces b).open_ ≡ length b → ⊥) → skip_mark (b ++ c) ≡ skip_mark b ++ c
skip-append [] c h = absurd (h nil_open)
skip-append (a ∷ []) c h = elim (cases_Bool (is_end a)) [
  | inl e ↦ short_mark a c e
  | inr e ↦ absurd (h (open_one a e))
]
skip-append (a ∷ b ∷ []) c h = elim (cases_Bool (is_end a)) [
  | inl e ↦ short_mark a (b ∷ c) e
  | inr e ↦ elim (cases_Bool (is_end b)) [
    | inl f ↦ second_mark a b c f
    | inr f ↦ absurd (h (open_two a b e f))
  ]
]
skip-append (a ∷ b ∷ d ∷ bs) c h = elim (cases_Bool (is_mark a b d)) [ inl e ↦ rw e refl | inr e ↦ rw e refl ]

end_no_third : (x : ℕ) → is_end x ≡ true → eqb x 191 ≡ false
end_no_third x h = grind (arith, nat_tests)

-- nor does it reach over a line end
pub skip_end : (p t : List ℕ) (e : ℕ) → is_end e ≡ true → skip_mark (p ++ e ∷ t) ≡ skip_mark p ++ e ∷ t
skip_end [] t e h = short_mark e t h
skip_end (a ∷ []) t e h = second_mark a e t h
skip_end (a ∷ b ∷ []) t e h = rw (end_no_third e h, and-false (eqb a 239 && eqb b 187)) refl
skip_end (a ∷ b ∷ c ∷ bs) t e h = elim (cases_Bool (is_mark a b c)) [ inl k ↦ rw k refl | inr k ↦ rw k refl ]

pub skip_ge : (b : List ℕ) → length b ≤ length (skip_mark b) + 3
skip_ge [] = omega arith
skip_ge (a ∷ []) = omega arith
skip_ge (a ∷ b ∷ []) = omega arith
skip_ge (a ∷ b ∷ c ∷ bs) = elim (cases_Bool (is_mark a b c)) [ inl h ↦ rw h (omega arith) | inr h ↦ rw h (omega arith) ]

-- how an open line goes on: with the mark taken off where it is all that there was
abbrev pub resumed : ℕ → List ℕ → List ℕ → List ℕ
resumed total rest c = if_all (eqb total (length rest)) (rest ++ c)
  where
    if_all : Bool → List ℕ → List ℕ
    if_all true t = skip_mark t
    if_all false t = t

pub file_pieces-append : (b c : List ℕ) → let o = resumed (length b) (file_pieces b).open_ c in
    file_pieces (b ++ c) ≡ record { ended = (file_pieces b).ended ++ (pieces o).ended; open_ = (pieces o).open_ }
file_pieces-append b c = elim (cases_eq (length b) (length (file_pieces b).open_)) [
  | inl e ↦
      let all = file_open b (sym e) in
      rw (eq-eqb (length b) (length (file_pieces b).open_) e, all.0, all.1) refl
  | inr n ↦
      rw (eqb_false (length b) (length (file_pieces b).open_) n)
      (ap pieces (skip-append b c (λ e. n (sym e))) ∙ pieces-append (skip_mark b) c)
]

-- an open line of three bytes or more goes on as it is
kept_mark : (b c : List ℕ) → 3 ≤ length b → length (skip_mark b) ≡ length b → skip_mark (b ++ c) ≡ b ++ c
kept_mark [] c h e = absurd (omega arith)
kept_mark (x ∷ []) c h e = absurd (omega arith)
kept_mark (x ∷ y ∷ []) c h e = absurd (omega arith)
kept_mark (x ∷ y ∷ z ∷ bs) c h e = elim (cases_Bool (is_mark x y z)) [
  | inl m ↦ let k : length bs ≡ length (x ∷ y ∷ z ∷ bs) = rw m at e in absurd (omega arith)
  | inr m ↦ rw m refl
]

pub long_resumed : (b c : List ℕ) → 3 ≤ length (file_pieces b).open_ → resumed (length b) (file_pieces b).open_ c
    ≡ (file_pieces b).open_ ++ c
long_resumed b c h = elim (cases_eq (length b) (length (file_pieces b).open_)) [
  | inl e ↦
      let all = file_open b (sym e) in
      let le = open_le (skip_mark b) in
      let sk = skip_le b in
      let same : skip_mark ((file_pieces b).open_ ++ c) ≡ (file_pieces b).open_ ++ c = rw all.1
      (kept_mark b c (omega arith) (omega arith)) in
      rw (eq-eqb (length b) (length (file_pieces b).open_) e) same
  | inr n ↦ rw (eqb_false (length b) (length (file_pieces b).open_) n) refl
]

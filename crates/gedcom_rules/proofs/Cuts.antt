-- A file's first piece, and the rest.
use Rattle.std.proofs.Common.{
  ◌≡◌,
  ℕ,
  suc,
  ◌+◌,
  ◌<◌,
  ◌≤◌,
  true,
  false,
  not,
  List,
  [],
  ◌∷◌,
  ◌++◌,
  length,
  ◌-◌,
  take,
  drop,
  length-drop,
  refl,
  ap,
  ◌∙◌,
  arith,
  inl,
  inr,
}
use Rattle.std.proofs.lemmas.Bool.{not-true, and_parts, cases_Bool}
use Rattle.std.specs.List.{prefix_len, list_all}
use Rattle.std.proofs.Math.Numerals.{one-add}
use Rattle.std.proofs.lemmas.List.{take_all}
use Rattle.gedcom_line.specs.Words.{is_end}
use Rattle.gedcom_line.specs.Line.{IsPiece}
use Rattle.gedcom_line.proofs.Steps.{all_front}
use Rattle.gedcom_rules.specs.Pieces.{pieces, onto_first, IsCut}

-- no terminator
pub none_ended : (b : List ℕ) → length b ≤ prefix_len (λ x. not (is_end x)) b → ((pieces b).ended ≡ [])
    × ((pieces b).open_ ≡ b)
unfolding pieces
none_ended [] h = (refl, refl)
none_ended (x ∷ xs) h = elim (cases_Bool (is_end x)) [
  | inl e ↦ let bad : suc (length xs) ≤ 0 = rw e at h in absurd (omega arith)
  | inr e ↦ let g : suc (length xs) ≤ 1 + prefix_len (λ x. not (is_end x)) xs = rw e at h in
      let k = none_ended xs (omega arith) in rw (e, k.0, k.1) (refl, refl)
]

-- one, after its first n bytes
pub first_ended : (b : List ℕ) (n : ℕ) → n ≡ prefix_len (λ x. not (is_end x)) b → n < length b
    → ((pieces b).ended ≡ take n b ∷ (pieces (drop (n + 1) b)).ended)
    × ((pieces b).open_ ≡ (pieces (drop (n + 1) b)).open_)
unfolding pieces
first_ended [] n e h = absurd (omega arith)
first_ended (x ∷ xs) n e h = elim (cases_Bool (is_end x)) [
  | inl f ↦ let z : n ≡ 0 = rw f at e in rw (z, f) (refl, refl)
  | inr f ↦
      let m : ℕ = prefix_len (λ x. not (is_end x)) xs in
      let one : n ≡ 1 + m = rw f at e in
      let two : n ≡ suc m = one ∙ one-add m in
      let three : n + 1 ≡ suc (m + 1) = omega arith in
      let k = first_ended xs m refl (omega arith) in
      rw (three, two, f, k.0, k.1) (refl, refl)
]

pub cut_parts : (b : List ℕ) (n : ℕ) → n ≡ prefix_len (λ x. not (is_end x)) b → n < length b
    → IsCut b (take n b) (drop (n + 1) b)
cut_parts [] n e h = absurd (omega arith)
cut_parts (x ∷ xs) n e h = elim (cases_Bool (is_end x)) [
  | inl f ↦ let z : n ≡ 0 = rw f at e in rw z (record { end = x; ends = f; parts = refl })
  | inr f ↦
      let m : ℕ = prefix_len (λ x. not (is_end x)) xs in
      let one : n ≡ 1 + m = rw f at e in
      let two : n ≡ suc m = one ∙ one-add m in
      let three : n + 1 ≡ suc (m + 1) = omega arith in
      let k = cut_parts xs m refl (omega (arith, one)) in
      rw (three, two) (record { end = k.end; ends = k.ends; parts = ap (λ (t : List ℕ). x ∷ t) k.parts })
]

pub whole_rest : (b : List ℕ) (n : ℕ) → take (length b - n) (drop n b) ≡ drop n b
whole_rest b n = take_all (length b - n) (drop n b) (omega (arith, length-drop n b))

-- what holds no terminator
none_any : (t : List ℕ) → list_all (λ x. not (is_end x)) t ≡ true → IsPiece t
none_any [] h = refl
none_any (x ∷ xs) h =
    let r = and_parts (not (is_end x)) (list_all (λ y. not (is_end y)) xs) h in
    let e : is_end x ≡ false = not-true (is_end x) r.0 in
    rw (e, none_any xs r.1) refl

pub first_piece : (b : List ℕ) (n : ℕ) → n ≡ prefix_len (λ x. not (is_end x)) b → IsPiece (take n b)
first_piece b n e = rw e (none_any (take (prefix_len (λ x. not (is_end x)) b) b) (all_front (λ x. not (is_end x)) b))

pub only_piece : (b : List ℕ) → length b ≤ prefix_len (λ x. not (is_end x)) b → IsPiece b
only_piece b h =
    let whole : take (prefix_len (λ x. not (is_end x)) b) b ≡ b = take_all (prefix_len (λ x. not (is_end x)) b) b h in
    rw whole at (first_piece b (prefix_len (λ x. not (is_end x)) b) refl)

-- each piece holds none
abbrev pub AllPieces : List (List ℕ) → Type 0
AllPieces [] = Unit {0}
AllPieces (p ∷ ps) = IsPiece p × AllPieces ps

onto_whole : (x : ℕ) (ended : List (List ℕ)) (rest : List ℕ) → is_end x ≡ false → AllPieces ended × IsPiece rest
    → AllPieces (onto_first x ended rest).ended × IsPiece (onto_first x ended rest).open_
onto_whole x [] rest e h = (tt, rw e h.1)
onto_whole x (p ∷ ps) rest e h = ((rw e h.0.0, h.0.1), h.1)

pub pieces_whole : (b : List ℕ) → AllPieces (pieces b).ended × IsPiece (pieces b).open_
unfolding pieces
pieces_whole [] = (tt, refl)
pieces_whole (x ∷ xs) = elim (cases_Bool (is_end x)) [
  | inl e ↦ rw e ((refl, (pieces_whole xs).0), (pieces_whole xs).1)
  | inr e ↦ rw e (onto_whole x (pieces xs).ended (pieces xs).open_ e (pieces_whole xs))
]

pub all_pieces-push : (ps : List (List ℕ)) (p : List ℕ) → AllPieces ps → IsPiece p → AllPieces (ps ++ p ∷ [])
all_pieces-push [] p h k = (k, tt)
all_pieces-push (x ∷ xs) p h k = (h.0, all_pieces-push xs p h.1 k)

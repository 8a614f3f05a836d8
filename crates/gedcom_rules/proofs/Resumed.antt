-- A line that has not ended goes on: what more bytes make of it, with the byte order mark taken off at the start of a
-- file.
use Rattle.std.proofs.Common.{
  ◌≡◌,
  ℕ,
  ◌+◌,
  ◌≤◌,
  Bool,
  true,
  false,
  eqb,
  List,
  [],
  ◌∷◌,
  ◌++◌,
  length,
  length-append,
  append_assoc,
  refl,
  sym,
  ap,
  ◌∙◌,
  inl,
  inr,
  arith,
}
use Rattle.std.specs.List.{list_any}
use Rattle.std.proofs.lemmas.Bool.{or_parts, cases_Bool}
use Rattle.gedcom_line.specs.Words.{is_end}
use Rattle.gedcom_line.specs.Line.{IsPiece}
use Rattle.gedcom_rules.specs.Pieces.{pieces, skip_mark, from_start, IsCut}
use Rattle.gedcom_rules.proofs.Marks.{is_mark, resumed, skip_end, skip_ge}

pub resumed_is : (total : ℕ) (rest c : List ℕ) → resumed total rest c ≡ from_start (eqb total (length rest)) (rest ++ c)
resumed_is total rest c = elim (cases_Bool (eqb total (length rest))) [ inl h ↦ rw h refl | inr h ↦ rw h refl ]

-- bytes that no terminator ends
pub piece-append : (p q : List ℕ) → IsPiece p → IsPiece q → IsPiece (p ++ q)
piece-append [] q h k = k
piece-append (x ∷ xs) q h k = let n = or_parts (is_end x) (list_any is_end xs) h in
    rw (n.0, piece-append xs q n.1 k) refl

skip_piece : (b : List ℕ) → IsPiece b → IsPiece (skip_mark b)
skip_piece [] h = h
skip_piece (x ∷ []) h = h
skip_piece (x ∷ y ∷ []) h = h
skip_piece (x ∷ y ∷ z ∷ bs) h = elim (cases_Bool (is_mark x y z)) [
  | inl m ↦ rw m (or_parts (is_end z) (list_any is_end bs)
      (or_parts (is_end y) (list_any is_end (z ∷ bs)) (or_parts (is_end x) (list_any is_end (y ∷ z ∷ bs)) h).1).1).1
  | inr m ↦ rw m h
]

pub start_piece : (s : Bool) (b : List ℕ) → IsPiece b → IsPiece (from_start s b)
start_piece true b h = skip_piece b h
start_piece false b h = h

pub piece_open : (b : List ℕ) → IsPiece b → ((pieces b).ended ≡ []) × ((pieces b).open_ ≡ b)
unfolding pieces
piece_open [] h = (refl, refl)
piece_open (x ∷ xs) h =
    let n = or_parts (is_end x) (list_any is_end xs) h in
    let k = piece_open xs n.1 in
    rw (n.0, k.0, k.1) (refl, refl)

-- and that one ends
piece_ended : (p t : List ℕ) (e : ℕ) → IsPiece p → is_end e ≡ true
    → ((pieces (p ++ e ∷ t)).ended ≡ p ∷ (pieces t).ended) × ((pieces (p ++ e ∷ t)).open_ ≡ (pieces t).open_)
unfolding pieces
piece_ended [] t e h k = rw k (refl, refl)
piece_ended (x ∷ xs) t e h k =
    let n = or_parts (is_end x) (list_any is_end xs) h in
    let r = piece_ended xs t e n.1 k in
    rw (n.0, r.0, r.1) (refl, refl)

start_end : (s : Bool) (p t : List ℕ) (e : ℕ) → is_end e ≡ true → from_start s (p ++ e ∷ t) ≡ from_start s p ++ e ∷ t
start_end true p t e h = skip_end p t e h
start_end false p t e h = refl

-- the first piece of what goes on is what was open with the first piece of the rest
pub resumed_first : (s : Bool) (o b p rest : List ℕ) → IsPiece o → IsPiece p → IsCut b p rest
    → ((pieces (from_start s (o ++ b))).ended ≡ from_start s (o ++ p) ∷ (pieces rest).ended)
    × ((pieces (from_start s (o ++ b))).open_ ≡ (pieces rest).open_)
resumed_first s o b p rest w v c =
    let whole : o ++ b ≡ (o ++ p) ++ c.end ∷ rest = ap (λ (x : List ℕ). o ++ x) c.parts
    ∙ sym (append_assoc o p (c.end ∷ rest)) in
    let from : from_start s (o ++ b) ≡ from_start s (o ++ p) ++ c.end ∷ rest = ap (from_start s) whole
    ∙ start_end s (o ++ p) rest c.end c.ends in
    rw from (piece_ended (from_start s (o ++ p)) rest c.end (start_piece s (o ++ p) (piece-append o p w v)) c.ends)

-- no more than a mark is taken off
pub start_ge : (s : Bool) (b : List ℕ) → length b ≤ length (from_start s b) + 3
start_ge true b = skip_ge b
start_ge false b = omega arith

pub start_joined : (s : Bool) (o c : List ℕ) → length o + length c ≤ length (from_start s (o ++ c)) + 3
start_joined s o c = omega (arith, start_ge s (o ++ c), length-append o c)

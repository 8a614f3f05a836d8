-- A piece with each of its bytes as a character is a piece.
use Rattle.std.proofs.Common.{
  ◌≡◌,
  ℕ,
  suc,
  ◌<◌,
  ◌≤◌,
  false,
  List,
  [],
  ◌∷◌,
  encode_utf8_all,
  get_or,
  length,
  refl,
  sym,
  ap,
  ◌∙◌,
  arith,
  inl,
  inr,
  append-nil,
}
use Rattle.std.specs.Char.{encode_utf8}
use Rattle.std.specs.List.{list_any}
use Rattle.std.proofs.lemmas.Bool.{or_parts, cases_lt}
use Rattle.std.proofs.lemmas.Str.{inside_one}
use Rattle.gedcom_line.specs.Line.{IsPiece}
use Rattle.gedcom_line.specs.Words.{is_end}
use Rattle.gedcom_line.proofs.Steps.{eqb_false}
use Rattle.gedcom_rules.proofs.Resumed.{piece-append}

high_end : (x : ℕ) → 128 ≤ x → is_end x ≡ false
high_end x h =
    rw (eqb_false x 10 (λ e. absurd (omega (arith, h, e))), eqb_false x 13 (λ e. absurd (omega (arith, h, e)))) refl

none_at : (xs : List ℕ) → ((i : ℕ) → i < length xs → is_end (get_or xs i 0) ≡ false) → IsPiece xs
none_at [] h = refl
none_at (x ∷ xs) h = rw (h 0 (omega arith), none_at xs (λ i lt. h (suc i) (omega (arith, lt)))) refl

char_piece : (c : ℕ) → is_end c ≡ false → IsPiece (encode_utf8 c)
char_piece c h = none_at (encode_utf8 c) (λ i lt. elim (cases_lt (get_or (encode_utf8 c) i 0) 128) [
  | inl low ↦ ap is_end (sym (inside_one c [] (encode_utf8 c) i (sym (append-nil (encode_utf8 c))) lt low)) ∙ h
  | inr high ↦ high_end (get_or (encode_utf8 c) i 0) high
])

pub spread_piece : (p : List ℕ) → IsPiece p → IsPiece (encode_utf8_all p)
spread_piece [] h = refl
spread_piece (c ∷ cs) h =
    let n = or_parts (is_end c) (list_any is_end cs) h in
    piece-append (encode_utf8 c) (encode_utf8_all cs) (char_piece c n.0) (spread_piece cs n.1)

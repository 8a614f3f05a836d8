-- Bytes of a text, but for its length: short ones of ASCII, and parts of others.
use Rattle.std.proofs.Common.{
  ◌≡◌,
  ℕ,
  ◌+◌,
  ◌<◌,
  ◌≤◌,
  ◌==◌,
  Bool,
  true,
  false,
  not,
  List,
  [],
  ◌∷◌,
  ◌++◌,
  length,
  get_or,
  refl,
  sym,
  ◌∙◌,
  subst,
  arith,
  length-append,
}
use Rattle.std.specs.Prelude.{◌&&◌, ◌||◌, nat_lt}
use Rattle.std.specs.List.{list_all, list_any}
use Rattle.std.specs.Str.{IsUtf8, IsAscii, IsCharBoundary}
use Rattle.std.proofs.Math.Seq.{drop-append_seam, get_or-append_seam, take-append_seam}
use Rattle.std.proofs.lemmas.Bool.{and_parts, or_parts}
use Rattle.std.proofs.lemmas.Bool.Decides.{nat_tests}
use Rattle.std.proofs.lemmas.List.Folds.{list_all-append, list_any-append}
use Rattle.std.proofs.lemmas.Str.Ascii.{IsAscii-cons, IsAscii-nil}
use Rattle.std.proofs.lemmas.Str.{
  IsCharBoundary-before_ascii,
  IsUtf8-append,
  IsUtf8-drop,
  IsUtf8-from_ascii,
  IsUtf8-take,
}
use Rattle.record_text.specs.Text.{IsText}

-- ASCII without U+0000 and CR
abbrev pub is_plain : ℕ → Bool
is_plain b = nat_lt b 128 && (not (b == 0) && not (b == 13))

-- such bytes, of at most that many
pub record IsShortText (n : ℕ) (t : List ℕ) : Type 0 where
  pub bytes : list_all is_plain t ≡ true
  pub short : length t ≤ n

pub short_both : (n m k : ℕ) → n + m ≤ k → (a b : List ℕ) → IsShortText n a → IsShortText m b → IsShortText k (a ++ b)
short_both n m k fits a b h g =
    let one : length a ≤ n = h.short in
    let two : length b ≤ m = g.short in
    let size : length (a ++ b) ≡ length a + length b = length-append a b in
    record { bytes = list_all-append is_plain a b ∙ (λ i. h.bytes i && g.bytes i); short = omega arith }

-- after a space
pub short_space : (n k : ℕ) → n + 1 ≤ k → (b : List ℕ) → IsShortText n b → IsShortText k (32 ∷ b)
short_space n k fits b h = let two : length b ≤ n = h.short in record { bytes = h.bytes; short = omega arith }

pub record ArePlain (t : List ℕ) : Type 0 where
  pub ascii : IsAscii t
  pub no_nul : list_any (λ b. b == 0) t ≡ false
  pub no_cr : list_any (λ b. b == 13) t ≡ false

plain_byte : (b : ℕ) → is_plain b ≡ true → (b < 128) × (((b == 0) ≡ false) × ((b == 13) ≡ false))
plain_byte b h =
    let x = and_parts (nat_lt b 128) (not (b == 0) && not (b == 13)) h in
    let y = and_parts (not (b == 0)) (not (b == 13)) x.1 in
    (grind (arith, nat_tests), (not_true (b == 0) y.0, not_true (b == 13) y.1))
  where
    not_true : (x : Bool) → not x ≡ true → x ≡ false
    not_true true e = absurd cc
    not_true false e = refl

plain_are : (t : List ℕ) → list_all is_plain t ≡ true → ArePlain t
plain_are [] h = record { ascii = IsAscii-nil; no_nul = refl; no_cr = refl }
plain_are (b ∷ bs) h =
    let x = and_parts (is_plain b) (list_all is_plain bs) h in
    let one = plain_byte b x.0 in
    let rest = plain_are bs x.1 in
    record {
      ascii = IsAscii-cons b bs one.0 rest.ascii;
      no_nul = λ i. one.1.0 i || rest.no_nul i;
      no_cr = λ i. one.1.1 i || rest.no_cr i;
    }

pub short_is_text : (n : ℕ) → n ≤ 1048576 → (t : List ℕ) → IsShortText n t → IsText t
short_is_text n less t h =
    let plain = plain_are t h.bytes in
    let short : length t ≤ n = h.short in
    record {
      utf8 = IsUtf8-from_ascii t plain.ascii;
      no_nul = plain.no_nul;
      no_cr = plain.no_cr;
      short = omega arith;
    }

-- ---- parts of texts
-- UTF-8 without U+0000 and CR
pub record IsClean (t : List ℕ) : Type 0 where
  pub utf8 : IsUtf8 t
  pub no_nul : list_any (λ b. b == 0) t ≡ false
  pub no_cr : list_any (λ b. b == 13) t ≡ false

pub clean_both : (a b : List ℕ) → IsClean a → IsClean b → IsClean (a ++ b)
clean_both a b h g = record {
  utf8 = IsUtf8-append a b h.utf8 g.utf8;
  no_nul = list_any-append (λ x. x == 0) a b ∙ (λ i. h.no_nul i || g.no_nul i);
  no_cr = list_any-append (λ x. x == 13) a b ∙ (λ i. h.no_cr i || g.no_cr i);
}

pub clean_short : (n : ℕ) (t : List ℕ) → IsShortText n t → IsClean t
clean_short n t h = let plain = plain_are t h.bytes in
    record { utf8 = IsUtf8-from_ascii t plain.ascii; no_nul = plain.no_nul; no_cr = plain.no_cr }

-- in front of an ASCII character, and from it on
pub clean_front : (a b : List ℕ) (c : ℕ) → c < 128 → IsClean (a ++ c ∷ b) → IsClean a × IsClean (c ∷ b)
clean_front a b c low h =
    let whole : List ℕ = a ++ c ∷ b in
    let at : get_or whole (length a) 0 ≡ c = get_or-append_seam a c b 0 in
    let size : length whole ≡ length a + length (c ∷ b) = length-append a (c ∷ b) in
    let cut : IsCharBoundary whole (length a) = IsCharBoundary-before_ascii whole (length a)
    (omega (arith, size)) (omega (arith, at)) in
    let nul = or_parts (list_any (λ x. x == 0) a) (list_any (λ x. x == 0) (c ∷ b))
    (sym (list_any-append (λ x. x == 0) a (c ∷ b)) ∙ h.no_nul) in
    let cr = or_parts (list_any (λ x. x == 13) a) (list_any (λ x. x == 13) (c ∷ b))
    (sym (list_any-append (λ x. x == 13) a (c ∷ b)) ∙ h.no_cr) in (
      record {
        utf8 = subst IsUtf8 (take-append_seam a (c ∷ b)) (IsUtf8-take whole (length a) h.utf8 cut);
        no_nul = nul.0;
        no_cr = cr.0;
      },
      record {
        utf8 = subst IsUtf8 (drop-append_seam a (c ∷ b)) (IsUtf8-drop whole (length a) h.utf8 cut);
        no_nul = nul.1;
        no_cr = cr.1;
      },
    )

pub text_clean : (t : List ℕ) → IsText t → IsClean t
text_clean t h = record { utf8 = h.utf8; no_nul = h.no_nul; no_cr = h.no_cr }

pub clean_text : (t : List ℕ) → IsClean t → length t ≤ 1048576 → IsText t
clean_text t h short = record { utf8 = h.utf8; no_nul = h.no_nul; no_cr = h.no_cr; short = short }

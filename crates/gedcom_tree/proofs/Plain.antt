-- A text that stands on one line as it is.
use Rattle.std.proofs.Common.{◌≡◌, ℕ, ◌≤◌, Bool, true, false, eqb, List, [], ◌∷◌, length, refl, sym, ap, ◌∙◌, arith}
use Rattle.std.specs.List.{list_any, slice_split}
use Rattle.std.proofs.lemmas.Bool.{le-leb, or_parts}
use Rattle.gedcom_line.specs.Escape.{escaped_from, escaped, unescaped}
use Rattle.gedcom_line.specs.Split.{char_count, is_short, is_lf, segment_parts, canonical}
use Rattle.gedcom_line.specs.declared.splitting.Mark.TheVariants.{Cont}
use Rattle.gedcom_line.proofs.Counts.{few_bytes, char_count-le-length}
use Rattle.gedcom_line.proofs.Cuts.{parts_short}

-- without an @ a text is written as it is
pub escaped_plain : (inside : Bool) (t : List ℕ) → list_any (λ b. eqb b 64) t ≡ false → escaped_from inside t ≡ t
escaped_plain inside [] h = refl
escaped_plain inside (b ∷ bs) h =
    let n = or_parts (eqb b 64) (list_any (λ x. eqb x 64) bs) h in
    rw n.0 (ap (λ (x : List ℕ). b ∷ x) (escaped_plain inside bs n.1))

-- and read as it is
pub unescaped_plain : (t : List ℕ) → list_any (λ b. eqb b 64) t ≡ false → unescaped t ≡ t
unescaped_plain [] h = refl
unescaped_plain (b ∷ []) h = refl
unescaped_plain (b ∷ c ∷ cs) h =
    let n = or_parts (eqb b 64) (list_any (λ x. eqb x 64) (c ∷ cs)) h in
    rw n.0 (ap (λ (x : List ℕ). b ∷ x) (unescaped_plain (c ∷ cs) n.1))

-- without an LF, and of few bytes, it is one part
unsplit : (t : List ℕ) → list_any is_lf t ≡ false → slice_split is_lf t ≡ t ∷ []
unsplit [] h = refl
unsplit (b ∷ bs) h =
    let n = or_parts (is_lf b) (list_any is_lf bs) h in
    rw (n.0, unsplit bs n.1) refl

pub few_short : (t : List ℕ) → length t ≤ 100 → is_short t ≡ true
few_short t h = sym (few_bytes t h) ∙ le-leb (length t) 100 h

pub plain_short : (t : List ℕ) → length t ≤ 200 → list_any (λ b. eqb b 64) t ≡ false → is_short t ≡ true
plain_short t h k =
    let same : char_count (escaped t) ≡ char_count t = ap char_count (escaped_plain false t k) in
    le-leb (char_count (escaped t)) 200 (omega (arith, same, char_count-le-length t, h))

pub canonical_one : (t : List ℕ) → is_short t ≡ true → list_any is_lf t ≡ false
    → canonical t ≡ record { mark = Cont; text = t } ∷ []
unfolding canonical segment_parts
canonical_one t h k = rw (unsplit t k, parts_short (length t) t h) refl

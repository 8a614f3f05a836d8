-- Texts on one line, and read of it again.
use Rattle.std.proofs.Common.{
  ◌≡◌,
  ◌==◌,
  ◌||◌,
  ◌∙◌,
  ◌++◌,
  ◌∷◌,
  [],
  List,
  Option,
  Some,
  None,
  IfSome,
  ap,
  false,
  if◌then◌else◌,
  option_map,
  refl,
  sym,
  true,
  ℕ,
}
use Rattle.std.specs.List.{list_any, list_all}
use Rattle.std.proofs.lemmas.Bool.{and_parts}
use Rattle.list_laws.proofs.Booleans.{or_first, or_second, or_none, true_not_false}
use Rattle.list_laws.proofs.Numbers.{it, same_self}
use Rattle.record_text.specs.Text.{IsTag, IsText, is_word}
use Rattle.record_text.specs.Words.{replaced}
use Rattle.packed_rows.specs.Packed.{on_one_line}
use Rattle.packed_rows.specs.Pieces.{Lacks}

-- a character that is replaced by one that a text has not is put back
pub put_back : (c d : ℕ) (t : List ℕ) → Lacks d t → replaced d (c ∷ []) (replaced c (d ∷ []) t) ≡ t
put_back c d [] h = refl
put_back c d (b ∷ t) h =
    let more : replaced d (c ∷ []) (replaced c (d ∷ []) t) ≡ t
    = put_back c d t (or_second (b == d) (list_any (λ z. z == d) t) h) in
    elim (b == c) as (λ v. (b == c) ≡ v → replaced d (c ∷ [])
    (if v then (d ∷ []) ++ replaced c (d ∷ []) t else b ∷ replaced c (d ∷ []) t) ≡ b ∷ t) [
      | true ↦ λ e. rw (same_self d) (ap (λ z. z ∷ replaced d (c ∷ []) (replaced c (d ∷ []) t)) (sym (it b c e))
          ∙ ap (λ l. b ∷ l) more)
      | false ↦ λ e. rw (or_first (b == d) (list_any (λ z. z == d) t) h) (ap (λ l. b ∷ l) more)
    ] refl

-- a text on one line has no LF
pub one_line_lacks : (t : List ℕ) → Lacks 10 (on_one_line t)
one_line_lacks [] = refl
one_line_lacks (b ∷ t) =
    elim (b == 10) as (λ v. (b == 10) ≡ v → list_any (λ z. z == 10)
    (if v then (13 ∷ []) ++ on_one_line t else b ∷ on_one_line t) ≡ false) [
      | true ↦ λ e. one_line_lacks t
      | false ↦ λ e. or_none (b == 10) (list_any (λ z. z == 10) (on_one_line t)) e (one_line_lacks t)
    ] refl

pub words_lack : (t : Option (List ℕ)) → IfSome (option_map on_one_line t) (Lacks 10)
words_lack None = tt
words_lack (Some t) = one_line_lacks t

pub text_same : (t u : List ℕ) → IsText t → IsText u → on_one_line t ≡ on_one_line u → t ≡ u
text_same t u ht hu e = sym (put_back 10 13 t ht.no_cr) ∙ (ap (replaced 13 (10 ∷ [])) e ∙ put_back 10 13 u hu.no_cr)

pub texts_same : (t u : Option (List ℕ)) → IfSome t IsText → IfSome u IsText
    → option_map on_one_line t ≡ option_map on_one_line u → t ≡ u
texts_same None None ht hu e = refl
texts_same None (Some u) ht hu e = absurd cc
texts_same (Some t) None ht hu e = absurd cc
texts_same (Some t) (Some u) ht hu e =
    let same : on_one_line t ≡ on_one_line u = cc in ap (λ x. Some x) (text_same t u ht hu same)

-- a tag has no character but letters, digits and underscores
words_alone : (s : ℕ) → is_word s ≡ false → (t : List ℕ) → list_all is_word t ≡ true → Lacks s t
words_alone s off [] h = refl
words_alone s off (x ∷ t) h =
    let parts = and_parts (is_word x) (list_all is_word t) h in
    elim (x == s) as (λ v. (x == s) ≡ v → (v || list_any (λ z. z == s) t) ≡ false) [
      | true ↦ λ e. absurd (true_not_false (sym parts.0 ∙ (ap is_word (it x s e) ∙ off)))
      | false ↦ λ e. words_alone s off t parts.1
    ] refl

pub tag_lacks : (s : ℕ) → is_word s ≡ false → (t : List ℕ) → IsTag t → Lacks s t
tag_lacks s off t h = words_alone s off t h.words

-- A hasher that is fed a text in parts.
use Rattle.std.proofs.Common.{◌≡◌, ℕ, List, [], ◌∷◌, ◌++◌, refl, sym, ap, ◌∙◌, subst, arith, append_assoc, append-nil}
use Rattle.std.proofs.lemmas.Fmt.{decimal_digit}
use Rattle.sha2.specs.Hashers.{Holds256}
use Rattle.sha2.specs.declared.Sha256.{Sha256}
use Rattle.gedcom_line.specs.Spelling.{spelling}
use Rattle.gedcom_tree.specs.Text.{line_text, trailer}

-- what the hasher held at first, it holds with a front of the text after it, and rest is what follows
pub record Feeds (old new : Sha256) (rest whole : List ℕ) : Type 0 where
  pub front : List ℕ
  pub parts : front ++ rest ≡ whole
  pub holds : (m : List ℕ) → Holds256 old m → Holds256 new (m ++ front)

pub feeds_more : (s t u : Sha256) (rest more left whole : List ℕ) → Feeds s t rest whole → rest ≡ more ++ left
    → ((m : List ℕ) → Holds256 t m → Holds256 u (m ++ more)) → Feeds s u left whole
feeds_more s t u rest more left whole f e h = record {
  front = f.front ++ more;
  parts = append_assoc f.front more left ∙ ap (λ (x : List ℕ). f.front ++ x) (sym e) ∙ f.parts;
  holds = λ m k. subst (Holds256 u) (append_assoc m f.front more) (h (m ++ f.front) (f.holds m k));
}

-- nothing is left
pub feeds_all : (s t : Sha256) (rest whole : List ℕ) → Feeds s t rest whole → rest ≡ []
    → (m : List ℕ) → Holds256 s m → Holds256 t (m ++ whole)
feeds_all s t rest whole f e m h =
    let all : f.front ≡ whole = sym (append-nil f.front) ∙ ap (λ (x : List ℕ). f.front ++ x) (sym e) ∙ f.parts in
    subst (λ (x : List ℕ). Holds256 t (m ++ x)) all (f.holds m h)

pub trailer_is : line_text trailer ≡ 48 ∷ 32 ∷ 84 ∷ 82 ∷ 76 ∷ 82 ∷ 10 ∷ []
unfolding spelling
trailer_is = rw (decimal_digit 0 (omega arith)) refl

-- the trailer is written after all others
pub written_last : (out rest whole : List ℕ) → out ++ rest ≡ whole → rest ≡ line_text trailer ++ []
    → out ++ 48 ∷ 32 ∷ 84 ∷ 82 ∷ 76 ∷ 82 ∷ 10 ∷ [] ≡ whole
written_last out rest whole e r =
    ap (λ (x : List ℕ). out ++ x) (sym trailer_is ∙ sym (append-nil (line_text trailer)) ∙ sym r) ∙ e

-- The route that a path takes is that of a row which the path fits.
use Rattle.std.proofs.Common.{
  ◌≡◌,
  ◌⊎◌,
  ℕ,
  ◌-◌,
  ◌<◌,
  List,
  [],
  ◌∷◌,
  length,
  Bool,
  true,
  false,
  cond,
  Option,
  Some,
  None,
  refl,
  ap,
  sym,
  inl,
  inr,
  arith,
  true≢false,
}
use Rattle.std.specs.Prelude.{◌==◌, zero, suc, is_some, unwrap_or, nat_lt}
use Rattle.std.specs.List.{list_all}
use Rattle.std.proofs.lemmas.Bool.{and_parts, eqb-true, ltb-true}
use Rattle.matchit.specs.Rows.{RowsOf, param_token, catch_all_token}
use Rattle.matchit.specs.Seek.{
  seek,
  param_step,
  own,
  has_slash,
  step,
  with_suffix,
  segment,
  same_text,
  or_else,
  after_param,
}

-- the path has these tokens, up to the first that stands for more than a byte
abbrev pub Fits : List ℕ → List ℕ → Type 0
Fits [] path = path ≡ []
Fits (x ∷ tokens) [] = ⊥
Fits (x ∷ tokens) (b ∷ path) = (x ≡ param_token) ⊎ (x ≡ catch_all_token) ⊎ ((x ≡ b) × Fits tokens path)

first_byte : (x : ℕ) (text : List ℕ) → list_all (λ b. nat_lt b 256) (x ∷ text) ≡ true → x < 256
first_byte x text bytes = ltb-true x 256 (and_parts _ _ bytes).0

-- a path that has the tokens of a text is the text
pub fits_text : (text path : List ℕ) → list_all (λ b. nat_lt b 256) text ≡ true → Fits text path → path ≡ text
fits_text [] path bytes fits = fits
fits_text (x ∷ text) [] bytes fits = absurd fits
fits_text (x ∷ text) (b ∷ path) bytes (inl e) =
    absurd (omega (arith, first_byte x text bytes, e))
fits_text (x ∷ text) (b ∷ path) bytes (inr (inl e)) =
    absurd (omega (arith, first_byte x text bytes, e))
fits_text (x ∷ text) (b ∷ path) bytes (inr (inr fits)) =
    (λ i. sym fits.0 i ∷ fits_text text path (and_parts _ _ bytes).1 fits.1 i)

none_is_some : {A : Type 0} (a : A) → None ≡ Some a → ⊥
none_is_some a e = true≢false (sym (ap is_some e))

module _ {K : Type 0} where
  -- the rows have one of these tokens and this key
  abbrev pub Has : RowsOf K → List ℕ → K → Type 0
  Has [] tokens key = ⊥
  Has (row ∷ rest) tokens key = ((row.0 ≡ tokens) × (row.1 ≡ key)) ⊎ Has rest tokens key

  abbrev HasKey : RowsOf K → K → Type 0
  HasKey rs key = (tokens : List ℕ) × Has rs tokens key

  has_own : (rs : RowsOf K) (key : K) → own rs ≡ Some key → Has rs [] key
  has_own [] key e = absurd (none_is_some key e)
  has_own (([], k) ∷ rest) key e = inl (refl, ap (λ o. unwrap_or o k) e)
  has_own ((x ∷ t, k) ∷ rest) key e = inr (has_own rest key e)

  has_either : (same : Bool) (k : K) (t : List ℕ) (rs : RowsOf K) (tokens : List ℕ) (key : K)
      → Has (cond same ((t, k) ∷ rs) rs) tokens key → ((same ≡ true) × (t ≡ tokens) × (k ≡ key)) ⊎ Has rs tokens key
  has_either true k t rs tokens key (inl h) = inl (refl, h.0, h.1)
  has_either true k t rs tokens key (inr h) = inr h
  has_either false k t rs tokens key h = inr h

  has_step : (b : ℕ) (rs : RowsOf K) (tokens : List ℕ) (key : K) → Has (step b rs) tokens key → Has rs (b ∷ tokens) key
  has_step b [] tokens key h = h
  has_step b (([], k) ∷ rest) tokens key h = inr (has_step b rest tokens key h)
  has_step b ((x ∷ t, k) ∷ rest) tokens key h =
      elim (has_either (x == b) k t (step b rest) tokens key h) [
        | inl w ↦ inl ((λ i. eqb-true x b w.0 i ∷ w.1 i), w.2)
        | inr w ↦ inr (has_step b rest tokens key w)
      ]

  has_suffix : (s : List ℕ) (rs : RowsOf K) (tokens : List ℕ) (key : K) → Has (with_suffix s rs) tokens key
      → Has rs tokens key
  has_suffix s [] tokens key h = h
  has_suffix s ((t, k) ∷ rest) tokens key h =
      elim (has_either (same_text (segment t) s) k t (with_suffix s rest) tokens key h) [
        | inl w ↦ inl (w.1, w.2)
        | inr w ↦ inr (has_suffix s rest tokens key w)
      ]

  -- the rows that a parameter goes on with
  chosen_rows : (long slash : Bool) (n m : ℕ) (s : List ℕ) (rs : RowsOf K) (key : K)
      → HasKey (cond long (n, with_suffix s rs) (cond {A = ℕ × RowsOf K} slash (0, []) (m, rs))).1 key → HasKey rs key
  chosen_rows true slash n m s rs key h = (h.0, has_suffix s rs h.0 key h.1)
  chosen_rows false true n m s rs key h = absurd h.1
  chosen_rows false false n m s rs key h = h

  has_param : (rs : RowsOf K) (path : List ℕ) (key : K) → HasKey (param_step rs path).1 key → HasKey rs key
  unfolding param_step
  has_param rs path key h = chosen_rows _ (has_slash path) _ (length path) _ rs key h

  either : (a b : Option K) (key : K) → or_else a b ≡ Some key → (a ≡ Some key) ⊎ (b ≡ Some key)
  either None b key e = inr e
  either (Some k) b key e = inl e

  -- the answer comes by this byte, by a parameter or by a catch-all
  ways : (rs : RowsOf K) (b : ℕ) (path : List ℕ) (key : K) → seek 0 rs (b ∷ path) ≡ Some key
      → (seek 0 (step b rs) path ≡ Some key) ⊎ (after_param (step param_token rs) (b ∷ path) ≡ Some key)
      ⊎ (own (step catch_all_token rs) ≡ Some key)
  unfolding seek
  ways rs b path key e =
      elim (either (seek 0 (step b rs) path)
      (or_else (after_param (step param_token rs) (b ∷ path)) (own (step catch_all_token rs))) key e) [
        | inl w ↦ inl w
        | inr w ↦ inr (either (after_param (step param_token rs) (b ∷ path)) (own (step catch_all_token rs)) key w)
      ]

  by_catch_all : (rs : RowsOf K) (key : K) → own (step catch_all_token rs) ≡ Some key
      → Has rs (catch_all_token ∷ []) key
  by_catch_all rs key e = has_step catch_all_token rs [] key (has_own (step catch_all_token rs) key e)

  key_of : (skip : ℕ) (rs : RowsOf K) (path : List ℕ) (key : K) → seek skip rs path ≡ Some key → HasKey rs key
  unfolding seek
  key_of skip rs [] key e = ([], has_own rs key e)
  key_of (suc skip) rs (b ∷ path) key e = key_of skip rs path key e
  key_of zero rs (b ∷ path) key e = elim (ways rs b path key e) [
    | inl w ↦ let h = key_of 0 (step b rs) path key w in (b ∷ h.0, has_step b rs h.0 key h.1)
    | inr (inl w) ↦
        let kept = param_step (step param_token rs) (b ∷ path) in
        let h = has_param (step param_token rs) (b ∷ path) key (key_of (kept.0 - 1) kept.1 path key w) in
        (param_token ∷ h.0, has_step param_token rs h.0 key h.1)
    | inr (inr w) ↦ (catch_all_token ∷ [], by_catch_all rs key w)
  ]

  pub row_of : (rs : RowsOf K) (path : List ℕ) (key : K) → seek 0 rs path ≡ Some key
      → (tokens : List ℕ) × Has rs tokens key × Fits tokens path
  unfolding seek
  row_of rs [] key e = ([], has_own rs key e, refl)
  row_of rs (b ∷ path) key e = elim (ways rs b path key e) [
    | inl w ↦ let h = row_of (step b rs) path key w in (b ∷ h.0, has_step b rs h.0 key h.1, inr (inr (refl, h.2)))
    | inr (inl w) ↦
        let kept = param_step (step param_token rs) (b ∷ path) in
        let h = has_param (step param_token rs) (b ∷ path) key (key_of (kept.0 - 1) kept.1 path key w) in
        (param_token ∷ h.0, has_step param_token rs h.0 key h.1, inl refl)
    | inr (inr w) ↦ (catch_all_token ∷ [], by_catch_all rs key w, inr (inl refl))
  ]

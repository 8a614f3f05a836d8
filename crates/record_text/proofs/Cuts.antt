-- What a text's first cut at a character says of its parts, its words and its replacements.
use Rattle.std.proofs.Common.{
  ◌≡◌,
  ◌≢◌,
  ℕ,
  suc,
  ◌<◌,
  false,
  true,
  eqb,
  List,
  [],
  ◌∷◌,
  ◌++◌,
  length,
  get_or,
  refl,
  ap,
  sym,
  ◌∙◌,
  arith,
  append_assoc,
}
use Rattle.std.specs.List.{slice_split, All}
use Rattle.std.proofs.lemmas.List.{append-nil}
use Rattle.std.proofs.lemmas.List.Splits.{slice_split_at, slice_split_none, length-slice_split}
use Rattle.std.proofs.lemmas.List.Elements.{All-from_get_or}
use Rattle.std.proofs.lemmas.Bool.Decides.{nat_tests}
use Rattle.record_text.specs.Words.{words, filled, Without, replaced}
use Rattle.record_text.specs.Naming.{surname_of, enclosed, is_slash}

differs : (b c : ℕ) → b ≢ c → eqb b c ≡ false
differs b c h = grind (arith, nat_tests)

same : (c : ℕ) → eqb c c ≡ true
same c = grind (arith, nat_tests)

-- no character of it is c
passes_none : (c : ℕ) (xs : List ℕ) → Without c xs → All (λ x. eqb x c ≡ false) xs
passes_none c xs none = All-from_get_or (λ x. eqb x c ≡ false) xs 0 (λ i h. differs (get_or xs i 0) c (none i h))

-- the parts of a text without c, and of one with it
split_whole : (c : ℕ) (xs : List ℕ) → Without c xs → slice_split (λ b. eqb b c) xs ≡ xs ∷ []
split_whole c xs none = slice_split_none (λ b. eqb b c) xs (passes_none c xs none)

split_cut : (c : ℕ) (xs ys : List ℕ) → Without c xs → slice_split (λ b. eqb b c) (xs ++ c ∷ ys)
    ≡ xs ∷ slice_split (λ b. eqb b c) ys
split_cut c xs ys none = slice_split_at (λ b. eqb b c) xs c ys (passes_none c xs none) (same c)

-- an empty part before a space
pub cut_empty : (rest word after : List ℕ) → rest ≡ word ++ 32 ∷ after → Without 32 word → length word ≡ 0
    → words rest ≡ words after
unfolding words
cut_empty rest [] after e none len = rw e refl
cut_empty rest (b ∷ bs) after e none len = absurd (omega arith)

-- a word before a space
pub cut_word : (rest word after : List ℕ) → rest ≡ word ++ 32 ∷ after → Without 32 word → 0 < length word
    → words rest ≡ word ∷ words after
unfolding words
cut_word rest [] after e none len = absurd (omega arith)
cut_word rest (b ∷ bs) after e none len = ap words e ∙ ap filled (split_cut 32 (b ∷ bs) after none)

-- nothing
pub whole_empty : (rest : List ℕ) → length rest ≡ 0 → words rest ≡ []
unfolding words
whole_empty [] len = refl
whole_empty (b ∷ bs) len = absurd (omega arith)

-- one word
pub whole_word : (rest : List ℕ) → Without 32 rest → 0 < length rest → words rest ≡ rest ∷ words []
unfolding words
whole_word [] none len = absurd (omega arith)
whole_word (b ∷ bs) none len = ap filled (split_whole 32 (b ∷ bs) none)

-- no slash, one slash, and two
pub no_slash : (name : List ℕ) → Without 47 name → surname_of name ≡ []
unfolding surname_of
no_slash name none = ap enclosed (split_whole 47 name none)

pub one_slash : (name front rest : List ℕ) → name ≡ front ++ 47 ∷ rest → Without 47 front → Without 47 rest
    → surname_of name ≡ []
unfolding surname_of
one_slash name front rest e none more = ap surname_of e ∙ ap enclosed (split_cut 47 front rest none)
    ∙ ap (λ (ps : List (List ℕ)). enclosed (front ∷ ps)) (split_whole 47 rest more)

enclosed_second : (front found : List ℕ) (parts : List (List ℕ)) → 0 < length parts
    → enclosed (front ∷ found ∷ parts) ≡ found
enclosed_second front found [] some = absurd (omega arith)
enclosed_second front found (p ∷ ps) some = refl

pub two_slashes : (name front rest found back : List ℕ) → name ≡ front ++ 47 ∷ rest → Without 47 front
    → rest ≡ found ++ 47 ∷ back → Without 47 found → surname_of name ≡ found
unfolding surname_of
two_slashes name front rest found back e none f more =
    ap surname_of e ∙ ap enclosed (split_cut 47 front rest none)
    ∙ ap (λ (t : List ℕ). enclosed (front ∷ slice_split is_slash t)) f
    ∙ ap (λ (ps : List (List ℕ)). enclosed (front ∷ ps)) (split_cut 47 found back more)
    ∙ enclosed_second front found (slice_split is_slash back) (omega (arith, length-slice_split is_slash back))

tail_without : (c b : ℕ) (bs : List ℕ) → Without c (b ∷ bs) → Without c bs
tail_without c b bs h = λ i lt. h (suc i) (omega arith)

replaced_skip : (c : ℕ) (by front after : List ℕ) → Without c front → replaced c by (front ++ after)
    ≡ front ++ replaced c by after
replaced_skip c by [] after h = refl
replaced_skip c by (b ∷ bs) after h = rw (
  differs b c (h 0 (omega arith)),
  replaced_skip c by bs after (tail_without c b bs h),
) refl

replaced_at : (c : ℕ) (by after : List ℕ) → replaced c by (c ∷ after) ≡ by ++ replaced c by after
replaced_at c by after = rw (same c) refl

-- one turn: the front, what stands in place of c, and what is left
pub turn : (c : ℕ) (by out front after rest whole : List ℕ) → rest ≡ front ++ c ∷ after → Without c front
    → out ++ replaced c by rest ≡ whole → ((out ++ front) ++ by) ++ replaced c by after ≡ whole
turn c by out front after rest whole parts none so_far =
    let e : replaced c by rest ≡ front ++ (by ++ replaced c by after) = ap (replaced c by) parts
    ∙ replaced_skip c by front (c ∷ after) none ∙ ap (λ (x : List ℕ). front ++ x) (replaced_at c by after) in
    append_assoc (out ++ front) by (replaced c by after) ∙ append_assoc out front (by ++ replaced c by after)
    ∙ ap (λ (x : List ℕ). out ++ x) (sym e) ∙ so_far

-- the last one
pub last_turn : (c : ℕ) (by out rest whole : List ℕ) → Without c rest → out ++ replaced c by rest ≡ whole
    → out ++ rest ≡ whole
last_turn c by out rest whole none so_far =
    let e : replaced c by rest ≡ rest = ap (replaced c by) (sym (append-nil rest)) ∙ replaced_skip c by rest [] none
    ∙ append-nil rest in
    ap (λ (x : List ℕ). out ++ x) (sym e) ∙ so_far

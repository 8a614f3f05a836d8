-- The lines in front of the trailer.
use Rattle.std.proofs.Common.{◌≡◌, true, false, cond, not, List, [], ◌∷◌, ◌++◌, refl, ap, ◌∙◌, inl, inr}
use Rattle.std.specs.List.{list_any, prefix_len}
use Rattle.std.proofs.Math.Numerals.{one-add}
use Rattle.std.proofs.lemmas.Bool.{or_parts, cases_Bool}
use Rattle.gedcom_line.specs.Reading.{Parts}
use Rattle.gedcom_rules.specs.Rules.{is_trailer}
use Rattle.gedcom_tree.specs.File.{untrailed}

pub untrailed_cons : (l : Parts) (ls : List Parts) → is_trailer l ≡ false → untrailed (l ∷ ls) ≡ l ∷ untrailed ls
untrailed_cons l ls h = rw (h, one-add (prefix_len (λ m. not (is_trailer m)) ls)) refl

pub untrailed_trailer : (l : Parts) (ls : List Parts) → is_trailer l ≡ true → untrailed (l ∷ ls) ≡ []
untrailed_trailer l ls h = rw h refl

pub untrailed_all : (ls : List Parts) → list_any is_trailer ls ≡ false → untrailed ls ≡ ls
untrailed_all [] h = refl
untrailed_all (l ∷ ls) h =
    let n = or_parts (is_trailer l) (list_any is_trailer ls) h in
    untrailed_cons l ls n.0 ∙ ap (λ (x : List Parts). l ∷ x) (untrailed_all ls n.1)

pub untrailed-push : (ls : List Parts) (l : Parts) → list_any is_trailer ls ≡ false
    → untrailed (ls ++ l ∷ []) ≡ ls ++ cond (is_trailer l) [] (l ∷ [])
untrailed-push [] l h = elim (cases_Bool (is_trailer l)) [
  | inl e ↦ untrailed_trailer l [] e ∙ rw e refl
  | inr e ↦ untrailed_cons l [] e ∙ rw e refl
]
untrailed-push (m ∷ ms) l h =
    let n = or_parts (is_trailer m) (list_any is_trailer ms) h in
    untrailed_cons m (ms ++ l ∷ []) n.0 ∙ ap (λ (x : List Parts). m ∷ x) (untrailed-push ms l n.1)

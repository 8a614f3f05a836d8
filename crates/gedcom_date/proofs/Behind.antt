-- What a phrase after words is.
use Rattle.std.proofs.Common.{
  ◌≡◌,
  ℕ,
  ◌<◌,
  ◌≤◌,
  ◌-◌,
  true,
  false,
  List,
  [],
  ◌∷◌,
  length,
  get_or,
  take,
  drop,
  Option,
  Some,
  None,
  option_map,
  codes,
  refl,
  sym,
  subst,
  ap,
  ◌∙◌,
  arith,
}
use Rattle.std.proofs.lemmas.List.{take_rest}
use Rattle.std.specs.Borrow.{Bor}
use Rattle.gedcom_date.specs.Words.{views}
use Rattle.calendar_days.specs.Told.{Told, Exists}
use Rattle.gedcom_date.specs.Form.{Form, InterpretedDate, PhraseAlone}
use Rattle.gedcom_date.specs.Reading.{reads, told_of, phrase_form}
use Rattle.gedcom_date.specs.Grammar.{IsGood, IsShort}

-- no words
pub empty_found : (ws : List (Bor (List ℕ))) (phrase : List ℕ) (f : Form) → length ws < 1 → (f ≡ PhraseAlone phrase)
    × IsShort f → (phrase_form (views ws) phrase ≡ Some f) × IsGood f
unfolding phrase_form
empty_found [] phrase f h is = (ap Some (sym is.0), subst IsGood (sym is.0) (subst IsShort is.0 is.1))
empty_found (b ∷ bs) phrase f h is = absurd (omega arith)

pub empty_every : (ws : List (Bor (List ℕ))) (phrase : List ℕ) (f : Form) → length ws < 1
    → phrase_form (views ws) phrase ≡ Some f → IsGood f → IsShort (PhraseAlone phrase)
unfolding phrase_form
empty_every [] phrase f h is good = let e : f ≡ PhraseAlone phrase = cc in subst IsGood e good
empty_every (b ∷ bs) phrase f h is good = absurd (omega arith)

-- INT and a date
int_cons : (b : Bor (List ℕ)) (bs : List (Bor (List ℕ))) (phrase : List ℕ) → reads b.now (codes "INT") ≡ true
    → phrase_form (views (b ∷ bs)) phrase ≡ option_map (λ d. InterpretedDate d phrase) (told_of (views bs))
unfolding phrase_form
int_cons b bs phrase h = rw h refl

pub int_found : (ws : List (Bor (List ℕ))) (default : Bor (List ℕ)) (phrase : List ℕ) (d : Told) (f : Form)
    → 1 ≤ length ws → reads (get_or ws 0 default).now (codes "INT") ≡ true
    → told_of (views (take (length ws - 1) (drop 1 ws))) ≡ Some d → f ≡ InterpretedDate d phrase
    → phrase_form (views ws) phrase ≡ Some f
int_found [] default phrase d f some h is e = absurd (omega arith)
int_found (b ∷ bs) default phrase d f some h is e =
    let k : told_of (views bs) ≡ Some d = ap (λ (l : List (Bor (List ℕ))). told_of (views l))
    (sym (take_rest (b ∷ bs) 1)) ∙ is in
    int_cons b bs phrase h ∙ ap (option_map (λ d. InterpretedDate d phrase)) k ∙ ap Some (sym e)

map_is : (phrase : List ℕ) (o : Option Told) (f : Form) → option_map (λ d. InterpretedDate d phrase) o ≡ Some f
    → (d : Told) × (o ≡ Some d) × (f ≡ InterpretedDate d phrase)
map_is phrase None f h = absurd cc
map_is phrase (Some d) f h = (d, refl, cc)

pub int_every : (ws : List (Bor (List ℕ))) (default : Bor (List ℕ)) (phrase : List ℕ) (f : Form) → 1 ≤ length ws
    → reads (get_or ws 0 default).now (codes "INT") ≡ true → phrase_form (views ws) phrase ≡ Some f → IsGood f
    → (d : Told) × (told_of (views (take (length ws - 1) (drop 1 ws))) ≡ Some d) × Exists d
    × IsShort (InterpretedDate d phrase)
int_every [] default phrase f some h is good = absurd (omega arith)
int_every (b ∷ bs) default phrase f some h is good =
    let at = map_is phrase (told_of (views bs)) f (sym (int_cons b bs phrase h) ∙ is) in
    let it = subst IsGood at.2 good in
    (at.0, ap (λ (l : List (Bor (List ℕ))). told_of (views l)) (take_rest (b ∷ bs) 1) ∙ at.1, it.0, it.1)

-- other words
other_cons : (b : Bor (List ℕ)) (bs : List (Bor (List ℕ))) (phrase : List ℕ) → reads b.now (codes "INT") ≡ false
    → phrase_form (views (b ∷ bs)) phrase ≡ None
unfolding phrase_form
other_cons b bs phrase h = rw h refl

pub not_int : (ws : List (Bor (List ℕ))) (default : Bor (List ℕ)) (phrase : List ℕ) (f : Form) → 1 ≤ length ws
    → reads (get_or ws 0 default).now (codes "INT") ≡ false → phrase_form (views ws) phrase ≡ Some f → ⊥
not_int [] default phrase f some h is = omega arith
not_int (b ∷ bs) default phrase f some h is = let e = other_cons b bs phrase h in cc

-- The date that words give, and that there is one for all words.
use Rattle.std.specs.Prelude.{
  ◌≡◌,
  ◌≢◌,
  ◌⊎◌,
  ℕ,
  List,
  [],
  ◌∷◌,
  ◌++◌,
  ◌==◌,
  ◌≤◌,
  length,
  Bool,
  true,
  false,
  Option,
  Some,
  None,
  option_map,
  refl,
  MatchOption,
  Result,
  Ok,
  Err,
  IfOk,
}
use Rattle.std.specs.List.{list_any}
use Rattle.std.specs.Str.{IsUtf8}
use Rattle.std.proofs.lemmas.Bool.Decides.{nat_tests}
use Rattle.std.proofs.Common.{ap, sym, ◌∙◌, subst, inl, inr, arith}
use Rattle.gedcom_date.specs.Form.{Form, VerbatimText}
use Rattle.gedcom_date.specs.Grammar.{Says, Fits, FitsNone, IsOfForm, IsPhrased}
use Rattle.gedcom_date.specs.Spelling.{spelling}
use Rattle.gedcom_date.specs.View.{view}
use Rattle.gedcom_date.specs.Words.{words}
use Rattle.gedcom_date.specs.declared.value.DateValue.{DateValue}
use Rattle.gedcom_date.specs.Reading.{word_form}
use Rattle.gedcom_date.proofs.Fitting.{word_only, either}
use Rattle.gedcom_date.proofs.Deciding.{some_value}
use Rattle.record_text.specs.Text.{IsText}
use Rattle.record_fields.specs.Dated.{one_said, written_by, spelt, date_from, date_of, date_text}
use Rattle.record_fields.specs.Dates.{IsWritten}
use Rattle.record_fields.specs.Codes.{same_date}
use Rattle.record_fields.specs.declared.date.Date.{Date}
use Rattle.commands.specs.Fields.{text_of, is_text}
use Rattle.record_fields.proofs.Dated.{date_back}
use Rattle.commands.specs.Given.{GivenDate, IsGiven, Gives}
use Rattle.commands.specs.Dated.{given_of}
use Rattle.gedcom_date.proofs.SaidAgain.{says_again}

-- ---- no words fit no form
no-words : words [] ≡ []
unfolding words
no-words = refl

no-form-of-words : word_form [] ≡ None
unfolding word_form
no-form-of-words = refl

no-phrase : (front phrase : List ℕ) → ¬ (IsPhrased [] front phrase)
no-phrase [] phrase h = let e : [] ≡ 40 ∷ phrase ++ 41 ∷ h.after = h.parts in absurd cc
no-phrase (b ∷ front) phrase h = let e : [] ≡ b ∷ front ++ 40 ∷ phrase ++ 41 ∷ h.after = h.parts in absurd cc

no-form : (f : Form) → ¬ (IsOfForm [] f)
no-form f h = elim (either [] f h) [
  | inl worded ↦ (let found : word_form [] ≡ Some f = subst (λ ws. word_form ws ≡ Some f) no-words
      (word_only (words []) f worded) in let none : word_form [] ≡ None = no-form-of-words in absurd cc)
  | inr k ↦ no-phrase k.0 k.1 k.2
]

verbatim : (text : List ℕ) (f : Form) → ((g : Form) → ¬ (Fits text g)) → Fits text f
    ⊎ ((f ≡ VerbatimText text) × FitsNone text) → f ≡ VerbatimText text
verbatim text f lacks (inl h) = absurd (lacks f h)
verbatim text f lacks (inr h) = h.0

-- what no words say is kept as it stands
nothing-said : (f : Form) → Says [] f → f ≡ VerbatimText []
nothing-said f h = verbatim [] f (λ g fits. no-form g fits.0) h

kept-text : (text t : List ℕ) → Fits text (VerbatimText t) ⊎ ((VerbatimText t ≡ VerbatimText text) × FitsNone text)
    → t ≡ text
unfolding IsOfForm
kept-text text t (inl h) = absurd h.0
kept-text text t (inr h) = let e : VerbatimText t ≡ VerbatimText text = h.0 in cc

unspelt : spelling (VerbatimText []) ≡ []
unfolding spelling
unspelt = refl

-- only no words are spelt as nothing
empty-said : (text : List ℕ) (f : Form) → Says text f → spelling f ≡ [] → text ≡ []
empty-said text f h e =
    let kept : f ≡ VerbatimText [] = nothing-said f (subst (λ (t : List ℕ). Says t f) e (says_again text f h)) in
    sym (kept-text text [] (subst (λ (g : Form). Says text g) kept h))

some-words : (text : List ℕ) (f : Form) → Says text f → spelling f ≢ [] → text ≢ []
some-words text f h some e =
    let kept : f ≡ VerbatimText [] = nothing-said f (subst (λ (t : List ℕ). Says t f) e h) in
    some (ap spelling kept ∙ unspelt)

-- ---- a date is made of what words say
pub gives_new : (words : List ℕ) (value : DateValue) (found : Option GivenDate) → Says words (view value)
    → MatchOption found (spelling (view value) ≡ []) (λ given. given.spelling ≡ spelling (view value))
    → MatchOption found (Unit {0}) (λ given. IsGiven given.spelling given.date) → Gives words found
gives_new words value None h e is = empty-said words (view value) h e
gives_new words value (Some given) h e is = (
  some-words words (view value) h (λ none. is.some (e ∙ none)),
  is,
  λ f said. e ∙ ap spelling (one_said words (view value) f h said),
)

pub gives_ok : {E : Type 0} (words : List ℕ) (value : DateValue) (r : Result (Option GivenDate) E)
    → Says words (view value)
    → IfOk r (λ found. MatchOption found (spelling (view value) ≡ []) (λ given. given.spelling ≡ spelling (view value)))
    → IfOk r (λ found. MatchOption found (Unit {0}) (λ given. IsGiven given.spelling given.date)) → IfOk r (Gives words)
gives_ok words value (Ok found) h e is = gives_new words value found h e is
gives_ok words value (Err x) h e is = tt

-- ---- the text of a date
as-text : (spelling : List ℕ) → IsUtf8 spelling → is_text spelling ≡ true → IsText spelling
as-text spelling utf8 e =
    let no-nul : list_any (λ b. b == 0) spelling ≡ false = grind (arith, nat_tests) in
    let no-cr : list_any (λ b. b == 13) spelling ≡ false = grind (arith, nat_tests) in
    let short : length spelling ≤ 1048576 = grind (arith, nat_tests) in
    record { utf8 = utf8; no_nul = no-nul; no_cr = no-cr; short = short }

is-as-text : (spelling : List ℕ) → IsText spelling → is_text spelling ≡ true
is-as-text spelling h =
    let no-nul : list_any (λ b. b == 0) spelling ≡ false = h.no_nul in
    let no-cr : list_any (λ b. b == 13) spelling ≡ false = h.no_cr in
    let short : length spelling ≤ 1048576 = h.short in
    grind (arith, nat_tests)

no-text : (spelling : List ℕ) (b : Bool) → is_text spelling ≡ b → IsUtf8 spelling → ¬ (IsText spelling)
    → None ≡ text_of spelling
no-text spelling true e utf8 lacks = absurd (lacks (as-text spelling utf8 e))
no-text spelling false e utf8 lacks = rw e refl

some-text : (spelling : List ℕ) → is_text spelling ≡ true → text_of spelling ≡ Some spelling
some-text spelling e = rw e refl

pub said_date : (spelling : List ℕ) (date : Option Date) → IsUtf8 spelling → MatchOption date (¬ (IsText spelling))
    (λ d. d.text ≡ spelling)
    → MatchOption date (Unit {0}) (λ d. IsText d.text) → option_map date_text date ≡ text_of spelling
said_date spelling None utf8 lacks is = no-text spelling (is_text spelling) refl utf8 lacks
said_date spelling (Some d) utf8 same is = ap Some same
    ∙ sym (some-text spelling (is-as-text spelling (subst IsText same is)))

-- ---- the date of words, by their value
date-found : (spelling : List ℕ) → IsWritten spelling → option_map date_text (date_of spelling) ≡ Some spelling
date-found spelling written =
    let d : Date = record { text = spelling; written = written } in
    ap (option_map date_text) (date_back (Some d))

date-said : (spelling : List ℕ) (b : Bool) → is_text spelling ≡ b → IsWritten spelling
    → option_map date_text (date_from (text_of spelling)) ≡ text_of spelling
date-said spelling true e written = rw e (date-found spelling written)
date-said spelling false e written = rw e refl

spelt-written : (words : List ℕ) → IsWritten (spelt words)
spelt-written words = let said = some_value words in
    written_by (spelling said.0) said.0 (says_again words said.0 said.1) refl

spelt-some : (words : List ℕ) → words ≢ [] → spelt words ≢ []
spelt-some words some e = let said = some_value words in some (empty-said words said.0 said.1 e)

spelt-given : (words : List ℕ) → words ≢ [] → IsGiven (spelt words) (date_from (text_of (spelt words)))
spelt-given words some = record {
  some = spelt-some words some;
  written = spelt-written words;
  said = date-said (spelt words) (is_text (spelt words)) refl (spelt-written words);
}

some-cons : (b : ℕ) (more : List ℕ) → b ∷ more ≢ []
some-cons b more e = absurd cc

spelt-one : (words : List ℕ) (f : Form) → Says words f → spelt words ≡ spelling f
spelt-one words f h = ap spelling (one_said words (some_value words).0 f (some_value words).1 h)

pub gives_of : (words : List ℕ) → Gives words (given_of words)
unfolding given_of
gives_of [] = refl
gives_of (b ∷ more) = (some-cons b more, spelt-given (b ∷ more) (some-cons b more), spelt-one (b ∷ more))

-- ---- words give one date
same-text : (d e : Option Date) → option_map date_text d ≡ option_map date_text e → d ≡ e
same-text None None h = refl
same-text None (Some e) h = absurd cc
same-text (Some d) None h = absurd cc
same-text (Some d) (Some e) h = ap Some (same_date d e (let same : d.text ≡ e.text = cc in same))

same-given : (g h : GivenDate) → g.spelling ≡ h.spelling → g.date ≡ h.date → g ≡ h
same-given g h e f = let made : List ℕ → Option Date → GivenDate = λ s d. record { spelling = s; date = d } in
    ap (made g.spelling) f ∙ ap (λ s. made s h.date) e

both-given : (g h : GivenDate) → IsGiven g.spelling g.date → IsGiven h.spelling h.date → g.spelling ≡ h.spelling → g ≡ h
both-given g h x y e = same-given g h e (same-text g.date h.date (x.said ∙ ap text_of e ∙ sym y.said))

pub one_given : (words : List ℕ) (g h : Option GivenDate) → Gives words g → Gives words h → g ≡ h
one_given words None None e f = refl
one_given words None (Some h) e f = absurd (f.0 e)
one_given words (Some g) None e f = absurd (e.0 f)
one_given words (Some g) (Some h) e f =
    ap Some (both-given g h e.1 f.1 (e.2 (some_value words).0 (some_value words).1
    ∙ sym (f.2 (some_value words).0 (some_value words).1)))

pub given_same : {E : Type 0} (words : List ℕ) (r : Result (Option GivenDate) E) → IfOk r (Gives words)
    → IfOk r (λ found. found ≡ given_of words)
given_same words (Ok found) h = one_given words found (given_of words) h (gives_of words)
given_same words (Err x) h = tt

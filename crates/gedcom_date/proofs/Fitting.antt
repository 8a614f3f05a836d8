-- Forms: what is read of a text is what it says, and each text has one form at most.
use Rattle.std.proofs.Common.{
  ◌≡◌,
  ◌⊎◌,
  inl,
  inr,
  ℕ,
  Bool,
  true,
  false,
  ◌||◌,
  cond,
  List,
  [],
  ◌∷◌,
  ◌++◌,
  codes,
  Option,
  Some,
  None,
  option_map,
  append_assoc,
  refl,
  ap,
  sym,
  subst,
  ◌∙◌,
  arith,
}
use Rattle.std.specs.Option.{option_map_or}
use Rattle.std.specs.List.{list_any, slice_split, onto_first}
use Rattle.std.proofs.lemmas.Bool.Decides.{nat_tests}
use Rattle.std.proofs.lemmas.Bool.{or_right}
use Rattle.std.proofs.Math.Bool.{or_assoc}
use Rattle.gedcom_date.specs.Words.{Reads, words, filled, is_space}
use Rattle.calendar_days.specs.Told.{Told}
use Rattle.gedcom_date.specs.Form.{
  Form,
  OnDate,
  NearDate,
  BeforeDate,
  AfterDate,
  BetweenDates,
  SinceDate,
  UntilDate,
  FromToDates,
  InterpretedDate,
  PhraseAlone,
  VerbatimText,
}
use Rattle.gedcom_date.specs.Spelling.{approximation_text}
use Rattle.gedcom_date.specs.Grammar.{IsDateOf, IsAfterWord, IsAfterWords, IsPhrased, IsOfForm}
use Rattle.gedcom_date.specs.Reading.{
  reads,
  is_and,
  is_to,
  Halves,
  parted,
  escape_of,
  extent_of,
  told_of,
  two_dates,
  from_form,
  keyword_of,
  keyword_form,
  word_form,
  phrase_form,
}
use Rattle.gedcom_date.specs.declared.approximation.Approximation.TheVariants.{About, Calculated, Estimated}
use Rattle.gedcom_date.specs.declared.keyword.Keyword.{Keyword}
use Rattle.gedcom_date.specs.declared.keyword.Keyword.TheVariants.{
  Near,
  Before,
  After,
  Between,
  And,
  From,
  To,
  Interpreted,
}
use Rattle.gedcom_date.proofs.Names.{reads_is, reads_only, keyword_text, keyword_only, keyword_is}
use Rattle.gedcom_date.proofs.Parts.{parted_at, parted_none, parted_is}
use Rattle.gedcom_date.proofs.Dates.{two_dates_is}
use Rattle.gedcom_date.proofs.Extents.{told_only, told_is}
use Rattle.gedcom_date.proofs.Phrases.{one_phrase}
use Rattle.gedcom_date.proofs.Quiet.{is_bracket, AllSilent, date_silent, bare_as, no_and, no_to, no_bracket}

-- the words have the form
abbrev pub Worded : List (List ℕ) → Form → Type 0
Worded ws (OnDate d) = IsDateOf ws d
Worded ws (NearDate how d) = IsAfterWord (approximation_text how) ws d
Worded ws (BeforeDate d) = IsAfterWord (codes "BEF") ws d
Worded ws (AfterDate d) = IsAfterWord (codes "AFT") ws d
Worded ws (BetweenDates d e) = IsAfterWords (codes "BET") (codes "AND") ws d e
Worded ws (SinceDate d) = IsAfterWord (codes "FROM") ws d
Worded ws (UntilDate d) = IsAfterWord (codes "TO") ws d
Worded ws (FromToDates d e) = IsAfterWords (codes "FROM") (codes "TO") ws d e
Worded ws (InterpretedDate d phrase) = ⊥
Worded ws (PhraseAlone phrase) = ⊥
Worded ws (VerbatimText t) = ⊥

-- only a date
on_only : (ws : List (List ℕ)) (d : Told) → AllSilent ws → told_of ws ≡ Some d → word_form ws ≡ Some (OnDate d)
unfolding word_form told_of escape_of extent_of
on_only [] d q h = absurd cc
on_only (w ∷ ws) d q h = rw (q.0.key) (ap (option_map OnDate) h)

-- a keyword and what follows it
behind_key : (k : Keyword) (w : List ℕ) (ws : List (List ℕ)) → Reads w (keyword_text k)
    → word_form (w ∷ ws) ≡ keyword_form k ws
unfolding word_form
behind_key k w ws h = rw (keyword_only w k h) refl

after_only : (k : Keyword) (ws : List (List ℕ)) (d : Told) (f : Form) → IsAfterWord (keyword_text k) ws d
    → ((rest : List (List ℕ)) → IsDateOf rest d → told_of rest ≡ Some d → keyword_form k rest ≡ Some f)
    → word_form ws ≡ Some f
after_only k ws d f h more = ap word_form h.2 ∙ behind_key k h.0 h.1 h.3 ∙ more h.1 h.4 (told_only h.1 d h.4)

two_only : (C : Told → Told → Form) (front back : List (List ℕ)) (d e : Told) → told_of front ≡ Some d
    → told_of back ≡ Some e → two_dates C (Some (front, back)) ≡ Some (C d e)
two_only C front back d e h k = rw (h, k) refl

pub word_only : (ws : List (List ℕ)) (f : Form) → Worded ws f → word_form ws ≡ Some f
unfolding keyword_form
word_only ws (OnDate d) h = on_only ws d (date_silent ws d h) (told_only ws d h)
word_only ws (NearDate About d) h = after_only (Near About) ws d (NearDate About d) h
    (λ rest is t. ap (option_map (NearDate About)) t)
word_only ws (NearDate Calculated d) h = after_only (Near Calculated) ws d (NearDate Calculated d) h
    (λ rest is t. ap (option_map (NearDate Calculated)) t)
word_only ws (NearDate Estimated d) h = after_only (Near Estimated) ws d (NearDate Estimated d) h
    (λ rest is t. ap (option_map (NearDate Estimated)) t)
word_only ws (BeforeDate d) h = after_only Before ws d (BeforeDate d) h (λ rest is t. ap (option_map BeforeDate) t)
word_only ws (AfterDate d) h = after_only After ws d (AfterDate d) h (λ rest is t. ap (option_map AfterDate) t)
word_only ws (UntilDate d) h = after_only To ws d (UntilDate d) h (λ rest is t. ap (option_map UntilDate) t)
word_only ws (SinceDate d) h = after_only From ws d (SinceDate d) h
    (λ rest is t. rw (parted_none is_to rest (no_to rest (date_silent rest d is))) (ap (option_map SinceDate) t))
word_only ws (BetweenDates d e) h =
    let at = parted_at is_and h.1 h.2 h.3 (no_and h.1 (date_silent h.1 d h.6)) (reads_only h.2 (codes "AND") h.7) in
    ap word_form h.4 ∙ behind_key Between h.0 (h.1 ++ h.2 ∷ h.3) h.5 ∙ ap (two_dates BetweenDates) at
    ∙ two_only BetweenDates h.1 h.3 d e (told_only h.1 d h.6) (told_only h.3 e h.8)
word_only ws (FromToDates d e) h =
    let at = parted_at is_to h.1 h.2 h.3 (no_to h.1 (date_silent h.1 d h.6)) (reads_only h.2 (codes "TO") h.7) in
    ap word_form h.4 ∙ behind_key From h.0 (h.1 ++ h.2 ∷ h.3) h.5
    ∙ ap (λ (o : Option Halves). from_form o (h.1 ++ h.2 ∷ h.3)) at ∙ two_only FromToDates h.1 h.3 d e
    (told_only h.1 d h.6) (told_only h.3 e h.8)
word_only ws (InterpretedDate d phrase) h = absurd h
word_only ws (PhraseAlone phrase) h = absurd h
word_only ws (VerbatimText t) h = absurd h

-- no word of these holds a bracket
abbrev Bare : List (List ℕ) → Type 0
Bare ws = list_any (list_any is_bracket) ws ≡ false

bare_cons : (w : List ℕ) (ws : List (List ℕ)) → list_any is_bracket w ≡ false → Bare ws → Bare (w ∷ ws)
bare_cons w ws h k = rw (h, k) refl

bare_append : (xs : List (List ℕ)) (y : List ℕ) (ys : List (List ℕ)) → AllSilent xs → Bare (y ∷ ys)
    → Bare (xs ++ y ∷ ys)
bare_append [] y ys q h = h
bare_append (x ∷ xs) y ys q h = bare_cons x (xs ++ y ∷ ys) q.0.bare (bare_append xs y ys q.1 h)

pub after_bare : (k : Keyword) (ws : List (List ℕ)) (d : Told) → list_any is_bracket (keyword_text k) ≡ false
    → IsAfterWord (keyword_text k) ws d → Bare ws
after_bare k ws d e h = subst Bare (sym h.2)
    (bare_cons h.0 h.1 (bare_as h.0 (keyword_text k) h.3 ∙ e) (no_bracket h.1 (date_silent h.1 d h.4)))

two_bare : (k j : Keyword) (ws : List (List ℕ)) (d e : Told) → list_any is_bracket (keyword_text k) ≡ false
    → list_any is_bracket (keyword_text j) ≡ false → IsAfterWords (keyword_text k) (keyword_text j) ws d e → Bare ws
two_bare k j ws d e f g h =
    subst Bare (sym h.4) (bare_cons h.0 (h.1 ++ h.2 ∷ h.3) (bare_as h.0 (keyword_text k) h.5 ∙ f)
    (bare_append h.1 h.2 h.3 (date_silent h.1 d h.6)
    (bare_cons h.2 h.3 (bare_as h.2 (keyword_text j) h.7 ∙ g) (no_bracket h.3 (date_silent h.3 e h.8)))))

word_bare : (ws : List (List ℕ)) (f : Form) → Worded ws f → Bare ws
word_bare ws (OnDate d) h = no_bracket ws (date_silent ws d h)
word_bare ws (NearDate About d) h = after_bare (Near About) ws d refl h
word_bare ws (NearDate Calculated d) h = after_bare (Near Calculated) ws d refl h
word_bare ws (NearDate Estimated d) h = after_bare (Near Estimated) ws d refl h
word_bare ws (BeforeDate d) h = after_bare Before ws d refl h
word_bare ws (AfterDate d) h = after_bare After ws d refl h
word_bare ws (UntilDate d) h = after_bare To ws d refl h
word_bare ws (SinceDate d) h = after_bare From ws d refl h
word_bare ws (BetweenDates d e) h = two_bare Between And ws d e refl refl h
word_bare ws (FromToDates d e) h = two_bare From To ws d e refl refl h
word_bare ws (InterpretedDate d phrase) h = absurd h
word_bare ws (PhraseAlone phrase) h = absurd h
word_bare ws (VerbatimText t) h = absurd h

-- and the other way
mapped : (C : Told → Form) (o : Option Told) (f : Form) → option_map C o ≡ Some f → (d : Told)
    × (o ≡ Some d) × (C d ≡ f)
mapped C None f h = absurd cc
mapped C (Some d) f h = (d, refl, cc)

after_is : (k : Keyword) (C : Told → Form) (w : List ℕ) (ws : List (List ℕ)) (f : Form) → Reads w (keyword_text k)
    → ((d : Told) → IsAfterWord (keyword_text k) (w ∷ ws) d → Worded (w ∷ ws) (C d))
    → option_map C (told_of ws) ≡ Some f → Worded (w ∷ ws) f
after_is k C w ws f r made h =
    let at = mapped C (told_of ws) f h in
    subst (Worded (w ∷ ws)) at.2 (made at.0 (w, ws, refl, r, told_is ws at.0 at.1))

two_is : (k j : Keyword) (p : List ℕ → Bool) (C : Told → Told → Form) (w : List ℕ) (ws front back : List (List ℕ))
    (f : Form) → Reads w (keyword_text k) → ((m : List ℕ) → p m ≡ true → Reads m (keyword_text j))
    → ((d e : Told) → IsAfterWords (keyword_text k) (keyword_text j) (w ∷ ws) d e → Worded (w ∷ ws) (C d e))
    → parted p ws ≡ Some (front, back) → two_dates C (Some (front, back)) ≡ Some f → Worded (w ∷ ws) f
two_is k j p C w ws front back f r joins made cut h =
    let is = two_dates_is C (front, back) f h in
    let at = parted_is p ws front back cut in
    subst (Worded (w ∷ ws)) (sym is.4)
    (made is.0 is.1 (
      w,
      front,
      at.word,
      back,
      ap (λ (l : List (List ℕ)). w ∷ l) at.parts,
      r,
      told_is front is.0 is.2,
      joins at.word at.passes,
      told_is back is.1 is.3,
    ))

between_is : (w : List ℕ) (ws : List (List ℕ)) (f : Form) (o : Option Halves) → Reads w (codes "BET")
    → parted is_and ws ≡ o → two_dates BetweenDates o ≡ Some f → Worded (w ∷ ws) f
between_is w ws f None r cut h = absurd cc
between_is w ws f (Some halves) r cut h = two_is Between And is_and BetweenDates w ws halves.0 halves.1 f r
    (λ m e. reads_is m (codes "AND") e) (λ d e is. is) cut h

from_is : (w : List ℕ) (ws : List (List ℕ)) (f : Form) (o : Option Halves) → Reads w (codes "FROM")
    → parted is_to ws ≡ o → from_form o ws ≡ Some f → Worded (w ∷ ws) f
from_is w ws f None r cut h = after_is From SinceDate w ws f r (λ d is. is) h
from_is w ws f (Some halves) r cut h = two_is From To is_to FromToDates w ws halves.0 halves.1 f r
    (λ m e. reads_is m (codes "TO") e) (λ d e is. is) cut h

key_is : (k : Keyword) (w : List ℕ) (ws : List (List ℕ)) (f : Form) → Reads w (keyword_text k)
    → keyword_form k ws ≡ Some f → Worded (w ∷ ws) f
unfolding keyword_form
key_is (Near About) w ws f r h = after_is (Near About) (NearDate About) w ws f r (λ d is. is) h
key_is (Near Calculated) w ws f r h = after_is (Near Calculated) (NearDate Calculated) w ws f r (λ d is. is) h
key_is (Near Estimated) w ws f r h = after_is (Near Estimated) (NearDate Estimated) w ws f r (λ d is. is) h
key_is Before w ws f r h = after_is Before BeforeDate w ws f r (λ d is. is) h
key_is After w ws f r h = after_is After AfterDate w ws f r (λ d is. is) h
key_is Between w ws f r h = between_is w ws f (parted is_and ws) r refl h
key_is And w ws f r h = absurd cc
key_is From w ws f r h = from_is w ws f (parted is_to ws) r refl h
key_is To w ws f r h = after_is To UntilDate w ws f r (λ d is. is) h
key_is Interpreted w ws f r h = absurd cc

word_by : (w : List ℕ) (ws : List (List ℕ)) (f : Form) (o : Option Keyword) → keyword_of w ≡ o
    → option_map_or (λ (k : Keyword). keyword_form k ws) o (option_map OnDate (told_of (w ∷ ws))) ≡ Some f
    → Worded (w ∷ ws) f
word_by w ws f None e h =
    let at = mapped OnDate (told_of (w ∷ ws)) f h in
    subst (Worded (w ∷ ws)) at.2 (told_is (w ∷ ws) at.0 at.1)
word_by w ws f (Some k) e h = key_is k w ws f (keyword_is w k e) h

pub word_is : (ws : List (List ℕ)) (f : Form) → word_form ws ≡ Some f → Worded ws f
unfolding word_form
word_is [] f h = absurd cc
word_is (w ∷ ws) f h = word_by w ws f (keyword_of w) refl h

pub of_words : (text : List ℕ) (f : Form) → Worded (words text) f → IsOfForm text f
unfolding IsOfForm
of_words text (OnDate d) h = h
of_words text (NearDate how d) h = h
of_words text (BeforeDate d) h = h
of_words text (AfterDate d) h = h
of_words text (BetweenDates d e) h = h
of_words text (SinceDate d) h = h
of_words text (UntilDate d) h = h
of_words text (FromToDates d e) h = h
of_words text (InterpretedDate d phrase) h = absurd h
of_words text (PhraseAlone phrase) h = absurd h
of_words text (VerbatimText t) h = absurd h

-- brackets of a text are brackets of its words
first_none : (a : Bool) → ((a || false) || false) ≡ (a || false)
first_none true = refl
first_none false = refl

first_any : (c : ℕ) (parts : List (List ℕ)) → list_any (list_any is_bracket) (onto_first c parts)
    ≡ (is_bracket c || list_any (list_any is_bracket) parts)
first_any c [] = first_none (is_bracket c)
first_any c (part ∷ parts) = or_assoc (is_bracket c) (list_any is_bracket part) (list_any (list_any is_bracket) parts)

space_bare : (c : ℕ) → is_space c ≡ true → is_bracket c ≡ false
space_bare c h = grind (arith, nat_tests)

split_cons : (c : ℕ) (cs : List ℕ) (b : Bool) → is_space c ≡ b → list_any (list_any is_bracket)
    (slice_split is_space cs) ≡ list_any is_bracket cs → list_any (list_any is_bracket)
    (cond b ([] ∷ slice_split is_space cs) (onto_first c (slice_split is_space cs)))
    ≡ (is_bracket c || list_any is_bracket cs)
split_cons c cs true e h = rw (space_bare c e) h
split_cons c cs false e h = first_any c (slice_split is_space cs) ∙ ap (λ (b : Bool). is_bracket c || b) h

split_any : (text : List ℕ) → list_any (list_any is_bracket) (slice_split is_space text) ≡ list_any is_bracket text
split_any [] = refl
split_any (c ∷ cs) = split_cons c cs (is_space c) refl (split_any cs)

filled_any : (parts : List (List ℕ)) → list_any (list_any is_bracket) (filled parts) ≡ list_any
    (list_any is_bracket) parts
filled_any [] = refl
filled_any ([] ∷ parts) = filled_any parts
filled_any ((b ∷ bs) ∷ parts) = ap (λ (o : Bool). list_any is_bracket (b ∷ bs) || o) (filled_any parts)

pub words_any : (text : List ℕ) → list_any (list_any is_bracket) (words text) ≡ list_any is_bracket text
unfolding words
words_any text = filled_any (slice_split is_space text) ∙ split_any text

bracket_at : (front rest : List ℕ) → list_any is_bracket (front ++ 40 ∷ rest) ≡ true
bracket_at [] rest = refl
bracket_at (b ∷ bs) rest = or_right (is_bracket b) (list_any is_bracket (bs ++ 40 ∷ rest)) (bracket_at bs rest)

phrased_any : (text front phrase : List ℕ) → IsPhrased text front phrase → list_any is_bracket text ≡ true
phrased_any text front phrase is = ap (list_any is_bracket)
    (is.parts ∙ append_assoc front (40 ∷ phrase) (41 ∷ is.after)) ∙ bracket_at front (phrase ++ 41 ∷ is.after)

-- a text of words has no phrase
pub apart : (text front phrase : List ℕ) (f : Form) → Worded (words text) f → IsPhrased text front phrase → ⊥
apart text front phrase f h is = let e = word_bare (words text) f h in let g = words_any text in
    let k = phrased_any text front phrase is in cc

-- phrases
abbrev pub Phrasal : List ℕ → List ℕ → Form → Type 0
Phrasal front phrase f = phrase_form (words front) phrase ≡ Some f

alone_only : (ws : List (List ℕ)) (phrase : List ℕ) → ws ≡ [] → phrase_form ws phrase ≡ Some (PhraseAlone phrase)
unfolding phrase_form
alone_only ws phrase e = rw e refl

int_only : (ws : List (List ℕ)) (phrase : List ℕ) (d : Told) → IsAfterWord (codes "INT") ws d
    → phrase_form ws phrase ≡ Some (InterpretedDate d phrase)
unfolding phrase_form
int_only ws phrase d h = rw (h.2, reads_only h.0 (codes "INT") h.3, told_only h.1 d h.4) refl

int_is : (w : List ℕ) (ws : List (List ℕ)) (phrase : List ℕ) (f : Form) (b : Bool) → reads w (codes "INT") ≡ b
    → cond b (option_map (λ d. InterpretedDate d phrase) (told_of ws)) None ≡ Some f → (d : Told)
    × IsAfterWord (codes "INT") (w ∷ ws) d × (InterpretedDate d phrase ≡ f)
int_is w ws phrase f false e h = absurd cc
int_is w ws phrase f true e h =
    let at = mapped (λ d. InterpretedDate d phrase) (told_of ws) f h in
    (at.0, (w, ws, refl, reads_is w (codes "INT") e, told_is ws at.0 at.1), at.2)

phrasal_is : (text front phrase : List ℕ) (ws : List (List ℕ)) (f : Form) → IsPhrased text front phrase
    → words front ≡ ws → phrase_form ws phrase ≡ Some f → IsOfForm text f
unfolding phrase_form IsOfForm
phrasal_is text front phrase [] f is e h = let s : PhraseAlone phrase ≡ f = cc in subst (IsOfForm text) s (front, is, e)
phrasal_is text front phrase (w ∷ ws) f is e h =
    let at = int_is w ws phrase f (reads w (codes "INT")) refl h in
    subst (IsOfForm text) at.2 (front, is, subst (λ (l : List (List ℕ)). IsAfterWord (codes "INT") l at.0) (sym e) at.1)

pub of_phrase : (text front phrase : List ℕ) (f : Form) → IsPhrased text front phrase → Phrasal front phrase f
    → IsOfForm text f
of_phrase text front phrase f is h = phrasal_is text front phrase (words front) f is refl h

-- a text with a form is only words or has a phrase
abbrev pub Bracketed : List ℕ → Form → Type 0
Bracketed text f = (front : List ℕ) × (phrase : List ℕ) × IsPhrased text front phrase × Phrasal front phrase f

pub either : (text : List ℕ) (f : Form) → IsOfForm text f → Worded (words text) f ⊎ Bracketed text f
unfolding IsOfForm
either text (OnDate d) h = inl h
either text (NearDate how d) h = inl h
either text (BeforeDate d) h = inl h
either text (AfterDate d) h = inl h
either text (BetweenDates d e) h = inl h
either text (SinceDate d) h = inl h
either text (UntilDate d) h = inl h
either text (FromToDates d e) h = inl h
either text (InterpretedDate d phrase) h = inr (h.0, phrase, h.1, int_only (words h.0) phrase d h.2)
either text (PhraseAlone phrase) h = inr (h.0, phrase, h.1, alone_only (words h.0) phrase h.2)
either text (VerbatimText t) h = absurd h

-- the phrase of a text, whichever was found
pub same_phrasal : (text front phrase : List ℕ) (f : Form) → IsPhrased text front phrase → Bracketed text f
    → Phrasal front phrase f
same_phrasal text front phrase f is h =
    let one = one_phrase text h.0 h.1 front phrase h.2 is in
    subst (λ (l : List ℕ). phrase_form (words l) phrase ≡ Some f) one.0
    (subst (λ (l : List ℕ). phrase_form (words h.0) l ≡ Some f) one.1 h.3)

one_of : (text : List ℕ) (f g : Form) → Worded (words text) f ⊎ Bracketed text f → Worded (words text) g
    ⊎ Bracketed text g → f ≡ g
one_of text f g (inl h) (inl k) = let a = word_only (words text) f h in let b = word_only (words text) g k in cc
one_of text f g (inl h) (inr k) = absurd (apart text k.0 k.1 f h k.2)
one_of text f g (inr h) (inl k) = absurd (apart text h.0 h.1 g k h.2)
one_of text f g (inr h) (inr k) = let a = same_phrasal text k.0 k.1 f k.2 h in let b = k.3 in cc

-- a text has one form at most
pub one_form : (text : List ℕ) (f g : Form) → IsOfForm text f → IsOfForm text g → f ≡ g
one_form text f g h k = one_of text f g (either text f h) (either text g k)

-- Where the first HEAD has ended, no later line says or names anything, and each stays as it is.
use Rattle.std.proofs.Common.{
  ◌≡◌,
  ◌∙◌,
  ◌+◌,
  ◌++◌,
  [],
  ◌∷◌,
  Bool,
  List,
  Option,
  ap,
  append-nil,
  append_assoc,
  cond,
  false,
  refl,
  sym,
  true,
  ℕ,
}
use Rattle.std.proofs.lemmas.Bool.{false≢true}
use Rattle.character_sets.specs.Lines.{Line, is_blank, lines, units_of}
use Rattle.character_sets.proofs.FirstLines.{whole}
use Rattle.file_conversion.specs.declared.charsets.NamedSet.{NamedSet}
use Rattle.file_conversion.specs.declared.charsets.Place.{Place}
use Rattle.file_conversion.specs.declared.charsets.Place.TheVariants.{Start, Below, Beyond}
use Rattle.file_conversion.specs.Charsets.{is_beyond, named_in, said_in}
use Rattle.file_conversion.specs.CharLines.{numbers_in, words_in}

-- a fact of both cases
either : (b : Bool) (A : Type 0) (x y z : A) → x ≡ z → y ≡ z → cond b x y ≡ z
either true A x y z e f = e
either false A x y z e f = f

named_on : (named : Option NamedSet) (n : ℕ) (ls : List Line) → named_in Beyond named n ls ≡ named
named_on named n [] = refl
named_on named n (l ∷ ls) = either (is_blank l.body) (Option NamedSet) (named_in Beyond named n ls)
    (named_in Beyond named (n + 1) ls) named (named_on named n ls) (named_on named (n + 1) ls)

numbers_on : (n : ℕ) (ls : List Line) → numbers_in Beyond n ls ≡ []
numbers_on n [] = refl
numbers_on n (l ∷ ls) = either (is_blank l.body) (List ℕ) (numbers_in Beyond n ls) (numbers_in Beyond (n + 1) ls) []
    (numbers_on n ls) (numbers_on (n + 1) ls)

words_on : (ls : List Line) → words_in Beyond ls ≡ []
words_on [] = refl
words_on (l ∷ ls) =
    either (is_blank l.body) (List ℕ) (words_in Beyond ls) (words_in Beyond ls) [] (words_on ls) (words_on ls)

said_on : (named : Option NamedSet) (ls : List Line) → said_in named Beyond ls ≡ units_of ls
said_on named [] = refl
said_on named (l ∷ ls) =
    let same : l.body ++ (l.ending ++ said_in named Beyond ls) ≡ units_of (l ∷ ls) =
    ap (λ us. l.body ++ (l.ending ++ us)) (said_on named ls) ∙ sym (append_assoc l.body l.ending (units_of ls)) in
    either (is_blank l.body) (List ℕ) (l.body ++ (l.ending ++ said_in named Beyond ls))
    (l.body ++ (l.ending ++ said_in named Beyond ls)) (units_of (l ∷ ls)) same same

pub named_beyond : (place : Place) (named all : Option NamedSet) (n : ℕ) (us : List ℕ) → is_beyond place ≡ true
    → named_in place named n (lines us) ≡ all → named ≡ all
named_beyond Start named all n us h e = absurd (false≢true h)
named_beyond Below named all n us h e = absurd (false≢true h)
named_beyond Beyond named all n us h e = sym (named_on named n (lines us)) ∙ e

pub numbers_beyond : (place : Place) (n : ℕ) (us found all : List ℕ) → is_beyond place ≡ true
    → found ++ numbers_in place n (lines us) ≡ all → found ≡ all
numbers_beyond Start n us found all h e = absurd (false≢true h)
numbers_beyond Below n us found all h e = absurd (false≢true h)
numbers_beyond Beyond n us found all h e =
    sym (append-nil found) ∙ (ap (λ t. found ++ t) (sym (numbers_on n (lines us))) ∙ e)

pub words_beyond : (place : Place) (us found all : List ℕ) → is_beyond place ≡ true
    → found ++ words_in place (lines us) ≡ all → found ≡ all
words_beyond Start us found all h e = absurd (false≢true h)
words_beyond Below us found all h e = absurd (false≢true h)
words_beyond Beyond us found all h e =
    sym (append-nil found) ∙ (ap (λ t. found ++ t) (sym (words_on (lines us))) ∙ e)

pub said_beyond : (named : Option NamedSet) (place : Place) (us before now all : List ℕ) → is_beyond place ≡ true
    → now ≡ before ++ us → before ++ said_in named place (lines us) ≡ all → now ≡ all
said_beyond named Start us before now all h n e = absurd (false≢true h)
said_beyond named Below us before now all h n e = absurd (false≢true h)
said_beyond named Beyond us before now all h n e = n ∙ (ap (λ t. before ++ t) (sym (whole us))
    ∙ (ap (λ t. before ++ t) (sym (said_on named (lines us))) ∙ e))

-- The text of lines, put together one line after the other; and bytes that were read whole.
use Rattle.std.proofs.Common.{
  ◌≡◌,
  ◌∙◌,
  ◌<◌,
  ◌≤◌,
  ◌++◌,
  ◌∷◌,
  List,
  Option,
  Some,
  None,
  IfSome,
  ap,
  append_assoc,
  arith,
  encode_utf8_all,
  length,
  length-append,
  length-take,
  min,
  refl,
  subst,
  sym,
  take,
  take_all,
  true,
  ℕ,
}
use Rattle.std.specs.List.{flat_map}
use Rattle.std.proofs.lemmas.Str.{encodes-append}
use Rattle.character_sets.specs.declared.set.CharacterSet.{CharacterSet}
use Rattle.character_sets.specs.Sets.{characters}
use Rattle.file_conversion.specs.declared.fault.ConversionError.{ConversionError}
use Rattle.file_conversion.specs.declared.fault.ConversionError.TheVariants.{
  OutOfMemory,
  ReadFailed,
  WriteFailed,
  TooLarge,
  UnknownSet,
}
use Rattle.character_sets.specs.Lines.{Line}
use Rattle.character_sets.specs.Moves.{moved}
use Rattle.file_conversion.specs.Conversion.{line_characters, text_of_lines}
use Rattle.file_conversion.specs.PlainLines.{is_plain}
use Rattle.file_conversion.specs.Streams.{NoText}
use Rattle.file_conversion.proofs.Plain.{plain_moves}

pub two_parts : (old a b t u : List ℕ) → t ≡ old ++ encode_utf8_all a → u ≡ t ++ encode_utf8_all b
    → u ≡ old ++ encode_utf8_all (a ++ b)
two_parts old a b t u e f = f ∙ (ap (λ x. x ++ encode_utf8_all b) e
    ∙ (append_assoc old (encode_utf8_all a) (encode_utf8_all b) ∙ ap (λ x. old ++ x) (sym (encodes-append a b))))

-- the text of lines is that of the first one, and of those after it
first_text : (set : CharacterSet) (carry next : List ℕ) (ls ms : List Line) (l : Line)
    → moved set carry ls ≡ l ∷ moved set next ms
    → text_of_lines set carry ls ≡ encode_utf8_all (line_characters set l) ++ text_of_lines set next ms
first_text set carry next ls ms l e = ap (λ x. encode_utf8_all (flat_map (line_characters set) x)) e
    ∙ encodes-append (line_characters set l) (flat_map (line_characters set) (moved set next ms))

pub next_text : (set : CharacterSet) (carry next : List ℕ) (ls ms : List Line) (body shown ending old new : List ℕ)
    → moved set carry ls ≡ record { body = body; ending = ending } ∷ moved set next ms → shown ≡ body
    → new ≡ old ++ encode_utf8_all (characters set shown ++ characters set ending)
    → new ++ text_of_lines set next ms ≡ old ++ text_of_lines set carry ls
next_text set carry next ls ms body shown ending old new e s n =
    let line = encode_utf8_all (characters set body ++ characters set ending) in
    ap (λ x. x ++ text_of_lines set next ms)
    (n ∙ ap (λ x. old ++ encode_utf8_all (characters set x ++ characters set ending)) s)
    ∙ (append_assoc old line (text_of_lines set next ms)
    ∙ ap (λ x. old ++ x) (sym (first_text set carry next ls ms (record { body = body; ending = ending }) e)))

-- what is too large with one line is so with those after it
pub more_text : (text rest : List ℕ) (e : ConversionError) → NoText text e → NoText (text ++ rest) e
more_text text rest OutOfMemory h = tt
more_text text rest ReadFailed h = h
more_text text rest WriteFailed h = h
more_text text rest TooLarge h = rw (length-append text rest) (omega (arith, h))
more_text text rest (UnknownSet n) h = h

pub no_next : (set : CharacterSet) (carry next : List ℕ) (ls ms : List Line) (body shown ending old : List ℕ)
    (e : ConversionError) → moved set carry ls ≡ record { body = body; ending = ending } ∷ moved set next ms
    → shown ≡ body → NoText (old ++ encode_utf8_all (characters set shown ++ characters set ending)) e
    → NoText (old ++ text_of_lines set carry ls) e
no_next set carry next ls ms body shown ending old e m s h =
    let line = encode_utf8_all (characters set shown ++ characters set ending) in
    subst (λ t. NoText t e) (next_text set carry next ls ms body shown ending old (old ++ line) m s refl)
    (more_text (old ++ line) (text_of_lines set next ms) e h)

-- the same of a line that stays as it is
pub plain_next : (set : CharacterSet) (carry shown : List ℕ) (ls ms : List Line) (body ending old new : List ℕ)
    → shown ≡ carry → is_plain shown body ≡ true → ls ≡ record { body = body; ending = ending } ∷ ms
    → new ≡ old ++ encode_utf8_all (characters set body ++ characters set ending)
    → new ++ text_of_lines set carry ms ≡ old ++ text_of_lines set carry ls
plain_next set carry shown ls ms body ending old new s p e n =
    next_text set carry carry ls ms body body ending old new
    (plain_moves set carry body ending ls ms (subst (λ us. is_plain us body ≡ true) s p) e) refl n

pub plain_no_next : (set : CharacterSet) (carry shown : List ℕ) (ls ms : List Line) (body ending old : List ℕ)
    (e : ConversionError) → shown ≡ carry → is_plain shown body ≡ true
    → ls ≡ record { body = body; ending = ending } ∷ ms
    → NoText (old ++ encode_utf8_all (characters set body ++ characters set ending)) e
    → NoText (old ++ text_of_lines set carry ls) e
plain_no_next set carry shown ls ms body ending old e s p l h = no_next set carry carry ls ms body body ending old e
    (plain_moves set carry body ending ls ms (subst (λ us. is_plain us body ≡ true) s p) l) refl h

-- fewer bytes than a limit are all
all_read : (n : ℕ) (known all : List ℕ) → all ≡ take n known → length all < n → known ≡ all
all_read n known all e h =
    let measured : length all ≡ min n (length known) = ap length e ∙ length-take n known in
    let short : length known ≤ n = omega (arith, measured, h) in
    sym (take_all n known short) ∙ sym e

pub is_read : (n : ℕ) (known : Option (List ℕ)) (all : List ℕ) → IfSome known (λ k. all ≡ take n k)
    → length all < n → IfSome known (λ k. k ≡ all)
is_read n None all e h = tt
is_read n (Some k) all e h = all_read n k all e h

pub is_long : (n m : ℕ) (known : Option (List ℕ)) (all : List ℕ) → IfSome known (λ k. all ≡ take n k)
    → m < length all → IfSome known (λ k. m < length k)
is_long n m None all e h = tt
is_long n m (Some k) all e h =
    let measured : length all ≡ min n (length k) = ap length e ∙ length-take n k in omega (arith, measured, h)

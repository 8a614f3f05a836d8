-- Of a line of ASCII that has nothing in front of its value nothing is counted.
use Rattle.std.proofs.Common.{
  ◌≡◌,
  ◌∙◌,
  ◌+◌,
  ◌<◌,
  ◌≤◌,
  ◌==◌,
  ◌&&◌,
  ◌∷◌,
  [],
  Bool,
  List,
  Option,
  ap,
  arith,
  drop,
  encode_utf8_all,
  false,
  if◌then◌else◌,
  is_some,
  min,
  nat_lt,
  not,
  refl,
  subst,
  sym,
  true,
  ℕ,
}
use Rattle.std.specs.List.{list_all}
use Rattle.std.proofs.lemmas.Bool.Decides.{nat_tests}
use Rattle.character_sets.specs.declared.set.CharacterSet.{CharacterSet}
use Rattle.character_sets.specs.declared.set.CharacterSet.TheVariants.{
  Utf8,
  Utf16Le,
  Utf16Be,
  Windows1252,
  CodePage437,
  CodePage850,
  Macintosh,
  Ansel,
}
use Rattle.character_sets.specs.Counts.{counted, is_ansel_letter, marked_others, one_if, strays}
use Rattle.character_sets.specs.Lines.{lines}
use Rattle.character_sets.specs.Utf8.{front}
use Rattle.character_sets.proofs.Ascii.{stays}
use Rattle.file_conversion.specs.Conversion.{is_ascii, next_number}
use Rattle.file_conversion.specs.PlainLines.{is_plain}
use Rattle.file_conversion.proofs.Plain.{
  IsAscii,
  both,
  encodes_ascii,
  no_mark,
  nothing_in_front,
  plain_is_ascii,
  plain_left_over,
  plain_moves,
}
use Rattle.conversion_reports.specs.declared.kinds.Kind.{Kind}
use Rattle.conversion_reports.specs.declared.kinds.Kind.TheVariants.{Other, Joined, Stray, Replaced, Marked}
use Rattle.conversion_reports.specs.Lines.{
  Leads,
  LineRead,
  is_replacement,
  joins_at,
  line_text,
  lines_read,
  marked_in,
  marks,
  measure,
  most_counted,
  replacements,
  shown_number,
  strays_in,
}
use Rattle.conversion_reports.proofs.Counting.{next_leads}
use Rattle.conversion_reports.proofs.Readings.{first_read}

pick : {A : Type 0} (b : Bool) (x y : A) → b ≡ true → (if b then x else y) ≡ x
pick b x y e = ap (λ (t : Bool). if t then x else y) e

-- a unit of ASCII is a whole character
counted_only : (u : ℕ) (us : List ℕ) (rest : ℕ → ℕ) → u < 128 → counted rest (front (u ∷ us)) ≡ rest 0
unfolding front
counted_only u us rest h = ap (λ b. counted rest b) (pick (nat_lt u 0x80) _ _ (grind (arith, nat_tests)))

no_strays : (us : List ℕ) → IsAscii us → strays 0 us ≡ 0
no_strays [] h = refl
no_strays (u ∷ us) h = counted_only u us (λ n. strays n us) h.0 ∙ no_strays us h.1

nothing_more : (n : ℕ) → 0 + n ≡ n
nothing_more n = omega arith

no_marks : (us : List ℕ) → IsAscii us → marked_others false us ≡ 0
no_marks [] h = refl
no_marks (u ∷ us) h = ap (λ (o : Option ℕ). if is_some o then marked_others true us
    else one_if (false && not (is_ansel_letter u)) + marked_others false us) (no_mark u h.0)
    ∙ (nothing_more (marked_others false us) ∙ no_marks us h.1)

other_first : (u : ℕ) → u < 128 → (u == 0xEF) ≡ false
other_first u h = grind (arith, nat_tests)

no_replacement : (u : ℕ) (us : List ℕ) → u < 128 → is_replacement (u ∷ us) ≡ false
no_replacement u [] h = refl
no_replacement u (b ∷ []) h = refl
no_replacement u (b ∷ c ∷ more) h = ap (λ t. t && b == 0xBF && c == 0xBD) (other_first u h)

no_replacements : (us : List ℕ) → IsAscii us → replacements us ≡ 0
no_replacements [] h = refl
no_replacements (u ∷ us) h =
    ap (λ b. one_if b + replacements us) (no_replacement u us h.0)
    ∙ (nothing_more (replacements us) ∙ no_replacements us h.1)

own_text : (set : CharacterSet) (us : List ℕ) → IsAscii us → line_text set us ≡ us
own_text set us h = ap encode_utf8_all (stays set us h) ∙ encodes_ascii us h

no_stray_in : (set : CharacterSet) (us : List ℕ) → IsAscii us → strays_in set us ≡ 0
no_stray_in Utf8 us h = no_strays us h
no_stray_in Utf16Le us h = refl
no_stray_in Utf16Be us h = refl
no_stray_in Windows1252 us h = refl
no_stray_in CodePage437 us h = refl
no_stray_in CodePage850 us h = refl
no_stray_in Macintosh us h = refl
no_stray_in Ansel us h = refl

no_marked_in : (set : CharacterSet) (us : List ℕ) → IsAscii us → marked_in set us ≡ 0
no_marked_in Utf8 us h = refl
no_marked_in Utf16Le us h = refl
no_marked_in Utf16Be us h = refl
no_marked_in Windows1252 us h = refl
no_marked_in CodePage437 us h = refl
no_marked_in CodePage850 us h = refl
no_marked_in Macintosh us h = refl
no_marked_in Ansel us h = no_marks us h

none_of : (kind : Kind) (set : CharacterSet) (carry body : List ℕ) → is_plain carry body ≡ true
    → 0 ≡ measure kind set (joins_at carry body) body
none_of Other set carry body p =
    let own = own_text set body (plain_is_ascii carry body p) in
    sym (ap (λ t. one_if (not (list_all is_ascii t))) own ∙ ap (λ b. one_if (not b)) (both _ _ p).1)
none_of Joined set carry body p =
    sym (ap (λ us. one_if (joins_at us body)) (nothing_in_front carry body p))
none_of Stray set carry body p = sym (no_stray_in set body (plain_is_ascii carry body p))
none_of Replaced set carry body p = let h = plain_is_ascii carry body p in
    sym (ap replacements (own_text set body h) ∙ no_replacements body h)
none_of Marked set carry body p = sym (no_marked_in set body (plain_is_ascii carry body p))

same_count : (c m : ℕ) → c ≤ m → c ≡ min (c + 0) m
same_count c m h = omega (arith, h)

-- what was counted so far stays
passed : (kind : Kind) (set : CharacterSet) (n m c : ℕ) (carry us rest body ending first : List ℕ)
    (all : List (ℕ × ℕ)) → is_plain carry body ≡ true
    → lines us ≡ record { body = body; ending = ending } ∷ lines rest → m ≡ next_number n body
    → Leads c first (marks kind set (lines_read set n carry (lines us))) all
    → Leads c first (marks kind set (lines_read set m carry (lines rest))) all
passed kind set n m c carry us rest body ending first all p e b h =
    let l : LineRead = record { number = shown_number n; joins = joins_at carry body; units = body } in
    let read : lines_read set n carry (lines us) ≡ l ∷ lines_read set m carry (lines rest) =
    first_read set n (shown_number n) m (joins_at carry body) us carry body ending body ending carry rest (lines rest)
    e (plain_moves set carry body ending (lines us) (lines rest) p e)
    (sym (plain_left_over set carry body ending (lines us) (lines rest) p e)) (sym (ap (drop 1) e)) refl refl b in
    next_leads kind set _ _ c 0 c l first first all read (none_of kind set carry body p)
    (same_count c most_counted h.bound) refl h

pub plain_leads : (kind : Kind) (set : CharacterSet) (n m c : ℕ) (carry shown us rest body ending first : List ℕ)
    (all : List (ℕ × ℕ)) → shown ≡ carry → is_plain shown body ≡ true
    → lines us ≡ record { body = body; ending = ending } ∷ lines rest → m ≡ next_number n body
    → Leads c first (marks kind set (lines_read set n carry (lines us))) all
    → Leads c first (marks kind set (lines_read set m carry (lines rest))) all
plain_leads kind set n m c carry shown us rest body ending first all s p e b h =
    passed kind set n m c carry us rest body ending first all (subst (λ us. is_plain us body ≡ true) s p) e b h

-- A line of ASCII that has nothing in front of its value stays as it is in each set.
use Rattle.std.proofs.Common.{
  ◌≡◌,
  ◌∙◌,
  ◌+◌,
  ◌-◌,
  ◌<◌,
  ◌≤◌,
  ◌==◌,
  ◌&&◌,
  ◌++◌,
  ◌∷◌,
  [],
  Bool,
  List,
  Option,
  Some,
  None,
  ap,
  arith,
  drop,
  encode_utf8_all,
  eqb-true,
  false,
  if◌then◌else◌,
  is_some,
  length,
  length-drop,
  map,
  nat_le,
  nat_lt,
  refl,
  slice_index_or,
  suc,
  sym,
  take,
  true,
  zero,
  ℕ,
}
use Rattle.std.specs.List.{AllByRecursion, list_all}
use Rattle.std.specs.Char.Utf16.{is_high_surrogate, is_low_surrogate}
use Rattle.std.proofs.Math.Seq.{take-length}
use Rattle.std.proofs.lemmas.Bool.Decides.{nat_tests}
use Rattle.std.proofs.lemmas.List.{drop_all}
use Rattle.std.proofs.lemmas.Str.{encode_ascii}
use Rattle.character_sets.specs.declared.set.CharacterSet.{CharacterSet}
use Rattle.character_sets.specs.declared.set.CharacterSet.TheVariants.{
  Utf8,
  Utf16Le,
  Utf16Be,
  Windows1252,
  CodePage437,
  CodePage850,
  Macintosh,
  Ansel,
}
use Rattle.character_sets.specs.declared.heads.LineHead.{LineHead}
use Rattle.character_sets.specs.Ansel.{mark}
use Rattle.character_sets.specs.Cuts.{
  cut_units,
  goes_on as goes_on_units,
  marks_at_end,
  reaches_beyond,
  utf16_cut,
  utf8_cut,
}
use Rattle.character_sets.specs.Heads.{head_of}
use Rattle.character_sets.specs.Lines.{Line, is_blank}
use Rattle.character_sets.specs.Moves.{
  cut_at,
  cut_between,
  goes_on,
  kept,
  last,
  left_over,
  moved,
  next_body,
}
use Rattle.character_sets.specs.Sets.{characters}
use Rattle.character_sets.specs.Utf8.{front}
use Rattle.character_sets.proofs.Ascii.{stays}
use Rattle.file_conversion.specs.Conversion.{is_ascii}
use Rattle.file_conversion.specs.PlainLines.{is_plain, plain_character}

abbrev pub IsAscii : List ℕ → Type 0
IsAscii units = AllByRecursion (λ u. u < 128) units

pub both : (a b : Bool) → (a && b) ≡ true → (a ≡ true) × (b ≡ true)
both true b e = (refl, e)
both false b e = absurd cc

below : (u : ℕ) → is_ascii u ≡ true → u < 128
below u e = grind (arith, nat_tests)

is_less : (u n : ℕ) → u < n → nat_lt u n ≡ true
is_less u n h = grind (arith, nat_tests)

is_not_less : (u n : ℕ) → n ≤ u → nat_lt u n ≡ false
is_not_less u n h = grind (arith, nat_tests)

pub all_ascii : (us : List ℕ) → list_all is_ascii us ≡ true → IsAscii us
all_ascii [] e = tt
all_ascii (u ∷ us) e =
    let parts = both (is_ascii u) (list_all is_ascii us) e in (below u parts.0, all_ascii us parts.1)

dropped : (n : ℕ) (us : List ℕ) → IsAscii us → IsAscii (drop n us)
dropped zero us h = h
dropped (suc n) [] h = h
dropped (suc n) (u ∷ us) h = dropped n us h.1

pick : {A : Type 0} (b : Bool) (x y : A) → b ≡ true → (if b then x else y) ≡ x
pick b x y e = ap (λ (t : Bool). if t then x else y) e

-- a unit of ASCII is a whole character
reaches_only : (u : ℕ) (us : List ℕ) (k : ℕ) → u < 128 → reaches_beyond (front (u ∷ us)) k ≡ nat_lt k 1
unfolding front
reaches_only u us k h = ap (λ b. reaches_beyond b k) (pick (nat_lt u 0x80) _ _ (is_less u 128 h))

pub no_mark : (u : ℕ) → u < 128 → mark u ≡ None
unfolding mark
no_mark u h = pick (nat_lt u 224) _ _ (is_less u 224 (omega (arith, h)))

-- ---- no unit goes to the next line
not_beyond : (xs ys : List ℕ) (k : ℕ) → 0 < length xs → 0 < k → IsAscii xs
    → reaches_beyond (front (xs ++ ys)) k ≡ false
not_beyond [] ys k h p a = absurd (omega (arith, h))
not_beyond (x ∷ xs) ys k h p a =
    reaches_only x (xs ++ ys) k a.0 ∙ is_not_less k 1 (omega (arith, p))

none_goes_on : (value after : List ℕ) (k : ℕ) → 0 < k → IsAscii value → goes_on_units value after k ≡ false
unfolding goes_on_units
none_goes_on value after k p a =
    let n = length value - k in
    elim (nat_le k (length value)) as (λ b. nat_le k (length value) ≡ b
    → (b && reaches_beyond (front (drop n value ++ take 3 after)) k) ≡ false) [
      | true ↦ λ is.
          let le : k ≤ length value = grind (arith, nat_tests) in
          not_beyond (drop n value) (take 3 after) k (rw (length-drop n value) (omega (arith, p, le))) p
          (dropped n value a)
      | false ↦ λ is. refl
    ] refl

utf8_uncut : (value after : List ℕ) → IsAscii value → utf8_cut value after ≡ 0
utf8_uncut value [] a = refl
utf8_uncut value (x ∷ xs) a =
    rw (
      none_goes_on value (x ∷ xs) 1 (omega arith) a,
      none_goes_on value (x ∷ xs) 2 (omega arith) a,
      none_goes_on value (x ∷ xs) 3 (omega arith) a,
    ) refl

low_at : (us : List ℕ) (i : ℕ) → IsAscii us → slice_index_or us i 0 < 128
low_at [] i h = omega arith
low_at (u ∷ us) zero h = h.0
low_at (u ∷ us) (suc i) h = low_at us i h.1

not_high : (u : ℕ) → u < 128 → is_high_surrogate u ≡ false
not_high u h = grind (arith, nat_tests)

utf16_uncut : (value after : List ℕ) → IsAscii value → utf16_cut value after ≡ 0
utf16_uncut value after a = ap (λ (b : Bool). if b && is_low_surrogate (slice_index_or after 0 0) then 1 else 0)
    (not_high (slice_index_or value (length value - 1) 0) (low_at value (length value - 1) a))

unmarked : (us : List ℕ) → IsAscii us → marks_at_end 0 us ≡ 0
unmarked [] h = refl
unmarked (u ∷ us) h = ap (λ (o : Option ℕ). marks_at_end (if is_some o then 0 + 1 else 0) us) (no_mark u h.0)
    ∙ unmarked us h.1

uncut_units : (set : CharacterSet) (value after : List ℕ) → IsAscii value → cut_units set value after ≡ 0
uncut_units Utf8 value after a = utf8_uncut value after a
uncut_units Utf16Le value after a = utf16_uncut value after a
uncut_units Utf16Be value after a = utf16_uncut value after a
uncut_units Windows1252 value after a = refl
uncut_units CodePage437 value after a = refl
uncut_units CodePage850 value after a = refl
uncut_units Macintosh value after a = refl
uncut_units Ansel value after a = unmarked value a

uncut_between : (set : CharacterSet) (body next : List ℕ) (h k : Option LineHead) → IsAscii body
    → cut_between set [] body next h k ≡ 0
uncut_between set body next None k a = refl
uncut_between set body next (Some h) None a = refl
uncut_between set body next (Some h) (Some k) a =
    elim (goes_on h k) as (λ b. (if b then cut_units set (drop h.value_at body) (drop k.value_at next) else 0) ≡ 0) [
      | true ↦ uncut_units set (drop h.value_at body) (drop k.value_at next) (dropped h.value_at body a)
      | false ↦ refl
    ]

uncut : (set : CharacterSet) (body next : List ℕ) → IsAscii body → cut_at set [] body next ≡ 0
unfolding cut_at
uncut set body next a = uncut_between set body next (head_of body) (head_of next) a

no_less : (n : ℕ) → n - 0 ≡ n
no_less n = omega arith

all_kept : (body : List ℕ) → kept 0 body ≡ body
all_kept body = ap (λ n. take n body) (no_less (length body)) ∙ take-length body

none_last : (body : List ℕ) → last 0 body ≡ []
none_last body = drop_all (length body - 0) body (omega arith)

stays_first : (set : CharacterSet) (l : Line) (ls : List Line) → IsAscii l.body
    → moved set [] (l ∷ ls) ≡ l ∷ moved set [] ls
stays_first set l ls a =
    let n = cut_at set [] l.body (next_body ls) in
    elim (is_blank l.body) as (λ b. (if b then l ∷ moved set [] ls
    else record { body = kept n l.body; ending = l.ending } ∷ moved set (last n l.body) ls) ≡ l ∷ moved set [] ls) [
      | true ↦ refl
      | false ↦
          ap (λ m. record { body = kept m l.body; ending = l.ending } ∷ moved set (last m l.body) ls)
          (uncut set l.body (next_body ls) a)
          ∙ (ap (λ body. record { body = body; ending = l.ending } ∷ moved set (last 0 l.body) ls) (all_kept l.body)
          ∙ ap (λ carry. l ∷ moved set carry ls) (none_last l.body))
    ]

none_over : (set : CharacterSet) (l : Line) (ls : List Line) → IsAscii l.body → left_over set [] (l ∷ ls) ≡ []
none_over set l ls a =
    let n = cut_at set [] l.body (next_body ls) in
    elim (is_blank l.body) as (λ b. (if b then [] else last n l.body) ≡ []) [
      | true ↦ refl
      | false ↦ ap (λ m. last m l.body) (uncut set l.body (next_body ls) a) ∙ none_last l.body
    ]

pub nothing_in_front : (carry body : List ℕ) → is_plain carry body ≡ true → carry ≡ []
nothing_in_front [] body e = refl
nothing_in_front (c ∷ cs) body e =
    let none = eqb-true (length (c ∷ cs)) 0 (both (length (c ∷ cs) == 0) (list_all is_ascii body) e).0 in
    absurd (omega (arith, none))

pub plain_is_ascii : (carry body : List ℕ) → is_plain carry body ≡ true → IsAscii body
plain_is_ascii carry body e = all_ascii body (both (length carry == 0) (list_all is_ascii body) e).1

pub plain_moves : (set : CharacterSet) (carry body ending : List ℕ) (ls ms : List Line) → is_plain carry body ≡ true
    → ls ≡ record { body = body; ending = ending } ∷ ms
    → moved set carry ls ≡ record { body = body; ending = ending } ∷ moved set carry ms
plain_moves set carry body ending ls ms p e =
    rw (nothing_in_front carry body p)
    (ap (moved set []) e ∙ stays_first set (record { body = body; ending = ending }) ms (plain_is_ascii carry body p))

pub plain_left_over : (set : CharacterSet) (carry body ending : List ℕ) (ls ms : List Line)
    → is_plain carry body ≡ true → ls ≡ record { body = body; ending = ending } ∷ ms → left_over set carry ls ≡ carry
plain_left_over set carry body ending ls ms p e =
    rw (nothing_in_front carry body p)
    (ap (left_over set []) e ∙ none_over set (record { body = body; ending = ending }) ms (plain_is_ascii carry body p))

-- ---- each unit is its character
own_characters : (us : List ℕ) → IsAscii us → map plain_character us ≡ us
own_characters [] h = refl
own_characters (u ∷ us) h = ap (λ (b : Bool). (if b then u else 0xFFFD) ∷ map plain_character us) (is_less u 128 h.0)
    ∙ ap (λ r. u ∷ r) (own_characters us h.1)

pub encodes_ascii : (us : List ℕ) → IsAscii us → encode_utf8_all us ≡ us
encodes_ascii [] h = refl
encodes_ascii (u ∷ us) h = ap (λ r. r ++ encode_utf8_all us) (encode_ascii u h.0)
    ∙ ap (λ r. u ∷ r) (encodes_ascii us h.1)

pub plain_characters : (set : CharacterSet) (us : List ℕ) → list_all is_ascii us ≡ true
    → map plain_character us ≡ characters set us
plain_characters set us e = own_characters us (all_ascii us e) ∙ sym (stays set us (all_ascii us e))

pub pushed : (set : CharacterSet) (us old new : List ℕ) → list_all is_ascii us ≡ true
    → new ≡ old ++ encode_utf8_all (map plain_character us) → new ≡ old ++ encode_utf8_all (characters set us)
pushed set us old new e n = n ∙ ap (λ cs. old ++ encode_utf8_all cs) (plain_characters set us e)

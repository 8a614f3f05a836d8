-- How a line is read, from its front to its end: the parts of a line, or the first fault.
use Rattle.std.specs.Prelude.{
  ◌≡◌,
  ℕ,
  ◌+◌,
  ◌-◌,
  ◌*◌,
  Bool,
  ◌&&◌,
  ◌||◌,
  ◌==◌,
  not,
  nat_lt,
  nat_le,
  if◌then◌else◌,
  List,
  [],
  ◌∷◌,
  length,
  take,
  drop,
  Option,
  Some,
  None,
  Result,
  Ok,
  Err,
  codes,
  option_map,
  slice_index,
  MatchResult,
}
use Rattle.std.specs.Option.{option_map_or, ok_or}
use Rattle.gedcom_line.specs.declared.fault.LineFault.{LineFault}
use Rattle.std.specs.Borrow.{Bor}
use Rattle.std.specs.List.{prefix_len, list_all, list_any, before_first, after_first, position_or_len}
use Rattle.std.specs.Str.{is_utf8, bytes_eq}
use Rattle.gedcom_line.specs.Words.{is_white, is_digit, is_space, is_word, is_at}
use Rattle.gedcom_line.specs.Past.{past_char}
use Rattle.gedcom_line.specs.declared.fault.LineKind.{LineKind}
use Rattle.gedcom_line.specs.declared.fault.LineKind.TheVariants.{NotUtf8, BadLevel, BadXref, BadTag, Nul}
use Rattle.gedcom_line.specs.declared.line.LineRef.{LineRef}

-- what a line says
pub record Parts : Type 0 where
  pub level : ℕ
  pub xref : Option (List ℕ)
  pub tag : List ℕ
  pub raw : List ℕ

-- what a borrowed line says
abbrev pub parts : LineRef → Parts
parts l = record {
  level = l.level;
  xref = option_map (λ (s : Bor (List ℕ)). s.now) l.xref;
  tag = l.tag.now;
  raw = l.raw.now;
}

-- what follows the characters at the front that pass the test
abbrev pub skip : (ℕ → Bool) → List ℕ → List ℕ
skip p t = drop (prefix_len p t) t

-- one or two digits
abbrev pub number_of : List ℕ → Option ℕ
number_of [] = None
number_of (a ∷ []) = Some (a - 48)
number_of (a ∷ b ∷ []) = Some (10 * (a - 48) + (b - 48))
number_of (a ∷ b ∷ c ∷ ds) = None

-- one space or more, and then what is left
abbrev pub after_gap : List ℕ → Option (List ℕ)
after_gap t = if prefix_len is_space t == 0 then None else Some (skip is_space t)

infixl 10 ◌>>=◌
abbrev pub ◌>>=◌ : {A B : Type 0} → Option A → (A → Option B) → Option B
(Some x) >>= f = f x
None >>= f = None

-- a level and the spaces after it
unfoldable pub level_at : List ℕ → Option (ℕ × List ℕ)
level_at t = do
  n ← number_of (take (prefix_len is_digit t) t)
  rest ← after_gap (skip is_digit t)
  Some (n, rest)

-- begins with a letter, a digit or an underscore, and has with the two @ at most 64 bytes
abbrev pub is_name : List ℕ → Bool
is_name name = is_word (slice_index name 0) && nat_le (length name) 62

-- after the first @: a name, the second @ and the spaces after it; t is all of it
abbrev pub named_at : List ℕ → List ℕ → Option (Option (List ℕ) × List ℕ)
named_at t inner =
    if nat_lt (position_or_len is_at inner) (length inner) && is_name (before_first is_at inner)
    then (after_gap (after_first is_at inner) >>= λ rest. Some (
      Some (take (length (before_first is_at inner) + 2) t),
      rest,
    )) else None

-- a cross reference and the spaces after it, or nothing where the text begins otherwise
unfoldable pub xref_at : List ℕ → Option (Option (List ℕ) × List ℕ)
xref_at t = option_map_or (named_at t) (past_char 64 t) (Some (None, t))

-- nothing, or what stands after one space
abbrev pub value_after : List ℕ → Option (List ℕ)
value_after [] = Some []
value_after (b ∷ bs) = past_char 32 (b ∷ bs)

-- a tag, and its value
unfoldable pub tag_at : List ℕ → Option (List ℕ × List ℕ)
tag_at t = if prefix_len is_word t == 0 || nat_lt 31 (prefix_len is_word t) then None
    else (value_after (skip is_word t) >>= λ raw. Some (take (prefix_len is_word t) t, raw))

-- CONC or CONT
abbrev pub is_continuation : List ℕ → Bool
is_continuation t = bytes_eq t (codes "CONC") || bytes_eq t (codes "CONT")

infixl 10 ◌>>=r◌
abbrev pub ◌>>=r◌ : {A B : Type 0} → Result A LineKind → (A → Result B LineKind) → Result B LineKind
(Ok x) >>=r f = f x
(Err e) >>=r f = Err e

-- level 99 is only for CONC and CONT
abbrev pub with_tag : ℕ → Option (List ℕ) → List ℕ × List ℕ → Result Parts LineKind
with_tag n x t = if n == 99 && not (is_continuation t.0) then Err BadLevel else Ok
    (record { level = n; xref = x; tag = t.0; raw = t.1 })

-- a line that begins with its level
unfoldable pub reading_from : List ℕ → Result Parts LineKind
reading_from t =
    ok_or (level_at t) BadLevel >>=r λ n.
    ok_or (xref_at n.1) BadXref >>=r λ x.
    ok_or (tag_at x.1) BadTag >>=r λ tag. with_tag n.0 x.0 tag

-- UTF-8 without U+0000
abbrev pub text_at : List ℕ → Result (List ℕ) LineKind
text_at b = if list_any (λ x. x == 0) b then Err Nul else if is_utf8 b then Ok b else Err NotUtf8

-- what stands between two line ends: nothing where it is blank, else a line or the first fault
unfoldable pub reading : List ℕ → Result (Option Parts) LineKind
reading b =
    if list_all is_white b then Ok None
    else (text_at b >>=r λ t. reading_from (skip is_white t) >>=r λ l. Ok (Some l))

-- what a function answered, seen by view
abbrev pub Answers : {X Y : Type 0} → (X → Y) → Result X LineFault → Result Y LineKind → Type 0
Answers view r answer = MatchResult r (λ x. answer ≡ Ok (view x)) (λ f. answer ≡ Err f.kind)

-- The rules of a file that a line keeps or breaks after the lines before it, and which one it breaks first.
--
-- Level 0 HEAD first and level 0 TRLR last, a level at most one above that of the line before, CONC and CONT below the
-- line that they continue, cross references that name one line: The GEDCOM Standard Release 5.5.1, chapter 1; the
-- character set and the version that the header names: chapter 2. The limits and the order are the project's own
-- (docs/FORMATS.md).
use Rattle.std.specs.Prelude.{
  ℕ,
  ◌+◌,
  ◌-◌,
  Bool,
  true,
  false,
  not,
  ◌&&◌,
  ◌||◌,
  ◌==◌,
  nat_lt,
  nat_le,
  if◌then◌else◌,
  List,
  [],
  ◌∷◌,
  ◌++◌,
  length,
  take,
  drop,
  map,
  Option,
  Some,
  None,
  is_some,
  find,
  codes,
}
use Rattle.std.specs.Option.{option_map_or}
use Rattle.std.specs.List.{list_all, list_any, flat_map}
use Rattle.std.specs.Str.{bytes_eq}
use Rattle.std.specs.Char.{to_ascii_lowercase}
use Rattle.gedcom_line.specs.Words.{is_space}
use Rattle.gedcom_line.specs.Escape.{unescaped}
use Rattle.gedcom_line.specs.Split.{char_count}
use Rattle.gedcom_line.specs.Value.{Meaning, Text, Pointer, value_of}
use Rattle.gedcom_line.specs.Reading.{Parts, is_continuation, skip}
use Rattle.gedcom_line.specs.declared.fault.LineKind.{LineKind}
use Rattle.gedcom_line.specs.declared.fault.LineKind.TheVariants as line
use Rattle.gedcom_rules.specs.declared.fault.TreeKind.{TreeKind}
use Rattle.gedcom_rules.specs.declared.fault.TreeKind.TheVariants.{
  NotUtf8,
  BadLevel,
  BadXref,
  BadTag,
  Nul,
  LevelJump,
  NoHead,
  AfterTrailer,
  BadContinuation,
  ContinuationHasChildren,
  DuplicateXref,
  TextTooLong,
  Charset,
  Version,
}
use Rattle.gedcom_rules.specs.declared.standing.Role.{Role}
use Rattle.gedcom_rules.specs.declared.standing.Role.TheVariants as role
use Rattle.gedcom_rules.specs.Continuing.{belongs, adds}

-- level 0 HEAD
abbrev pub is_head : Parts → Bool
is_head l = l.level == 0 && bytes_eq l.tag (codes "HEAD")

-- level 0 TRLR
abbrev pub is_trailer : Parts → Bool
is_trailer l = l.level == 0 && bytes_eq l.tag (codes "TRLR")

-- the most bytes of a text
abbrev pub max_text : ℕ
max_text = 1048576

-- What lines leave for the line after them.

-- what the rules know a tag by
abbrev pub role_of : List ℕ → Role
role_of t =
    if is_continuation t then role.Continuation
    else (if bytes_eq t (codes "CHAR") then role.Charset
    else (if bytes_eq t (codes "GEDC") then role.Gedcom
    else (if bytes_eq t (codes "VERS") then role.Version else role.Other)))

-- a line below which further lines may stand: what its tag is, whether its value is a text, and how many bytes that
-- text may still get
pub record Standing : Type 0 where
  pub role : Role
  pub text : Bool
  pub room : ℕ

abbrev pub is_text : Meaning → Bool
is_text (Text t) = true
is_text (Pointer p) = false

-- that of a line with those that continue it; no text is longer than it may be, since the line that made it so was
-- refused
abbrev pub standing : Parts → List Parts → Standing
standing l more = record {
  role = role_of l.tag;
  text = is_text (value_of l);
  room = max_text - length (unescaped l.raw ++ flat_map adds more);
}

-- among lines the one of the level with only deeper lines after it
abbrev pub standing_at : ℕ → List Parts → Option Standing
standing_at n [] = None
standing_at n (l ∷ ls) = if l.level == n && list_all (λ m. nat_lt n m.level) ls then Some
    (standing l (belongs n ls)) else standing_at n ls

-- what lines leave: how many they are, the level of the last one (0 where there is none), whether the trailer is among
-- them, whether the last one belongs to the header, which cross references stand on them, and which lines still stand
-- open, by their levels
pub record Progress : Type 0 where
  pub count : ℕ
  pub last : ℕ
  pub done : Bool
  pub in_head : Bool
  pub named : List ℕ → Bool
  pub above : ℕ → Option Standing

abbrev pub last_level : List Parts → ℕ
last_level [] = 0
last_level (l ∷ []) = l.level
last_level (l ∷ m ∷ ls) = last_level (m ∷ ls)

-- no level 0 after the first line
abbrev pub is_in_head : List Parts → Bool
is_in_head [] = false
is_in_head (l ∷ ls) = list_all (λ m. not (m.level == 0)) ls

-- the line has the cross reference
abbrev pub has_name : List ℕ → Parts → Bool
has_name x l = option_map_or (bytes_eq x) l.xref false

abbrev pub progress_of : List Parts → Progress
progress_of ls = record {
  count = length ls;
  last = last_level ls;
  done = list_any is_trailer ls;
  in_head = is_in_head ls;
  named = λ x. list_any (has_name x) ls;
  above = λ n. standing_at n ls;
}

-- the line one level above
abbrev pub parent : Progress → ℕ → Option Standing
parent p level = if level == 0 then None else p.above (level - 1)

abbrev pub is_continued : Role → Bool
is_continued role.Continuation = true
is_continued _ = false

abbrev pub is_charset_tag : Role → Bool
is_charset_tag role.Charset = true
is_charset_tag _ = false

abbrev pub is_gedcom_tag : Role → Bool
is_gedcom_tag role.Gedcom = true
is_gedcom_tag _ = false

abbrev pub is_version_tag : Role → Bool
is_version_tag role.Version = true
is_version_tag _ = false

-- a line of the header names the character set: HEAD.CHAR
abbrev pub names_set : Progress → ℕ → Role → Bool
names_set p level r = p.in_head && level == 1 && is_charset_tag r

-- a line of the header names the version: HEAD.GEDC.VERS
abbrev pub names_version : Progress → ℕ → Role → Bool
names_version p level r = p.in_head && level == 2 && is_version_tag r && option_map_or (λ s. is_gedcom_tag s.role)
    (p.above 1) false

-- The two texts of the header.

abbrev pub max_header_text : ℕ
max_header_text = 100

-- spaces, the name in upper or lower case, spaces
abbrev pub is_set : List ℕ → List ℕ → Bool
is_set t name =
    bytes_eq (map to_ascii_lowercase (take (length name) (skip is_space t))) (map to_ascii_lowercase name)
    && list_all is_space (drop (length name) (skip is_space t))

-- a character set that is read; a text with an @ names none, so this may be asked of a text as it is written
abbrev pub is_charset : List ℕ → Bool
is_charset t = nat_le (length t) max_header_text &&
    (is_set t (codes "UTF-8") || is_set t (codes "UTF8") || is_set t (codes "ASCII"))

abbrev pub begins_with_7 : List ℕ → Bool
begins_with_7 [] = false
begins_with_7 (b ∷ bs) = b == 55

-- a version that is read
abbrev pub is_version : List ℕ → Bool
is_version t = not (begins_with_7 t) && nat_le (char_count t) max_header_text

abbrev pub is_version_value : Meaning → Bool
is_version_value (Text raw) = is_version (unescaped raw)
is_version_value (Pointer p) = true

-- The rules.

-- what stands above may go on: it is a text, and not one of the two of the header
abbrev pub may_go_on : Progress → ℕ → Standing → Bool
may_go_on p level s = s.text && not (names_set p level s.role) && not (names_version p level s.role)

-- whether a line breaks the rule that a refusal names
abbrev pub breaks : Progress → Parts → TreeKind → Bool
breaks p l AfterTrailer = p.done
breaks p l NoHead = p.count == 0 && not (is_head l)
breaks p l LevelJump = nat_lt (p.last + 1) l.level
breaks p l ContinuationHasChildren = option_map_or (λ s. is_continued s.role) (parent p l.level) false
breaks p l BadContinuation = is_continuation l.tag &&
    (is_some l.xref || not (option_map_or (may_go_on p (l.level - 1)) (parent p l.level) false))
breaks p l DuplicateXref = option_map_or p.named l.xref false
breaks p l TextTooLong = is_continuation l.tag && option_map_or (λ s. nat_lt s.room (length (adds l)))
    (parent p l.level) false
breaks p l Charset = names_set p l.level (role_of l.tag) && not (is_charset l.raw)
breaks p l Version = names_version p l.level (role_of l.tag) && not (is_version_value (value_of l))
breaks p l _ = false

-- the order in which the rules are judged
abbrev pub order : List TreeKind
order = AfterTrailer ∷ NoHead ∷ LevelJump ∷ ContinuationHasChildren ∷ BadContinuation ∷ DuplicateXref ∷ TextTooLong
    ∷ Charset ∷ Version ∷ []

-- the first rule that the line breaks, after lines that leave p
abbrev pub first_broken : Progress → Parts → Option TreeKind
first_broken p l = find (breaks p l) order

-- the refusal of a line by itself, in the table of files
abbrev pub of_line : LineKind → TreeKind
of_line line.NotUtf8 = NotUtf8
of_line line.BadLevel = BadLevel
of_line line.BadXref = BadXref
of_line line.BadTag = BadTag
of_line line.Nul = Nul

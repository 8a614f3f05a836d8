-- The characters of a text as a search compares them: without regard to case, to marks and to how letters are composed.
-- The forms, foldings and categories are those of The Unicode Standard, sections 3.11, 3.13 and 4.5; the rest are rules
-- of our own.
use Rattle.std.specs.Prelude.{
  ℕ,
  Bool,
  not,
  ◌&&◌,
  ◌||◌,
  ◌==◌,
  if◌then◌else◌,
  List,
  [],
  ◌∷◌,
  map,
  filter,
  flat_map,
  codes,
}
use Rattle.ucd_case.specs.CaseFolding.{or_itself}
use Rattle.ucd_category.specs.GeneralCategory.{general_category, general_category_eq}
use Rattle.ucd_category.specs.declared.GeneralCategory.TheVariants.{NonspacingMark}
use Rattle.unicode_normalization.specs.Forms.{nfkd}
use Rattle.caseless.specs.Caseless.{default_case_fold}

-- what a letter is looked up as that Unicode does not take apart; nothing for all others
unfoldable pub plain_letters : ℕ → List ℕ
plain_letters c =
    if c == 0xD8 || c == 0xF8 then codes "o"
    else if c == 0x141 || c == 0x142 then codes "l"
    else if c == 0x110 || c == 0x111 || c == 0xD0 || c == 0xF0 then codes "d"
    else if c == 0xDE || c == 0xFE then codes "th"
    else if c == 0xC6 || c == 0xE6 then codes "ae"
    else if c == 0x152 || c == 0x153 then codes "oe"
    else if c == 0x131 then codes "i"
    else []

-- a mark that stands with a letter
unfoldable pub is_mark : ℕ → Bool
is_mark c = general_category_eq (general_category c) NonspacingMark

-- U+00B4, by compatibility a space with an acute accent, is an apostrophe
abbrev pub apostrophes : List ℕ → List ℕ
apostrophes [] = []
apostrophes (c ∷ []) = c ∷ []
apostrophes (c ∷ d ∷ cs) = if c == 32 && d == 0x301 then 39 ∷ apostrophes cs else c ∷ apostrophes (d ∷ cs)

-- a letter as it is looked up
abbrev pub letters_of : ℕ → List ℕ
letters_of c = or_itself c (plain_letters c)

-- without marks, and folded
abbrev pub kept : List ℕ → List ℕ
kept cs = default_case_fold (filter (λ c. not (is_mark c)) cs)

-- a decomposed text with its letters made plain, without marks, and folded
abbrev pub folded : List ℕ → List ℕ
folded cs = kept (flat_map letters_of (apostrophes cs))

-- a slash of a name, which parts a word no more than an apostrophe
unfoldable pub unslashed : ℕ → ℕ
unslashed c = if c == 47 then 39 else c

-- a text, by its code points
abbrev pub folded_text : List ℕ → List ℕ
folded_text text = folded (nfkd text)

-- the name of a person, by its code points
abbrev pub folded_name : List ℕ → List ℕ
folded_name name = folded (map unslashed (nfkd name))

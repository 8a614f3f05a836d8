-- Numbers put in place of references, a place at a time.
use Rattle.std.proofs.Common.{
  ◌≡◌,
  ◌∙◌,
  ◌⊎◌,
  ℕ,
  ◌+◌,
  ◌<◌,
  ◌≤◌,
  ◌++◌,
  ◌==◌,
  ◌||◌,
  ◌&&◌,
  Bool,
  true,
  false,
  List,
  [],
  ◌∷◌,
  length,
  take,
  get_or,
  set,
  zero,
  suc,
  ap,
  refl,
  sym,
  subst,
  arith,
}
use Rattle.std.specs.Prelude.{
  IsUtf8,
  None,
  Option,
  Some,
  bytes_eq,
  codes,
  cond,
  fold,
  if◌then◌else◌,
  is_some,
  nat_le,
  option_map,
}
use Rattle.std.specs.Str.{IsAscii}
use Rattle.std.specs.List.{list_all, list_any}
use Rattle.std.proofs.lemmas.Bool.{cases_eq, leb-true}
use Rattle.std.proofs.lemmas.Grind.{get_or-set_at}
use Rattle.std.proofs.lemmas.List.{get_or-set_other, take_all, take_more}
use Rattle.std.proofs.Math.Seq.{lt-length-set}
use Rattle.std.proofs.lemmas.List.Sums.{fold-append}
use Rattle.std.proofs.lemmas.Str.{IsUtf8-from_ascii}
use Rattle.std.proofs.lemmas.Str.Ascii.{IsAscii-cons, IsAscii-nil}
use Rattle.csv.specs.Records.{field_at}
use Rattle.commands.specs.Verbs.{verb_of, verb_word, verbs}
use Rattle.commands.specs.declared.verb.Verb.{Verb}
use Rattle.commands.specs.declared.verb.Verb.TheVariants as verb
use Rattle.record_fields.specs.Bytes.{bytes_are}
use Rattle.record_fields.specs.Words.{found}
use Rattle.receipts.specs.Tokens.{is_printable}
use Rattle.row_references.specs.Naming.{corrected_fields, naming_by, naming_of}
use Rattle.row_references.specs.References.{
  Fills,
  FillsOne,
  IsNumbered,
  any_number,
  by_token,
  has_references,
  is_token,
  numbered,
  numbered_at,
  token_in,
  with_number,
}

-- ---- a place more
abbrev pub so_far : (List ℕ → Option ℕ) → List (List ℕ) → List ℕ → Option (List (List ℕ))
so_far known row places = fold (numbered_at known) (Some row) places

pub one_more : (known : List ℕ → Option ℕ) (row : List (List ℕ)) (ns : List ℕ) (i : ℕ) → i < length ns
    → so_far known row (take (i + 1) ns) ≡ numbered_at known (so_far known row (take i ns)) (get_or ns i 0)
one_more known row ns i less = ap (so_far known row) (take_more ns i 0 less)
    ∙ fold-append (numbered_at known) (Some row) (take i ns) (get_or ns i 0 ∷ [])

pub all_numbered : (known : List ℕ → Option ℕ) (row : List (List ℕ)) (ns : List ℕ) (i : ℕ) → length ns ≤ i
    → so_far known row (take i ns) ≡ so_far known row ns
all_numbered known row ns i all = ap (so_far known row) (take_all i ns all)

-- ---- fields
pub none_empty : (fields : List (List ℕ)) (i : ℕ) → field_at fields i ≡ None → get_or fields i [] ≡ []
unfolding field_at
none_empty [] i e = refl
none_empty (f ∷ fs) zero e = cc e
none_empty (f ∷ fs) (suc i) e = none_empty fs i e

-- the next field of a row with one of its fields replaced
pub next_set : (row : List (List ℕ)) (i at : ℕ) (field : List ℕ) → i < length row
    → take (i + 1) (set row at field)
    ≡ take i (set row at field) ++ (if i == at then field else get_or row i []) ∷ []
next_set row i at field less =
    take_more (set row at field) i [] (lt-length-set row at field less)
    ∙ ap (λ (f : List ℕ). take i (set row at field) ++ f ∷ []) (chosen (cases_eq i at))
  where
    chosen : (i ≡ at) ⊎ (i ≡ at → ⊥) → get_or (set row at field) i [] ≡ (if i == at then field else get_or row i [])
    chosen h = grind (arith, get_or-set_at, get_or-set_other)

-- ---- a row without references
abbrev pub unknown : List ℕ → Option ℕ
unknown token = None

module _ (known : List ℕ → Option ℕ) (row : List (List ℕ)) where
  stays_by : (at : ℕ) (token : Option (List ℕ)) → is_some token ≡ false → by_token known row at token ≡ Some row
  stays_by at None e = refl
  stays_by at (Some t) e = cc e

  both_false : (a b : Bool) → (a || b) ≡ false → (a ≡ false) × (b ≡ false)
  both_false true b e = cc e
  both_false false b e = (refl, e)

  stays_at : (ns : List ℕ) → list_any (λ at. is_some (token_in (get_or row at []))) ns ≡ false
      → fold (numbered_at known) (Some row) ns ≡ Some row
  stays_at [] e = refl
  stays_at (n ∷ ns) e =
      let parts = both_false (is_some (token_in (get_or row n []))) _ e in
      ap (λ (r : Option (List (List ℕ))). fold (numbered_at known) r ns)
      (stays_by n (token_in (get_or row n [])) parts.0) ∙ stays_at ns parts.1

  pub all_stays : has_references row ≡ false → numbered known row ≡ Some row
  all_stays e = stays_at (naming_of row) e

-- ---- some numbers
pub fills_none : (row : List (List ℕ)) (at : ℕ) → token_in (get_or row at []) ≡ None
    → FillsOne at (Some row) (Some row)
fills_none row at none = (
  None,
  sym (ap (by_token (λ token. None) row at) none),
)

pub fills_some : (row : List (List ℕ)) (at : ℕ) (token : List ℕ) (number : Option ℕ) (after : Option (List (List ℕ)))
    → token_in (get_or row at []) ≡ Some token → after ≡ option_map (with_number row at) number
    → FillsOne at (Some row) after
fills_some row at token number after some is = (number, is ∙ sym (ap (by_token (λ t. number) row at) some))

fills_then : (ns : List ℕ) (n : ℕ) (a m b : Option (List (List ℕ))) → Fills ns a m → FillsOne n m b
    → Fills (ns ++ n ∷ []) a b
fills_then [] n a m b same one = (b, subst (λ (x : Option (List (List ℕ))). FillsOne n x b) same one, refl)
fills_then (k ∷ ns) n a m b all one = (all.0, all.1, fills_then ns n all.0 m b all.2 one)

pub fills_more : (ns : List ℕ) (i : ℕ) (a m b : Option (List (List ℕ))) → i < length ns → Fills (take i ns) a m
    → FillsOne (get_or ns i 0) m b → Fills (take (i + 1) ns) a b
fills_more ns i a m b less all one =
    subst (λ (places : List ℕ). Fills places a b) (sym (take_more ns i 0 less))
    (fills_then (take i ns) (get_or ns i 0) a m b all one)

pub fills_all : (ns : List ℕ) (i : ℕ) (a b : Option (List (List ℕ))) → length ns ≤ i → Fills (take i ns) a b
    → Fills ns a b
fills_all ns i a b all fills = subst (λ (places : List ℕ). Fills places a b) (take_all i ns all) fills

-- a row without references has no other numbers
fills_plain : (ns : List ℕ) (row : List (List ℕ)) (own : Option (List (List ℕ)))
    → list_any (λ at. is_some (token_in (get_or row at []))) ns ≡ false → Fills ns (Some row) own → own ≡ Some row
fills_plain [] row own none same = same
fills_plain (n ∷ ns) row own none fills =
    let parts = both_false unknown row (is_some (token_in (get_or row n []))) _ none in
    let stays = fills.1.1 ∙ stays_by (λ token. fills.1.0) row n (token_in (get_or row n [])) parts.0 in
    fills_plain ns row own parts.1 (subst (λ (m : Option (List (List ℕ))). Fills ns m own) stays fills.2)

pub only_itself : (row : List (List ℕ)) (own : Option (List (List ℕ))) → has_references row ≡ false
    → IsNumbered row own → own ≡ Some row
only_itself row own none fills = fills_plain (naming_of row) row own none fills

-- the numbers of a function are some numbers
fills_one : (known : List ℕ → Option ℕ) (n : ℕ) (a : Option (List (List ℕ))) → FillsOne n a (numbered_at known a n)
fills_one known n None = refl
fills_one known n (Some row) =
    elim (token_in (get_or row n [])) as (λ (t : Option (List ℕ)). (number : Option ℕ)
    × (by_token known row n t ≡ by_token (λ token. number) row n t)) [
      | None ↦ (None, refl)
      | Some t ↦ (known t, refl)
    ]

fills_by : (known : List ℕ → Option ℕ) (ns : List ℕ) (a : Option (List (List ℕ)))
    → Fills ns a (fold (numbered_at known) a ns)
fills_by known [] a = refl
fills_by known (n ∷ ns) a = (numbered_at known a n, fills_one known n a, fills_by known ns (numbered_at known a n))

pub is_numbered : (known : List ℕ → Option ℕ) (row : List (List ℕ)) → IsNumbered row (numbered known row)
is_numbered known row = fills_by known (naming_of row) (Some row)

-- with any number there is always one
any_from : (ns : List ℕ) (row : List (List ℕ))
    → (own : List (List ℕ)) × (fold (numbered_at any_number) (Some row) ns ≡ Some own)
any_from [] row = (row, refl)
any_from (n ∷ ns) row =
    elim (token_in (get_or row n [])) as (λ (t : Option (List ℕ)). (own : List (List ℕ))
    × (fold (numbered_at any_number) (by_token any_number row n t) ns ≡ Some own)) [
      | None ↦ any_from ns row
      | Some t ↦ any_from ns (with_number row n 1)
    ]

pub any_numbered : (row : List (List ℕ)) → (own : List (List ℕ)) × (numbered any_number row ≡ Some own)
any_numbered row = any_from (naming_of row) row

-- ---- a row with references whose tokens have no number
stays_none : (known : List ℕ → Option ℕ) (ns : List ℕ) → fold (numbered_at known) None ns ≡ None
stays_none known [] = refl
stays_none known (n ∷ ns) = stays_none known ns

none_from : (row : List (List ℕ)) (ns : List ℕ)
    → list_any (λ at. is_some (token_in (get_or row at []))) ns ≡ true
    → fold (numbered_at unknown) (Some row) ns ≡ None
none_from row [] e = cc e
none_from row (n ∷ ns) e =
    elim (token_in (get_or row n [])) as (λ (t : Option (List ℕ)). (is_some t
    || list_any (λ at. is_some (token_in (get_or row at []))) ns) ≡ true
    → fold (numbered_at unknown) (by_token unknown row n t) ns ≡ None) [
      | None ↦ λ more. none_from row ns more
      | Some t ↦ λ more. stays_none unknown ns
    ] e

pub all_unknown : (row : List (List ℕ)) → has_references row ≡ true → numbered unknown row ≡ None
all_unknown row e = none_from row (naming_of row) e

-- ---- a token is ASCII
both_true : (a b : Bool) → (a && b) ≡ true → (a ≡ true) × (b ≡ true)
both_true true b e = (refl, e)
both_true false b e = cc e

last_true : (a b c : Bool) → (a && b && c) ≡ true → c ≡ true
last_true true true c e = e
last_true true false c e = cc e
last_true false b c e = cc e

printed_ascii : (bs : List ℕ) → list_all is_printable bs ≡ true → IsAscii bs
printed_ascii [] e = IsAscii-nil
printed_ascii (b ∷ bs) e =
    let parts = both_true (is_printable b) (list_all is_printable bs) e in
    let below = leb-true b 126 (both_true (nat_le 33 b) (nat_le b 126) parts.0).1 in
    IsAscii-cons b bs (omega (arith, below)) (printed_ascii bs parts.1)

pub no_token : (bytes : List ℕ) → (IsUtf8 bytes → ⊥) → is_token bytes ≡ false
no_token bytes not = elim (is_token bytes) as (λ b. is_token bytes ≡ b → b ≡ false) [
  | true ↦ λ e. absurd (not (IsUtf8-from_ascii bytes (printed_ascii bytes (last_true (nat_le 1 (length bytes))
      (nat_le (length bytes) 64) (list_all is_printable bytes) e))))
  | false ↦ λ e. refl
] refl

-- ---- the verb of a row
word_printed : (v : Verb) → list_all is_printable (verb_word v) ≡ true
word_printed verb.Person = refl
word_printed verb.Name = refl
word_printed verb.Sex = refl
word_printed verb.Family = refl
word_printed verb.Child = refl
word_printed verb.Event = refl
word_printed verb.Amend = refl
word_printed verb.Participant = refl
word_printed verb.Place = refl
word_printed verb.Repo = refl
word_printed verb.Source = refl
word_printed verb.Citation = refl
word_printed verb.Entry = refl
word_printed verb.Link = refl
word_printed verb.Unlink = refl
word_printed verb.Merge = refl
word_printed verb.Undo = refl
word_printed verb.Remove = refl
word_printed verb.Partner = refl
word_printed verb.Unpartner = refl
word_printed verb.Unchild = refl
word_printed verb.Unparticipant = refl
word_printed verb.Correct = refl

word_utf8 : (v : Verb) → IsUtf8 (verb_word v)
word_utf8 v = IsUtf8-from_ascii (verb_word v) (printed_ascii (verb_word v) (word_printed v))

none_of : (vs : List Verb) (word : List ℕ) → (IsUtf8 word → ⊥) → found verb_word vs word ≡ None
none_of [] word not = refl
none_of (v ∷ vs) word not =
    elim (bytes_eq word (verb_word v)) as (λ b. bytes_eq word (verb_word v) ≡ b
    → cond b (Some v) (found verb_word vs word) ≡ None) [
      | true ↦ λ same. absurd (not (subst IsUtf8 (sym (bytes_are word (verb_word v) same)) (word_utf8 v)))
      | false ↦ λ other. none_of vs word not
    ] refl

pub naming_is : (row : List (List ℕ)) → naming_by (verb_of (get_or row 1 [])) (get_or row 3 []) ≡ naming_of row
unfolding verb_of
naming_is [] = refl
naming_is (token ∷ []) = refl
naming_is (token ∷ word ∷ fields) = refl

pub naming_none : (row : List (List ℕ)) → (IsUtf8 (get_or row 1 []) → ⊥) → [] ≡ naming_of row
unfolding verb_of
naming_none row not =
    sym (ap (λ (o : Option Verb). naming_by o (get_or row 3 [])) (none_of verbs (get_or row 1 []) not)) ∙ naming_is row

-- ---- the field of a correction
place_utf8 : IsUtf8 (codes "place")
place_utf8 = IsUtf8-from_ascii (codes "place") (printed_ascii (codes "place") refl)

repository_utf8 : IsUtf8 (codes "repository")
repository_utf8 = IsUtf8-from_ascii (codes "repository") (printed_ascii (codes "repository") refl)

other_word : (field word : List ℕ) → IsUtf8 word → (IsUtf8 field → ⊥) → bytes_eq field word ≡ false
other_word field word utf8 not = elim (bytes_eq field word) as (λ b. bytes_eq field word ≡ b → b ≡ false) [
  | true ↦ λ same. absurd (not (subst IsUtf8 (sym (bytes_are field word same)) utf8))
  | false ↦ λ other. refl
] refl

pub no_number_field : (field : List ℕ) → (IsUtf8 field → ⊥) → 2 ∷ [] ≡ corrected_fields field
no_number_field field not =
    rw (other_word field (codes "place") place_utf8 not, other_word field (codes "repository") repository_utf8 not) refl

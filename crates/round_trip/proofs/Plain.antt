-- Texts of the words and numbers that an export writes, and of paths.
use Rattle.std.specs.Prelude.{
  ℕ,
  zero,
  suc,
  ◌≡◌,
  ◌+◌,
  ◌<◌,
  ◌≤◌,
  ◌^◌,
  ◌==◌,
  ◌||◌,
  ◌&&◌,
  not,
  nat_lt,
  nat_le,
  Bool,
  true,
  false,
  List,
  [],
  ◌∷◌,
  ◌++◌,
  length,
  codes,
  Option,
  Some,
  None,
  decimal,
  refl,
}
use Rattle.std.specs.List.{list_all, list_any}
use Rattle.std.specs.Option.{unwrap_or}
use Rattle.std.specs.Char.{is_ascii_digit}
use Rattle.std.specs.FinMap.{get}
use Rattle.std.specs.Str.{IsAscii, IsUtf8}
use Rattle.std.proofs.Common.{sym, subst, ◌∙◌, arith}
use Rattle.std.proofs.lemmas.Bool.Decides.{nat_tests}
use Rattle.std.proofs.lemmas.Fmt.{digits_decimal, length-decimal-le}
use Rattle.std.proofs.lemmas.List.Folds.{list_any-append}
use Rattle.std.proofs.lemmas.Str.{IsUtf8-append, IsUtf8-from_ascii}
use Rattle.std.proofs.lemmas.Str.Ascii.{IsAscii-nil, IsAscii-cons}
use Rattle.record_kinds.specs.Model as model
use Rattle.record_kinds.specs.declared.record.Record.{Record}
use Rattle.record_kinds.specs.declared.record.Record.TheVariants as kind
use Rattle.record_fields.specs.declared.words.Quality.{Quality}
use Rattle.record_fields.specs.declared.words.Quality.TheVariants as quality
use Rattle.record_fields.specs.declared.entry_words.EntryKind.{EntryKind}
use Rattle.record_fields.specs.declared.entry_words.EntryKind.TheVariants as entry_kind
use Rattle.record_fields.specs.declared.entry_words.Role.{Role}
use Rattle.record_fields.specs.declared.entry_words.Role.TheVariants as role
use Rattle.record_fields.specs.Words.{entry_kind_word, quality_word, role_word}
use Rattle.record_text.specs.Text.{IsText}
use Rattle.archive_state.specs.Content.{Content, Records}
use Rattle.archive_state.specs.Known.{path_of}
use Rattle.archive_state.specs.Paths.{HasPath}
use Rattle.archive_state.specs.Sound.{IsSound}
use Rattle.archive_state.proofs.Climbing.{Goes, no_place, path_goes}
use Rattle.archive_state.proofs.Known.{path_known}
use Rattle.gedcom_export.specs.Around.{around}
use Rattle.list_laws.proofs.Booleans.{not_true, both_true}
use Rattle.list_laws.proofs.Numbers.{are_numerals, all_digits}

-- ---- ASCII without U+0000 and CR
abbrev pub is_plain : ℕ → Bool
is_plain b = nat_lt b 128 && (not (b == 0) && not (b == 13))

record ArePlain (t : List ℕ) : Type 0 where
  pub ascii : IsAscii t
  pub no_nul : list_any (λ b. b == 0) t ≡ false
  pub no_cr : list_any (λ b. b == 13) t ≡ false

are_plain : (t : List ℕ) → list_all is_plain t ≡ true → ArePlain t
are_plain [] h = record { ascii = IsAscii-nil; no_nul = refl; no_cr = refl }
are_plain (b ∷ bs) h =
    let x = both_true (is_plain b) (list_all is_plain bs) h in
    let y = both_true (nat_lt b 128) (not (b == 0) && not (b == 13)) x.0 in
    let z = both_true (not (b == 0)) (not (b == 13)) y.1 in
    let low : b < 128 = grind (arith, nat_tests) in
    let rest = are_plain bs x.1 in
    record {
      ascii = IsAscii-cons b bs low rest.ascii;
      no_nul = λ i. not_true (b == 0) z.0 i || rest.no_nul i;
      no_cr = λ i. not_true (b == 13) z.1 i || rest.no_cr i;
    }

pub plain_text : (t : List ℕ) → list_all is_plain t ≡ true → nat_le (length t) 1048576 ≡ true → IsText t
plain_text t h s =
    let p = are_plain t h in
    record { utf8 = IsUtf8-from_ascii t p.ascii; no_nul = p.no_nul; no_cr = p.no_cr; short = grind (arith, nat_tests) }

pub quality_text : (q : Quality) → IsText (quality_word q)
quality_text quality.Unreliable = plain_text (codes "0") refl refl
quality_text quality.Questionable = plain_text (codes "1") refl refl
quality_text quality.Secondary = plain_text (codes "2") refl refl
quality_text quality.Primary = plain_text (codes "3") refl refl

pub kind_text : (k : EntryKind) → IsText (entry_kind_word k)
kind_text entry_kind.Baptism = plain_text (codes "BAPTISM") refl refl
kind_text entry_kind.Marriage = plain_text (codes "MARRIAGE") refl refl
kind_text entry_kind.Burial = plain_text (codes "BURIAL") refl refl

pub role_text : (r : Role) → IsText (role_word r)
role_text r = by r
  where
    by : (r : Role) → IsText (role_word r)
    by role.Child = plain_text (role_word role.Child) refl refl
    by role.Father = plain_text (role_word role.Father) refl refl
    by role.Mother = plain_text (role_word role.Mother) refl refl
    by role.Godparent = plain_text (role_word role.Godparent) refl refl
    by role.Groom = plain_text (role_word role.Groom) refl refl
    by role.Bride = plain_text (role_word role.Bride) refl refl
    by role.FatherOfGroom = plain_text (role_word role.FatherOfGroom) refl refl
    by role.FatherOfBride = plain_text (role_word role.FatherOfBride) refl refl
    by role.Witness = plain_text (role_word role.Witness) refl refl
    by role.Buried = plain_text (role_word role.Buried) refl refl
    by role.Spouse = plain_text (role_word role.Spouse) refl refl

-- ---- decimals

pub decimal_digits : (n : ℕ) → n ≤ 4294967296 → list_all is_ascii_digit (decimal n) ≡ true
decimal_digits n h = let small : n < 2 ^ 64 = omega arith in
    sym (all_digits (decimal n)) ∙ digits_decimal are_numerals n small

pub decimal_short : (n : ℕ) → n ≤ 4294967296 → length (decimal n) ≤ 10
decimal_short n h = let few : n < 10 ^ 10 = omega arith in let small : n < 2 ^ 64 = omega arith in
    length-decimal-le 10 n (omega arith) few small

pub digits_are : (p : ℕ → Bool) → ((b : ℕ) → is_ascii_digit b ≡ true → p b ≡ true) → (t : List ℕ)
    → list_all is_ascii_digit t ≡ true → list_all p t ≡ true
digits_are p f [] h = refl
digits_are p f (b ∷ bs) h = let x = both_true (is_ascii_digit b) (list_all is_ascii_digit bs) h in
    λ i. f b x.0 i && digits_are p f bs x.1 i

plain_digit : (b : ℕ) → is_ascii_digit b ≡ true → is_plain b ≡ true
plain_digit b h = grind (arith, nat_tests, h)

pub decimal_text : (n : ℕ) → n ≤ 4294967296 → IsText (decimal n)
decimal_text n h =
    let short : length (decimal n) ≤ 10 = decimal_short n h in
    plain_text (decimal n) (digits_are is_plain plain_digit (decimal n) (decimal_digits n h)) (grind (arith, nat_tests))

-- ---- paths
record IsClean (t : List ℕ) : Type 0 where
  pub utf8 : IsUtf8 t
  pub no_nul : list_any (λ b. b == 0) t ≡ false
  pub no_cr : list_any (λ b. b == 13) t ≡ false

clean_both : (a b : List ℕ) → IsClean a → IsClean b → IsClean (a ++ b)
clean_both a b h g = record {
  utf8 = IsUtf8-append a b h.utf8 g.utf8;
  no_nul = list_any-append (λ x. x == 0) a b ∙ (λ i. h.no_nul i || g.no_nul i);
  no_cr = list_any-append (λ x. x == 13) a b ∙ (λ i. h.no_cr i || g.no_cr i);
}

comma_clean : IsClean (codes ", ")
comma_clean = let t = plain_text (codes ", ") refl refl in record { utf8 = t.utf8; no_nul = t.no_nul; no_cr = t.no_cr }

module _ (c : Content) (is : IsSound c) where
  abbrev m : Records
  m = c.records

  name_clean : (n : ℕ) (p : model.Place) → get m n ≡ Some (kind.Place p) → IsClean p.name
  name_clean n p g = let t = (is.rules.texts n (kind.Place p) g).0 in
      record { utf8 = t.utf8; no_nul = t.no_nul; no_cr = t.no_cr }

  path_clean : (steps n : ℕ) (path : List ℕ) → n < steps → HasPath m n path → IsClean path
  path_clean zero n path l h = absurd (omega arith)
  path_clean (suc steps) n path l h = by (λ q rest less has_rest. path_clean steps q rest less has_rest) (get m n) refl
    where
      from : ((q : ℕ) (rest : List ℕ) → q < steps → HasPath m q rest → IsClean rest) → (p : model.Place)
          → get m n ≡ Some (kind.Place p) → (o : Option ℕ) → p.parent ≡ o → IsClean path
      from up p g None e =
          let goes : path ≡ p.name = subst (λ o. Goes m n p.name o path) e (path_goes m n p path g h) in
          subst IsClean (sym goes) (name_clean n p g)
      from up p g (Some q) e =
          let goes : (q < n) × ((rest : List ℕ) × (path ≡ p.name ++ (codes ", " ++ rest)) × HasPath m q rest) =
          subst (λ o. Goes m n p.name o path) e (path_goes m n p path g h) in
          let less : q < n = goes.0 in
          subst IsClean (sym goes.1.1)
          (clean_both p.name (codes ", " ++ goes.1.0) (name_clean n p g)
          (clean_both (codes ", ") goes.1.0 comma_clean (up q goes.1.0 (omega arith) goes.1.2)))

      by : ((q : ℕ) (rest : List ℕ) → q < steps → HasPath m q rest → IsClean rest) → (o : Option Record) → get m n ≡ o
          → IsClean path
      by up (Some (kind.Place p)) g = from up p g p.parent refl
      by up None g = absurd (no_place m n path (λ p e. let wrong : ⊥ = cc in wrong) h)
      by up (Some _) g = absurd (no_place m n path (λ p e. let wrong : ⊥ = cc in wrong) h)

  pub path_text : (n : ℕ) → IsText ((around m).path n)
  path_text n = by (path_of m n) refl
    where
      by : (o : Option (List ℕ)) → path_of m n ≡ o → IsText (unwrap_or o [])
      by None e = plain_text [] refl refl
      by (Some path) e =
          let has : HasPath m n path = (path_known m n path).1 e in
          let clean = path_clean (n + 1) n path (omega arith) has in
          let low : length path ≤ 4096 = (is.rules.paths n path has).1 in
          record { utf8 = clean.utf8; no_nul = clean.no_nul; no_cr = clean.no_cr; short = omega arith }

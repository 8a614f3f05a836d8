-- One row more, and its key.
use Rattle.std.proofs.Common.{
  ◌≡◌,
  ℕ,
  ◌+◌,
  ◌<◌,
  Bool,
  false,
  true,
  suc,
  ◌||◌,
  List,
  [],
  ◌∷◌,
  ◌++◌,
  length,
  get_or,
  take,
  drop,
  refl,
  sym,
  ap,
  ◌∙◌,
  add-one,
  append_assoc,
}
use Rattle.std.specs.Prelude.{Option, Some, None}
use Rattle.std.proofs.Math.Seq.{drop-cons, take-suc}
use Rattle.std.proofs.lemmas.List.Folds.{list_any-append}
use Rattle.table_pages.specs.Sheets.{Sheet}
use Rattle.table_pages.specs.declared.sheet.SheetRow.{SheetRow}
use Rattle.page_entries.specs.declared.dates.DateOrder.{DateOrder}
use Rattle.page_answers.specs.Keys.{has_words, have_words, is_among, key_of, key_words}
use Rattle.page_checks.specs.Rows.{Likes, answer_at, checked_row, checked_rows, is_repeated}
use Rattle.page_answers.specs.declared.answers.RowAnswer.{RowAnswer}
use Rattle.page_checks.specs.declared.findings.CheckedRow.{CheckedRow}
use Rattle.page_answers.specs.declared.keys.Key.{Key}

-- the rows before the next one
rows_more : (rows : List SheetRow) (i : ℕ) (row : SheetRow) → i < length rows → row ≡ get_or rows i row
    → take (i + 1) rows ≡ take i rows ++ row ∷ []
rows_more rows i row less is = ap (λ (k : ℕ). take k rows) (add-one i) ∙ take-suc rows i row less
    ∙ ap (λ (r : SheetRow). take i rows ++ r ∷ []) (sym is)

-- the rows from one on
rows_from : (rows : List SheetRow) (i : ℕ) (row : SheetRow) → i < length rows → row ≡ get_or rows i row
    → drop i rows ≡ row ∷ drop (i + 1) rows
rows_from rows i row less is = drop-cons rows i row less ∙ ap (λ (r : SheetRow). r ∷ drop (suc i) rows) (sym is)
    ∙ ap (λ (k : ℕ). row ∷ drop k rows) (sym (add-one i))

module _ (order : Option DateOrder) (sheet : Sheet) (answers : List RowAnswer) (likes : Likes) where
  -- a row more is checked
  pub one_more : (at i : ℕ) (rows : List SheetRow) (row : SheetRow) (checked more all : List CheckedRow)
      → i < length rows → row ≡ get_or rows i row
      → more ≡ checked
      ++ checked_row order sheet (answer_at answers at) likes (key_of sheet row)
      (is_repeated sheet (take i rows) row) row ∷ []
      → checked ++ checked_rows order sheet answers likes at (take i rows) (drop i rows) ≡ all
      → more ++ checked_rows order sheet answers likes (at + 1) (take (i + 1) rows) (drop (i + 1) rows) ≡ all
  one_more at i rows row checked more all less is now before =
      let r : CheckedRow = checked_row order sheet (answer_at answers at) likes (key_of sheet row)
      (is_repeated sheet (take i rows) row) row in
      let rest : List SheetRow = drop (i + 1) rows in
      ap (λ (l : List CheckedRow). l
      ++ checked_rows order sheet answers likes (at + 1) (take (i + 1) rows) rest) now
      ∙ append_assoc checked (r ∷ []) (checked_rows order sheet answers likes (at + 1) (take (i + 1) rows) rest)
      ∙ ap (λ (b : List SheetRow). checked ++ r ∷ checked_rows order sheet answers likes (at + 1) b rest)
      (rows_more rows i row less is)
      ∙ ap (λ (l : List SheetRow). checked ++ checked_rows order sheet answers likes at (take i rows) l)
      (sym (rows_from rows i row less is))
      ∙ before

-- a key is among those that a set has, as it is among those of the rows
pub among : (f g : List ℕ → Bool) (key : Option Key) → ((x : List ℕ) → f x ≡ g x) → is_among f key ≡ is_among g key
among f g None same = refl
among f g (Some key) same = same (key_words key)

-- the keys of one row more
pub words_more : (sheet : Sheet) (rows : List SheetRow) (i : ℕ) (row : SheetRow) (f g : List ℕ → Bool)
    → i < length rows → row ≡ get_or rows i row
    → ((x : List ℕ) → g x ≡ (f x || has_words x (key_of sheet row)))
    → ((x : List ℕ) → f x ≡ have_words sheet (take i rows) x)
    → (x : List ℕ) → g x ≡ have_words sheet (take (i + 1) rows) x
words_more sheet rows i row f g less is adds before x =
    adds x ∙ ap (λ (b : Bool). b || has_words x (key_of sheet row)) (before x)
    ∙ last (have_words sheet (take i rows) x) (has_words x (key_of sheet row))
    ∙ sym (list_any-append (λ (r : SheetRow). has_words x (key_of sheet r)) (take i rows) (row ∷ []))
    ∙ ap (λ (l : List SheetRow). have_words sheet l x) (sym (rows_more rows i row less is))
  where
    none_more : (b : Bool) → b ≡ (b || false)
    none_more true = refl
    none_more false = refl

    last : (a b : Bool) → (a || b) ≡ (a || (b || false))
    last a b = ap (λ (c : Bool). a || c) (none_more b)

-- What is answered for the rows of a page, one after the other.
use Rattle.std.proofs.Common.{
  ◌≡◌,
  ◌∙◌,
  ◌+◌,
  ◌<◌,
  ◌++◌,
  [],
  ◌∷◌,
  Bool,
  List,
  add-one,
  ap,
  append-nil,
  append_assoc,
  drop,
  get_or,
  false,
  length,
  subst,
  suc,
  sym,
  ℕ,
}
use Rattle.std.specs.Prelude.{Option}
use Rattle.std.proofs.Math.Seq.{drop-cons}
use Rattle.archive_state.specs.Content.{Content}
use Rattle.page_places.specs.declared.news.News.{News}
use Rattle.table_pages.specs.Sheets.{Sheet}
use Rattle.table_pages.specs.declared.sheet.SheetRow.{SheetRow}
use Rattle.page_answers.specs.Answers.{
  IsNoted,
  IsOnTheWay,
  answer_of,
  answers_of,
  made_with,
  none_made,
  row_news,
}
use Rattle.page_answers.specs.declared.answers.RowAnswer.{RowAnswer}

-- the rows from one on
pub rows_from : (rows : List SheetRow) (i : ℕ) (row : SheetRow) → i < length rows → row ≡ get_or rows i row
    → drop i rows ≡ row ∷ drop (i + 1) rows
rows_from rows i row less is = drop-cons rows i row less ∙ ap (λ (r : SheetRow). r ∷ drop (suc i) rows) (sym is)
    ∙ ap (λ (k : ℕ). row ∷ drop k rows) (sym (add-one i))

module _ (c : Content) (source : ℕ) (makes : Bool) (sheet : Sheet) where
  -- what is there is known by its tests
  same_answers : (made now : List ℕ → Bool) (rows : List SheetRow) → ((x : List ℕ) → made x ≡ now x)
      → answers_of c source makes sheet made rows ≡ answers_of c source makes sheet now rows
  same_answers made now rows e =
      let same : made ≡ now = λ i x. e x i in
      ap (λ (f : List ℕ → Bool). answers_of c source makes sheet f rows) same

  pub begun : (made : List ℕ → Bool) (answers : List RowAnswer) (all : List SheetRow)
      → ((x : List ℕ) → made x ≡ false) → answers ≡ [] → IsOnTheWay c source makes sheet made answers all all
  begun made answers all none empty =
      ap (λ (l : List RowAnswer). l ++ answers_of c source makes sheet made all) empty
      ∙ same_answers made none_made all none

  pub went_on : (made now : List ℕ → Bool) (answers more_answers : List RowAnswer) (news : Option News)
      (answer : RowAnswer) (row : SheetRow) (rest more all : List SheetRow) → rest ≡ row ∷ more
      → IsNoted (row_news c makes made sheet row) news made now → answer ≡ answer_of c source sheet news row
      → more_answers ≡ answers ++ answer ∷ [] → IsOnTheWay c source makes sheet made answers rest all
      → IsOnTheWay c source makes sheet now more_answers more all
  went_on made now answers more_answers news answer row rest more all e noted is added way =
      let right = row_news c makes made sheet row in
      let left : List RowAnswer = answers_of c source makes sheet now more in
      let same : left ≡ answers_of c source makes sheet (made_with made right) more =
      same_answers now (made_with made right) more noted.1 in
      let at : IsOnTheWay c source makes sheet made answers (row ∷ more) all =
      subst (λ (rows : List SheetRow). IsOnTheWay c source makes sheet made answers rows all) e way in
      ap (λ (l : List RowAnswer). l ++ left) added
      ∙ append_assoc answers (answer ∷ []) left
      ∙ ap (λ (a : RowAnswer). answers ++ a ∷ left)
      (is ∙ ap (λ (n : Option News). answer_of c source sheet n row) noted.0)
      ∙ ap (λ (l : List RowAnswer). answers ++ answer_of c source sheet right row ∷ l) same
      ∙ at

  pub ended : (made : List ℕ → Bool) (answers : List RowAnswer) (rest all : List SheetRow) → rest ≡ []
      → IsOnTheWay c source makes sheet made answers rest all → answers ≡ answers_of c source makes sheet none_made all
  ended made answers rest all e way =
      sym (append-nil answers)
      ∙ subst (λ (rows : List SheetRow). IsOnTheWay c source makes sheet made answers rows all) e way

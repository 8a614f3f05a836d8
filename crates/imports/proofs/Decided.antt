-- What an import changes, after the looks over a view.
use Rattle.std.proofs.Common.{◌≡◌, ℕ, List, subst, sym}
use Rattle.std.specs.Prelude.{Result, Ok, Err}
use Rattle.record_text.specs.declared.refusal.RefusalKind.{RefusalKind}
use Rattle.receipts.specs.declared.answer.Answer.{Answer}
use Rattle.archive_state.specs.Changes.{Batch, Changes}
use Rattle.archive_state.specs.Content.{Content}
use Rattle.archive_state.specs.Looks.{OnView}
use Rattle.commands.specs.Rows.{and_then}
use Rattle.gedcom_tree.specs.Forest.{Item}
use Rattle.import_definitions.specs.Made.{made}
use Rattle.imports.specs.Imports.{answer_of}
use Rattle.imports.proofs.Commands.{changes_of}

-- what the batch changes, after that next number
abbrev pub MakesChanges : Batch → ℕ → Changes → Type 0
MakesChanges b next changes = Ok changes ≡ and_then (answer_of next b) (λ a. Ok (changes_of b a))

module _ (P : Content → Changes → Type 0)
    (made_is : (c : Content) (f : List Item) (b : Batch) (a : Answer) → made c f ≡ Ok b → P c (changes_of b a)) where
  so_by : (c : Content) (f : List Item) (b : Batch) (changes : Changes) (r : Result Answer RefusalKind)
      → Ok changes ≡ and_then r (λ a. Ok (changes_of b a)) → made c f ≡ Ok b → P c changes
  so_by c f b changes (Ok a) is e =
      let same : changes ≡ changes_of b a = cc in
      subst (P c) (sym same) (made_is c f b a e)
  so_by c f b changes (Err k) is e = absurd cc

  module _ {S Held : Type 0} (honest : S → Type 0) (shows : S → Held → Type 0) (content : Held → Content) where
    pub so_over : (a b d : S) (f : List Item) (batch : Batch) (next : ℕ) (changes : Changes)
        → OnView honest shows content a b (λ c. next ≡ c.next)
        → OnView honest shows content b d (λ c. made c f ≡ Ok batch) → MakesChanges batch next changes
        → OnView honest shows content a d (λ c. P c changes)
    so_over a b d f batch next changes look makes is = λ last.
        let second = makes last in
        let first = look second.0 in (
          first.0,
          λ held shown.
              let x = first.1 held shown in
              let y = second.1 held x.0 in
              (y.0, so_by (content held) f batch changes (answer_of next batch) is y.1),
        )

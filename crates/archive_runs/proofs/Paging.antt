-- What a page was answered.
use Rattle.std.proofs.Common.{◌≡◌, ℕ, List, Ok, Err, ap, refl, sym}
use Rattle.std.specs.Prelude.{Result}
use Rattle.archive_tables.specs.Entering.{answered}
use Rattle.page_batches.specs.declared.rows.BatchRefusal.{BatchRefusal}
use Rattle.page_entries.specs.declared.entries.PageEntry.{PageEntry}
use Rattle.receipts.specs.declared.answer.Answer.{Answer}
use Rattle.record_text.specs.declared.refusal.Refusal.{Refusal}
use Rattle.store.specs.Histories.{Outcome as Answered}
use Rattle.table_pages.specs.declared.fault.PageFault.{PageFault}

same_answer : (a b : Answer) → ◌≡◌ {A = Result Answer BatchRefusal} (Ok a) (Ok b) → a ≡ b
same_answer a b is = cc

pub same_entries : (xs ys : List PageEntry) → ◌≡◌ {A = Result (List PageEntry) PageFault} (Ok xs) (Ok ys) → xs ≡ ys
same_entries xs ys is = cc

pub was_answered : (numbers : List ℕ) (answer : Answer) (o : Answered) → Ok answer ≡ answered numbers o
    → o ≡ Ok answer
was_answered numbers answer (Ok a) is = ap Ok (sym (same_answer answer a is))
was_answered numbers answer (Err e) is = absurd cc

pub was_refused : (numbers : List ℕ) (why : BatchRefusal) (o : Answered) → Err why ≡ answered numbers o
    → (e : Refusal) × (o ≡ Err e)
was_refused numbers why (Ok a) is = absurd cc
was_refused numbers why (Err e) is = (e, refl)

pub ok_is_no_err : (answer : Answer) (why : BatchRefusal) → Ok answer ≡ Err why → ⊥
ok_is_no_err answer why is = absurd cc

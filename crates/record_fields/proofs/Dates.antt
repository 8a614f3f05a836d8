-- Dates are made of what words say.
use Rattle.std.specs.Prelude.{◌≡◌, ◌↔◌, ℕ, List, Bool, IsTrue, Option, MatchOption, Result, Ok, Err, IfOk}
use Rattle.std.proofs.Common.{sym, subst, ◌∙◌}
use Rattle.gedcom_date.specs.Form.{Form}
use Rattle.gedcom_date.specs.Grammar.{Says}
use Rattle.gedcom_date.specs.Spelling.{spelling}
use Rattle.record_text.specs.Text.{IsText}
use Rattle.record_fields.specs.Dates.{IsWritten}
use Rattle.record_fields.specs.Dated.{one_said, written_by}
use Rattle.record_fields.specs.declared.date.Date.{Date}

pub written_exact : (text spelt : List ℕ) (f : Form) (b : Bool) → Says text f → spelt ≡ spelling f
    → (IsTrue b ↔ (spelt ≡ text)) → IsTrue b ↔ IsWritten text
written_exact text spelt f b h e same = (λ is. written_by text f h (sym (same.0 is) ∙ e), λ w. same.1 (e ∙ sym (w f h)))

pub written_same : (text words : List ℕ) (f : Form) → text ≡ words → words ≡ spelling f → Says words f → IsWritten text
written_same text words f e c h = written_by text f (subst (λ (t : List ℕ). Says t f) (sym e) h) (e ∙ c)

-- what is made of the value of words is what they say
abbrev pub IsDateOf : Form → Option Date → Type 0
IsDateOf f found = MatchOption found (¬ (IsText (spelling f))) (λ date. date.text ≡ spelling f)

pub said_new : {E : Type 0} (words : List ℕ) (f : Form) (r : Result (Option Date) E) → Says words f
    → IfOk r (IsDateOf f) → IfOk r (λ found. (g : Form) → Says words g → IsDateOf g found)
said_new words f (Ok found) h is = λ g k. subst (λ (x : Form). IsDateOf x found) (one_said words f g h k) is
said_new words f (Err e) h is = tt

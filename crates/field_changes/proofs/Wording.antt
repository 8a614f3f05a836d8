-- Words that are taken as texts are texts.
use Rattle.std.proofs.Common.{◌≡◌, ℕ, ◌≤◌, List, length, true, false, ◌==◌, refl, sym, ap, ◌∙◌, subst, arith}
use Rattle.std.specs.Prelude.{Option, Some, None, Result, Ok, Err, option_map, if◌then◌else◌}
use Rattle.std.specs.List.{list_any}
use Rattle.std.specs.Str.{IsUtf8}
use Rattle.std.proofs.lemmas.Bool.Decides.{nat_tests}
use Rattle.record_text.specs.Text.{IsText}
use Rattle.record_text.specs.declared.refusal.RefusalKind.{RefusalKind}
use Rattle.record_text.specs.declared.refusal.RefusalKind.TheVariants.{BadText}
use Rattle.record_fields.specs.Dated.{date_text}
use Rattle.record_fields.specs.declared.date.Date.{Date}
use Rattle.record_shapes.specs.Lists.{EachOf}
use Rattle.archive_state.specs.Texts.{date_texts}
use Rattle.commands.specs.Fields.{is_text, text_of}
use Rattle.commands.specs.Given.{GivenDate}
use Rattle.commands.specs.Rows.{and_then, ok_or}
use Rattle.commands.specs.Sound.{WhereSome}
use Rattle.command_checks.specs.Checks.{text_in, date_in, each}
use Rattle.field_changes.specs.Laws.{IsUtf8Date}

as_text : (words : List ℕ) → IsUtf8 words → is_text words ≡ true → IsText words
as_text words utf8 e =
    let no-nul : list_any (λ b. b == 0) words ≡ false = grind (arith, nat_tests) in
    let no-cr : list_any (λ b. b == 13) words ≡ false = grind (arith, nat_tests) in
    let short : length words ≤ 1048576 = grind (arith, nat_tests) in
    record { utf8 = utf8; no_nul = no-nul; no_cr = no-cr; short = short }

there : {A : Type 0} (o : Option A) (a : A) → ok_or BadText o ≡ Ok a → o ≡ Some a
there None a e = absurd cc
there (Some b) a e = let same : b ≡ a = cc in ap Some same

text_is : (words t : List ℕ) → IsUtf8 words → text_of words ≡ Some t → IsText t
text_is words t utf8 e = elim (is_text words) as (λ b. is_text words ≡ b → (if b then Some words else None)
    ≡ Some t → IsText t) [
      | true ↦ λ q f. let same : words ≡ t = cc in subst IsText same (as_text words utf8 q)
      | false ↦ λ q f. absurd cc
    ] refl e

-- words that are taken as a text
pub text_found : (words t : List ℕ) → IsUtf8 words → text_in words ≡ Ok t → IsText t
text_found words t utf8 e = text_is words t utf8 (there (text_of words) t e)

date_found : (given : GivenDate) (d : Date) → IsUtf8Date given → date_in given ≡ Ok d → IsText d.text
date_found given d is e =
    text_is given.spelling d.text is.0 (sym is.1.said ∙ ap (option_map date_text) (there given.date d e))

taken : {A : Type 0} (r : Result A RefusalKind) (o : Option A) → and_then r (λ a. Ok (Some a)) ≡ Ok o
    → (a : A) × (r ≡ Ok a) × (Some a ≡ o)
taken (Ok a) o e = (a, refl, cc)
taken (Err k) o e = absurd cc

-- a date that is taken
pub maybe_date : (date : Option GivenDate) (d : Option Date) → WhereSome IsUtf8Date date → each date_in date ≡ Ok d
    → EachOf IsText (date_texts d)
maybe_date None d is e = let same : None ≡ d = cc in subst (λ o. EachOf IsText (date_texts o)) same tt
maybe_date (Some given) d is e =
    let t = taken (date_in given) d e in
    subst (λ o. EachOf IsText (date_texts o)) t.2 (date_found given t.0 is t.1, tt)

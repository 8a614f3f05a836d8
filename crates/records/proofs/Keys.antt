-- The words by which an entry is found are a text.
use Rattle.std.specs.Prelude.{◌≡◌, ◌≤◌, ◌+◌, ◌==◌, ◌||◌, ℕ, List, ◌++◌, false, codes, decimal, length, refl}
use Rattle.std.specs.List.{list_any}
use Rattle.std.proofs.Common.{sym, subst, ◌∙◌, arith}
use Rattle.std.proofs.lemmas.Fmt.{length-decimal-le}
use Rattle.std.proofs.lemmas.List.{length-append}
use Rattle.std.proofs.lemmas.List.Folds.{list_any-append}
use Rattle.std.proofs.lemmas.Bool.{or_from}
use Rattle.record_text.specs.Text.{IsPlain, IsText}
use Rattle.record_fields.proofs.Items.{decimal_is_plain}
use Rattle.record_fields.specs.declared.item.Item.{Item}

few-digits : (i : Item) → length (decimal i.number) ≤ 6
few-digits i = let top : i.number ≤ 999999 = i.in_range.1 in
    length-decimal-le 6 i.number (omega arith) (omega arith) (omega (arith, top))

without : (x : ℕ) (ds page : List ℕ) → ((32 == x) || false) ≡ false → list_any (λ b. b == x) ds ≡ false
    → list_any (λ b. b == x) page ≡ false → list_any (λ b. b == x) ((ds ++ codes " ") ++ page) ≡ false
without x ds page blank e f =
    let front = list_any-append (λ b. b == x) ds (codes " ") ∙ or_from _ _ e blank in
    list_any-append (λ b. b == x) (ds ++ codes " ") page ∙ or_from _ _ front f

pub key_is_plain : (i : Item) (page text : List ℕ) → text ≡ (decimal i.number ++ codes " ") ++ page → IsText page
    → length page ≤ 1000 → IsPlain text
key_is_plain i page text e is short =
    let digits = decimal_is_plain i.number (decimal i.number) refl i.in_range in
    let few : length (decimal i.number) ≤ 6 = few-digits i in
    let front : length (decimal i.number ++ codes " ") ≡ length (decimal i.number) + 1 = length-append
    (decimal i.number) (codes " ") in
    let long : length ((decimal i.number ++ codes " ") ++ page) ≡ length (decimal i.number ++ codes " ")
    + length page = length-append (decimal i.number ++ codes " ") page in
    subst IsPlain (sym e) (record {
      no_nul = without 0 (decimal i.number) page refl digits.no_nul is.no_nul;
      no_cr = without 13 (decimal i.number) page refl digits.no_cr is.no_cr;
      short = omega (arith, few, front, long, short);
    })

use Rattle.gedcom_date.specs.View.{view}
use Rattle.std.specs.Prelude.{string_bytes}
use Rattle.std.proofs.Common.{rules, ◌≡◌, ◌≢◌, MatchOption, [], subst, sym, List, ℕ}
use Rattle.record_text.specs.Text.{IsText}
use Rattle.record_fields.specs.Dated.{written_by}
use Rattle.std.specs.Str.{IsUtf8}
use Rattle.commands.proofs.Dated.{said_date}
use Rattle.commands.proofs.given.GivenDate.of_value.Goals as goal

pub invariant_of-result : goal.invariant_of-result
invariant_of-result c =
    let some : string_bytes c.in-Ok.spelling ≢ [] = search rules in
    let utf8 : IsUtf8 (string_bytes c.in-Ok.spelling) = let utf8 = c.as_str.utf8 in search rules in
    let known = c.of_value.type_inv in
    let text : MatchOption c.in_ok-date.date (Unit {0}) (λ d. IsText d.text) = search rules in
    let date = subst (λ (t : List ℕ). MatchOption c.in_ok-date.date (¬ (IsText t)) (λ d. d.text ≡ t))
    (sym c.in-Ok.ensures.canonical) c.in_ok-date.ensures in
    record {
      some = some;
      written = written_by (string_bytes c.in-Ok.spelling) (view c.args.value.now) c.in-Ok.ensures.again
          c.in-Ok.ensures.canonical;
      said = said_date (string_bytes c.in-Ok.spelling) c.in_ok-date.date utf8 date text;
    }

use Rattle.std.proofs.Common.{rules, ◌≡◌, sym, false}
use Rattle.std.specs.Char.{is_ascii_digit}
use Rattle.std.specs.List.{list_all}
use Rattle.commands.proofs.Numbers.{number_long, number_undigit, number_parsed, number_zero, number_unparsed}
use Rattle.page_entries.proofs.digits.number_in.Goals.{
  then-field-gt10-via-then-field-gt10,
  then-field-gt10-via-else-field-gt10+then-not-is_digits,
}
use Rattle.page_entries.proofs.digits.number_in.Goals as goal

pub returns-then-field-gt10 : goal.returns-then-field-gt10
returns-then-field-gt10 c = elim c.then-field-gt10.branch [
  | then-field-gt10-via-then-field-gt10 w ↦ number_long c.args.field.now w.if-field-gt10.true
  | then-field-gt10-via-else-field-gt10+then-not-is_digits w ↦
      number_undigit c.args.field.now (let digits : list_all is_ascii_digit c.args.field.now ≡ false = search rules in
      digits)
]

pub returns-in-Ok : goal.returns-in-Ok
returns-in-Ok c =
    number_parsed c.args.field.now c.parse.result c.in-Ok.number c.parse.ensures.value.0
    (sym c.if-not-is_digits.ensures) (search rules) c.in-Ok.is c.if-number-ne0.true

pub returns-in_default : goal.returns-in_default
returns-in_default c =
    number_zero c.args.field.now c.parse.result c.in-Ok.number c.parse.ensures.value.0 (sym c.if-not-is_digits.ensures)
    c.in-Ok.is c.if-number-ne0.false

pub returns-in_default-2 : goal.returns-in_default-2
returns-in_default-2 c =
    number_unparsed c.args.field.now c.parse.result c.in_default.field-0 c.parse.ensures.value.0
    (sym c.if-not-is_digits.ensures) c.in_default.is

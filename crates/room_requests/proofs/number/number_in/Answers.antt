use Rattle.std.proofs.Common.{rules, ◌≡◌, sym, false}
use Rattle.std.specs.Char.{is_ascii_digit}
use Rattle.std.specs.List.{list_all}
use Rattle.room_requests.proofs.Numbers.{number_long, number_undigit, number_parsed, number_zero, number_unparsed}
use Rattle.room_requests.proofs.number.number_in.Goals.{
  then-text-places-via-then-text-places,
  then-text-places-via-else-text-places+then-not-is_digits,
}
use Rattle.room_requests.proofs.number.number_in.Goals as goal

pub returns-then-text-places : goal.returns-then-text-places
returns-then-text-places c = elim c.then-text-places.branch [
  | then-text-places-via-then-text-places w ↦ number_long _ c.args.text.now w.if-text-places.true
  | then-text-places-via-else-text-places+then-not-is_digits w ↦
      number_undigit _ c.args.text.now (let digits : list_all is_ascii_digit c.args.text.now ≡ false = search rules in
      digits)
]

pub returns-in-Ok : goal.returns-in-Ok
returns-in-Ok c =
    number_parsed _ c.args.text.now c.parse.result c.in-Ok.number c.parse.ensures.value.0
    (sym c.if-not-is_digits.ensures) (search rules) c.in-Ok.is c.if-number-ne0.true

pub returns-in_default : goal.returns-in_default
returns-in_default c =
    number_zero _ c.args.text.now c.parse.result c.in-Ok.number c.parse.ensures.value.0 (sym c.if-not-is_digits.ensures)
    c.in-Ok.is c.if-number-ne0.false

pub returns-in_default-2 : goal.returns-in_default-2
returns-in_default-2 c =
    number_unparsed _ c.args.text.now c.parse.result c.in_default.field-0 c.parse.ensures.value.0
    (sym c.if-not-is_digits.ensures) c.in_default.is

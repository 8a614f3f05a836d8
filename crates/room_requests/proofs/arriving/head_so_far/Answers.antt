use Rattle.std.proofs.Common.{length, sym}
use Rattle.std.proofs.lemmas.Bool.{eqb-true}
use Rattle.std.proofs.lemmas.List.{nil_from_length}
use Rattle.room_requests.proofs.Fronted.{nothing_is_open}
use Rattle.room_requests.proofs.arriving.head_so_far.Goals as goal

pub returns-then-is_empty : goal.returns-then-is_empty
returns-then-is_empty c =
    let none = eqb-true (length c.args.came.now) 0 (sym c.if-is_empty.ensures) in
    nothing_is_open _ (nil_from_length _ none)

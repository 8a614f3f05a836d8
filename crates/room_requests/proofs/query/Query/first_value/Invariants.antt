use Rattle.std.proofs.Common.{◌≡◌}
use Rattle.form_urlencoded.specs.Parse.{pairs_left}
use Rattle.room_requests.specs.Queries.{first_named, value_of}
use Rattle.room_requests.proofs.query.Query.first_value.Given as goal

abbrev pub invariant-pairs : goal.invariant-pairs
invariant-pairs l = first_named l.name (pairs_left l.pair-iterator) ≡ value_of l.name l.self

use Rattle.round_trip.proofs.OrdersKept.{orders_kept}
use Rattle.round_trip.proofs.laws.an_export_keeps_orders.Goals as goal

pub returns : goal.returns
returns c = orders_kept

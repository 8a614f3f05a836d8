use Rattle.std.proofs.Common.{None}
use Rattle.room_door.proofs.Visited.{heard, still_right, took}
use Rattle.room_door.proofs.turns.call.Goals as goal

pub returns-in-Asks-clause-visit : goal.returns-in-Asks-clause-visit
returns-in-Asks-clause-visit g c input start honest visit =
    let had = rw c.in-Asks.is at visit in
    heard _ input start _ _ _ c.args.now c.in-Asks.asking.came.items c.read.result (c.read.ensures.right honest)
    c.read.ensures.given c.read.ensures.ended c.read.ensures.takes had.0 had.1

pub returns-in-Takes-clause-right : goal.returns-in-Takes-clause-right
returns-in-Takes-clause-right g c honest right =
    let had = rw c.in-Takes.is at right in
    let after = c.take.ensures None tt in
    still_right _ c.in-Takes.taking None (g.W.Write.contents c.take.new.writer) c.take.result after had

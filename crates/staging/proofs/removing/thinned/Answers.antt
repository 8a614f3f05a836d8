use Rattle.std.proofs.Common.{Ok, Err, refl}
use Rattle.staging.specs.Clearing.{IsThinned}
use Rattle.staging.proofs.Cleared.{clears_as, clears_lost, clears_then, looked, looked_in_vain}
use Rattle.staging.proofs.Thinned.{thinned_more}
use Rattle.staging.proofs.removing.thinned.Goals as goal

pub returns-in_err-count-clause-clears : goal.returns-in_err-count-clause-clears
returns-in_err-count-clause-clears g c ns has =
    looked_in_vain ns (IsThinned c.args.number) c.in_err-count.field-0.0 c.from_residual.result
    c.from_residual.ensures.0 c.in_err-count.ensures.looks

pub returns-then-count-le-ROOM-clause-clears : goal.returns-then-count-le-ROOM-clause-clears
returns-then-count-le-ROOM-clause-clears g c ns has =
    clears_as (IsThinned c.args.number) tt c.in_ok-count.count
    (looked ns (IsThinned c.args.number) c.in_ok-count.count c.in_ok-count.ensures.looks (λ rows ks is. refl))
    (λ x y is. is)

pub returns-in_err-thin-clause-clears : goal.returns-in_err-thin-clause-clears
returns-in_err-thin-clause-clears g c ns has =
    let e = c.in_err-thin.field-0.0 in
    clears_lost (IsThinned c.args.number) e c.from_residual-in_err-thin.result c.from_residual-in_err-thin.ensures.0
    (clears_then (IsThinned c.args.number) (Err e)
    (looked ns (IsThinned c.args.number) c.in_ok-count.count c.in_ok-count.ensures.looks (λ rows ks is. refl))
    (c.in_err-thin.ensures.clears ns has) (thinned_more c.args.number))

pub returns-clause-clears : goal.returns-clause-clears
returns-clause-clears g c ns has =
    clears_as (IsThinned c.args.number) tt 256
    (clears_then (IsThinned c.args.number) (Ok tt)
    (looked ns (IsThinned c.args.number) c.in_ok-count.count c.in_ok-count.ensures.looks (λ rows ks is. refl))
    (c.in_ok-thin.ensures.clears ns has) (thinned_more c.args.number)) (λ x y is. is)

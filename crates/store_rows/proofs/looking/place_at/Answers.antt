use Rattle.store_rows.proofs.Found.{sees_after, place_found}
use Rattle.store_rows.proofs.looking.place_at.Goals as goal

pub returns-clause-sees : goal.returns-clause-sees
returns-clause-sees g c =
    sees_after c.lowest_place.result
    (λ rows content found all keeps low. place_found c.args.path.now rows content c.in_ok-numbers.numbers.items
    found keeps all low)
    (rw (c.as_str.ensures.same) at c.in_ok-numbers.ensures.looks)
    (rw (c.as_bytes.ensures.value, c.as_str-2.ensures.same, c.deref.ensures.value) at c.lowest_place.ensures.sees)

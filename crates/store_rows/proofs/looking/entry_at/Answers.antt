use Rattle.store_rows.proofs.Found.{sees_after, key_found}
use Rattle.store_rows.proofs.looking.entry_at.Goals as goal

pub returns-clause-sees : goal.returns-clause-sees
returns-clause-sees g c =
    sees_after c.lowest_entry.result
    (λ rows content found all keeps low. key_found c.args.source c.args.kind c.args.page.now c.args.item rows
    content c.in_ok-numbers.numbers.items found keeps all low)
    (rw (c.as_str.ensures.same, c.in_ok-words.ensures) at c.in_ok-numbers.ensures.looks)
    (rw (c.deref.ensures.value) at c.lowest_entry.ensures.sees)

use Rattle.std.proofs.Common.{ℕ, List, inr, subst}
use Rattle.archive_tables.specs.Entering.{EntersPage}
use Rattle.archive_tables.specs.Making.{EntersPlaced}
use Rattle.archive_tables.specs.declared.making.MadePlace.{MadePlace}
use Rattle.tasks.specs.Tables.{SaysPlaces}
use Rattle.tasks.proofs.tabling.enter_table.Goals as goal

pub returns-then-form : goal.returns-then-form
returns-then-form g c =
    let did = subst (λ (bs : List ℕ). EntersPlaced g.S.Store c.args.token c.args.source.now c.args.form.order bs
    c.args.archive.now c.enter_with_places-end.new.made.items c.enter_with_places-end.result
    c.enter_with_places-end.new.archive) c.deref.ensures.value c.enter_with_places-end.ensures in
    let told = subst (λ (ms : List MadePlace). SaysPlaces g.F.Write.contents g.F.Device.failed c.args.faults.now
    c.say_places.new.faults ms) c.deref-then-form.ensures.value c.say_places.ensures in
    inr (
      c.in-Ok.text.items,
      c.in-Ok.ensures.text,
      rw c.if-form.true (record {
        made = c.enter_with_places-end.new.made.items;
        r = c.enter_with_places-end.result;
        entered = did;
        between = c.say_places.new.faults;
        told = told;
        said = c.say_page.ensures;
      }),
    )

pub returns-else-form : goal.returns-else-form
returns-else-form g c =
    let did = subst (λ (bs : List ℕ). EntersPage g.S.Store c.args.token c.args.source.now c.args.form.order bs
    c.args.archive.now c.enter_page-end.result c.enter_page-end.new.archive) c.deref-in-Ok.ensures.value
    c.enter_page-end.ensures in
    inr (
      c.in-Ok.text.items,
      c.in-Ok.ensures.text,
      rw c.if-form.false (c.enter_page-end.result, did, c.say_page-in-Ok.ensures),
    )

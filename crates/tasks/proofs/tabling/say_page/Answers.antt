use Rattle.tasks.proofs.tabling.say_page.Goals as goal

pub returns-in-Ok-Entered : goal.returns-in-Ok-Entered
returns-in-Ok-Entered g c = rw (c.in-Ok-Entered.is, c.in-Ok-Entered.field-0-is)
    (record { printed = c.say_made.ensures.printed; part = c.say_made.ensures.part }, c.say_words.ensures)

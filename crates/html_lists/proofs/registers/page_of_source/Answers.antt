use Rattle.html_lists.proofs.registers.page_of_source.Goals as goal

pub returns : goal.returns
returns c = rw (c.deref.ensures.value, c.in_ok-entries.ensures) at c.entries_page.ensures

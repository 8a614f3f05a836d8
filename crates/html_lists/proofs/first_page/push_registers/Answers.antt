use Rattle.html_lists.proofs.first_page.push_registers.Goals as goal

pub returns : goal.returns
returns c = rw (c.as_str.ensures, c.sources.ensures) at c.push_section.ensures

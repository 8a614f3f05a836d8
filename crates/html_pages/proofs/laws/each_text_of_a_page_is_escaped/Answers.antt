use Rattle.html_pages.specs.Pages as pages
use Rattle.html_pages.specs.Pedigrees.{pedigree_page}
use Rattle.html_pages.proofs.Leading.{of_any}
use Rattle.html_pages.proofs.laws.each_text_of_a_page_is_escaped.Goals as goal

pub returns : goal.returns
returns c =
    let law = c.a_page_has_its_texts_outside_of_tags.ensures in
    record {
      person = λ m society n. of_any _ law (pages.person_page m society n);
      family = λ m society n. of_any _ law (pages.family_page m society n);
      pedigree = λ m society n generations. of_any _ law (pedigree_page m society n generations);
    }

use Rattle.import_commits.proofs.Imports.{
  published_dated,
  published_links,
  published_means,
  published_society,
  published_soughts,
  published_spans,
}
use Rattle.import_commits.proofs.laws.a_published_import_is_whole.Goals as goal

pub returns-clause-means : goal.returns-clause-means
returns-clause-means c = λ before rows i content begun fresh adds means none. (
  published_means before rows i content begun fresh adds c.a_published_import_means_what_it_makes.ensures.means means
      none,
  published_society before rows i content begun fresh adds,
)

pub returns-clause-spans : goal.returns-clause-spans
returns-clause-spans c = λ before rows i content begun fresh adds none dated spans. (
  published_dated before rows i content begun fresh adds dated,
  published_spans before rows i content begun fresh adds c.a_published_import_means_what_it_makes.ensures.spans spans
      none,
)

pub returns-clause-links : goal.returns-clause-links
returns-clause-links c = λ before rows i content begun fresh adds none links.
    published_links before rows i content begun fresh adds c.a_published_import_means_what_it_makes.ensures.links links
    none

pub returns-clause-soughts : goal.returns-clause-soughts
returns-clause-soughts c = λ before rows i content begun fresh adds none soughts.
    published_soughts before rows i content begun fresh adds c.a_published_import_means_what_it_makes.ensures.soughts
    soughts none

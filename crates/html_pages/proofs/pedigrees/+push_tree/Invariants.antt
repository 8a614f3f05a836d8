use Rattle.html_pages.proofs.pedigrees.+push_tree.Given as goal

abbrev pub decreases-push_tree : goal.decreases-push_tree
decreases-push_tree l = l.generations

use Rattle.std.proofs.Common.{◌≡◌, drop}
use Rattle.std.specs.Prelude.{fold, map}
use Rattle.record_kinds.specs.Model as model
use Rattle.record_text.specs.Naming.{surname_of}
use Rattle.html_lists.specs.Letters.{texts, with_surname}
use Rattle.html_lists.proofs.letters.add_names.Given as goal

abbrev pub invariant-names : goal.invariant-names
invariant-names l =
    fold with_surname (texts l.found) (map (λ (x : model.Name). surname_of x.text) (drop l.name-index l.names))
    ≡ fold with_surname (texts l.fn.found) (map (λ (x : model.Name). surname_of x.text) l.names)

use Rattle.std.proofs.Common.{◌++◌, ◌∷◌, [], ◌+◌, ◌/◌, ◌∙◌, List, ℕ, ap, sym, append-nil, get_or, string_bytes}
use Rattle.std.specs.Prelude.{◌==◌, if◌then◌else◌, Option, Some, None}
use Rattle.std.specs.Option.{option_and_then}
use Rattle.sheets.specs.Indexed.{indexed}
use Rattle.sheets.specs.Pedigrees as pedigrees
use Rattle.sheets.proofs.Knowing.{known_first}
use Rattle.sheets.proofs.Standing.{half_within, person_is, stand_first, stand_next, text_next}
use Rattle.sheets.proofs.pedigrees.push_lines.Goals as goal

pub numbers-init : goal.numbers-init
numbers-init c = record {
  known = known_first (indexed c.args.state.now.records c.args.index.now) c.new-known.result.entries
      c.new-known.ensures.empty;
  stand = stand_first (indexed c.args.state.now.records c.args.index.now) c.args.subject c.push.new.self.items
      (c.in_ok-push.ensures.items ∙ ap (λ (xs : List (Option ℕ)). xs ++ None ∷ []) c.new-people.ensures.items);
  text = sym (append-nil (string_bytes c.args.out.now));
}

pub person_at-person-requires-clause-within : goal.person_at-person-requires-clause-within
person_at-person-requires-clause-within c = rw c.deref.ensures.value
    (half_within (indexed c.args.state.now.records c.args.index.now) c.args.subject c.numbers.people.items
    c.numbers.before c.numbers.invariant.stand)

pub numbers-preserved : goal.numbers-preserved
numbers-preserved c =
    let g = indexed c.args.state.now.records c.args.index.now in
    let is = person_is g c.args.subject c.numbers.people.items c.numbers.before c.person_at-person.result
    c.numbers.invariant.stand
    (c.person_at-person.ensures c.numbers.invariant.known
    ∙ ap (λ (people : List (Option ℕ)). if c.numbers.before + 1 == 1
    then Some c.args.subject
    else option_and_then (pedigrees.parent g (pedigrees.side (c.numbers.before + 1)))
    (get_or people ((c.numbers.before + 1) / 2) None)) c.deref.ensures.value) in
    let known = c.in_ok-learn_if_there.ensures c.numbers.invariant.known in
    record {
      known = known;
      stand = stand_next g c.args.subject c.numbers.people.items c.numbers.before c.person_at-person.result
          c.numbers.invariant.stand c.push-in-numbers.new.self.items c.in_ok-push-2.ensures.items is;
      text = text_next g c.args.subject (string_bytes c.args.out.now) (string_bytes c.numbers.out)
          (string_bytes c.push_ancestor_at.new.out) c.numbers.before c.person_at-person.result is
          (c.in_ok-push_ancestor_at.ensures known) c.numbers.invariant.text;
    }

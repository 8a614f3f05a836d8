use Rattle.std.proofs.Common.{◌≡◌, eqb, false, true, length, sym, ◌∙◌, arith}
use Rattle.std.proofs.lemmas.Bool.{eqb-true}
use Rattle.gedcom_line.proofs.Steps.{eqb_no}
use Rattle.file_faults.proofs.Displayed.{goes_on, ends_empty, ends_full, none_left}
use Rattle.file_faults.proofs.shown.push_shown.Goals as goal

pub characters-preserved : goal.characters-preserved
characters-preserved c =
    let some : eqb (length c.characters.rest.now) 0 ≡ false = sym c.is_empty.ensures ∙ c.if-not-is_empty.true in
    goes_on c.characters.out.items c.push_first.new.out.items c.characters.left c.characters.rest.now
    c.in_ok-rest.rest.now _ c.characters-test.true (omega (arith, eqb_no (length c.characters.rest.now) 0 some))
    c.in_ok-rest.ensures.pushed c.in_ok-rest.ensures.past c.characters.invariant

pub returns-else-not-is_empty : goal.returns-else-not-is_empty
returns-else-not-is_empty c =
    let none : eqb (length c.characters.rest.now) 0 ≡ true = sym c.is_empty.ensures ∙ c.if-not-is_empty.false in
    ends_empty c.characters.out.items c.characters.left c.characters.rest.now _
    (none_left c.characters.rest.now (eqb-true (length c.characters.rest.now) 0 none)) c.characters.invariant

pub returns-after-characters : goal.returns-after-characters
returns-after-characters c = ends_full c.characters.out.items c.characters.left c.characters.rest.now _
    (omega (arith, c.characters-test.false)) c.characters.invariant

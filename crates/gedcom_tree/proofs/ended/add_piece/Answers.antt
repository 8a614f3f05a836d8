use Rattle.std.proofs.Common.{refl}
use Rattle.gedcom_line.specs.Reading.{parts}
use Rattle.gedcom_tree.specs.Flat.{built}
use Rattle.gedcom_rules.specs.Views.{progress}
use Rattle.gedcom_tree.proofs.Added.{judged_fits, judged_below, grown_blank, grown_line, deep_line, deep_blank}
use Rattle.gedcom_tree.proofs.Led.{named_line, named_blank, plain_line, plain_blank}
use Rattle.gedcom_tree.proofs.ended.add_piece.Goals as goal

pub add_line-requires-clause-level : goal.add_line-requires-clause-level
add_line-requires-clause-level c = judged_fits (progress c.args.seen.now) c.args.piece.now (parts c.in-Some.line) _
    (rw c.in-Some.is at c.in_ok-number.ensures.line) c.requires.deep

pub add_line-requires-clause-above : goal.add_line-requires-clause-above
add_line-requires-clause-above c = judged_below (progress c.args.seen.now) c.args.piece.now (parts c.in-Some.line)
    (rw c.in-Some.is at c.in_ok-number.ensures.line)

pub returns-in_ok-add_line-clause-grown : goal.returns-in_ok-add_line-clause-grown
returns-in_ok-add_line-clause-grown c =
    grown_line (progress c.args.seen.now) (progress c.judge_piece.new.seen) c.args.piece.now (parts c.in-Some.line) _ _
    (built c.args.growing.now.roots.items c.args.growing.now.path.items) _
    (rw c.in-Some.is at c.in_ok-number.ensures.line) (rw c.in-Some.is at c.in_ok-number.ensures.seen) refl refl
    (rw (rw c.in-Some.is at c.in_ok-number.ensures.number) at c.in_ok-add_line.ensures.added)

pub returns-in_ok-add_line-clause-deep : goal.returns-in_ok-add_line-clause-deep
returns-in_ok-add_line-clause-deep c = deep_line (progress c.args.seen.now) (progress c.judge_piece.new.seen)
    (parts c.in-Some.line) _ (rw c.in-Some.is at c.in_ok-number.ensures.seen) c.in_ok-add_line.ensures.depth

pub returns-in_ok-add_line-clause-named : goal.returns-in_ok-add_line-clause-named
returns-in_ok-add_line-clause-named c =
    named_line (progress c.args.seen.now) c.args.piece.now (parts c.in-Some.line) _
    (built c.args.growing.now.roots.items c.args.growing.now.path.items) _ _ _
    (rw c.in-Some.is at c.in_ok-number.ensures.line) c.requires.plain c.in_ok-add_line.ensures.added
    c.in_ok-add_line.ensures.trailer

pub returns-in_ok-add_line-clause-plain : goal.returns-in_ok-add_line-clause-plain
returns-in_ok-add_line-clause-plain c = plain_line (progress c.args.seen.now) (progress c.judge_piece.new.seen)
    c.args.piece.now (parts c.in-Some.line) _ _ (rw c.in-Some.is at c.in_ok-number.ensures.line)
    (rw c.in-Some.is at c.in_ok-number.ensures.seen) c.requires.plain c.in_ok-add_line.ensures.trailer

pub returns-in_default-clause-grown : goal.returns-in_default-clause-grown
returns-in_default-clause-grown c = grown_blank (progress c.args.seen.now) (progress c.judge_piece.new.seen)
    c.args.piece.now _ _ _ (rw c.in_default.is at c.in_ok-number.ensures.line)
    (rw c.in_default.is at c.in_ok-number.ensures.seen) refl refl

pub returns-in_default-clause-deep : goal.returns-in_default-clause-deep
returns-in_default-clause-deep c = deep_blank (progress c.args.seen.now) (progress c.judge_piece.new.seen) _
    (rw c.in_default.is at c.in_ok-number.ensures.seen) c.requires.deep

pub returns-in_default-clause-named : goal.returns-in_default-clause-named
returns-in_default-clause-named c = named_blank (progress c.args.seen.now) c.args.piece.now _
    (rw c.in_default.is at c.in_ok-number.ensures.line)

pub returns-in_default-clause-plain : goal.returns-in_default-clause-plain
returns-in_default-clause-plain c = plain_blank (progress c.args.seen.now) (progress c.judge_piece.new.seen) _
    (rw c.in_default.is at c.in_ok-number.ensures.seen) c.requires.plain

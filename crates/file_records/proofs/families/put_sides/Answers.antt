use Rattle.std.proofs.Common.{ap, sym, ◌∙◌, set}
use Rattle.std.proofs.lemmas.List.Edits.{map_over_more}
use Rattle.file_records.specs.Carried.{line_kept}
use Rattle.file_records.proofs.families.put_sides.Goals as goal

pub loop-member-preserved : goal.loop-member-preserved
loop-member-preserved g c =
    ap (set c.loop-member.members c.loop-member.member-index) c.in_ok-put_side.ensures
    ∙ ap (λ x. set c.loop-member.members c.loop-member.member-index (g.M.Member.told c.args.roots.now
    (line_kept c.args.lines.now) x)) (sym c.member-item.is)
    ∙ map_over_more (g.M.Member.told c.args.roots.now (line_kept c.args.lines.now)) c.args.members.now
    c.loop-member.members c.loop-member.member-index c.member-item.result c.loop-member-test.true
    c.loop-member.invariant c.member-item.is

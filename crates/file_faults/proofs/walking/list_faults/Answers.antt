use Rattle.std.proofs.Common.{◌≡◌}
use Rattle.list_laws.proofs.Outcomes.{ok_more}
use Rattle.file_faults.specs.Faults.{faults}
use Rattle.file_faults.specs.Shown.{listing}
use Rattle.file_faults.specs.Views.{course as state}
use Rattle.file_faults.proofs.Going.{begun, done_list}
use Rattle.file_faults.proofs.walking.list_faults.Goals as goal

pub returns : goal.returns
returns c =
    let b = c.args.bytes.now in
    let done = done_list c.list_all.new.list (faults b) (c.in_ok-list_all.ensures (faults b)
    (begun c.new-list.result b c.limited-next.result.0.now c.skip_mark.result.now c.limited-next.result.1
    (state c.new-course.result) c.new-list.ensures c.limited-next.ensures.front c.limited-next.ensures.next
    c.skip_mark.ensures.value c.new-course.ensures.value)) in
    ok_more _ (λ text. text.items ≡ listing (faults b)) (λ text h. h (faults b) done) c.finish.result c.finish.ensures

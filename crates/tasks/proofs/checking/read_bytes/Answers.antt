use Rattle.std.proofs.Common.{◌<◌, ◌≤◌, arith, length, rules}
use Rattle.tasks.proofs.Whole.{more, whole}
use Rattle.tasks.proofs.checking.read_bytes.Goals as goal
use Rattle.tasks.proofs.checking.read_bytes.Goals.{
  in-Ok+else-len-gt-MOST,
  in-Err-OutOfMemory,
  in-Err-Failed,
}

pub returns-then-len-gt-MOST-clause-error : goal.returns-then-len-gt-MOST-clause-error
returns-then-len-gt-MOST-clause-error g c =
    let many : 67108864 < length c.in-Ok.all.items = first_of (search rules, grind arith) in
    more 67108864 _ c.in-Ok.all.items c.in-Ok.ensures.bytes many

pub returns-clause-bytes : goal.returns-clause-bytes
returns-clause-bytes g c = elim c.match-read_up_to.branch [
  | in-Ok+else-len-gt-MOST w ↦ rw w.result-is (
      let few : length w.in-Ok.all.items ≤ 67108864 = first_of (search rules, grind arith) in
      whole 67108864 _ w.in-Ok.all.items w.in-Ok.ensures.bytes few)
  | in-Err-OutOfMemory w ↦ rw w.result-is tt
  | in-Err-Failed w ↦ rw w.result-is tt
]

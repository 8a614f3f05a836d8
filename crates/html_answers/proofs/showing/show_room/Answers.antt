use Rattle.room_requests.proofs.Few.{are_few}
use Rattle.html_answers.proofs.showing.show_room.Goals as goal

pub show_pedigree-requires : goal.show_pedigree-requires
show_pedigree-requires c = rw c.in_ok-generations-in-Pedigree.ensures (are_few c.args.query.now)

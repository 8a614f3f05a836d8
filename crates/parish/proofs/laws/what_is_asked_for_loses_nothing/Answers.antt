use Rattle.std.proofs.Common.{[], inl, inr, subst, sym}
use Rattle.archive_runs.specs.Seeing.{IsSeenAs}
use Rattle.parish.proofs.Carrying.{is_run, unwritten}
use Rattle.parish.proofs.laws.what_is_asked_for_loses_nothing.Goals as goal

pub returns : goal.returns
returns g c = record {
  asked = λ image after a status x y left room bytes seen unseen ended did s as_seen finds.
      is_run g.R.Read g.R.Device g.W.Write g.W.Device g.F.Write g.F.Device image after status x y left room bytes seen
      unseen
      ended as_seen
      (λ t shown ends. c.a_task_on_a_file_loses_nothing.ensures.performed image after t x y status shown left bytes
      seen unseen ended ends s as_seen finds)
      (λ t is same one. c.a_task_on_a_file_loses_nothing.ensures.refused image after t x y status left bytes seen
      unseen ended is same one s as_seen finds)
      (λ token progress ends. c.a_task_on_a_file_loses_nothing.ensures.beside image after token progress x y status left
      bytes seen unseen ended ends s as_seen finds)
      (λ society is. c.a_run_without_a_task_loses_nothing.ensures.kept image after society left bytes seen ended is
      finds)
      (λ society made. c.a_run_without_a_task_loses_nothing.ensures.begun image after society left made finds)
      a did;
  refused = λ image after words status x y left bytes seen unseen ended s as_seen finds is same nonzero untwo. inr (
    (
      unwritten g.R.Read g.W.Write x y bytes seen unseen s same,
      (λ done. nonzero (sym (subst (IsSeenAs status unseen) done as_seen).0)),
      (λ taken two. untwo taken (sym (subst (IsSeenAs status unseen) two as_seen).0)),
    ),
    c.a_run_without_a_task_loses_nothing.ensures.kept image after [] left bytes seen ended (inl is) finds,
  );
}

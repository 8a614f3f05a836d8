-- What an accepted import leaves beside its records: receipts and the next number; and that it is sound.
use Rattle.std.proofs.Common.{◌≡◌, ◌≤◌, ◌-◌, List, [], Bool, true, false, refl, ◌∙◌, inl, subst, arith}
use Rattle.std.specs.Prelude.{None, Ok, Err, if◌then◌else◌, nat_le}
use Rattle.record_text.specs.declared.refusal.Refusal.{Refusal}
use Rattle.record_text.specs.declared.refusal.RefusalKind.TheVariants.{Full}
use Rattle.receipts.specs.declared.answer.Answer.{Answer}
use Rattle.archive_state.specs.Changes.{Batch, Changes}
use Rattle.archive_state.specs.Content.{Content}
use Rattle.archive_state.specs.Sound.{IsSound}
use Rattle.command_checks.specs.Exact.{IsExact}
use Rattle.command_checks.specs.Numbers.{Draws, UsesNoneAgain}
use Rattle.archive_steps.proofs.Following.{Follows}
use Rattle.commands.specs.Rows.{and_then}
use Rattle.gedcom_tree.specs.Forest.{Item}
use Rattle.gedcom_tree.specs.Text.{IsForest}
use Rattle.entry_batches.specs.Placed.{onward, placed}
use Rattle.import_definitions.specs.Made.{made}
use Rattle.imports.specs.Imported.{CountUp, imported, numbers}
use Rattle.imports.proofs.Drawn.{numbers_are_new}
use Rattle.imports.proofs.Whole.{imports_stay_sound}
use Rattle.imports.specs.Imports.{OnlyAdds, answer_of, import_step}
use Rattle.imports.proofs.StepStanding.{all_taken, ascend, free_from, none_before}
use Rattle.archive_state.proofs.Later.{none_later}
use Rattle.imports.proofs.SoundStanding.{below_stays, ends}
use Rattle.record_shapes.proofs.Each.{once_ascending}

-- the numbers of a batch
counted : (c : Content) (f : List Item) (b : Batch) → made c f ≡ Ok b → CountUp c.next b.next (numbers b)
counted c f b e = (numbers_are_new c f b e).0

-- ---- what is left
made_follows : (c : Content) (f : List Item) (b : Batch) → made c f ≡ Ok b
    → Follows {E = Refusal} (IsForest f) c (Ok (imported c b, record { first = c.next; count = b.next - c.next }))
made_follows c f b e =
    let up = counted c f b e in
    let grown : c.next ≤ b.next = ends (numbers b) c.next b.next up in (
      refl,
      (omega arith, inl refl, λ n low high. inl (all_taken b.records c.records c.next b.next n up low high)),
      (
        grown,
        (λ n less none. none),
        (λ n used. (
          omega (arith, used.0, grown),
          below_stays b.records c.records c.next b.next n up used.0 ∙ used.1,
          used.2,
        )),
      ),
      (λ forest sound. imports_stay_sound c f b sound forest e),
    )

answered : (c : Content) (f : List Item) (b : Batch) → made c f ≡ Ok b → (first count : Bool)
    → Follows (IsForest f) c
    (onward (placed None (and_then (if first then Ok c.next else Err Full)
    (λ n. and_then (if count then Ok (b.next - c.next) else Err Full) (λ k. Ok (record { first = n; count = k })))))
    (λ (a : Answer). Ok (imported c b, a)))
answered c f b e true true = made_follows c f b e
answered c f b e true false = tt
answered c f b e false count = tt

pub import_follows : (c : Content) (f : List Item) → Follows (IsForest f) c (import_step c f)
import_follows c f =
    elim (made c f) as (λ r. made c f ≡ r → Follows (IsForest f) c
    (onward r (λ b. onward (placed None (answer_of c.next b)) (λ a. Ok (imported c b, a))))) [
      | Ok b ↦ λ e. answered c f b e (nat_le c.next 4_294_967_295) (nat_le (b.next - c.next) 4_294_967_295)
      | Err k ↦ λ e. tt
    ] refl

-- ---- changes
abbrev pub changes_of : Batch → Answer → Changes
changes_of b a =
    record { puts = b.records; removals = []; next = b.next; answer = a; kept = None; slip = None }

pub made_is_exact : (c : Content) (f : List Item) (b : Batch) (a : Answer) → made c f ≡ Ok b
    → IsExact c (changes_of b a)
made_is_exact c f b a e =
    let up = counted c f b e in
    record {
      puts = λ _. ascend (numbers b) c.next b.next up;
      removals = tt;
      apart = tt;
      new = λ sound. none_before c.records c.next (none_later c sound) b.records c.next b.next (omega arith) up;
      there = tt;
      slip = λ _. tt;
    }

pub made_adds : (c : Content) (f : List Item) (b : Batch) (a : Answer) → made c f ≡ Ok b → OnlyAdds c (changes_of b a)
made_adds c f b a e =
    let up = counted c f b e in
    record {
      numbers = up;
      once = once_ascending (numbers b) (ascend (numbers b) c.next b.next up);
      free = λ sound. free_from c.records c.next (none_later c sound) b.records c.next b.next (omega arith) up;
      removals = refl;
      slip = refl;
    }

-- ---- the laws
as_done : (c after : Content) (f : List Item) (a : Answer) → import_step c f ≡ Ok (after, a)
    → Follows {E = Refusal} (IsForest f) c (Ok (after, a))
as_done c after f a e = subst (Follows (IsForest f) c) e (import_follows c f)

pub import_sound : (c after : Content) (f : List Item) (a : Answer) → IsForest f → IsSound c
    → import_step c f ≡ Ok (after, a) → IsSound after
import_sound c after f a forest sound e = (as_done c after f a e).3 forest sound

pub import_draws : (c after : Content) (f : List Item) (a : Answer) → import_step c f ≡ Ok (after, a)
    → Draws c a after
import_draws c after f a e = (as_done c after f a e).1

pub import_again : (c after : Content) (f : List Item) (a : Answer) → import_step c f ≡ Ok (after, a)
    → UsesNoneAgain c after
import_again c after f a e = (as_done c after f a e).2

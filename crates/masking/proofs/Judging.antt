-- What is judged of who is living.
use Rattle.std.proofs.Common.{◌≡◌, ◌↔◌, ℕ, true, false, refl, sym, ap, ◌∙◌, subst}
use Rattle.std.specs.Prelude.{Option, Some, None, ℤ}
use Rattle.std.specs.Ordering.{nat_cmp}
use Rattle.std.specs.BTreeSet as set
use Rattle.std.specs.BTreeSet.{BTreeSet}
use Rattle.std.specs.FinMap.{get}
use Rattle.record_kinds.specs.Model as model
use Rattle.record_kinds.specs.declared.record.Record.{Record}
use Rattle.record_kinds.specs.declared.record.Record.TheVariants as kind
use Rattle.archive_state.specs.Content.{Records}
use Rattle.masking.specs.Life.{IsLiving}
use Rattle.masking.specs.Closing.{IsOpen, IsOfNobodyLiving}
use Rattle.masking.specs.Masking.{is_silent}
use Rattle.masking.proofs.Once.{same_test}
use Rattle.masking.specs.Evidence.{IsOfNone, IsOpenEntry, IsSilent}
use Rattle.masking.specs.Judged.{IsJudgement, KnowsLiving, KnowsSilent}
use Rattle.masking.specs.Sets.{IsIn, Has}
use Rattle.masking.specs.Telling.{IsTold}
use Rattle.list_laws.proofs.Outcomes.{if_some}
use Rattle.record_shapes.proofs.Each.{each_more}

module _ (m : Records) (today : ℤ) (living silent entries : BTreeSet ℕ) (knows : KnowsLiving m today living)
    (has_silent : Has silent (IsTold m (IsSilent living)))
    (has_open : Has entries (IsTold m (IsOpenEntry today living))) where
  abbrev Silent : ℕ → Type 0
  Silent n = is_silent (set.contains nat_cmp living) n (get m n) ≡ true

  silent_here : (n : ℕ) (o : Option Record) → get m n ≡ o
      → is_silent (set.contains nat_cmp living) n o ≡ true → IsTold m (IsSilent living) n
  silent_here n None at e = let no : false ≡ true = e in absurd cc
  silent_here n (Some r) at e = (n, r, at, (refl, e))

  silent_told : (n : ℕ) → IsTold m (IsSilent living) n → Silent n
  silent_told n (k, r, at, (same, e)) =
      subst (λ x. Silent x) same (ap (is_silent (set.contains nat_cmp living) k) at ∙ e)

  silent_known : KnowsSilent m living silent
  silent_known n = same_test (set.contains nat_cmp silent n)
      (is_silent (set.contains nat_cmp living) n (get m n)) (has_silent n)
      (λ e. silent_here n (get m n) refl e, λ told. silent_told n told)

  of_nobody : (x : model.Mention) → IsOfNone living x → IsOfNobodyLiving m today x
  of_nobody x h = if_some (λ (l : model.Link). IsIn living l.person → ⊥)
      (λ (l : model.Link). IsLiving m today l.person → ⊥) (λ l none lives. none ((knows l.person).1 lives)) x.link h

  of_none : (x : model.Mention) → IsOfNobodyLiving m today x → IsOfNone living x
  of_none x h = if_some (λ (l : model.Link). IsLiving m today l.person → ⊥)
      (λ (l : model.Link). IsIn living l.person → ⊥) (λ l nobody i. nobody ((knows l.person).0 i)) x.link h

  open_of : (k n : ℕ) (r : Record) (e : model.Entry) → get m k ≡ Some r → get m n ≡ Some (kind.Entry e)
      → IsOpenEntry today living k r n → IsOpen m today e
  open_of k n (kind.Entry f) e at here (same, ended, none) =
      let both : Some (kind.Entry f) ≡ Some (kind.Entry e) = sym at ∙ ap (get m) same ∙ here in
      let one : f ≡ e = cc in
      subst (λ (x : model.Entry). IsOpen m today x) one (record {
        ended = ended;
        nobody = each_more (IsOfNone living) (IsOfNobodyLiving m today) of_nobody f.mentions none;
      })
  open_of k n (kind.Place p) e at here told = absurd told
  open_of k n _ e at here told = absurd told

  opens : (n : ℕ) (e : model.Entry) → get m n ≡ Some (kind.Entry e) → IsIn entries n ↔ IsOpen m today e
  opens n e here = (
    λ i. let (k, r, at, told) = (has_open n).0 i in open_of k n r e at here told,
    λ opened. (has_open n).1 (
      n,
      kind.Entry e,
      here,
      (
        refl,
        opened.ended,
        each_more (IsOfNobodyLiving m today) (IsOfNone living) of_none e.mentions opened.nobody,
      ),
    ),
  )

  pub judged_is : IsJudgement m today living silent entries
  judged_is = record {
    judges = record { living = knows; opens = opens };
    silences = silent_known;
  }

-- What is known of a run, by what was seen of what it wrote.
use Rattle.std.proofs.Common.{
  ◌≡◌,
  ◌∙◌,
  ◌++◌,
  ◌∷◌,
  [],
  ℕ,
  List,
  Some,
  refl,
  sym,
  ap,
  arith,
  subst,
  subst₂,
  take-append-drop,
  append-nil,
  append_assoc,
}
use Rattle.std.specs.Prelude.{Option, drop, take}
use Rattle.std.specs.Io.KnownBytes.{Appends, Keeps}
use Rattle.std.specs.declared.io.Read as read
use Rattle.std.specs.declared.io.Write as write
use Rattle.devices.specs.Devices.{AppendsBeginning}
use Rattle.tasks.specs.Moments.{Streams}
use Rattle.tasks.specs.declared.task.Task.{Task}
use Rattle.archive_runs.specs.Runs.{Run, Tells}
use Rattle.archive_runs.specs.Seeing.{IsSeen, IsSeenAs}

nothing_seen : (seen unseen : List ℕ) → seen ++ unseen ≡ [] → seen ≡ []
nothing_seen [] unseen none = refl
nothing_seen (x ∷ seen) unseen none = cc

none_seen : (seen unseen : List ℕ) → Some (seen ++ unseen) ≡ Some [] → seen ≡ []
none_seen [] unseen none = refl
none_seen (x ∷ seen) unseen none = cc

-- what was appended to nothing is what was written
appended : (old new : Option (List ℕ)) (seen unseen text : List ℕ) → old ≡ Some [] → new ≡ Some (seen ++ unseen)
    → Appends old new text → text ≡ seen ++ unseen
appended old new seen unseen text before after appends =
    sym (subst₂ (λ x y. Appends x y text) before after appends)

-- a run with a task, and that it ended with 0
abbrev pub run_of : Task → List ℕ → List ℕ → Option ℕ → Run
run_of t input seen ended = record { task = Some t; input = input; written = seen; status = ended }

abbrev pub HasDone : Option ℕ → Type 0
HasDone ended = ended ≡ Some 0

module _ {R W F : Type 0} (reader : read.Ghosts R) (writer : write.Ghosts W) (x y : Streams R W F)
    (input seen unseen : List ℕ) (status : ℕ) (ended : Option ℕ) (s : IsSeen reader writer x y input seen unseen)
    (is : IsSeenAs status unseen ended) where
  done_as : HasDone ended → (0 ≡ status) × (unseen ≡ [])
  done_as done = subst (IsSeenAs status unseen) done is

  pub never : status ≡ 1 → ¬ (HasDone ended)
  never one done = omega (arith, (done_as done).0, one)

  pub told : (t : Task) (text : List ℕ) → Appends (writer.contents x.output) (writer.contents y.output) text
      → Tells (run_of t input seen ended) text
  told t text appends =
      let same = appended (writer.contents x.output) (writer.contents y.output) seen unseen text s.begins s.writes
      appends in (
        (unseen, same),
        λ done. sym (same ∙ ap (λ more. seen ++ more) (done_as done).1 ∙ append-nil seen),
      )

  pub told_part : (t : Task) (text : List ℕ)
      → AppendsBeginning (writer.contents x.output) (writer.contents y.output) text → ¬ (HasDone ended)
      → Tells (run_of t input seen ended) text
  told_part t text part undone =
      let same = appended (writer.contents x.output) (writer.contents y.output) seen unseen (take part.0 text) s.begins
      s.writes part.2 in (
        (
          unseen ++ drop part.0 text,
          sym (take-append-drop part.0 text) ∙ ap (λ some. some ++ drop part.0 text) same
              ∙ append_assoc seen unseen (drop part.0 text),
        ),
        λ done. absurd (undone done),
      )

  pub told_none : (t : Task) (text : List ℕ) → seen ≡ [] → ¬ (HasDone ended) → Tells (run_of t input seen ended) text
  told_none t text none undone = ((text, sym (ap (λ some. some ++ text) none)), λ done. absurd (undone done))

  pub kept_still : Keeps (writer.contents x.output) (writer.contents y.output) → seen ≡ []
  kept_still keeps = nothing_seen seen unseen (subst₂ Keeps s.begins s.writes keeps)

  pub untouched : y.output ≡ x.output → seen ≡ []
  untouched same =
      none_seen seen unseen (sym s.writes ∙ ap (λ (w : W). writer.contents w) same ∙ s.begins)

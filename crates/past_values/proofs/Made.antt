-- The values of before of rows, one after the other.
use Rattle.std.proofs.Common.{
  ◌≡◌,
  ◌⊎◌,
  inl,
  inr,
  ℕ,
  suc,
  zero,
  List,
  [],
  ◌∷◌,
  ◌++◌,
  Ok,
  Err,
  Result,
  IfOk,
  IfErr,
  ap,
  append_assoc,
  drop,
  subst,
  sym,
}
use Rattle.std.specs.List.{AllByRecursion}
use Rattle.std.proofs.lemmas.List.{append-nil}
use Rattle.sqlite.specs.State.{State}
use Rattle.record_text.specs.declared.refusal.RefusalKind.{RefusalKind}
use Rattle.record_text.specs.declared.refusal.RefusalKind.TheVariants.{BadStored, OutOfMemory}
use Rattle.store_tables.specs.Conversion.{EachWith}
use Rattle.store_tables.specs.Looking.{Looks, LooksUnless}
use Rattle.store_tables.specs.Rows.{Rows}

-- ---- one value of each row
module _ {X Y : Type 0} (R : X → Y → Type 0) where
  -- those that are made already, and any of the rows that are left
  abbrev pub SoFar : List X → List X → List Y → Type 0
  SoFar all left made = (more : List Y) → EachWith R left more → EachWith R all (made ++ more)

  pub one_more : (all left rest : List X) (made now : List Y) (x : X) (y : Y) → left ≡ x ∷ rest → now ≡ made ++ y ∷ []
      → R x y → SoFar all left made → SoFar all rest now
  one_more all left rest made now x y here is r before more h =
      subst (λ ys. EachWith R all (ys ++ more)) (sym is)
      (subst (EachWith R all) (sym (append_assoc made (y ∷ []) more))
      (before (y ∷ more) (subst (λ xs. EachWith R xs (y ∷ more)) (sym here) (r, h))))

  pub all_made : (all left : List X) (made : List Y) → left ≡ [] → SoFar all left made → EachWith R all made
  all_made all left made none before =
      subst (EachWith R all) (append-nil made) (before [] (subst (λ xs. EachWith R xs []) (sym none) tt))

first_of : {X : Type 0} → X → List X → X
first_of d [] = d
first_of d (x ∷ xs) = x

-- what holds of all holds of one among them
pub holds_of : {X : Type 0} (P : X → Type 0) (i : ℕ) (xs rest : List X) (x : X) → drop i xs ≡ x ∷ rest
    → AllByRecursion P xs → P x
unfolding first_of
holds_of P zero [] rest x e all = absurd cc
holds_of P zero (y ∷ ys) rest x e all = subst P (ap (first_of y) e) all.0
holds_of P (suc i) [] rest x e all = absurd cc
holds_of P (suc i) (y ∷ ys) rest x e all = holds_of P i ys rest x e all.1

-- ---- something is made of what a look answers
pub looks_on : {A B : Type 0} (Is : Rows → A → Type 0) (Reads : Rows → Type 0) (As : Rows → B → Type 0)
    (All : Rows → Type 0) (old new : State) (a : A) (result : Result B RefusalKind)
    → LooksUnless Is Reads old new (Ok a)
    → IfOk result (λ (b : B). (rows : Rows) → Is rows a → As rows b)
    → IfErr result (λ kind. (kind ≡ OutOfMemory) ⊎ ((kind ≡ BadStored) × ((rows : Rows) → Is rows a → ¬ (All rows))))
    → LooksUnless As All old new result
looks_on Is Reads As All old new a (Ok b) looks turn why = record {
  read = λ clean rows was. turn rows (looks.read clean rows was);
  same = looks.same;
  refused = λ clean. tt;
  crash = looks.crash;
  clean = looks.clean;
}
looks_on Is Reads As All old new a (Err kind) looks turn why = record {
  read = λ clean. tt;
  same = λ clean. tt;
  refused = λ clean rows was. elim why [
    | inl want ↦ inl (inl want)
    | inr bad ↦ inr (bad.0, bad.1 rows (looks.read clean rows was))
  ];
  crash = looks.crash;
  clean = looks.clean;
}

pub looks_refused : {A B : Type 0} (Is : Rows → A → Type 0) (Reads : Rows → Type 0) (As : Rows → B → Type 0)
    (All : Rows → Type 0) (old new : State) (kind : RefusalKind) → ((rows : Rows) → All rows → Reads rows)
    → LooksUnless Is Reads old new (Err kind) → LooksUnless As All old new (Err kind)
looks_refused Is Reads As All old new kind more looks = record {
  read = λ clean. tt;
  same = λ clean. tt;
  refused = λ clean rows was. elim (looks.refused clean rows was) [
    | inl failure ↦ inl failure
    | inr bad ↦ inr (bad.0, λ all. bad.1 (more rows all))
  ];
  crash = looks.crash;
  clean = looks.clean;
}

-- ---- a look after another
pub looks_both : {A C : Type 0} (P : Rows → A → Type 0) (Reads : Rows → Type 0) (Q : Rows → C → Type 0)
    (R : Rows → C → Type 0) (old mid new : State) (a : A) (result : Result C RefusalKind)
    → ((rows : Rows) (c : C) → P rows a → Q rows c → R rows c)
    → LooksUnless P Reads old mid (Ok a) → Looks Q mid new result → LooksUnless R Reads old new result
looks_both P Reads Q R old mid new a (Ok c) make first looks = record {
  read = λ clean rows was. make rows c (first.read (looks.clean clean) rows was)
      (looks.read clean rows (first.same (looks.clean clean) rows was));
  same = λ clean rows was. looks.same clean rows (first.same (looks.clean clean) rows was);
  refused = λ clean. tt;
  crash = λ clean rows was. looks.crash clean rows (first.same (looks.clean clean) rows was);
  clean = λ clean. first.clean (looks.clean clean);
}
looks_both P Reads Q R old mid new a (Err kind) make first looks = record {
  read = λ clean. tt;
  same = λ clean. tt;
  refused = λ clean rows was. inl (looks.refused clean rows (first.same (looks.clean clean) rows was));
  crash = λ clean rows was. looks.crash clean rows (first.same (looks.clean clean) rows was);
  clean = λ clean. first.clean (looks.clean clean);
}

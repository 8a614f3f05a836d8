-- What is found of the spans that were read, row by row.
use Rattle.std.proofs.Common.{
  ◌≡◌,
  ◌↔◌,
  ◌∙◌,
  ℕ,
  ℤ,
  Bool,
  true,
  false,
  List,
  [],
  ◌∷◌,
  ◌++◌,
  length,
  refl,
  sym,
  ap,
  subst,
  Result,
  Ok,
  Err,
}
use Rattle.std.specs.Prelude.{IsTrue, Some}
use Rattle.gedcom_date.specs.declared.value.Span.{Span}
use Rattle.record_text.specs.declared.refusal.RefusalKind.{RefusalKind}
use Rattle.record_shapes.specs.Lists.{Ascends}
use Rattle.sqlite.specs.State.{State}
use Rattle.archive_state.specs.Content.{Content}
use Rattle.date_spans.specs.Between.{AreAll, IsBetween}
use Rattle.date_spans.specs.Meeting.{Meets}
use Rattle.date_spans.proofs.Picked.{IsPicked, all_picked, none_picked, one_left, one_picked}
use Rattle.store_tables.specs.Looking.{IsFailure, Looks}
use Rattle.store_tables.specs.Rows.{Rows, SpanRow}
use Rattle.store_rows.specs.Spans.{span_at}
use Rattle.table_looks.specs.Dated.{SeesDated}
use Rattle.table_looks.specs.Picking.{IsFound, IsFoundRow, days_of, numbers_of}
use Rattle.table_looks.proofs.Days.{all_between}
use Rattle.table_looks.proofs.Rising.{among_numbers, own_span, spans_rise}

-- the spans that were read are those of the rows; of those that were looked at these numbers are found
pub record IsOnTheWay (first last : ℤ) (seen left : List SpanRow) (found : List ℕ) (rows : Rows) : Type 0 where
  pub read : seen ++ left ≡ rows.spans
  pub picked : Ascends (numbers_of rows.spans) → IsPicked (IsFound rows first last) (numbers_of seen) found

numbers_joined : (xs : List SpanRow) (s : SpanRow) → numbers_of (xs ++ s ∷ []) ≡ numbers_of xs ++ s.no ∷ []
numbers_joined [] s = refl
numbers_joined (x ∷ xs) s = ap (λ ns. x.no ∷ ns) (numbers_joined xs s)

moved : (xs : List SpanRow) (s : SpanRow) (ys : List SpanRow) → (xs ++ s ∷ []) ++ ys ≡ xs ++ s ∷ ys
moved [] s ys = refl
moved (x ∷ xs) s ys = ap (λ zs. x ∷ zs) (moved xs s ys)

nothing_left : (xs ys : List SpanRow) → length ys ≡ 0 → xs ++ ys ≡ xs
nothing_left [] [] none = refl
nothing_left [] (y ∷ ys) none = absurd cc
nothing_left (x ∷ xs) ys none = ap (λ zs. x ∷ zs) (nothing_left xs ys none)

module _ (first last : ℤ) (rows : Rows) where
  pub begun : (spans left : List SpanRow) (found : List ℕ) → left ≡ spans → found ≡ [] → spans ≡ rows.spans
      → IsOnTheWay first last [] left found rows
  begun spans left found same none read = record {
    read = same ∙ read;
    picked = λ rise.
        subst (λ (ns : List ℕ). IsPicked (IsFound rows first last) [] ns) (sym none)
        (none_picked (IsFound rows first last));
  }

  module _ (xs left : List SpanRow) (s : SpanRow) (ys : List SpanRow) (found : List ℕ) (next : left ≡ s ∷ ys)
      (was : IsOnTheWay first last xs left found rows) where
    parts : xs ++ s ∷ ys ≡ rows.spans
    parts = ap (λ zs. xs ++ zs) (sym next) ∙ was.read

    own : Ascends (numbers_of rows.spans) → span_at s.no rows.spans ≡ Some (days_of s)
    own rise =
        subst (λ (ss : List SpanRow). span_at s.no ss ≡ Some (days_of s)) parts
        (own_span xs s ys (subst (λ (ss : List SpanRow). Ascends (numbers_of ss)) (sym parts) rise))

    -- a row that is found, and one that is not
    pub one_more : (b : Bool) → IsTrue b ↔ IsFoundRow rows first last s → b ≡ true → (after : List ℕ)
        → after ≡ found ++ s.no ∷ [] → IsOnTheWay first last (xs ++ s ∷ []) ys after rows
    one_more b test is after made = record {
      read = moved xs s ys ∙ parts;
      picked = λ rise.
          let it : IsFoundRow rows first last s = test.0 is in
          subst (λ (ns : List ℕ). IsPicked (IsFound rows first last) (numbers_of (xs ++ s ∷ [])) ns) (sym made)
          (subst (λ (ns : List ℕ). IsPicked (IsFound rows first last) ns (found ++ s.no ∷ []))
          (sym (numbers_joined xs s)) (one_picked (IsFound rows first last) (numbers_of xs) found s.no
          (was.picked rise) (days_of s, own rise, it.0, it.1)));
    }

    pub none_more : (b : Bool) → IsTrue b ↔ IsFoundRow rows first last s → b ≡ false
        → IsOnTheWay first last (xs ++ s ∷ []) ys found rows
    none_more b test off = record {
      read = moved xs s ys ∙ parts;
      picked = λ rise.
          subst (λ (ns : List ℕ). IsPicked (IsFound rows first last) ns found) (sym (numbers_joined xs s))
          (one_left (IsFound rows first last) (numbers_of xs) found s.no (was.picked rise)
          (λ (span, at, meets, has).
          let same : Some span ≡ Some (days_of s) = sym at ∙ own rise in
          let days : span ≡ days_of s = cc in
          let there : b ≡ true = test.1 (subst (λ (d : Span). Meets d first last) days meets, has) in
          let both : true ≡ false = sym there ∙ off in absurd cc));
    }

-- all rows were looked at
seen_all : {A : Type 0} (first last : ℤ) (items : A → List ℕ) (seen left : List SpanRow) (found : List ℕ)
    (old new : State) (a : A) → items a ≡ found → length left ≡ 0 → Looks (λ rows (_ : Unit {0}). rows.has_spans ≡ true
    → IsOnTheWay first last seen left found rows) old new (Ok tt)
    → SeesDated (λ c (a : A). AreAll (IsBetween c.records first last) (items a)) old new (Ok a)
seen_all first last items seen left found old new a are none h = record {
  read = λ clean rows was dated c means keeps.
      let rise = spans_rise old rows was dated.has_spans in
      let it = h.read clean rows was dated.has_spans in
      let all : seen ≡ rows.spans = sym (nothing_left seen left none) ∙ it.read in
      let picked : IsPicked (IsFound rows first last) (numbers_of rows.spans) found =
      subst (λ (ss : List SpanRow). IsPicked (IsFound rows first last) (numbers_of ss) found) all (it.picked rise) in
      subst (λ (ns : List ℕ). AreAll (IsBetween c.records first last) ns) (sym are)
      (all_between rows c first last means keeps found (all_picked (IsFound rows first last) (numbers_of rows.spans)
      found picked rise (λ n (span, at, meets, has). among_numbers n rows.spans span at)));
  same = h.same;
  refused = λ clean. tt;
  crash = h.crash;
  clean = h.clean;
}

-- the same of days that are these
pub all_seen : {A : Type 0} (f l first last : ℤ) (items : A → List ℕ) (seen left : List SpanRow) (found : List ℕ)
    (old new : State) (a : A) → f ≡ first → l ≡ last → items a ≡ found → length left ≡ 0
    → Looks (λ rows (_ : Unit {0}). rows.has_spans ≡ true → IsOnTheWay f l seen left found rows) old new (Ok tt)
    → SeesDated (λ c (a : A). AreAll (IsBetween c.records first last) (items a)) old new (Ok a)
all_seen f l first last items seen left found old new a f_is l_is are none h =
    subst (λ (x : ℤ). SeesDated (λ c a. AreAll (IsBetween c.records x last) (items a)) old new (Ok a)) f_is
    (subst (λ (y : ℤ). SeesDated (λ c a. AreAll (IsBetween c.records f y) (items a)) old new (Ok a)) l_is
    (seen_all f l items seen left found old new a are none h))

-- a look that was refused
pub sees_refused : {A B : Type 0} {P : Rows → A → Type 0} {Is : Content → B → Type 0} {old new : State}
    {kind : RefusalKind} (result : Result B RefusalKind) → result ≡ Err kind → Looks P old new (Err kind)
    → SeesDated Is old new result
sees_refused {Is = Is} {old = old} {new = new} result is h = subst (SeesDated Is old new) (sym is) (record {
  read = λ clean. tt;
  same = λ clean. tt;
  refused = h.refused;
  crash = h.crash;
  clean = h.clean;
})

-- one that failed after what was seen
pub sees_failed : {A B : Type 0} {P : Rows → A → Type 0} {Is : Content → B → Type 0} {old new : State} {a : A}
    (kind : RefusalKind) → IsFailure kind → Looks P old new (Ok a) → SeesDated Is old new (Err kind)
sees_failed kind fails h = record {
  read = λ clean. tt;
  same = λ clean. tt;
  refused = λ clean rows was. fails;
  crash = h.crash;
  clean = h.clean;
}

-- The spans of all records: there is one map of them, which tells what is between two days.
use Rattle.std.proofs.Common.{
  ◌≡◌,
  ◌↔◌,
  ℕ,
  ◌+◌,
  ◌<◌,
  List,
  length,
  take,
  get_or,
  Bool,
  true,
  false,
  cond,
  refl,
  sym,
  ap,
  subst,
  ◌∙◌,
  eqb-true,
  eq-eqb,
}
use Rattle.std.specs.Prelude.{Option, Some, None, ℤ, ◌≤ℤ◌, ◌==◌, ◌||◌}
use Rattle.std.specs.Bool.{IsTrue}
use Rattle.std.specs.List.{list_any}
use Rattle.std.specs.Cmp.{nat_cmp_total}
use Rattle.std.specs.Ordering.{eq_by_cmp, nat_cmp}
use Rattle.std.specs.FinMap.{get, get-remove, insert, keys, remove}
use Rattle.std.proofs.lemmas.List.Folds.{list_any_more}
use Rattle.gedcom_date.specs.declared.value.Span.{Span}
use Rattle.record_fields.specs.declared.date.Date.{Date}
use Rattle.record_kinds.specs.declared.record.Record.{Record}
use Rattle.archive_state.specs.Content.{Records}
use Rattle.archive_state.proofs.Putting.{one_number, put_elsewhere, put_here}
use Rattle.date_spans.specs.Between.{IsBetween}
use Rattle.date_spans.specs.Gathered.{Adds, AreSpansOf, Looks, date_if}
use Rattle.date_spans.specs.Meeting.{Meets}
use Rattle.date_spans.specs.Spans.{AreSpans, IsSpanOf, date_at, date_in}
use Rattle.date_spans.proofs.DaysMet.{one_span, wider}
use Rattle.archive_state.proofs.MapKeys.{among_keys}
use Rattle.list_laws.proofs.Numbers.{other_key}
use Rattle.list_laws.proofs.Booleans.{or_always, or_nothing}

-- ---- one span each
pub one_at_most : (date : Option Date) (a b : Option Span) → IsSpanOf date a → IsSpanOf date b → a ≡ b
one_at_most None None None h k = refl
one_at_most None (Some s) b h k = absurd h
one_at_most None None (Some t) h k = absurd k
one_at_most (Some d) (Some s) (Some t) h k = ap Some (one_span d s t h k)
one_at_most (Some d) None b h k = absurd h
one_at_most (Some d) (Some s) None h k = absurd k

pub one_each : (m : Records) (look other : ℕ → Option Span) (n : ℕ) → AreSpans m look → AreSpans m other
    → look n ≡ other n
one_each m look other n h k = one_at_most (date_at (get m n)) (look n) (other n) (h n) (k n)

pub told_by_spans : (m : Records) (look : ℕ → Option Span) (first last : ℤ) (n : ℕ) → AreSpans m look
    → IsBetween m first last n ↔ ((s : Span) × (look n ≡ Some s) × Meets s first last)
told_by_spans m look first last n h = (
  λ (s, is, meets). (s, one_at_most (date_at (get m n)) (look n) (Some s) (h n) is, meets),
  λ (s, at, meets). (s, subst (λ (o : Option Span). IsSpanOf (date_at (get m n)) o) at (h n), meets),
)

pub between_wider : (m : Records) (first last earlier later : ℤ) (n : ℕ) → earlier ≤ℤ first → last ≤ℤ later
    → IsBetween m first last n → IsBetween m earlier later n
between_wider m first last earlier later n before after (s, is, meets) =
    (s, is, wider s first last earlier later before after meets)

-- whether the record of a number is between two days, by its span
pub judged : (m : Records) (first last : ℤ) (n : ℕ) (r : Record) (found : Option Span) (span : Span) (b : Bool)
    → get m n ≡ Some r → IsSpanOf (date_in r) found → found ≡ Some span → IsTrue b ↔ Meets span first last
    → IsTrue b ↔ IsBetween m first last n
judged m first last n r found span b at is e test =
    let date : date_at (get m n) ≡ date_in r = ap date_at at in
    let spanned : IsSpanOf (date_at (get m n)) (Some span) =
    subst (λ (o : Option Span). IsSpanOf (date_at (get m n)) o) e
    (subst (λ (d : Option Date). IsSpanOf d found) (sym date) is) in (
      λ t. (span, spanned, test.0 t),
      λ (s, other, meets).
          let both : Some s ≡ Some span = one_at_most (date_at (get m n)) (Some s) (Some span) other spanned in
          let same : s ≡ span = cc in
          test.1 (subst (λ (x : Span). Meets x first last) same meets),
    )

-- ---- the spans of some numbers, and of one more
none_of : (o : Option Span) → IsSpanOf None o → o ≡ None
none_of None h = refl
none_of (Some s) h = absurd h

lacking : (b : Bool) (d : Option Date) → d ≡ None → date_if b d ≡ None
lacking true d e = e
lacking false d e = refl

module _ (m : Records) (before after : Looks) (k : ℕ) where
  unchanged : (date : Option Date) (n : ℕ) → Adds before after k date → (n ≡ k → ⊥) → after n ≡ before n
  unchanged None n adds other = adds n
  unchanged (Some d) n adds other = adds.3 n other

  -- at the number itself
  put_there : (date : Option Date) (was : Bool) → Adds before after k date → date_at (get m k) ≡ date
      → IsSpanOf (date_if was (date_at (get m k))) (before k) → IsSpanOf (date_at (get m k)) (after k)
  put_there None was adds here h =
      let none : before k ≡ None = none_of (before k)
      (subst (λ (d : Option Date). IsSpanOf d (before k)) (lacking was (date_at (get m k)) here) h) in
      subst (λ (d : Option Date). IsSpanOf d (after k)) (sym here)
      (subst (λ (o : Option Span). IsSpanOf None o) (sym (adds k ∙ none)) tt)
  put_there (Some d) was adds here h =
      subst (λ (date : Option Date). IsSpanOf date (after k)) (sym here)
      (subst (λ (o : Option Span). IsSpanOf (Some d) o) (sym adds.2) adds.1)

  more_at : (date : Option Date) (was : Bool) (n : ℕ) (b : Bool) → (k == n) ≡ b → Adds before after k date
      → date_at (get m k) ≡ date → IsSpanOf (date_if was (date_at (get m n))) (before n)
      → IsSpanOf (date_if (was || b) (date_at (get m n))) (after n)
  more_at date was n true q adds here h =
      let same : k ≡ n = eqb-true k n q in
      subst (λ (b : Bool). IsSpanOf (date_if b (date_at (get m n))) (after n)) (sym (or_always was))
      (subst (λ x. IsSpanOf (date_at (get m x)) (after x)) same (put_there date was adds here
      (subst (λ x. IsSpanOf (date_if was (date_at (get m x))) (before x)) (sym same) h)))
  more_at date was n false q adds here h =
      let other : n ≡ k → ⊥ = λ same. let wrong : true ≡ false = sym (eq-eqb k n (sym same)) ∙ q in absurd cc in
      subst (λ (b : Bool). IsSpanOf (date_if b (date_at (get m n))) (after n)) (sym (or_nothing was))
      (subst (λ (o : Option Span). IsSpanOf (date_if was (date_at (get m n))) o) (sym (unchanged date n adds other)) h)

pub more_spans : (m : Records) (before after : Looks) (ns : List ℕ) (i d : ℕ) → i < length ns
    → AreSpansOf (take i ns) m before → Adds before after (get_or ns i d) (date_at (get m (get_or ns i d)))
    → AreSpansOf (take (i + 1) ns) m after
more_spans m before after ns i d less h adds = λ n.
    subst (λ (b : Bool). IsSpanOf (date_if b (date_at (get m n))) (after n))
    (sym (list_any_more (λ j. j == n) ns i d less))
    (more_at m before after (get_or ns i d) (date_at (get m (get_or ns i d)))
    (list_any (λ j. j == n) (take i ns)) n (get_or ns i d == n) refl adds refl (h n))

-- ---- the spans of all
dated_key : (m : Records) (n : ℕ) (found : Option Record) (b : Bool) → get m n ≡ found
    → list_any (λ j. j == n) (keys m) ≡ b → date_if b (date_at found) ≡ date_at found
dated_key m n None true at is = refl
dated_key m n None false at is = refl
dated_key m n (Some r) true at is = refl
dated_key m n (Some r) false at is = let wrong : true ≡ false = sym (among_keys m n r at) ∙ is in absurd cc

pub all_spans : (m : Records) (ns : List ℕ) (look : Looks) → ns ≡ keys m → AreSpansOf ns m look → AreSpans m look
all_spans m ns look are h = λ n.
    subst (λ (d : Option Date). IsSpanOf d (look n))
    (dated_key m n (get m n) (list_any (λ j. j == n) (keys m)) refl refl)
    (subst (λ (ks : List ℕ). IsSpanOf (date_if (list_any (λ j. j == n) ks) (date_at (get m n))) (look n)) are (h n))

-- ---- the spans of records with one more, and with one less
other_number : (m : Records) (k : ℕ) (r : Record) (n : ℕ) (o : Option Span) → (n ≡ k → ⊥)
    → IsSpanOf (date_at (get m n)) o → IsSpanOf (date_at (get (insert m k r) n)) o
other_number m k r n o other h = subst (λ (x : Option Record). IsSpanOf (date_at x) o)
    (sym (put_elsewhere m k r n other)) h

pub put_spans : (m : Records) (k : ℕ) (r : Record) (look after : ℕ → Option Span) → AreSpans m look
    → IsSpanOf (date_in r) (after k) → ((n : ℕ) → (n ≡ k → ⊥) → after n ≡ look n) → AreSpans (insert m k r) after
put_spans m k r look after h is kept = λ n. elim (n == k) as (λ b. (n == k) ≡ b
    → IsSpanOf (date_at (get (insert m k r) n)) (after n)) [
      | true ↦ λ e.
          let same : n ≡ k = eqb-true n k e in
          subst (λ x. IsSpanOf (date_at (get (insert m k r) x)) (after x)) (sym same)
          (subst (λ (x : Option Record). IsSpanOf (date_at x) (after k)) (sym (put_here m k r)) is)
      | false ↦ λ e.
          let other : n ≡ k → ⊥ = λ same. let wrong : true ≡ false = sym (eq-eqb n k same) ∙ e in absurd cc in
          other_number m k r n (after n) other
          (subst (λ (o : Option Span). IsSpanOf (date_at (get m n)) o) (sym (kept n other)) (h n))
    ] refl

taken : (m : Records) (k n : ℕ) (b : Bool) → eq_by_cmp nat_cmp n k ≡ b → get (remove m k) n ≡ cond b None (get m n)
taken m k n b e = get-remove nat_cmp_total m k n ∙ ap (λ x. cond x None (get m n)) e

pub removed_spans : (m : Records) (k : ℕ) (look after : ℕ → Option Span) → AreSpans m look → after k ≡ None
    → ((n : ℕ) → (n ≡ k → ⊥) → after n ≡ look n) → AreSpans (remove m k) after
removed_spans m k look after h none kept = λ n. elim (eq_by_cmp nat_cmp n k) as (λ b. eq_by_cmp nat_cmp n k ≡ b
    → IsSpanOf (date_at (get (remove m k) n)) (after n)) [
      | true ↦ λ e.
          let same : n ≡ k = one_number n k e in
          let gone : after n ≡ None = ap after same ∙ none in
          subst (λ (x : Option Record). IsSpanOf (date_at x) (after n)) (sym (taken m k n true e))
          (subst (λ (o : Option Span). IsSpanOf None o) (sym gone) tt)
      | false ↦ λ e. subst (λ (x : Option Record). IsSpanOf (date_at x) (after n)) (sym (taken m k n false e))
          (subst (λ (o : Option Span). IsSpanOf (date_at (get m n)) o) (sym (kept n (other_key n k e))) (h n))
    ] refl

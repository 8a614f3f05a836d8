-- Rows one after the other over a view, and refusals at their places.
use Rattle.std.proofs.Common.{◌≡◌, ℕ, ◌+◌, List, [], ◌∷◌, drop, length, Bool, true, false, refl, sym, ap, ◌∙◌, subst}
use Rattle.std.specs.Prelude.{Some, None, Result, Ok, Err, IfErr, if◌then◌else◌}
use Rattle.record_text.specs.declared.refusal.Refusal.{Refusal}
use Rattle.record_text.specs.declared.refusal.RefusalKind.{RefusalKind}
use Rattle.record_kinds.specs.Model as model
use Rattle.archive_state.specs.Content.{Content}
use Rattle.archive_state.specs.declared.changes.Numbered.{Numbered}
use Rattle.archive_state.specs.Looks.{Agrees, CountsFailures, CountsStops, OnView, is_failure, is_stop}
use Rattle.commands.specs.Rows.{and_then}
use Rattle.commands.specs.declared.entry_row.EntryRow.{EntryRow}
use Rattle.entry_batches.specs.Batches.{row_entry, with_entry, with_row, with_rows}
use Rattle.entry_batches.specs.Placed.{onward, placed, placed_unless_stopped, refused_at}

-- ---- views
module _ {S Held : Type 0} (honest : S → Type 0) (shows : S → Held → Type 0) (content : Held → Content) where
  pub view_same : (a : S) (P : Content → Type 0) → ((c : Content) → P c) → OnView honest shows content a a P
  view_same a P h = λ last. (last, λ held shown. (shown, h (content held)))

  pub view_then : (a b d : S) (P Q R : Content → Type 0) → ((c : Content) → P c → Q c → R c)
      → OnView honest shows content a b P → OnView honest shows content b d Q → OnView honest shows content a d R
  view_then a b d P Q R h f g = λ last.
      let second = g last in
      let first = f second.0 in (
        first.0,
        λ held shown.
            let x = first.1 held shown in
            let y = second.1 held x.0 in
            (y.0, h (content held) x.1 y.1),
      )

  pub view_weaker : (a b : S) (P Q : Content → Type 0) → ((c : Content) → P c → Q c) → OnView honest shows content a b P
      → OnView honest shows content a b Q
  view_weaker a b P Q h f = λ last.
      let first = f last in
      (first.0, λ held shown. let x = first.1 held shown in (x.0, h (content held) x.1))

-- ---- refusals at a place
abbrev pub stops : Refusal → Bool
stops e = is_stop e.kind

pub placed_right : {A : Type 0} (place : ℕ) (r x : Result A RefusalKind) → Agrees is_stop r x
    → Agrees stops (placed_unless_stopped place r) (placed (Some place) x)
placed_right place (Ok a) x h = ap (placed (Some place)) h
placed_right place (Err e) x h =
    elim (is_stop e) as (λ b. is_stop e ≡ b → is_stop (if b then refused_at None e else refused_at (Some place) e).kind
    ≡ false → placed (Some place) x ≡ Err (if b then refused_at None e else refused_at (Some place) e)) [
      | true ↦ λ q f. let wrong : true ≡ false = sym q ∙ f in absurd cc
      | false ↦ λ q f. ap (placed (Some place)) (h q)
    ] refl

pub placed_counts : {A : Type 0} (place before after : ℕ) (r : Result A RefusalKind) → CountsFailures before after r
    → CountsStops before after (placed_unless_stopped place r)
placed_counts place before after (Ok a) h = (h.0, tt)
placed_counts {A} place before after (Err e) h =
    elim (is_stop e) as (λ b. is_stop e ≡ b → CountsStops {A = A} before after
    (Err (if b then refused_at None e else refused_at (Some place) e))) [
      | true ↦ λ q. (h.0, (h.1, λ f. refl))
      | false ↦ λ q. (h.0, (h.1, λ f. let wrong : true ≡ false = sym f ∙ q in absurd cc))
    ] refl

-- ---- one row more
-- what is left leads to where all rows lead
abbrev pub LeadsOn : Content → ℕ → List EntryRow → List Numbered → ℕ → Type 0
LeadsOn c source rows made i = with_rows c source [] rows ≡ with_rows c source made (drop i rows)

pub row_added : (c : Content) (source : ℕ) (rows : List EntryRow) (row : EntryRow) (made more : List Numbered) (i : ℕ)
    → drop i rows ≡ row ∷ drop (i + 1) rows → LeadsOn c source rows made i → with_row c source made row ≡ Ok more
    → LeadsOn c source rows more (i + 1)
row_added c source rows row made more i here way e =
    way ∙ ap (with_rows c source made) here ∙ ap (λ r. onward r (λ x. with_rows c source x (drop (i + 1) rows))) e

pub row_refused : (c : Content) (source : ℕ) (rows : List EntryRow) (row : EntryRow) (made : List Numbered) (i : ℕ)
    (k : Refusal) → drop i rows ≡ row ∷ drop (i + 1) rows → LeadsOn c source rows made i
    → with_row c source made row ≡ Err k → with_rows c source [] rows ≡ Err k
row_refused c source rows row made i k here way e =
    way ∙ ap (with_rows c source made) here ∙ ap (λ r. onward r (λ x. with_rows c source x (drop (i + 1) rows))) e

-- a refusal ends it
pub refused_right : (c : Content) (source : ℕ) (rows : List EntryRow) (row : EntryRow) (made : List Numbered) (i : ℕ)
    (k : Refusal) (result : Result (List Numbered) Refusal) → result ≡ Err k → drop i rows ≡ row ∷ drop (i + 1) rows
    → LeadsOn c source rows made i
    → (stops k ≡ false → with_row c source made row ≡ Err k) → Agrees stops result (with_rows c source [] rows)
refused_right c source rows row made i k result is here way refused =
    subst (λ z. Agrees stops z (with_rows c source [] rows)) (sym is)
    (λ s. row_refused c source rows row made i k here way (refused s))

-- and so does the last row
pub all_made : (c : Content) (source : ℕ) (rows : List EntryRow) (made : List Numbered) (i : ℕ) → drop i rows ≡ []
    → LeadsOn c source rows made i → with_rows c source [] rows ≡ Ok made
all_made c source rows made i none way = way ∙ ap (with_rows c source made) none

-- ---- the same over a view, whose content has that next number
module _ {S Held : Type 0} (honest : S → Type 0) (shows : S → Held → Type 0) (content : Held → Content) where
  pub turn_made : (a b d : S) (source next : ℕ) (rows : List EntryRow) (row : EntryRow) (made more : List Numbered)
      (i : ℕ) → drop i rows ≡ row ∷ drop (i + 1) rows
      → OnView honest shows content a b (λ c. c.next ≡ next → LeadsOn c source rows made i)
      → OnView honest shows content b d (λ c. c.next ≡ next → with_row c source made row ≡ Ok more)
      → OnView honest shows content a d (λ c. c.next ≡ next → LeadsOn c source rows more (i + 1))
  turn_made a b d source next rows row made more i here =
      view_then honest shows content a b d (λ c. c.next ≡ next → LeadsOn c source rows made i)
      (λ c. c.next ≡ next → with_row c source made row ≡ Ok more)
      (λ c. c.next ≡ next → LeadsOn c source rows more (i + 1))
      (λ c way right same. row_added c source rows row made more i here (way same) (right same))

  pub turn_refused : (a b d : S) (source next : ℕ) (rows : List EntryRow) (row : EntryRow) (made : List Numbered)
      (i : ℕ) (k : Refusal) (result : Result (List Numbered) Refusal) → result ≡ Err k
      → drop i rows ≡ row ∷ drop (i + 1) rows
      → OnView honest shows content a b (λ c. c.next ≡ next → LeadsOn c source rows made i)
      → OnView honest shows content b d (λ c. c.next ≡ next → stops k ≡ false → with_row c source made row ≡ Err k)
      → OnView honest shows content a d (λ c. c.next ≡ next → Agrees stops result (with_rows c source [] rows))
  turn_refused a b d source next rows row made i k result is here =
      view_then honest shows content a b d (λ c. c.next ≡ next → LeadsOn c source rows made i)
      (λ c. c.next ≡ next → stops k ≡ false → with_row c source made row ≡ Err k)
      (λ c. c.next ≡ next → Agrees stops result (with_rows c source [] rows))
      (λ c way right same. refused_right c source rows row made i k result is here (way same) (right same))

  pub turns_over : (a b : S) (source next : ℕ) (rows : List EntryRow) (made : List Numbered) (i : ℕ) → drop i rows ≡ []
      → OnView honest shows content a b (λ c. c.next ≡ next → LeadsOn c source rows made i)
      → OnView honest shows content a b (λ c. c.next ≡ next → with_rows c source [] rows ≡ Ok made)
  turns_over a b source next rows made i none =
      view_weaker honest shows content a b (λ c. c.next ≡ next → LeadsOn c source rows made i)
      (λ c. c.next ≡ next → with_rows c source [] rows ≡ Ok made)
      (λ c way same. all_made c source rows made i none (way same))

-- ---- the entry of a row, and its number, at its place
pub row_right : (c : Content) (source next place : ℕ) (made : List Numbered) (row : EntryRow)
    (r : Result (List Numbered) RefusalKind) (result : Result (List Numbered) Refusal) → c.next ≡ next
    → place ≡ length made + 1
    → Agrees is_stop r (and_then (row_entry c source made row) (with_entry next made))
    → result ≡ placed_unless_stopped place r → Agrees stops result (with_row c source made row)
row_right c source next place made row r result same at right is =
    subst (λ z. Agrees stops z (with_row c source made row)) (sym is)
    (subst (λ k. Agrees stops (placed_unless_stopped place r)
    (placed (Some k) (and_then (row_entry c source made row) (with_entry c.next made)))) at
    (placed_right place r (and_then (row_entry c source made row) (with_entry c.next made))
    (subst (λ n. Agrees is_stop r (and_then (row_entry c source made row) (with_entry n made))) (sym same) right)))

failed_so : (before after : ℕ) (entry : Result model.Entry RefusalKind) (r : Result (List Numbered) RefusalKind)
    → CountsFailures before after entry → IfErr r (λ e. is_failure e ≡ true → entry ≡ Err e)
    → CountsFailures before after r
failed_so before after entry (Ok made) h k = (h.0, tt)
failed_so before after entry (Err e) h k = (
  h.0,
  λ f. let so : CountsFailures {A = model.Entry} before after (Err e) =
      subst (CountsFailures before after) (k f) h in so.1 f,
)

pub row_counts : (place before after : ℕ) (entry : Result model.Entry RefusalKind)
    (r : Result (List Numbered) RefusalKind) (result : Result (List Numbered) Refusal)
    → CountsFailures before after entry → IfErr r (λ e. is_failure e ≡ true → entry ≡ Err e)
    → result ≡ placed_unless_stopped place r → CountsStops before after result
row_counts place before after entry r result counts memory is =
    subst (CountsStops before after) (sym is)
    (placed_counts place before after r (failed_so before after entry r counts memory))

-- Calls in a transaction over tables that have spans: one after the other, and loops of them.
use Rattle.std.proofs.Common.{
  inl,
  Result,
  OnOk,
  ◌≡◌,
  true,
  List,
  [],
  ◌∷◌,
  ◌++◌,
  refl,
  sym,
  subst,
  ◌∙◌,
  append_assoc,
  arith,
}
use Rattle.sqlite.specs.State.{State, HasCleanDisk, Survives}
use Rattle.std.proofs.lemmas.List.{append-nil}
use Rattle.sqlite.proofs.StateLemmas.{survives_then}
use Rattle.archive_state.specs.Changes.{Changes}
use Rattle.archive_state.specs.declared.changes.Numbered.{Numbered}
use Rattle.store_tables.specs.Calls.{Inside, Follows, FollowsDated}
use Rattle.store_tables.specs.Rows.{Rows, without_span}
use Rattle.store_tables.proofs.Calls.{on_ok}
use Rattle.store_rows.specs.Spans.{
  AreDrawn,
  Drawn,
  FollowsDrawn,
  with_all_of,
  with_drawn,
  with_span_if,
  without_all_of,
  without_all_spans,
}
use Rattle.store_rows.specs.Writing.{with_changes}
use Rattle.store_rows.proofs.SpansAside.{changed_has, drawn_has, left_has, sought_left_has}

-- the tables have spans afterwards, where they had some
abbrev pub KeepsTable : (Rows → Rows) → Type 0
KeepsTable f = (rows : Rows) → rows.has_spans ≡ true → (f rows).has_spans ≡ true

pub dated_then : (a b c : State) (f g : Rows → Rows) → KeepsTable f → FollowsDated a b f → FollowsDated b c g
    → FollowsDated a c (λ rows. g (f rows))
dated_then a b c f g keeps p q rows has was =
    let one = p rows has was in
    let two = q (f rows) (keeps rows has) one.0 in
    (two.0, two.1 ∙ one.1)

-- calls over tables of either schema, and then one over tables that have spans
pub row_then : (a b c : State) (f g : Rows → Rows) → ((rows : Rows) → (f rows).has_spans ≡ rows.has_spans)
    → Follows a b f → FollowsDated b c g → FollowsDated a c (λ rows. g (f rows))
row_then a b c f g keeps p q = dated_then a b c f g (λ rows has. keeps rows ∙ has) (λ rows has was. p rows was) q

pub nothing_done : (s : State) → Survives s s (λ _. ⊥)
nothing_done s = record {
  clean = omega arith;
  shield = λ h. h;
  counts = omega arith;
  limit = refl;
  closes = λ _ shown. inl shown;
  crash = λ _ db left. inl left;
}

-- ---- a loop that takes something of the rows: at each turn, what is left leads from here to where all leads
pub record IsOnItsWay (old now : State) (all left : Rows → Rows) : Type 0 where
  pub survives : Survives old now (λ _. ⊥)
  pub leads : HasCleanDisk now → (rows : Rows) → rows.has_spans ≡ true → Inside old rows → (here : Rows)
      × (here.has_spans ≡ true) × Inside now here × (now.committed ≡ old.committed) × (left here ≡ all rows)

pub goes_on : (old mid now : State) (all left one rest : Rows → Rows) → IsOnItsWay old mid all left → KeepsTable one
    → (HasCleanDisk now → FollowsDated mid now one) → Survives mid now (λ _. ⊥)
    → ((rows : Rows) → left rows ≡ rest (one rows)) → IsOnItsWay old now all rest
goes_on old mid now all left one rest way keeps step kept is = record {
  survives = survives_then old mid now _ _ (λ _. ⊥) (λ _ db none. none) (λ _ db none. none) way.survives kept;
  leads = λ clean rows had was.
      let came = way.leads (omega (arith, kept.clean)) rows had was in
      let next = step clean came.0 came.1 came.2 in
      (one came.0, keeps came.0 came.1, next.0, next.1 ∙ came.3, sym (is came.0) ∙ came.4);
}

-- ---- a loop that draws spans: at each turn, some are drawn, and who draws those of what is left has drawn all
pub record AreOnTheirWay (old now : State) (all left : List Numbered) : Type 0 where
  pub survives : Survives old now (λ _. ⊥)
  pub draws : HasCleanDisk now → (drawn : Drawn) × ((more : Drawn) → AreDrawn left more → AreDrawn all (drawn ++ more))
      × FollowsDated old now (with_drawn drawn)

drawn_twice : (ds es : Drawn) (rows : Rows) → with_drawn (ds ++ es) rows ≡ with_drawn es (with_drawn ds rows)
drawn_twice [] es rows = refl
drawn_twice (d ∷ ds) es rows = drawn_twice ds es (with_span_if d.0 d.1 (without_span d.0 rows))

-- one more, drawn
drawn_more : (p : Numbered) (rest : List Numbered) (ds more : Drawn) → AreDrawn (p ∷ []) ds → AreDrawn rest more
    → AreDrawn (p ∷ rest) (ds ++ more)
drawn_more p rest [] more one h = absurd one
drawn_more p rest (d ∷ []) more one h = (one.0, h)
drawn_more p rest (d ∷ e ∷ ds) more one h = absurd one.1

pub draws_on : (old mid now : State) (all left rest : List Numbered) (p : Numbered) → AreOnTheirWay old mid all left
    → (HasCleanDisk now → (drawn : Drawn) × AreDrawn (p ∷ []) drawn × FollowsDated mid now (with_drawn drawn))
    → Survives mid now (λ _. ⊥) → left ≡ p ∷ rest → AreOnTheirWay old now all rest
draws_on old mid now all left rest p way step kept is = record {
  survives = survives_then old mid now _ _ (λ _. ⊥) (λ _ db none. none) (λ _ db none. none) way.survives kept;
  draws = λ clean.
      let came = way.draws (omega (arith, kept.clean)) in
      let next = step clean in (
        came.0 ++ next.0,
        λ more are. subst (AreDrawn all) (sym (append_assoc came.0 next.0 more)) (came.1 (next.0 ++ more)
            (subst (λ ps. AreDrawn ps (next.0 ++ more)) (sym is) (drawn_more p rest next.0 more next.1 are))),
        λ rows has was.
            let one = came.2 rows has was in
            let two = next.2 (with_drawn came.0 rows) (drawn_has came.0 rows ∙ has) one.0 in
            (subst (Inside now) (sym (drawn_twice came.0 next.0 rows)) two.0, two.1 ∙ one.1),
      );
}

-- the end of the way
pub all_drawn : (old now : State) (all : List Numbered) → AreOnTheirWay old now all [] → HasCleanDisk now
    → (drawn : Drawn) × AreDrawn all drawn × FollowsDated old now (with_drawn drawn)
all_drawn old now all way clean =
    let came = way.draws clean in
    (came.0, subst (AreDrawn all) (append-nil came.0) (came.1 [] tt), came.2)

pub none_drawn : (s : State) (all : List Numbered) → AreOnTheirWay s s all all
none_drawn s all = record {
  survives = nothing_done s;
  draws = λ clean. ([], λ more are. are, λ rows has was. (was, refl));
}

-- ---- all changes: what goes with what is removed, the changes, and what goes with what is put
pub dated_all : {A E : Type 0} (r : Result A E) (a b c d : State) (changes : Changes)
    → FollowsDated a b (without_all_of changes.removals) → FollowsDated b c (with_changes changes)
    → OnOk r ((drawn : Drawn) × AreDrawn changes.puts drawn × FollowsDated c d (with_all_of changes.puts drawn))
    → OnOk r (FollowsDrawn a d changes)
dated_all r a b c d changes p q = on_ok r (λ last rows has was.
    let left : Rows = without_all_of changes.removals rows in
    let one = p rows has was in
    let still : left.has_spans ≡ true = sought_left_has changes.removals (without_all_spans changes.removals rows)
    ∙ left_has changes.removals rows ∙ has in
    let two = q left still one.0 in
    let three = last.2 (with_changes changes left) (changed_has changes left ∙ still) two.0 in
    (last.0, last.1, three.0, three.1 ∙ two.1 ∙ one.1))

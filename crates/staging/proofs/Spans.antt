-- What goes first of a batch, removed part by part, of tables that have spans: the spans of its numbers and what they
-- are looked for by, and its links.
use Rattle.std.proofs.Common.{
  ◌≡◌,
  ◌⊎◌,
  inl,
  inr,
  ℕ,
  true,
  false,
  not,
  List,
  [],
  ◌∷◌,
  ◌++◌,
  filter,
  refl,
  sym,
  ap,
  subst,
  ◌∙◌,
}
use Rattle.std.specs.Prelude.{◌==◌}
use Rattle.sqlite.specs.State.{State, HasCleanDisk}
use Rattle.sqlite.specs.Tree.{Trees}
use Rattle.record_shapes.specs.Lists.{EachOf}
use Rattle.store_tables.specs.Calls.{Good, Settled}
use Rattle.store_tables.specs.Rows.{
  HoldsOwn,
  LinkRow,
  Rows,
  SoughtRow,
  SpanRow,
  is_pair,
  without_link,
  without_sought,
  without_span,
}
use Rattle.store_rows.specs.Links.{without_all_links}
use Rattle.store_rows.specs.Meaning.{has_record}
use Rattle.store_rows.specs.Sought.{without_all_sought}
use Rattle.store_rows.specs.Spans.{without_all_of, without_all_spans}
use Rattle.staged_rows.specs.Removing.{IsSeenAs, without_later}
use Rattle.staged_rows.proofs.Taken.{all_of_out, links_out}
use Rattle.staging.specs.Clearing.{LeavesEither, LeavesSeen}
use Rattle.store_rows.proofs.SpansAside.{left_has, sought_left_has}
use Rattle.record_shapes.proofs.Each.{each_front, each_back}
use Rattle.staged_rows.proofs.Alike.{seen_same}

-- ---- several numbers
spans_of_two : (ks ms : List ℕ) (rows : Rows)
    → without_all_spans ms (without_all_spans ks rows) ≡ without_all_spans (ks ++ ms) rows
spans_of_two [] ms rows = refl
spans_of_two (k ∷ ks) ms rows = spans_of_two ks ms (without_span k rows)

soughts_of_two : (ks ms : List ℕ) (rows : Rows)
    → without_all_sought ms (without_all_sought ks rows) ≡ without_all_sought (ks ++ ms) rows
soughts_of_two [] ms rows = refl
soughts_of_two (k ∷ ks) ms rows = soughts_of_two ks ms (without_sought k rows)

-- spans do not look at what is looked for
span_aside : (m : ℕ) (ks : List ℕ) (rows : Rows) → without_span m (without_all_sought ks rows)
    ≡ without_all_sought ks (without_span m rows)
span_aside m [] rows = refl
span_aside m (k ∷ ks) rows = span_aside m ks (without_sought k rows)

spans_aside : (ms ks : List ℕ) (rows : Rows) → without_all_spans ms (without_all_sought ks rows)
    ≡ without_all_sought ks (without_all_spans ms rows)
spans_aside [] ks rows = refl
spans_aside (m ∷ ms) ks rows =
    ap (without_all_spans ms) (span_aside m ks rows) ∙ spans_aside ms ks (without_span m rows)

all_of_two : (ks ms : List ℕ) (rows : Rows)
    → without_all_of ms (without_all_of ks rows) ≡ without_all_of (ks ++ ms) rows
all_of_two ks ms rows =
    ap (without_all_sought ms) (spans_aside ms ks (without_all_spans ks rows))
    ∙ ap (λ (r : Rows). without_all_sought ms (without_all_sought ks r)) (spans_of_two ks ms rows)
    ∙ soughts_of_two ks ms (without_all_spans (ks ++ ms) rows)

-- ---- several links
links_of_two : (ks ms : List LinkRow) (rows : Rows)
    → without_all_links ms (without_all_links ks rows) ≡ without_all_links (ks ++ ms) rows
links_of_two [] ms rows = refl
links_of_two (k ∷ ks) ms rows = links_of_two ks ms (without_link k.target k.no rows)

links_has : (ks : List LinkRow) (rows : Rows) → (without_all_links ks rows).has_spans ≡ rows.has_spans
links_has [] rows = refl
links_has (k ∷ ks) rows = links_has ks (without_link k.target k.no rows)

-- ---- tables of the first schema
no_span : (k : ℕ) (rows : Rows) → rows.spans ≡ [] → without_span k rows ≡ rows
no_span k rows none =
    ap (λ ss. record rows { spans = ss })
    (ap (λ ss. filter (λ (s : SpanRow). not (s.no == k)) ss) none ∙ sym none)

no_spans : (ks : List ℕ) (rows : Rows) → rows.spans ≡ [] → without_all_spans ks rows ≡ rows
no_spans [] rows none = refl
no_spans (k ∷ ks) rows none = ap (without_all_spans ks) (no_span k rows none) ∙ no_spans ks rows none

no_sought : (k : ℕ) (rows : Rows) → rows.soughts ≡ [] → without_sought k rows ≡ rows
no_sought k rows none =
    ap (λ ss. record rows { soughts = ss })
    (ap (λ ss. filter (λ (s : SoughtRow). not (s.no == k)) ss) none ∙ sym none)

no_soughts : (ks : List ℕ) (rows : Rows) → rows.soughts ≡ [] → without_all_sought ks rows ≡ rows
no_soughts [] rows none = refl
no_soughts (k ∷ ks) rows none = ap (without_all_sought ks) (no_sought k rows none) ∙ no_soughts ks rows none

no_link : (t k : ℕ) (rows : Rows) → rows.links ≡ [] → without_link t k rows ≡ rows
no_link t k rows none =
    ap (λ ls. record rows { links = ls })
    (ap (λ ls. filter (λ (l : LinkRow). not (is_pair t k l)) ls) none ∙ sym none)

no_links : (ks : List LinkRow) (rows : Rows) → rows.links ≡ [] → without_all_links ks rows ≡ rows
no_links [] rows none = refl
no_links (k ∷ ks) rows none = ap (without_all_links ks) (no_link k.target k.no rows none) ∙ no_links ks rows none

pub first_version : (ns : List ℕ) (ls : List LinkRow) (s : State) (rows : Rows) → Settled s rows
    → rows.has_spans ≡ false → rows ≡ without_later ns ls rows
first_version ns ls s rows was is =
    let own = subst (λ b. HoldsOwn b rows.lines rows.packs rows.spans rows.links rows.soughts s.now.trees) is
    was.good.holds.own in
    sym (ap (λ (r : Rows). without_all_links ls (without_all_sought ns r)) (no_spans ns rows own.2)
    ∙ ap (without_all_links ls) (no_soughts ns rows own.4) ∙ no_links ls rows own.3)

-- ---- commits one after the other
-- what is removed of rows part by part: of each item a number, so that it is not seen where this has no record
pub record IsOut {X : Type 0} (no : X → ℕ) (out : List X → Rows → Rows) : Type 0 where
  pub none : (rows : Rows) → out [] rows ≡ rows
  pub two : (xs ys : List X) (rows : Rows) → out ys (out xs rows) ≡ out (xs ++ ys) rows
  pub has : (xs : List X) (rows : Rows) → (out xs rows).has_spans ≡ rows.has_spans
  pub seen : (before : Rows) (xs : List X) (rows : Rows) → EachOf (λ x. has_record (no x) before ≡ false) xs
      → IsSeenAs before rows → IsSeenAs before (out xs rows)

pub spans_go : IsOut (λ n. n) without_all_of
spans_go = record {
  none = λ rows. refl;
  two = all_of_two;
  has = λ ns rows. sought_left_has ns (without_all_spans ns rows) ∙ left_has ns rows;
  seen = all_of_out;
}

pub links_go : IsOut (λ (l : LinkRow). l.no) without_all_links
links_go = record { none = λ rows. refl; two = links_of_two; has = links_has; seen = links_out }

module _ {X : Type 0} (no : X → ℕ) (out : List X → Rows → Rows) (law : IsOut no out) where
  -- these are removed
  pub record AreGone (front : List X) (old now : State) : Type 0 where
    pub done : HasCleanDisk now → (rows : Rows) → Settled old rows → rows.has_spans ≡ true
        → Settled now (out front rows)
    pub clean : HasCleanDisk now → HasCleanDisk old

  pub none_gone : (s : State) → AreGone [] s s
  none_gone s = record {
    done = λ ok rows was dated. subst (Settled s) (sym (law.none rows)) was;
    clean = λ ok. ok;
  }

  module _ (front ks : List X) (old mid new : State) (way : AreGone front old mid)
      (clean : HasCleanDisk new → HasCleanDisk mid) where
    pub more_gone : (HasCleanDisk new → (rows : Rows) → Settled mid rows → rows.has_spans ≡ true
        → Settled new (out ks rows)) → AreGone (front ++ ks) old new
    more_gone done = record {
      done = λ ok rows was dated.
          subst (Settled new) (law.two front ks rows)
          (done ok (out front rows) (way.done (clean ok) rows was dated) (law.has front rows ∙ dated));
      clean = λ ok. way.clean (clean ok);
    }

    -- what is removed is some of what no record has
    pub part_leaves : (xs behind : List X) → xs ≡ front ++ (ks ++ behind)
        → (HasCleanDisk new → (rows : Rows) → Settled mid rows → rows.has_spans ≡ true
        → LeavesEither new rows (out ks rows))
        → HasCleanDisk new → (rows : Rows) → Settled old rows → rows.has_spans ≡ true
        → EachOf (λ x. has_record (no x) rows ≡ false) xs → LeavesSeen new rows
    part_leaves xs behind are crash ok rows was dated aside t may =
        let less = out front rows in
        let none = λ (x : X). has_record (no x) rows ≡ false in
        let apart = subst (EachOf none) are aside in
        let one = law.seen rows front rows (each_front none front (ks ++ behind) apart) (seen_same rows) in
        let two = law.seen rows ks less (each_front none ks behind (each_back none front (ks ++ behind) apart)) one in
        of_two less one two
        (crash ok less (way.done (clean ok) rows was dated) (law.has front rows ∙ dated) t may)
      where
        of_two : (less : Rows) → IsSeenAs rows less → IsSeenAs rows (out ks less)
            → Good less t ⊎ Good (out ks less) t → (other : Rows) × Good other t × IsSeenAs rows other
        of_two less one two (inl good) = (less, good, one)
        of_two less one two (inr good) = (out ks less, good, two)

  -- all are gone
  pub all_gone : (xs front : List X) (old now : State) → xs ≡ front → AreGone front old now → HasCleanDisk now
      → (rows : Rows) → Settled old rows → rows.has_spans ≡ true → Settled now (out xs rows)
  all_gone xs front old now are way ok rows was dated =
      subst (λ ys. Settled now (out ys rows)) (sym are) (way.done ok rows was dated)

  pub all_leave : (xs : List X) (now : State) (rows : Rows) → ((t : Trees) → now.may_leave t → Good (out xs rows) t)
      → EachOf (λ x. has_record (no x) rows ≡ false) xs → LeavesSeen now rows
  all_leave xs now rows leaves aside t may =
      (out xs rows, leaves t may, law.seen rows xs rows aside (seen_same rows))

-- What is not among the kinds that are looked through is not wanted, so that nothing is left out.
use Rattle.std.proofs.Common.{
  ◌≡◌,
  ◌++◌,
  ◌∙◌,
  ℕ,
  Bool,
  true,
  false,
  List,
  [],
  ◌∷◌,
  map,
  filter,
  fold,
  cond,
  refl,
  sym,
  ap,
  append-nil,
  true≢false,
}
use Rattle.std.specs.Prelude.{◌&&◌, None, Option, Some, length, nat_lt}
use Rattle.std.specs.FinMap.{entries, get, keys}
use Rattle.std.specs.List.{flat_map}
use Rattle.record_kinds.specs.declared.record.Record.{Record}
use Rattle.record_kinds.specs.declared.record.Record.TheVariants as kind
use Rattle.archive_state.specs.Content.{Content}
use Rattle.kind_views.specs.Kinds.{is_among, is_at}
use Rattle.kind_views.specs.declared.kinds.Kinds.{Kinds}
use Rattle.kind_views.specs.declared.kinds.Kinds.TheVariants as kinds
use Rattle.searching.specs.Choosing.{chosen, kinds_by, kinds_of, kinds_wanted}
use Rattle.searching.specs.Lines.{divided, line, page, page_and_others}
use Rattle.searching.specs.Walking.{counted, line_after, line_at, walked, with_later}
use Rattle.searching.specs.Wanted.{is_from, is_kind, is_meant, is_of, is_wanted}
use Rattle.searching.specs.declared.wanted.Kind.{Kind}
use Rattle.searching.specs.declared.wanted.Kind.TheVariants as of
use Rattle.searching.specs.declared.wanted.Wanted.{Wanted}
use Rattle.searching.proofs.Counted.{page_is as counted_is}
use Rattle.searching.proofs.Walked.{page_is as walked_is}

-- ---- a record of another kind
same_kind : (k : Kind) (r : Record) → is_kind k r ≡ is_among (kinds_of k) r
same_kind of.Persons (kind.Person x) = refl
same_kind of.Persons (kind.Family x) = refl
same_kind of.Persons (kind.Event x) = refl
same_kind of.Persons (kind.Place x) = refl
same_kind of.Persons (kind.Repo x) = refl
same_kind of.Persons (kind.Source x) = refl
same_kind of.Persons (kind.Citation x) = refl
same_kind of.Persons (kind.Entry x) = refl
same_kind of.Persons (kind.Other x) = refl
same_kind of.Families (kind.Person x) = refl
same_kind of.Families (kind.Family x) = refl
same_kind of.Families (kind.Event x) = refl
same_kind of.Families (kind.Place x) = refl
same_kind of.Families (kind.Repo x) = refl
same_kind of.Families (kind.Source x) = refl
same_kind of.Families (kind.Citation x) = refl
same_kind of.Families (kind.Entry x) = refl
same_kind of.Families (kind.Other x) = refl
same_kind of.Events (kind.Person x) = refl
same_kind of.Events (kind.Family x) = refl
same_kind of.Events (kind.Event x) = refl
same_kind of.Events (kind.Place x) = refl
same_kind of.Events (kind.Repo x) = refl
same_kind of.Events (kind.Source x) = refl
same_kind of.Events (kind.Citation x) = refl
same_kind of.Events (kind.Entry x) = refl
same_kind of.Events (kind.Other x) = refl
same_kind of.Places (kind.Person x) = refl
same_kind of.Places (kind.Family x) = refl
same_kind of.Places (kind.Event x) = refl
same_kind of.Places (kind.Place x) = refl
same_kind of.Places (kind.Repo x) = refl
same_kind of.Places (kind.Source x) = refl
same_kind of.Places (kind.Citation x) = refl
same_kind of.Places (kind.Entry x) = refl
same_kind of.Places (kind.Other x) = refl
same_kind of.Repositories (kind.Person x) = refl
same_kind of.Repositories (kind.Family x) = refl
same_kind of.Repositories (kind.Event x) = refl
same_kind of.Repositories (kind.Place x) = refl
same_kind of.Repositories (kind.Repo x) = refl
same_kind of.Repositories (kind.Source x) = refl
same_kind of.Repositories (kind.Citation x) = refl
same_kind of.Repositories (kind.Entry x) = refl
same_kind of.Repositories (kind.Other x) = refl
same_kind of.Sources (kind.Person x) = refl
same_kind of.Sources (kind.Family x) = refl
same_kind of.Sources (kind.Event x) = refl
same_kind of.Sources (kind.Place x) = refl
same_kind of.Sources (kind.Repo x) = refl
same_kind of.Sources (kind.Source x) = refl
same_kind of.Sources (kind.Citation x) = refl
same_kind of.Sources (kind.Entry x) = refl
same_kind of.Sources (kind.Other x) = refl
same_kind of.Citations (kind.Person x) = refl
same_kind of.Citations (kind.Family x) = refl
same_kind of.Citations (kind.Event x) = refl
same_kind of.Citations (kind.Place x) = refl
same_kind of.Citations (kind.Repo x) = refl
same_kind of.Citations (kind.Source x) = refl
same_kind of.Citations (kind.Citation x) = refl
same_kind of.Citations (kind.Entry x) = refl
same_kind of.Citations (kind.Other x) = refl
same_kind of.Entries (kind.Person x) = refl
same_kind of.Entries (kind.Family x) = refl
same_kind of.Entries (kind.Event x) = refl
same_kind of.Entries (kind.Place x) = refl
same_kind of.Entries (kind.Repo x) = refl
same_kind of.Entries (kind.Source x) = refl
same_kind of.Entries (kind.Citation x) = refl
same_kind of.Entries (kind.Entry x) = refl
same_kind of.Entries (kind.Other x) = refl
same_kind of.Others (kind.Person x) = refl
same_kind of.Others (kind.Family x) = refl
same_kind of.Others (kind.Event x) = refl
same_kind of.Others (kind.Place x) = refl
same_kind of.Others (kind.Repo x) = refl
same_kind of.Others (kind.Source x) = refl
same_kind of.Others (kind.Citation x) = refl
same_kind of.Others (kind.Entry x) = refl
same_kind of.Others (kind.Other x) = refl

none_of : (b c : Bool) → b ≡ false → (b && c) ≡ false
none_of true c e = absurd (true≢false e)
none_of false c e = refl

other_source : (n : ℕ) (c : Bool) (r : Record) → is_among kinds.Entries r ≡ false
    → (is_from (Some n) r && c) ≡ false
other_source n c (kind.Person x) e = refl
other_source n c (kind.Family x) e = refl
other_source n c (kind.Event x) e = refl
other_source n c (kind.Place x) e = refl
other_source n c (kind.Repo x) e = refl
other_source n c (kind.Source x) e = refl
other_source n c (kind.Citation x) e = refl
other_source n c (kind.Entry x) e = absurd (true≢false e)
other_source n c (kind.Other x) e = refl

nameless : (word : List ℕ) (words : List (List ℕ)) (r : Record) → is_among kinds.Named r ≡ false
    → is_meant (word ∷ words) r ≡ false
nameless word words (kind.Person x) e = absurd (true≢false e)
nameless word words (kind.Family x) e = refl
nameless word words (kind.Event x) e = refl
nameless word words (kind.Place x) e = absurd (true≢false e)
nameless word words (kind.Repo x) e = absurd (true≢false e)
nameless word words (kind.Source x) e = absurd (true≢false e)
nameless word words (kind.Citation x) e = refl
nameless word words (kind.Entry x) e = absurd (true≢false e)
nameless word words (kind.Other x) e = refl

unwanted_by : (asked : Option Kind) (source : Option ℕ) (words : List (List ℕ)) (k : Kinds) (r : Record)
    → kinds_by asked source words ≡ Some k → is_among k r ≡ false
    → (is_of asked r && (is_from source r && is_meant words r)) ≡ false
unwanted_by (Some asked) source words k r is e =
    let same : kinds_of asked ≡ k = cc in
    none_of (is_kind asked r) (is_from source r && is_meant words r)
    (same_kind asked r ∙ ap (λ (x : Kinds). is_among x r) same ∙ e)
unwanted_by None (Some n) words k r is e =
    let same : kinds.Entries ≡ k = cc in
    other_source n (is_meant words r) r (ap (λ (x : Kinds). is_among x r) same ∙ e)
unwanted_by None None [] k r is e = absurd cc
unwanted_by None None (word ∷ words) k r is e =
    let same : kinds.Named ≡ k = cc in
    nameless word words r (ap (λ (x : Kinds). is_among x r) same ∙ e)

unwanted : (w : Wanted) (k : Kinds) (r : Record) → kinds_wanted w ≡ Some k → is_among k r ≡ false
    → is_wanted w r ≡ false
unwanted w k r is e = unwanted_by w.kind w.source w.words k r is e

-- it has no line
no_line : (w : Wanted) (k : Kinds) (n : ℕ) (found : Option Record) → kinds_wanted w ≡ Some k → is_at k found ≡ false
    → line_at w n found ≡ []
no_line w k n None is e = refl
no_line w k n (Some r) is e = ap (λ (b : Bool). cond b ((n, line n r) ∷ []) []) (unwanted w k r is e)

-- ---- numbers that are left out
module _ (at : ℕ → Option Record) (w : Wanted) (after : ℕ) (p : ℕ → Bool)
    (none : (n : ℕ) → p n ≡ false → line_at w n (at n) ≡ []) where
  module _ (limit : ℕ) where
    abbrev step : List (ℕ × List ℕ) → ℕ → List (ℕ × List ℕ)
    step ls n = with_later w after limit n (at n) ls

    stays : (ls : List (ℕ × List ℕ)) (n : ℕ) → line_at w n (at n) ≡ [] → step ls n ≡ ls
    stays ls n e =
        elim (nat_lt after n) as (λ b. cond b (cond (nat_lt (length ls) limit) (ls ++ line_at w n (at n)) ls) ls ≡ ls) [
          | true ↦ elim (nat_lt (length ls) limit) as (λ b. cond b (ls ++ line_at w n (at n)) ls ≡ ls) [
            | true ↦ ap (λ (more : List (ℕ × List ℕ)). ls ++ more) e ∙ append-nil ls
            | false ↦ refl
          ]
          | false ↦ refl
        ]

    passed_by : (ls : List (ℕ × List ℕ)) (ns : List ℕ) → fold step ls (filter p ns) ≡ fold step ls ns
    passed_by ls [] = refl
    passed_by ls (n ∷ ns) =
        elim (p n) as (λ b. p n ≡ b → fold step ls (cond b (n ∷ filter p ns) (filter p ns))
        ≡ fold step (step ls n) ns) [
          | true ↦ λ _. passed_by (step ls n) ns
          | false ↦ λ e. passed_by ls ns
              ∙ ap (λ (more : List (ℕ × List ℕ)). fold step more ns) (sym (stays ls n (none n e)))
        ] refl

  abbrev found_at : ℕ → List (ℕ × List ℕ)
  found_at n = line_after w after n (at n)

  none_after : (n : ℕ) → line_at w n (at n) ≡ [] → found_at n ≡ []
  none_after n e = elim (nat_lt after n) as (λ b. cond b (line_at w n (at n)) [] ≡ []) [
    | true ↦ e
    | false ↦ refl
  ]

  left_out : (ns : List ℕ) → flat_map found_at (filter p ns) ≡ flat_map found_at ns
  left_out [] = refl
  left_out (n ∷ ns) =
      elim (p n) as (λ b. p n ≡ b → flat_map found_at (cond b (n ∷ filter p ns) (filter p ns))
      ≡ found_at n ++ flat_map found_at ns) [
        | true ↦ λ _. ap (λ ls. found_at n ++ ls) (left_out ns)
        | false ↦ λ e. left_out ns
            ∙ ap (λ (more : List (ℕ × List ℕ)). more ++ flat_map found_at ns) (sym (none_after n (none n e)))
      ] refl

-- ---- all that are wanted
module _ (w : Wanted) (c : Content) (after limit : ℕ) where
  walks : (k : Option Kinds) → kinds_wanted w ≡ k
      → walked (get c.records) w after limit (chosen k c) ≡ page w after limit (entries c.records)
  walks None is = walked_is c.records w after limit
  walks (Some k) is =
      passed_by (get c.records) w after (λ n. is_at k (get c.records n))
      (λ n e. no_line w k n (get c.records n) is e) limit [] (keys c.records)
      ∙ walked_is c.records w after limit

  pub walked_chosen : walked (get c.records) w after limit (chosen (kinds_wanted w) c)
      ≡ page w after limit (entries c.records)
  walked_chosen = walks (kinds_wanted w) refl

  counts : (k : Option Kinds) → kinds_wanted w ≡ k
      → counted (get c.records) w after limit (chosen k c) ≡ page_and_others w after limit (entries c.records)
  counts None is = counted_is c.records w after limit
  counts (Some k) is =
      ap (divided limit) (left_out (get c.records) w after (λ n. is_at k (get c.records n))
      (λ n e. no_line w k n (get c.records n) is e) (keys c.records))
      ∙ counted_is c.records w after limit

  pub counted_chosen : counted (get c.records) w after limit (chosen (kinds_wanted w) c)
      ≡ page_and_others w after limit (entries c.records)
  counted_chosen = counts (kinds_wanted w) refl

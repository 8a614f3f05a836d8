-- Lines in one row, read again: the text of a row has one list of lines.
use Rattle.std.proofs.Common.{
  ◌≡◌,
  ℕ,
  ◌∙◌,
  ◌==◌,
  ◌+◌,
  ◌++◌,
  append-nil,
  pos,
  List,
  [],
  ◌∷◌,
  map,
  filter,
  Option,
  Some,
  None,
  Result,
  IfOk,
  IfErr,
  refl,
  sym,
  ap,
  ap₂,
  subst,
  inl,
  inr,
  ◌⊎◌,
}
use Rattle.std.proofs.lemmas.Result.{IfErr-weaker}
use Rattle.std.specs.List.{AllByRecursion, flat_map}
use Rattle.sqlite.specs.declared.types.Value.{Value}
use Rattle.sqlite.specs.declared.types.Value.TheVariants.{Int, Text}
use Rattle.sqlite.specs.Order.{Row, column}
use Rattle.sqlite.specs.State.{State, HasCleanDisk, Shown}
use Rattle.stored_lines.specs.Line.{Label}
use Rattle.record_text.specs.declared.refusal.RefusalKind.{RefusalKind}
use Rattle.packed_rows.specs.Packed.{ArePackedAs, packed}
use Rattle.packed_rows.proofs.OneText.{same_lines}
use Rattle.store_tables.specs.Calls.{Settled, LeavesOnly}
use Rattle.store_tables.specs.Conversion.{EachWith, HasPack, IsTypedReadAs, ShowsTyped}
use Rattle.store_tables.specs.Keyed.{IsOnly, lines_within, packs_at}
use Rattle.store_tables.specs.Looking.{IsFailure, Looks}
use Rattle.store_tables.specs.Reading.{AreTyped, HaveTop, IsTypedLine, IsTypedPack, read_pack}
use Rattle.store_tables.specs.Rows.{LineRow, PackRow, Rows, first_tag, first_target, lines_of, number_or_null}
use Rattle.store_tables.specs.Shown.{shown_pack}
use Rattle.store_tables.proofs.Calls.{if_ok}
use Rattle.store_tables.proofs.ReadingRows.{all_typed}

pub packed_of : (ls : List (ℕ × Label)) → HaveTop ls → AllByRecursion IsTypedLine ls
    → ArePackedAs (first_tag ls) (first_target ls) (packed ls) ls
packed_of [] top typed = absurd top
packed_of (l ∷ ls) top typed = record { typed = typed; first = (top, refl, refl); tell = refl }

pub begun : (tag : List ℕ) (target : Option ℕ) (text : List ℕ) (ls : List (ℕ × Label)) → ArePackedAs tag target text ls
    → (tag ≡ first_tag ls) × (target ≡ first_target ls) × HaveTop ls
begun tag target text [] h = absurd h.first
begun tag target text (l ∷ ls) h = (sym h.first.1, sym h.first.2, h.first.0)

same_text : (s t : List ℕ) → ◌≡◌ {A = Value} (Text s) (Text t) → s ≡ t
same_text s t e = cc

same_number : (m n : ℕ) → ◌≡◌ {A = Value} (Int (pos m)) (Int (pos n)) → m ≡ n
same_number m n e = cc

pub same_target : (o p : Option ℕ) → number_or_null o ≡ number_or_null p → o ≡ p
same_target None None e = refl
same_target None (Some n) e = absurd cc
same_target (Some m) None e = absurd cc
same_target (Some m) (Some n) e = ap Some (same_number m n e)

-- typed lines that three columns of one row show are one list
pub one_list : (row : Row) (at : ℕ) (ls ms : List (ℕ × Label)) → HasPack row at ls
    → column row at ≡ Text (first_tag ms) → column row (at + 1) ≡ Text (packed ms)
    → column row (at + 2) ≡ number_or_null (first_target ms) → HaveTop ms → AllByRecursion IsTypedLine ms → ls ≡ ms
one_list row at ls ms has first words named top typed =
    let tag : first_tag ls ≡ first_tag ms = same_text _ _ (sym has.tag ∙ first) in
    let text : packed ls ≡ packed ms = same_text _ _ (sym has.text ∙ words) in
    let target : first_target ls ≡ first_target ms = same_target _ _ (sym has.target ∙ named) in
    let ours : ArePackedAs (first_tag ms) (first_target ms) (packed ms) ls =
    subst (λ t. ArePackedAs (first_tag ms) (first_target ms) t ls) text
    (subst (λ o. ArePackedAs (first_tag ms) o (packed ls) ls) target
    (subst (λ t. ArePackedAs t (first_target ls) (packed ls) ls) tag (packed_of ls has.top has.typed))) in
    same_lines (first_tag ms) (first_target ms) (packed ms) ls ms ours (packed_of ms top typed)

pub one_pack : (row : Row) (n : ℕ) (ls : List (ℕ × Label)) (p : PackRow) → column row 0 ≡ Int (pos n)
    → HasPack row 1 ls → IsTypedPack p → row ≡ shown_pack p → (n ≡ p.no) × (ls ≡ p.lines)
one_pack row n ls p number has typed is = (
  same_number n p.no (sym number ∙ ap (λ r. column r 0) is),
  one_list row 1 ls p.lines has (ap (λ r. column r 1) is) (ap (λ r. column r 2) is) (ap (λ r. column r 3) is) typed.top
      typed.lines,
)

-- the rows of a query of items whose values are those of the program's types
module _ {X Y : Type 0} (IsTyped : X → Type 0) (shown : X → Row) (read : X → Y) (Shows : Row → Y → Type 0) where
  abbrev Read : Row → Y → Type 0
  Read = IsTypedReadAs IsTyped shown read Shows

  items_are : (xs : List X) (ys : List Y) → AllByRecursion IsTyped xs → EachWith Read (map shown xs) ys
      → ys ≡ map read xs
  items_are [] [] typed h = refl
  items_are [] (y ∷ ys) typed h = absurd h
  items_are (x ∷ xs) [] typed h = absurd h
  items_are (x ∷ xs) (y ∷ ys) typed h = ap₂ (λ z zs. z ∷ zs) (h.0.0 x typed.0 refl) (items_are xs ys typed.1 h.1)

  -- what a query shows of such rows
  pub items_shown : (all : List Row) (ys : List Y) → EachWith Read all ys → EachWith Shows all ys
  items_shown [] [] h = tt
  items_shown [] (y ∷ ys) h = absurd h
  items_shown (r ∷ rs) [] h = absurd h
  items_shown (r ∷ rs) (y ∷ ys) h = (h.0.1, items_shown rs ys h.1)

  module _ {A : Type 0} (items : A → List Y) (sql : List ℕ) (params : Row) (old new : State)
      (result : Result A RefusalKind) (items_of : Rows → List X)
      (shows : (rows : Rows) → Settled old rows → (all : List Row) → Shown sql params old new all
      → all ≡ map shown (items_of rows))
      (typed : (rows : Rows) → AreTyped rows → AllByRecursion IsTyped (items_of rows)) where
    abbrev Reads : Type 0
    Reads = HasCleanDisk new → IfOk result (λ a. (all : List Row) × Shown sql params old new all
        × EachWith Read all (items a))

    abbrev Refuses : Type 0
    Refuses = HasCleanDisk new
        → IfErr result (λ kind. IsFailure kind
        ⊎ ((all : List Row) × Shown sql params old new all × ¬ (AllByRecursion (ShowsTyped shown IsTyped) all)))

    only_fails : (kind : RefusalKind) (rows : Rows) → Settled old rows → IsFailure kind
        ⊎ ((all : List Row) × Shown sql params old new all × ¬ (AllByRecursion (ShowsTyped shown IsTyped) all))
        → IsFailure kind
    only_fails kind rows settled (inl failed) = failed
    only_fails kind rows settled (inr was) =
        absurd (was.2 (subst (AllByRecursion (ShowsTyped shown IsTyped)) (sym (shows rows settled was.0 was.1))
        (all_typed shown IsTyped (items_of rows) (typed rows settled.good.typed))))

    pub looks_typed : Reads → Refuses
        → (HasCleanDisk new → IfOk result (λ _. (rows : Rows) → Settled old rows → Settled new rows))
        → (HasCleanDisk new → (rows : Rows) → Settled old rows → LeavesOnly new rows)
        → (HasCleanDisk new → HasCleanDisk old)
        → Looks (λ rows a. items a ≡ map read (items_of rows)) old new result
    looks_typed reads refuses same crash clean = record {
      read = λ is_clean. if_ok result
          (λ a was rows settled. items_are (items_of rows) (items a) (typed rows settled.good.typed)
          (subst (λ all. EachWith Read all (items a)) (shows rows settled was.0 was.1) was.2))
          (reads is_clean);
      same = same;
      refused = λ is_clean. IfErr-weaker result _ _ (λ kind why rows settled. only_fails kind rows settled why)
          (refuses is_clean);
      crash = crash;
      clean = clean;
    }

-- ---- the lines of a number
each_within : (ps : List PackRow) → flat_map (λ (p : PackRow). p.lines) ps
    ≡ flat_map (λ (p : ℕ × List (ℕ × Label)). p.1) (map read_pack ps)
each_within [] = refl
each_within (p ∷ ps) = ap (λ ls. p.lines ++ ls) (each_within ps)

within : (ps : List (ℕ × List (ℕ × Label))) (found : Option (ℕ × List (ℕ × Label))) → IsOnly ps found
    → lines_within found ≡ flat_map (λ (p : ℕ × List (ℕ × Label)). p.1) ps
within ps None is = sym (ap (flat_map (λ (p : ℕ × List (ℕ × Label)). p.1)) is)
within ps (Some p) is = sym (append-nil p.1) ∙ sym (ap (flat_map (λ (p : ℕ × List (ℕ × Label)). p.1)) is)

pub only_lines : (n : ℕ) (rows : Rows) (found : Option (ℕ × List (ℕ × Label))) → rows.lines ≡ []
    → IsOnly (packs_at n rows) found → lines_within found ≡ lines_of n rows
only_lines n rows found none is =
    let packs = filter (λ (p : PackRow). p.no == n) rows.packs in
    within (packs_at n rows) found is ∙ sym (each_within packs)
    ∙ sym (ap (λ (ls : List LineRow). map (λ (l : LineRow). l.line) (filter (λ (l : LineRow). l.no == n) ls)
    ++ flat_map (λ (p : PackRow). p.lines) packs) none)

-- The persons under each surname are those who are called so.
use Rattle.std.proofs.Common.{◌≡◌, ℕ, ◌++◌, ◌∷◌, [], List, Bool, true, false, cond, ap, refl, sym, ◌∙◌}
use Rattle.std.specs.Prelude.{◌==◌, Option, Some}
use Rattle.std.specs.FinMap.{entries, entries_sorted, get}
use Rattle.std.specs.List.{filter, flat_map}
use Rattle.record_kinds.specs.declared.record.Record.{Record}
use Rattle.record_kinds.specs.declared.record.Record.TheVariants as kind
use Rattle.archive_state.specs.Content.{Records}
use Rattle.gedcom_export.specs.Order.{Numbered, rank}
use Rattle.gedcom_export.specs.Index.{Index, IsIndexOf}
use Rattle.sheet_lines.specs.Numbers.{under}
use Rattle.sheet_lines.specs.declared.index.SurnameIndex.{SurnameIndex}
use Rattle.sheet_lines.proofs.Kept.{kept, kept_all}
use Rattle.sheets.specs.Called.{AreCalled, is_called, line_in}
use Rattle.sheets.specs.Gathered.{gathered}
use Rattle.sheets.specs.Pages.{surname_in, surname_text}

-- who of the persons of an archive was put under each key
pub are_called : (m s : Records) (i : Index) (surnames : SurnameIndex) → s ≡ m → IsIndexOf (entries m) i
    → ((key : List ℕ) → under surnames.numbers key ≡ kept (λ n. is_called key (get s n)) i.persons)
    → AreCalled m surnames
are_called m s i surnames same is told = λ key.
    told key ∙ ap (λ (r : Records). kept (λ n. is_called key (get r n)) i.persons) same
    ∙ ap (kept (λ n. is_called key (get m n))) is.gathered.persons
    ∙ kept_all (λ n. is_called key (get m n)) (λ (e : Numbered). rank e.1 == 4) (entries m) (entries_sorted m)

-- ---- the lines of those who are called so
called_lines : (f g : ℕ → List ℕ) (p : ℕ → Bool) → ((n : ℕ) → g n ≡ cond (p n) (f n) []) → (ns : List ℕ)
    → flat_map f (filter p ns) ≡ flat_map g ns
called_lines f g p told [] = refl
called_lines f g p told (n ∷ ns) =
    here (p n) ∙ ap (λ (t : List ℕ). cond (p n) (f n) [] ++ t) (called_lines f g p told ns)
    ∙ ap (λ (t : List ℕ). t ++ flat_map g ns) (sym (told n))
  where
    here : (b : Bool) → flat_map f (cond b (n ∷ filter p ns) (filter p ns))
        ≡ cond b (f n) [] ++ flat_map f (filter p ns)
    here true = refl
    here false = refl

line_is : (key : List ℕ) (n : ℕ) (r : Option Record) → surname_in key n r ≡ cond (is_called key r) (line_in n r) []
line_is key n (Some (kind.Person p)) = refl
line_is key n r = refl

-- the lines of all under a key are the page of that surname
pub page_is : (m s : Records) (surnames : SurnameIndex) (key : List ℕ) (ns out new : List ℕ) → s ≡ m
    → AreCalled m surnames → ns ≡ under surnames.numbers key → out ≡ []
    → new ≡ out ++ flat_map (λ n. line_in n (get s n)) ns → new ≡ surname_text (gathered m) key
page_is m s surnames key ns out new same called is none e =
    e ∙ ap (λ (t : List ℕ). t ++ flat_map (λ n. line_in n (get s n)) ns) none
    ∙ ap (λ (r : Records). flat_map (λ n. line_in n (get r n)) ns) same
    ∙ ap (flat_map (λ n. line_in n (get m n))) (is ∙ called key)
    ∙ called_lines (λ n. line_in n (get m n)) (λ n. surname_in key n (get m n)) (λ n. is_called key (get m n))
    (λ n. line_is key n (get m n)) (gathered m).persons

-- Links among others: one that is put, and one that is removed.
use Rattle.std.proofs.Common.{◌≡◌, ◌≢◌, ℕ, Bool, true, false, not, List, [], ◌∷◌, filter, refl, sym, ap, ◌∙◌}
use Rattle.std.specs.Prelude.{◌==◌, ◌||◌, Option, Some, None}
use Rattle.std.specs.List.{list_any}
use Rattle.std.specs.Ordering.{match_ordering}
use Rattle.std.specs.declared.cmp.Ordering.TheVariants.{Less, Equal, Greater}
use Rattle.std.proofs.lemmas.Bool.{and_parts, or_left, or_right}
use Rattle.stored_lines.specs.Line.{Label}
use Rattle.records.specs.Stored.{stored}
use Rattle.archive_state.specs.Stored.{is_target, some_line_names}
use Rattle.record_shapes.specs.Lists.{EachOf}
use Rattle.archive_state.specs.declared.changes.Numbered.{Numbered}
use Rattle.store_tables.specs.Rows.{LinkRow, is_pair, pair_cmp, put_pair}
use Rattle.store_rows.specs.Links.{has_link}
use Rattle.store_rows.proofs.LinksRead.{itself, put_or_there}
use Rattle.staged_rows.specs.Removing.{AreOf, is_from}
use Rattle.staged_rows.specs.Staging.{links_of, numbers_of, with_names, with_target, with_targets}
use Rattle.staged_rows.proofs.Lists.{any_kept}
use Rattle.list_laws.proofs.Booleans.{and_false}
use Rattle.list_laws.proofs.Numbers.{is_not, it, same_self}

-- ---- the links of another number
not_of : (target m : ℕ) (l : LinkRow) → l.no ≢ m → is_pair target m l ≡ false
not_of target m l off = and_false (l.target == target) (l.no == m) (is_not l.no m off)

pub put_elsewhere : (target m : ℕ) (l : LinkRow) → l.no ≢ m → (ls : List LinkRow)
    → has_link target m (put_pair l ls) ≡ has_link target m ls
put_elsewhere target m l off ls =
    put_or_there (is_pair target m) l ls ∙ ap (λ b. b || has_link target m ls) (not_of target m l off)

-- the links of a number that are left out are of that number
flip : (b : Bool) → not b ≡ false → b ≡ true
flip true h = refl
flip false h = absurd cc

pub out_is : (t n : ℕ) (l : LinkRow) → not (is_pair t n l) ≡ false → l.no ≡ n
out_is t n l out = it l.no n (and_parts (l.target == t) (l.no == n) (flip (is_pair t n l) out)).1

pub kept_elsewhere : (target m t n : ℕ) → n ≢ m → (ls : List LinkRow)
    → has_link target m (filter (λ l. not (is_pair t n l)) ls) ≡ has_link target m ls
kept_elsewhere target m t n off ls =
    any_kept (is_pair target m) (λ l. not (is_pair t n l))
    (λ l out. not_of target m l (λ same. off (sym (out_is t n l out) ∙ same))) ls

-- ---- what holds of each link
module _ (P : LinkRow → Type 0) where
  pub each_put : (l : LinkRow) (ls : List LinkRow) → P l → EachOf P ls → EachOf P (put_pair l ls)
  each_put l [] here all = (here, tt)
  each_put l (m ∷ ms) here all =
      elim (pair_cmp m l) as (λ o. EachOf P (match_ordering o (m ∷ put_pair l ms) (l ∷ ms) (l ∷ m ∷ ms))) [
        | Less ↦ (all.0, each_put l ms here all.1)
        | Equal ↦ (here, all.1)
        | Greater ↦ (here, all)
      ]

  each_target : (n : ℕ) (o : Option ℕ) (ls : List LinkRow) → ((target : ℕ) → P (record { target = target; no = n }))
      → EachOf P ls → EachOf P (with_target n o ls)
  each_target n None ls is all = all
  each_target n (Some target) ls is all = each_put (record { target = target; no = n }) ls (is target) all

  each_targets : (n : ℕ) (more : List (ℕ × Label)) (ls : List LinkRow)
      → ((target : ℕ) → P (record { target = target; no = n })) → EachOf P ls → EachOf P (with_targets n more ls)
  each_targets n [] ls is all = all
  each_targets n (l ∷ more) ls is all = each_targets n more (with_target n l.1.target ls) is
      (each_target n l.1.target ls is all)

  each_name : (ps : List Numbered) (ls : List LinkRow)
      → EachOf (λ (p : Numbered). (target : ℕ) → P (record { target = target; no = p.number })) ps → EachOf P ls
      → EachOf P (with_names ps ls)
  each_name [] ls are all = all
  each_name (p ∷ ps) ls are all = each_name ps (with_targets p.number (stored p.«record») ls) are.1
      (each_targets p.number (stored p.«record») ls are.0 all)

  pub each_link : (ps : List Numbered)
      → EachOf (λ (p : Numbered). (target : ℕ) → P (record { target = target; no = p.number })) ps
      → EachOf P (links_of ps)
  each_link ps are = each_name ps [] are tt

-- ---- the links of an import have all that its records name
put_stays : (target m : ℕ) (l : LinkRow) (ls : List LinkRow) → has_link target m ls ≡ true
    → has_link target m (put_pair l ls) ≡ true
put_stays target m l ls h = put_or_there (is_pair target m) l ls ∙ or_right (is_pair target m l) _ h

target_stays : (u m n : ℕ) (o : Option ℕ) (ls : List LinkRow) → has_link u m ls ≡ true
    → has_link u m (with_target n o ls) ≡ true
target_stays u m n None ls h = h
target_stays u m n (Some t) ls h = put_stays u m (record { target = t; no = n }) ls h

targets_stay : (u m n : ℕ) (more : List (ℕ × Label)) (ls : List LinkRow) → has_link u m ls ≡ true
    → has_link u m (with_targets n more ls) ≡ true
targets_stay u m n [] ls h = h
targets_stay u m n (l ∷ more) ls h = targets_stay u m n more (with_target n l.1.target ls)
    (target_stays u m n l.1.target ls h)

pub names_stay : (u m : ℕ) (ps : List Numbered) (ls : List LinkRow) → has_link u m ls ≡ true
    → has_link u m (with_names ps ls) ≡ true
names_stay u m [] ls h = h
names_stay u m (p ∷ ps) ls h = names_stay u m ps (with_targets p.number (stored p.«record») ls)
    (targets_stay u m p.number (stored p.«record») ls h)

target_there : (u n : ℕ) (o : Option ℕ) (ls : List LinkRow) → is_target u o ≡ true
    → has_link u n (with_target n o ls) ≡ true
target_there u n None ls h = absurd cc
target_there u n (Some t) ls h =
    ap (λ v. has_link v n (put_pair (record { target = t; no = n }) ls)) (sym (it t u h))
    ∙ put_or_there (is_pair t n) (record { target = t; no = n }) ls ∙ or_left _ _ (itself t n)

pub targets_there : (u n : ℕ) (more : List (ℕ × Label)) (ls : List LinkRow) → some_line_names u more ≡ true
    → has_link u n (with_targets n more ls) ≡ true
targets_there u n [] ls h = absurd cc
targets_there u n (l ∷ more) ls h =
    elim (is_target u l.1.target) as (λ b. is_target u l.1.target ≡ b → (b || some_line_names u more) ≡ true
    → has_link u n (with_targets n more (with_target n l.1.target ls)) ≡ true) [
      | true ↦ λ e _. targets_stay u n n more (with_target n l.1.target ls) (target_there u n l.1.target ls e)
      | false ↦ λ e k. targets_there u n more (with_target n l.1.target ls) k
    ] refl h

-- ---- links of an import are from its numbers
from_more : (n : ℕ) (ns : List ℕ) (ps : List Numbered)
    → EachOf (λ (p : Numbered). (target : ℕ) → is_from ns (record { target = target; no = p.number }) ≡ true) ps
    → EachOf (λ (p : Numbered). (target : ℕ) → is_from (n ∷ ns) (record { target = target; no = p.number }) ≡ true) ps
from_more n ns [] are = tt
from_more n ns (p ∷ ps) are = (
  λ target. or_right (n == p.number) (list_any (λ k. k == p.number) ns) (are.0 target),
  from_more n ns ps are.1,
)

from_numbers : (ps : List Numbered)
    → EachOf (λ (p : Numbered). (target : ℕ) → is_from (numbers_of ps) (record { target = target; no = p.number })
    ≡ true) ps
from_numbers [] = tt
from_numbers (p ∷ ps) = (
  λ target. or_left (p.number == p.number) (list_any (λ k. k == p.number) (numbers_of ps)) (same_self p.number),
  from_more p.number (numbers_of ps) ps (from_numbers ps),
)

pub links_are_from : (ps : List Numbered) → AreOf (numbers_of ps) (links_of ps)
links_are_from ps = each_link (λ (l : LinkRow). is_from (numbers_of ps) l ≡ true) ps (from_numbers ps)

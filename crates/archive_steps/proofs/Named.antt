-- A record that no other names may be removed.
use Rattle.std.proofs.Common.{◌≡◌, ℕ, List, [], ◌∷◌, Bool, true, false, not, ◌==◌, refl, sym, ap, ◌∙◌, cond, arith}
use Rattle.std.specs.Prelude.{Option, Some, None, map}
use Rattle.std.specs.Cmp.{nat_cmp_total, ranked}
use Rattle.std.specs.FinMap.{find, get, remove, entries, get-entries, get-remove}
use Rattle.std.specs.List.{list_any, filter}
use Rattle.std.specs.Ordering.{nat_cmp, eq_by_cmp, is_eq}
use Rattle.std.specs.declared.cmp.Ordering.TheVariants.{Less, Equal, Greater}
use Rattle.std.proofs.lemmas.Bool.{or_parts}
use Rattle.record_kinds.specs.declared.record.Record.{Record}
use Rattle.archive_state.specs.Links.{links, is_among}
use Rattle.archive_state.specs.Content.{Content, Records}
use Rattle.archive_state.specs.Referrers.{naming}
use Rattle.archive_state.specs.Sound.{EachIn, IsSound}
use Rattle.archive_state.proofs.Changing.{less_keeps}
use Rattle.command_checks.specs.Checks.{is_named}

-- a number is another
abbrev is_other : ℕ → ℕ → Bool
is_other k n = not (n == k)

not_other : (k n : ℕ) → is_other k n ≡ false → n ≡ k
not_other k n e = grind (arith)

-- those that name the number, with one more looked at: that one does not, or it is the number itself
rest_of : (k : ℕ) (b : Bool) (e : ℕ × Record) (es : List (ℕ × Record)) → list_any (is_other k)
    (map (λ x. x.0) (cond b (e ∷ es) es)) ≡ false → list_any (is_other k) (map (λ x. x.0) es) ≡ false
rest_of k true e es h = (or_parts (is_other k e.0) (list_any (is_other k) (map (λ x. x.0) es)) h).1
rest_of k false e es h = h

this_one : (k : ℕ) (b : Bool) (e : ℕ × Record) (es : List (ℕ × Record)) → (e.0 ≡ k → ⊥)
    → list_any (is_other k) (map (λ x. x.0) (cond b (e ∷ es) es)) ≡ false → b ≡ false
this_one k true e es other h =
    absurd (other (not_other k e.0 (or_parts (is_other k e.0) (list_any (is_other k) (map (λ x. x.0) es)) h).0))
this_one k false e es other h = refl

-- of a list of records with their numbers, where none at another number names k
unnamed : (k n : ℕ) (r : Record) (es : List (ℕ × Record)) → find nat_cmp n es ≡ Some r → (n ≡ k → ⊥)
    → list_any (is_other k) (naming k es) ≡ false → is_among k (links r) ≡ false
unnamed k n r [] found other none = absurd cc
unnamed k n r (e ∷ es) found other none =
    let more : List (ℕ × Record) = filter (λ x. is_among k (links x.1)) es in
    elim (nat_cmp n e.0) as (λ o. nat_cmp n e.0 ≡ o → cond (is_eq o) (Some e.1) (find nat_cmp n es) ≡ Some r
    → is_among k (links r) ≡ false) [
      | Less ↦ λ q f. unnamed k n r es f other (rest_of k (is_among k (links e.1)) e more none)
      | Equal ↦ λ q f.
          let same : n ≡ e.0 = ranked n e.0 Equal (sym q) in
          let it : e.1 ≡ r = cc in
          ap (λ x. is_among k (links x)) (sym it) ∙ this_one k (is_among k (links e.1)) e more
          (λ is. other (same ∙ is)) none
      | Greater ↦ λ q f. unnamed k n r es f other (rest_of k (is_among k (links e.1)) e more none)
    ] refl found

pub none_names : (c : Content) (k : ℕ) → is_named c k ≡ false
    → EachIn c.records (λ n r. (n ≡ k → ⊥) → is_among k (links r) ≡ false)
none_names c k none n r at other = unnamed k n r (entries c.records) (sym (get-entries c.records n) ∙ at) other none

pub removed_sound : (c : Content) (k : ℕ) → IsSound c → is_named c k ≡ false
    → IsSound (record c { records = remove c.records k })
removed_sound c k sound none = less_keeps c k sound (none_names c k none)

-- what is not there is not there with one less
none_either : (b : Bool) (o : Option Record) → o ≡ None → cond b None o ≡ None
none_either true o e = refl
none_either false o e = e

pub gone_still : (m : Records) (n k : ℕ) → get m k ≡ None → get (remove m n) k ≡ None
gone_still m n k e = get-remove nat_cmp_total m n k ∙ none_either (eq_by_cmp nat_cmp k n) (get m k) e

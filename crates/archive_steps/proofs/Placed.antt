-- A sound archive with a new place is sound.
use Rattle.std.proofs.Common.{◌≡◌, ℕ, ◌+◌, ◌<◌, ◌≤◌, List, [], true, refl, sym, ap, ◌∙◌, inl, inr, subst, arith}
use Rattle.std.specs.Prelude.{Option, Some, None, option_map, IfSome, if◌then◌else◌}
use Rattle.std.specs.FinMap.{get, insert}
use Rattle.std.proofs.lemmas.Bool.{lt-ltb}
use Rattle.record_text.specs.Text.{IsText}
use Rattle.record_kinds.specs.declared.record.Record.{Record}
use Rattle.record_kinds.specs.declared.record.Record.TheVariants as kind
use Rattle.archive_state.specs.Links.{a_place, field_links, is_wanted}
use Rattle.record_shapes.specs.Fields.{path_below}
use Rattle.record_shapes.specs.Lists.{EachOf}
use Rattle.record_shapes.specs.Paths.{IsNormal, IsWithinLimits}
use Rattle.archive_state.specs.Content.{Content, Records}
use Rattle.archive_state.specs.Known.{path_under, path_with, path_of}
use Rattle.archive_state.specs.Paths.{HasPath}
use Rattle.archive_state.specs.Sound.{Stands, IsSound}
use Rattle.archive_state.proofs.Changing.{more_keeps, path_within}
use Rattle.archive_state.proofs.Climbing.{stands_there}
use Rattle.archive_state.proofs.Keeping.{KeepsRules, stands_as}
use Rattle.archive_state.proofs.Known.{path_known}
use Rattle.archive_state.proofs.Putting.{put_cases, put_elsewhere, put_here}
use Rattle.command_checks.specs.Fits.{new_path, is_fit}
use Rattle.archive_steps.specs.Steps.{place_within}
use Rattle.archive_steps.proofs.Fitting.{none_at_next}
use Rattle.record_shapes.proofs.Limits.{limits_are, none_within}
use Rattle.record_shapes.proofs.Each.{each_both}
use Rattle.archive_state.proofs.PathsAlike.{path_there}

-- the place stands there, where a number is given
abbrev pub PlacedAt : Content → Option ℕ → Type 0
PlacedAt c None = Unit {0}
PlacedAt c (Some n) = Stands c.records (n, a_place)

fit_is_within : (o : Option (List ℕ)) (path : List ℕ) → o ≡ Some path → is_fit o ≡ true → IsWithinLimits path
fit_is_within None path e f = absurd cc
fit_is_within (Some p) path e f = let same : p ≡ path = cc in subst IsWithinLimits same (limits_are p f)

-- ---- the records after it
abbrev placed : List ℕ → Option ℕ → Record
placed name parent = kind.Place (place_within name parent)

abbrev after : Content → List ℕ → Option ℕ → Records
after c name parent = insert c.records c.next (placed name parent)

still : (c : Content) (name : List ℕ) (parent : Option ℕ) → IsSound c → (n : ℕ) (r : Record) → get c.records n ≡ Some r
    → get (after c name parent) n ≡ Some r
still c name parent sound n r e =
    put_elsewhere c.records c.next (placed name parent) n
    (λ same. none_at_next c sound r (ap (get c.records) (sym same) ∙ e)) ∙ e

-- what is new is the place, at the next number
new_is : (c : Content) (name : List ℕ) (parent : Option ℕ) (n : ℕ) (r : Record) → get c.records n ≡ None
    → get (after c name parent) n ≡ Some r → (n ≡ c.next) × (placed name parent ≡ r)
new_is c name parent n r none e =
    elim (put_cases c.records c.next (placed name parent) n (Some r) e) as (λ _. (n ≡ c.next)
    × (placed name parent ≡ r)) [
      | inl h ↦ (h.0, let f : Some (placed name parent) ≡ Some r = h.1 in cc)
      | inr h ↦ let both : None ≡ Some r = sym none ∙ h.1 in absurd cc
    ]

-- ---- the place that it is within
stands_after : (c : Content) (name : List ℕ) (all parent : Option ℕ) → IsSound c → PlacedAt c parent
    → EachOf (Stands (after c name all)) (field_links a_place parent)
stands_after c name all None sound h = tt
stands_after c name all (Some q) sound h =
    let up = stands_as a_place (get c.records q) h in
    (ap (option_map (is_wanted a_place)) (still c name all sound q up.0 up.1) ∙ ap Some up.2, tt)

below_next : (c : Content) (parent : Option ℕ) → IsSound c → PlacedAt c parent → IfSome parent (λ q. q < c.next)
below_next c None sound h = tt
below_next c (Some q) sound h = let up = stands_as a_place (get c.records q) h in (sound.rules.numbered q up.0 up.1).1

-- its path is the one that was measured
under_is : (c : Content) (name : List ℕ) (all parent : Option ℕ) → IsSound c → PlacedAt c parent
    → path_under c.next (path_of (after c name all)) name parent ≡ new_path c.records name parent
under_is c name all None sound h = refl
under_is c name all (Some q) sound h =
    let up = stands_as a_place (get c.records q) h in
    let less : q < c.next = (sound.rules.numbered q up.0 up.1).1 in
    ap (λ b. if b then option_map (path_below name) (path_of (after c name all) q) else None) (lt-ltb q c.next less)
    ∙ ap (option_map (path_below name))
    (sym (path_within c.records (after c name all) (still c name all sound) sound.named q up.0 up.1))

path_is : (c : Content) (name : List ℕ) (parent : Option ℕ) → IsSound c → PlacedAt c parent
    → path_of (after c name parent) c.next ≡ new_path c.records name parent
path_is c name parent sound h =
    path_there (after c name parent) c.next ∙ ap (path_with c.next (path_of (after c name parent)))
    (put_here c.records c.next (placed name parent)) ∙ under_is c name parent parent sound h

-- ---- all rules
rules_of : (c : Content) (name : List ℕ) (parent : Option ℕ) → IsSound c → PlacedAt c parent → IsText name
    → IsNormal name → KeepsRules (c.next + 1) (after c name parent) c.next (placed name parent)
rules_of c name parent sound at is normal = record {
  number = (sound.begun, omega arith);
  named = each_both (Stands (after c name parent)) (field_links a_place parent) []
      (stands_after c name parent parent sound at) tt;
  parents = below_next c parent sound at;
  normal = normal;
  once = tt;
  tags = tt;
  trailers = tt;
  texts = (is, tt);
  places = tt;
  events = tt;
  mentions = tt;
  untaken = refl;
  shapes = tt;
  levels = none_within 98;
}

pub place_keeps : (c : Content) (name : List ℕ) (parent : Option ℕ) → IsSound c → PlacedAt c parent → IsText name
    → IsNormal name → is_fit (new_path c.records name parent) ≡ true → c.next + 1 ≤ 4294967296
    → IsSound (record c {
      records = insert c.records c.next (kind.Place (place_within name parent));
      next = c.next + 1;
    })
place_keeps c name parent sound at is normal fit bounded =
    more_keeps c (record c { records = after c name parent; next = c.next + 1 }) sound (record {
      later = omega arith;
      bounded = bounded;
      still = still c name parent sound;
      slips = refl;
      new = λ n r none e.
          let it = new_is c name parent n r none e in
          let from : c.next ≤ c.next = omega arith in (
            subst (λ k. KeepsRules (c.next + 1) (after c name parent) k r) (sym it.0)
                (subst (KeepsRules (c.next + 1) (after c name parent) c.next) it.1
                (rules_of c name parent sound at is normal)),
            subst (λ k. c.next ≤ k) (sym it.0) from,
          );
      paths = λ n path none h. by_path n path none (get (after c name parent) n) refl h;
      keys = λ n k e none there at. let it = new_is c name parent n (kind.Entry e) none there in
          let f : placed name parent ≡ kind.Entry e = it.1 in absurd cc;
    })
  where
    by_path : (n : ℕ) (path : List ℕ) → get c.records n ≡ None → (o : Option Record) → get (after c name parent) n ≡ o
        → HasPath (after c name parent) n path → IsWithinLimits path
    by_path n path none None e h = absurd (stands_there (after c name parent) n path h e)
    by_path n path none (Some r) e h =
        let it = new_is c name parent n r none e in
        let known : path_of (after c name parent) n ≡ Some path = (path_known (after c name parent) n path).0 h in
        let same : path_of (after c name parent) c.next ≡ Some path = ap (path_of (after c name parent))
        (sym it.0) ∙ known in
        fit_is_within (new_path c.records name parent) path (sym (path_is c name parent sound at) ∙ same) fit

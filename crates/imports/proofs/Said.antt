-- Paths of places, and mentions, among the records that stand after an import.
use Rattle.std.proofs.Common.{◌≡◌, ℕ, ◌≤◌, Bool, true, false, List, [], ◌∷◌, length, sym, ap, ◌∙◌, arith}
use Rattle.std.specs.Prelude.{Some, map, option_map}
use Rattle.imports.proofs.Filed.{count_same}
use Rattle.record_kinds.specs.Model as model
use Rattle.record_kinds.specs.declared.record.Record.{Record}
use Rattle.record_kinds.specs.declared.record.Record.TheVariants as kind
use Rattle.archive_state.specs.Links.{a_place, is_wanted}
use Rattle.record_shapes.specs.Paths.{has_part}
use Rattle.record_shapes.specs.Roles.{is_role_of}
use Rattle.archive_state.specs.Content.{Records}
use Rattle.archive_state.specs.Known.{path_of}
use Rattle.archive_state.specs.Merging.{mention_with, record_with}
use Rattle.archive_state.specs.Paths.{Climbs, HasPath}
use Rattle.archive_state.specs.Sound.{HasSoundMentions, Stands}
use Rattle.archive_state.proofs.Known.{path_known}
use Rattle.record_shapes.proofs.Each.{each_more, each_mapped}

-- where there is a path, a place stands
pub path_stands : (A : Records) (n : ℕ) (q : List ℕ) → path_of A n ≡ Some q → Stands A (n, a_place)
path_stands A n q e = let h : HasPath A n q = (path_known A n q).1 e in climbs h.0 h.1
  where
    climbs : (names : List (List ℕ)) → Climbs A n names → Stands A (n, a_place)
    climbs [] h = absurd h
    climbs (name ∷ []) h = ap (option_map (is_wanted a_place)) h.1
    climbs (name ∷ (above ∷ names)) h = ap (option_map (is_wanted a_place)) h.1

-- the path of a place is one
pub said_at : (A : Records) (n : ℕ) (q : List ℕ) → path_of A n ≡ Some q → has_part q ≡ true → (path : List ℕ)
    → HasPath A n path → has_part path ≡ true
said_at A n q e said path h =
    let both : Some q ≡ Some path = sym e ∙ (path_known A n path).0 h in
    let same : q ≡ path = cc in
    ap has_part (sym same) ∙ said

-- a record whose carried lines are judged by no path of a place before it
abbrev pub is_no_place : Record → Bool
is_no_place (kind.Place p) = false
is_no_place _ = true

pub sound_mentions : (g : ℕ → ℕ) (e : model.Entry) → HasSoundMentions (kind.Entry e)
    → HasSoundMentions (record_with g (kind.Entry e))
sound_mentions g e h =
    let size : length (map (mention_with g) e.mentions) ≡ length e.mentions = count_same (mention_with g) e.mentions in
    let low : 1 ≤ length e.mentions = h.0.0 in
    let high : length e.mentions ≤ 100 = h.0.1 in (
      (omega arith, omega arith),
      each_mapped (λ (x : model.Mention). is_role_of e.kind x.role ≡ true) (mention_with g) e.mentions
          (each_more (λ (x : model.Mention). is_role_of e.kind x.role ≡ true)
          (λ x. is_role_of e.kind (mention_with g x).role ≡ true) (λ x k. k) e.mentions h.1),
    )

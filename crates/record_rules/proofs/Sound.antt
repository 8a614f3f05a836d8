-- What the list of broken rules says by the definition: an archive that breaks none is sound, one that breaks some is
-- not.
use Rattle.std.proofs.Common.{◌≡◌, ℕ, List, [], ◌∷◌, Bool, true, false, not, map, refl, sym, subst, ◌∙◌}
use Rattle.std.specs.Prelude.{Option, Some, cond}
use Rattle.std.specs.List.{All, filter}
use Rattle.std.proofs.lemmas.List.Elements.{All-head, filter_passes}
use Rattle.std.specs.FinMap.{get}
use Rattle.std.specs.Ordering.{nat_cmp, eq_by_cmp}
use Rattle.std.proofs.lemmas.Bool.{not-true}
use Rattle.record_kinds.specs.declared.record.Record.{Record}
use Rattle.record_shapes.specs.Lists.{EachOf}
use Rattle.archive_state.specs.declared.slip.Change.{Change}
use Rattle.archive_state.specs.Merging.{merged}
use Rattle.archive_state.specs.Slips.{Slip}
use Rattle.archive_state.specs.Sound.{IsSound, old_records}
use Rattle.record_rules.specs.Archives.{Archive, at, content, olds}
use Rattle.record_rules.specs.Rules.{
  AreMerges,
  ArchiveRule,
  IsMerge,
  OneBreaks,
  Rule,
  SlipRule,
  apart,
  archive_keeps,
  archive_rules,
  ascending,
  begun,
  bounded,
  broken,
  distinct,
  event_tags,
  free,
  gone_person,
  joinable,
  keep_person,
  keys,
  levels,
  linked,
  members,
  mentions,
  normal_names,
  numbers,
  of_olds,
  of_records,
  of_slips,
  parents,
  paths,
  places,
  rules,
  shapes,
  slip_links,
  slip_numbers,
  slip_rules,
  stayed,
  tags,
  texts,
  trailers,
  untaken,
}
use Rattle.record_rules.proofs.Whole.{is_sound, not_sound, old_same, slips_same}
use Rattle.record_shapes.proofs.Each.{each_back, each_front}

-- ---- the lists of rules have them all
rule_in : (P : Rule → Type 0) → EachOf P rules → (r : Rule) → P r
rule_in P h numbers = h.0
rule_in P h parents = h.1.0
rule_in P h normal_names = h.1.1.0
rule_in P h paths = h.1.1.1.0
rule_in P h members = h.1.1.1.1.0
rule_in P h tags = h.1.1.1.1.1.0
rule_in P h trailers = h.1.1.1.1.1.1.0
rule_in P h texts = h.1.1.1.1.1.1.1.0
rule_in P h places = h.1.1.1.1.1.1.1.1.0
rule_in P h event_tags = h.1.1.1.1.1.1.1.1.1.0
rule_in P h mentions = h.1.1.1.1.1.1.1.1.1.1.0
rule_in P h untaken = h.1.1.1.1.1.1.1.1.1.1.1.0
rule_in P h shapes = h.1.1.1.1.1.1.1.1.1.1.1.1.0
rule_in P h levels = h.1.1.1.1.1.1.1.1.1.1.1.1.1.0
rule_in P h keys = h.1.1.1.1.1.1.1.1.1.1.1.1.1.1.0

slip_rule_in : (P : SlipRule → Type 0) → EachOf P slip_rules → (r : SlipRule) → P r
slip_rule_in P h slip_numbers = h.0
slip_rule_in P h ascending = h.1.0
slip_rule_in P h gone_person = h.1.1.0
slip_rule_in P h keep_person = h.1.1.1.0
slip_rule_in P h apart = h.1.1.1.1.0
slip_rule_in P h joinable = h.1.1.1.1.1.0
slip_rule_in P h slip_links = h.1.1.1.1.1.1.0
slip_rule_in P h (of_olds r) = rule_in (λ x. P (of_olds x)) h.1.1.1.1.1.1.1 r

archive_rule_in : (P : ArchiveRule → Type 0) → EachOf P archive_rules → (r : ArchiveRule) → P r
archive_rule_in P h begun = h.0
archive_rule_in P h bounded = h.1.0
archive_rule_in P h distinct = h.1.1.0
archive_rule_in P h linked = h.1.1.1.0
archive_rule_in P h stayed = h.1.1.1.1.0
archive_rule_in P h free = h.1.1.1.1.1.0
archive_rule_in P h (of_records r) = rule_in (λ x. P (of_records x))
    (each_front P (map (λ x. of_records x) rules) (map (λ x. of_slips x) slip_rules) h.1.1.1.1.1.1) r
archive_rule_in P h (of_slips r) = slip_rule_in (λ x. P (of_slips x))
    (each_back P (map (λ x. of_records x) rules) (map (λ x. of_slips x) slip_rules) h.1.1.1.1.1.1) r

-- ---- what a list without some elements says
none_left : {A : Type 0} (q : A → Bool) (xs : List A) → filter (λ x. not (q x)) xs ≡ [] → EachOf (λ x. q x ≡ true) xs
none_left q [] e = tt
none_left q (x ∷ xs) e = elim (q x) as (λ b. q x ≡ b → cond (not b) (x ∷ filter (λ y. not (q y)) xs)
    (filter (λ y. not (q y)) xs) ≡ [] → (q x ≡ true) × EachOf (λ y. q y ≡ true) xs) [
      | true ↦ λ is rest. (is, none_left q xs rest)
      | false ↦ λ is rest. absurd cc
    ] refl e

-- ---- merges
listed : (P : Slip → Type 0) (n : ℕ) (es : List (ℕ × Slip)) (s : Slip) → EachOf (λ (e : ℕ × Slip). P e.1) es
    → at es n ≡ Some s → P s
listed P n [] s h e = absurd cc
listed P n (f ∷ es) s h e = elim (eq_by_cmp nat_cmp n f.0) as (λ b. cond b (Some f.1) (at es n) ≡ Some s → P s) [
  | true ↦ λ found. let same : f.1 ≡ s = cc in subst P same h.0
  | false ↦ λ found. listed P n es s h.1 found
] e

abbrev IsMergeOf : Slip → (ℕ → Option Record) → Type 0
IsMergeOf s look = EachOf (λ (c : Change). c.new ≡ merged s.keep s.gone look c.number) s.changes

same_look : (s : Slip) → get (old_records s) ≡ at (olds s)
same_look s = λ i n. old_same s n i

-- ---- sound or not
pub sound : (a : Archive) → broken a ≡ [] → AreMerges a.slips → IsSound (content a)
sound a e h = is_sound a (archive_rule_in (λ r. archive_keeps a r ≡ true) (none_left (archive_keeps a) archive_rules e))
    (λ n s there. subst (IsMergeOf s) (sym (same_look s)) (listed IsMerge n a.slips s h (sym (slips_same a n) ∙ there)))

pub unsound : (a : Archive) (r : ArchiveRule) (rs : List ArchiveRule) → broken a ≡ r ∷ rs → ¬ (IsSound (content a))
unsound a r rs e = not_sound a r (not-true (archive_keeps a r) (All-head (λ x. not (archive_keeps a x) ≡ true) r rs
    (subst (All (λ x. not (archive_keeps a x) ≡ true)) e (filter_passes (λ x. not (archive_keeps a x)) archive_rules))))

-- a slip that is no merge
pub unmerged : (a : Archive) (n : ℕ) (s : Slip) → at a.slips n ≡ Some s → ¬ (IsMerge s) → ¬ (IsSound (content a))
unmerged a n s there none h = none (subst (IsMergeOf s) (same_look s) ((h.slips n s (slips_same a n ∙ there)).merges))

-- each pair of the examples is one of the definition
pub judged : (r : ArchiveRule) (a b : Archive) → OneBreaks r a b → AreMerges b.slips → ¬ (IsSound (content a))
    × IsSound (content b)
judged r a b h merges = (unsound a r [] h.0, sound b h.1 merges)

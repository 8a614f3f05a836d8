-- Places that are made keep the rules on one record.
use Rattle.std.proofs.Common.{◌≡◌, ℕ, ◌<◌, ◌≤◌, List, [], ◌++◌, length, refl, arith}
use Rattle.std.specs.Prelude.{Option, Some, None, IfSome, option_map}
use Rattle.record_kinds.specs.declared.record.Record.TheVariants as kind
use Rattle.archive_state.specs.Links.{a_place, field_links}
use Rattle.record_shapes.specs.Lists.{EachOf}
use Rattle.archive_state.specs.Content.{Records}
use Rattle.archive_state.specs.Known.{path_of}
use Rattle.archive_state.specs.Sound.{IsNumber, Stands}
use Rattle.archive_state.proofs.Keeping.{KeepsRules}
use Rattle.import_definitions.specs.Numbers.{Drawing, Found, Places, number_found, place_made}
use Rattle.imports.proofs.Clean.{clean_text}
use Rattle.imports.proofs.Normal.{name_normal}
use Rattle.imports.proofs.Rooted.{F, There}
use Rattle.imports.proofs.Said.{path_stands}
use Rattle.imports.proofs.Settling.{IsPlaceDrawn}

module _ (A : Records) (w : Places) (D : Drawing) (all : EachOf (There A w D) D.drawn) (first : ℕ)
    (arch : (q : List ℕ) (n : ℕ) → w.archive q ≡ Some n → (path_of A n ≡ Some q) × (n < first))
    (filed : (k : ℕ) (q : List ℕ) → w.file q ≡ Some k → path_of A (F A w D k) ≡ Some q) (last : ℕ) where
  pub judge_made : (n : ℕ) (name : List ℕ) (parent : Option Found) → IsNumber last n
      → IsPlaceDrawn A w D all first arch filed n name parent
      → KeepsRules last A n (kind.Place (place_made D.roots name parent))
  judge_made n name parent number d = record {
    number = number;
    named = named parent d.above;
    parents = smaller parent d.above;
    normal = name_normal name d.name_is;
    once = tt;
    tags = tt;
    trailers = tt;
    texts = (clean_text name d.clean (longer d.short), tt);
    places = tt;
    events = tt;
    mentions = tt;
    untaken = refl;
    shapes = tt;
    levels = none_deep;
  }
    where
      longer : length name ≤ 4096 → length name ≤ 1048576
      longer short = omega arith

      none_deep : 0 ≤ 98
      none_deep = omega arith

      named : (parent : Option Found) → IfSome parent
          (λ x. (number_found D.roots (Some x) < n) × ((q : List ℕ) × (path_of A (number_found D.roots (Some x))
          ≡ Some q)))
          → EachOf (Stands A) (field_links a_place (option_map (λ x. number_found D.roots (Some x)) parent) ++ [])
      named None e = tt
      named (Some x) e = (path_stands A (number_found D.roots (Some x)) e.1.0 e.1.1, tt)

      smaller : (parent : Option Found) → IfSome parent
          (λ x. (number_found D.roots (Some x) < n) × ((q : List ℕ) × (path_of A (number_found D.roots (Some x))
          ≡ Some q)))
          → IfSome (option_map (λ x. number_found D.roots (Some x)) parent) (λ q. q < n)
      smaller None e = tt
      smaller (Some x) e = e.0

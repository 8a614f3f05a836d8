-- What no row puts back of a value of before: rules of our own.
use Rattle.std.specs.Prelude.{
  ℕ,
  ◌==◌,
  ◌&&◌,
  ◌||◌,
  Bool,
  true,
  false,
  if◌then◌else◌,
  is_some,
  not,
  length,
  List,
  [],
  ◌∷◌,
  ◌++◌,
  bytes_eq,
  codes,
  decimal,
  map,
  slice_get,
}
use Rattle.std.specs.List.{flat_map, list_any}
use Rattle.record_kinds.specs.Model as model
use Rattle.record_kinds.specs.declared.record.Record.{Record}
use Rattle.record_kinds.specs.declared.record.Record.TheVariants as kind
use Rattle.showing.specs.Carried.{carried_text}

-- ---- the order of members: those that are missing come back after those of now
abbrev pub is_among : ℕ → List ℕ → Bool
is_among n ns = list_any (λ m. m == n) ns

abbrev pub piece : ℕ → List ℕ
piece n = decimal n ++ codes " "

-- the number, where another list has it, or has it not
abbrev pub piece_if : Bool → List ℕ → ℕ → List ℕ
piece_if true among n = if is_among n among then piece n else []
piece_if false among n = if is_among n among then [] else piece n

-- members that stay come first, and then those that are put back
abbrev pub after : List ℕ → List ℕ → List ℕ
after old now = flat_map (piece_if true old) now ++ flat_map (piece_if false now) old

abbrev pub is_out_of_order : List ℕ → List ℕ → Bool
is_out_of_order old now = not (bytes_eq (after old now) (flat_map piece old))

abbrev pub partners_of : model.Family → List ℕ
partners_of f = map (λ (p : model.Partner). p.person) f.partners

abbrev pub children_of : model.Family → List ℕ
children_of f = map (λ (c : model.Child). c.person) f.children

abbrev pub participants_of : model.Event → List ℕ
participants_of e = map (λ (p : model.Participant). p.person) e.participants

abbrev pub family_loses_order : model.Family → model.Family → Bool
family_loses_order old now =
    is_out_of_order (partners_of old) (partners_of now) || is_out_of_order (children_of old) (children_of now)

abbrev pub loses_order : Record → Record → Bool
loses_order (kind.Family old) (kind.Family now) = family_loses_order old now
loses_order (kind.Event old) (kind.Event now) = is_out_of_order (participants_of old) (participants_of now)
loses_order _ _ = false

-- ---- what was added later, which stays
abbrev pub has_more : List ℕ → List ℕ → Bool
has_more old now = list_any (λ n. not (is_among n old)) now

abbrev pub family_has_later : model.Family → model.Family → Bool
family_has_later old now =
    has_more (partners_of old) (partners_of now) || has_more (children_of old) (children_of now)

abbrev pub has_later : Record → Record → Bool
has_later (kind.Person old) (kind.Person now) = is_some (slice_get now.names (length old.names))
has_later (kind.Family old) (kind.Family now) = family_has_later old now
has_later (kind.Event old) (kind.Event now) = has_more (participants_of old) (participants_of now)
has_later _ _ = false

-- ---- texts that were empty or missing, and no longer are
abbrev pub has_empty_name : model.Person → Bool
has_empty_name p = list_any (λ (x : model.Name). length x.text == 0) p.names

abbrev pub lacks_text : Record → Record → Bool
lacks_text (kind.Person old) (kind.Person now) = has_empty_name old && not (has_empty_name now)
lacks_text (kind.Repo old) (kind.Repo now) = not (is_some old.name) && is_some now.name
lacks_text (kind.Source old) (kind.Source now) = not (is_some old.title) && is_some now.title
lacks_text _ _ = false

-- ---- the lines that say so
abbrev pub line_if : Bool → List ℕ → List ℕ
line_if b line = if b then line else []

abbrev pub differ : List ℕ → List ℕ → Bool
differ a b = not (bytes_eq a b)

abbrev pub of_carried : Record → Record → List ℕ
of_carried old now =
    line_if (differ (carried_text old) (carried_text now)) (codes "no row puts back carried lines\n")

abbrev pub of_order : Record → Record → List ℕ
of_order old now = line_if (loses_order old now) (codes "no row puts back the order of members\n")

abbrev pub of_lacking : Record → Record → List ℕ
of_lacking old now = line_if (lacks_text old now) (codes "no row puts back that a name or title was empty\n")

abbrev pub of_later : Record → Record → List ℕ
of_later old now = line_if (has_later old now) (codes "no row takes away what was added later\n")

abbrev pub remarks : Record → Record → List ℕ
remarks old now = of_carried old now ++ (of_order old now ++ (of_lacking old now ++ of_later old now))

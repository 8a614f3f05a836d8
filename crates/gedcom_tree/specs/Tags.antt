-- Tags, by their bytes.
use Rattle.std.specs.Prelude.{ℕ, List, string_bytes}
use Rattle.gedcom_tree.specs.declared.tag.Place.{Place}
use Rattle.gedcom_tree.specs.declared.tag.Place.TheVariants as place

-- the bytes of a tag, wherever they lie
abbrev pub placed : Place → List ℕ
placed (place.Short t) = t.bytes
placed (place.Long t) = string_bytes t.value

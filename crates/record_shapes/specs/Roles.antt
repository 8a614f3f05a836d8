-- The mentions of register entries, and their roles: rules of our own.
use Rattle.std.specs.Prelude.{◌≤◌, Bool, true, false, length}
use Rattle.record_kinds.specs.Model as model
use Rattle.record_fields.specs.declared.entry_words.EntryKind.{EntryKind}
use Rattle.record_fields.specs.declared.entry_words.EntryKind.TheVariants as entry_kind
use Rattle.record_fields.specs.declared.entry_words.Role.{Role}
use Rattle.record_fields.specs.declared.entry_words.Role.TheVariants as role

-- the roles of each kind of entry
abbrev pub is_role_of : EntryKind → Role → Bool
is_role_of entry_kind.Baptism role.Child = true
is_role_of entry_kind.Baptism role.Father = true
is_role_of entry_kind.Baptism role.Mother = true
is_role_of entry_kind.Baptism role.Godparent = true
is_role_of entry_kind.Marriage role.Groom = true
is_role_of entry_kind.Marriage role.Bride = true
is_role_of entry_kind.Marriage role.FatherOfGroom = true
is_role_of entry_kind.Marriage role.FatherOfBride = true
is_role_of entry_kind.Marriage role.Witness = true
is_role_of entry_kind.Burial role.Buried = true
is_role_of entry_kind.Burial role.Spouse = true
is_role_of entry_kind.Burial role.Father = true
is_role_of entry_kind.Burial role.Mother = true
is_role_of _ _ = false

-- 1 to 100 mentions
abbrev pub HasMentions : model.Entry → Type 0
HasMentions e = (1 ≤ length e.mentions) × (length e.mentions ≤ 100)

-- The members of a family and the participants of an event, added and removed (The GEDCOM Standard Release 5.5.1,
-- chapter 2, FAM_RECORD: HUSB, WIFE and CHIL; participants are ours). What is refused is a rule of our own.
use Rattle.std.specs.Prelude.{
  ℕ,
  ◌-◌,
  ◌&&◌,
  ◌||◌,
  ◌==◌,
  ◌++◌,
  nat_le,
  not,
  Bool,
  List,
  [],
  ◌∷◌,
  length,
  Result,
  Ok,
  Err,
  if◌then◌else◌,
}
use Rattle.std.specs.List.{filter, list_any, remove}
use Rattle.record_text.specs.declared.refusal.RefusalKind.{RefusalKind}
use Rattle.record_text.specs.declared.refusal.RefusalKind.TheVariants.{AlreadyInFamily, NoSuchField, NotMember}
use Rattle.record_fields.specs.declared.words.Partnership.{Partnership}
use Rattle.record_kinds.specs.Model as model

abbrev pub is_partner : ℕ → model.Family → Bool
is_partner n f = list_any (λ (p : model.Partner). p.person == n) f.partners

abbrev pub is_child : ℕ → model.Family → Bool
is_child n f = list_any (λ (c : model.Child). c.person == n) f.children

-- ---- partners
abbrev pub plain_partner : Partnership → ℕ → model.Partner
plain_partner as_what n = record { partnership = as_what; person = n; carried = []; carried_by_person = [] }

-- last among the partners
abbrev pub with_partner : Partnership → ℕ → model.Family → Result model.Family RefusalKind
with_partner as_what n f =
    if is_partner n f || is_child n f then Err AlreadyInFamily
    else Ok (record f { partners = f.partners ++ plain_partner as_what n ∷ [] })

abbrev pub other_partners : ℕ → List model.Partner → List model.Partner
other_partners n ps = filter (λ (p : model.Partner). not (p.person == n)) ps

-- what the membership carries is with the partner, of both sides
abbrev pub without_partner : ℕ → model.Family → Result model.Family RefusalKind
without_partner n f = if is_partner n f then Ok (record f { partners = other_partners n f.partners })
    else Err NotMember

-- ---- children
abbrev pub other_children : ℕ → List model.Child → List model.Child
other_children n cs = filter (λ (c : model.Child). not (c.person == n)) cs

abbrev pub without_child : ℕ → model.Family → Result model.Family RefusalKind
without_child n f = if is_child n f then Ok (record f { children = other_children n f.children }) else Err NotMember

-- ---- participants
-- one of that place in the list, from 1, is there
abbrev pub has_participant : ℕ → model.Event → Bool
has_participant k e = nat_le 1 k && nat_le k (length e.participants)

abbrev pub without_participant : ℕ → model.Event → Result model.Event RefusalKind
without_participant k e =
    if has_participant k e then Ok (record e { participants = remove e.participants (k - 1) }) else Err NoSuchField

-- What a command on register entries looks at: its words, its mentions, and what is there already. Rules of our own.
use Rattle.std.specs.Prelude.{
  ℕ,
  List,
  [],
  ◌∷◌,
  Bool,
  false,
  not,
  ◌&&◌,
  ◌==◌,
  Option,
  Some,
  None,
  Result,
  Ok,
  Err,
  bytes_eq,
  if◌then◌else◌,
}
use Rattle.std.specs.List.{list_any}
use Rattle.std.specs.FinMap.{entries, get}
use Rattle.record_text.specs.declared.refusal.RefusalKind.{RefusalKind}
use Rattle.record_text.specs.declared.refusal.RefusalKind.TheVariants.{
  NoSuch,
  WrongKind,
  BadText,
  NotOfKind,
  DuplicateEntry,
}
use Rattle.record_fields.specs.Words.{entry_kind_word, role_of}
use Rattle.record_fields.specs.declared.entry_words.EntryKind.{EntryKind}
use Rattle.record_fields.specs.declared.entry_words.Role.{Role}
use Rattle.record_fields.specs.declared.item.Item.{Item}
use Rattle.record_kinds.specs.Model as model
use Rattle.record_kinds.specs.declared.record.Record.{Record}
use Rattle.record_kinds.specs.declared.record.Record.TheVariants as kind
use Rattle.record_shapes.specs.Roles.{is_role_of}
use Rattle.archive_state.specs.Content.{Content, Records}
use Rattle.commands.specs.Rows.{and_then}
use Rattle.commands.specs.declared.entry_row.EntryRow.{EntryRow}
use Rattle.commands.specs.declared.entry_row.GivenMention.{GivenMention}
use Rattle.command_checks.specs.Checks.{date_in, each, need, passed, text_in}

-- ---- words
-- roles and names are texts
abbrev pub mentions_fit : List GivenMention → Result (Unit {0}) RefusalKind
mentions_fit [] = Ok tt
mentions_fit (m ∷ ms) = and_then (passed (text_in m.role))
    (λ _. and_then (passed (text_in m.name)) (λ _. mentions_fit ms))

-- all words of an entry are texts, and its date is one of the archive
abbrev pub texts_fit : EntryRow → Result (Unit {0}) RefusalKind
texts_fit e =
    and_then (passed (text_in e.page)) (λ _.
    and_then (passed (text_in e.text)) (λ _.
    and_then (passed (each date_in e.date)) (λ _.
    mentions_fit e.mentions)))

-- a text that is not empty
abbrev pub not_empty : List ℕ → Result (List ℕ) RefusalKind
not_empty [] = Err BadText
not_empty (b ∷ bs) = Ok (b ∷ bs)

-- why a mention is of a person
abbrev pub reason_in : List ℕ → Result (List ℕ) RefusalKind
reason_in words = and_then (text_in words) not_empty

-- ---- mentions
-- a role of the kind; another word is refused
abbrev pub role_for : EntryKind → Option Role → Result Role RefusalKind
role_for k None = Err NotOfKind
role_for k (Some r) = if is_role_of k r then Ok r else Err NotOfKind

abbrev pub role_in : EntryKind → List ℕ → Result Role RefusalKind
role_in k word = role_for k (role_of word)

-- a mention of no person
abbrev pub mention_in : EntryKind → GivenMention → Result model.Mention RefusalKind
mention_in k m =
    and_then (role_in k m.role) (λ r.
    and_then (text_in m.name) (λ t.
    Ok (record { role = r; name = t; link = None })))

abbrev pub mentions_in : EntryKind → List GivenMention → Result (List model.Mention) RefusalKind
mentions_in k [] = Ok []
mentions_in k (m ∷ ms) = and_then (mention_in k m) (λ x. and_then (mentions_in k ms) (λ xs. Ok (x ∷ xs)))

-- ---- what is there
abbrev pub entry_in : Option Record → Result model.Entry RefusalKind
entry_in None = Err NoSuch
entry_in (Some (kind.Entry e)) = Ok e
entry_in (Some _) = Err WrongKind

abbrev pub entry_at : Content → ℕ → Result model.Entry RefusalKind
entry_at c n = entry_in (get c.records n)

-- an entry of that source, kind, page and item
abbrev pub is_like : ℕ → EntryKind → List ℕ → Item → Record → Bool
is_like source k page item (kind.Entry e) =
    e.source == source && (bytes_eq (entry_kind_word e.kind) (entry_kind_word k) &&
    (bytes_eq e.page page && e.item.number == item.number))
is_like source k page item _ = false

-- no such entry is there
abbrev pub key_is_free : Records → ℕ → EntryKind → List ℕ → Item → Result (Unit {0}) RefusalKind
key_is_free m source k page item =
    need (not (list_any (λ e. is_like source k page item e.1) (entries m))) DuplicateEntry

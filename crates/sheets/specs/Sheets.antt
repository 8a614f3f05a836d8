-- The sheets of a person, a family and a register: rules of our own. 50 where no record has the number, 51 where it is
-- of another kind.
use Rattle.std.specs.Prelude.{ℕ, ◌==◌, if◌then◌else◌, List, [], ◌++◌, Option, Some, None, Result, Ok, Err}
use Rattle.std.specs.List.{flat_map}
use Rattle.record_kinds.specs.Model as model
use Rattle.record_kinds.specs.declared.record.Record.{Record}
use Rattle.record_kinds.specs.declared.record.Record.TheVariants as kind
use Rattle.record_text.specs.declared.refusal.RefusalKind.{RefusalKind}
use Rattle.record_text.specs.declared.refusal.RefusalKind.TheVariants.{NoSuch, WrongKind}
use Rattle.archive_state.specs.Content.{Records}
use Rattle.sheet_lines.specs.Lines.{
  child_line,
  child_of_line,
  entry_lines,
  family_head,
  name_line,
  own_source,
  partner_in_line,
  partner_line,
  person_head,
  register_head,
  sex_line,
}
use Rattle.sheets.specs.Gathered.{Gathered, gathered}
use Rattle.sheets.specs.Owned.{citations_text, display_in, events_text}

-- ---- persons
-- the number, the names and the sex
abbrev pub own_text : ℕ → model.Person → List ℕ
own_text n p = person_head n ++ (flat_map name_line p.names ++ sex_line p.sex)

-- these, then events, citations, the families as a child, and those as a partner
abbrev pub person_text : Gathered → ℕ → model.Person → List ℕ
person_text g n p = own_text n p ++ (events_text g n ++ (citations_text g own_source n
    ++ (flat_map child_of_line (g.child_in n) ++ flat_map partner_in_line (g.partner_in n))))

abbrev pub person_in : Gathered → ℕ → Option Record → Result (List ℕ) RefusalKind
person_in g n None = Err NoSuch
person_in g n (Some (kind.Person p)) = Ok (person_text g n p)
person_in g n (Some r) = Err WrongKind

abbrev pub person_sheet : Records → ℕ → Result (List ℕ) RefusalKind
person_sheet m n = person_in (gathered m) n ((gathered m).at n)

-- ---- families
abbrev pub partner_text : (ℕ → Option Record) → model.Partner → List ℕ
partner_text at p = partner_line (display_in (at p.person)) p

abbrev pub child_text : (ℕ → Option Record) → model.Child → List ℕ
child_text at c = child_line (display_in (at c.person)) c

-- partners, events, citations, children
abbrev pub family_text : Gathered → ℕ → model.Family → List ℕ
family_text g n f = family_head n ++ (flat_map (partner_text g.at) f.partners ++ (events_text g n
    ++ (citations_text g own_source n ++ flat_map (child_text g.at) f.children)))

abbrev pub family_in : Gathered → ℕ → Option Record → Result (List ℕ) RefusalKind
family_in g n None = Err NoSuch
family_in g n (Some (kind.Family f)) = Ok (family_text g n f)
family_in g n (Some r) = Err WrongKind

abbrev pub family_sheet : Records → ℕ → Result (List ℕ) RefusalKind
family_sheet m n = family_in (gathered m) n ((gathered m).at n)

-- ---- registers
-- an entry of that source with its mentions; of another record nothing
abbrev pub entry_in : ℕ → Option Record → List ℕ
entry_in source (Some (kind.Entry e)) = if e.source == source then entry_lines e else []
entry_in source _ = []

-- the entries of that source
abbrev pub entries_text : Gathered → ℕ → List ℕ
entries_text g source = flat_map (λ k. entry_in source (g.at k)) g.entries

abbrev pub register_text : Gathered → ℕ → model.Source → List ℕ
register_text g n s = register_head n s.title ++ entries_text g n

abbrev pub register_in : Gathered → ℕ → Option Record → Result (List ℕ) RefusalKind
register_in g n None = Err NoSuch
register_in g n (Some (kind.Source s)) = Ok (register_text g n s)
register_in g n (Some r) = Err WrongKind

abbrev pub register_sheet : Records → ℕ → Result (List ℕ) RefusalKind
register_sheet m n = register_in (gathered m) n ((gathered m).at n)

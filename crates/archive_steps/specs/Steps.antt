-- What each command makes of an archive, or the refusal that it gets: the texts are looked at first, then each number
-- in the order of its field, then what is the command's own, and last whether a number is left. Rules of our own.
use Rattle.std.specs.Prelude.{
  ℕ,
  ◌+◌,
  List,
  [],
  ◌∷◌,
  ◌++◌,
  Bool,
  true,
  false,
  not,
  ◌&&◌,
  ◌||◌,
  ◌==◌,
  ◌-◌,
  nat_le,
  length,
  take,
  drop,
  Option,
  Some,
  None,
  option_map,
  Result,
  Ok,
}
use Rattle.std.specs.List.{list_any}
use Rattle.std.specs.FinMap.{insert, remove}
use Rattle.record_text.specs.declared.refusal.RefusalKind.{RefusalKind}
use Rattle.record_text.specs.declared.refusal.RefusalKind.TheVariants.{
  SamePerson,
  AlreadyInFamily,
  BadText,
  NoSuchMention,
  StillNamed,
}
use Rattle.record_fields.specs.declared.date.Date.{Date}
use Rattle.record_fields.specs.declared.words.Quality.{Quality}
use Rattle.record_fields.specs.declared.words.Sex.{Sex}
use Rattle.record_fields.specs.declared.words.Partnership.{Partnership}
use Rattle.record_fields.specs.declared.words.Partnership.TheVariants.{Husband, Wife}
use Rattle.record_kinds.specs.Model as model
use Rattle.record_kinds.specs.declared.record.Record.{Record}
use Rattle.record_kinds.specs.declared.record.Record.TheVariants as kind
use Rattle.archive_state.specs.Content.{Content}
use Rattle.commands.specs.Given.{GivenDate}
use Rattle.commands.specs.Rows.{and_then}
use Rattle.commands.specs.declared.entry_row.EntryRow.{EntryRow}
use Rattle.commands.specs.declared.row_command.RowCommand.{RowCommand}
use Rattle.commands.specs.declared.row_command.RowCommand.TheVariants as row_command
use Rattle.command_checks.specs.Checks.{
  need,
  passed,
  each,
  place_name_in,
  path_fits,
  text_in,
  maybe_text_in,
  date_in,
  person_at,
  family_at,
  event_at,
  record_at,
  demanded_at,
  is_named,
  event_tag,
  said_place_at,
  next_free,
}
use Rattle.command_checks.specs.Entries.{texts_fit, reason_in, mentions_in, entry_at, key_is_free}
use Rattle.command_checks.specs.declared.kinds.Demand.TheVariants as demand
use Rattle.member_changes.specs.Steps.{partner, unchild, unparticipant, unpartner}
use Rattle.merging.specs.Steps.{RowStep, merge_step, undo_step}
use Rattle.place_names.specs.Steps.{correct}

-- a new record at the next number, where one is left
abbrev pub creates : Content → Record → RowStep
creates c r =
    and_then (next_free c) (λ n.
    Ok (record c { records = insert c.records n r; next = n + 1 }, record { first = n; count = 1 }))

-- another record at a number
abbrev pub replaces : Content → ℕ → Record → RowStep
replaces c n r = Ok (record c { records = insert c.records n r }, record { first = 0; count = 0 })

-- no record at a number
abbrev pub removes : Content → ℕ → RowStep
removes c n = Ok (record c { records = remove c.records n }, record { first = 0; count = 0 })

-- ---- persons
abbrev pub plain_name : List ℕ → model.Name
plain_name t = record { text = t; carried = [] }

abbrev pub plain_person : List ℕ → Option Sex → model.Person
plain_person t sex = record { names = plain_name t ∷ []; sex = sex; carried = [] }

abbrev pub with_name : List ℕ → model.Person → model.Person
with_name t p = record p { names = p.names ++ (plain_name t ∷ []) }

-- ---- families
abbrev pub plain_partner : Partnership → Option ℕ → List model.Partner
plain_partner as_what None = []
plain_partner as_what (Some n) = record { partnership = as_what; person = n; carried = []; carried_by_person = [] } ∷ []

abbrev pub plain_partners : Option ℕ → Option ℕ → List model.Partner
plain_partners husband wife = plain_partner Husband husband ++ plain_partner Wife wife

-- one person is given twice
abbrev pub is_same : Option ℕ → Option ℕ → Bool
is_same (Some m) (Some n) = m == n
is_same _ _ = false

abbrev pub is_partner : ℕ → model.Family → Bool
is_partner n f = list_any (λ (p : model.Partner). p.person == n) f.partners

abbrev pub is_child : ℕ → model.Family → Bool
is_child n f = list_any (λ (c : model.Child). c.person == n) f.children

abbrev pub plain_child : ℕ → model.Child
plain_child n = record { person = n; carried = []; carried_by_person = [] }

abbrev pub with_child : ℕ → model.Family → model.Family
with_child n f = record f { children = f.children ++ (plain_child n ∷ []) }

-- ---- events
abbrev pub plain_place : ℕ → model.EventPlace
plain_place n = record { place = n; carried = [] }

abbrev pub plain_participant : ℕ → List ℕ → model.Participant
plain_participant n role = record { person = n; role = role; carried = [] }

abbrev pub with_participant : ℕ → List ℕ → model.Event → model.Event
with_participant n role e = record e { participants = e.participants ++ (plain_participant n role ∷ []) }

-- what is given, or else what was there: a text where it is not empty
abbrev pub or_kept_text : List ℕ → List ℕ → List ℕ
or_kept_text [] old = old
or_kept_text (b ∷ bs) old = b ∷ bs

abbrev pub or_kept_date : Option Date → Option Date → Option Date
or_kept_date None old = old
or_kept_date (Some new) old = Some new

-- another place keeps the carried lines of the line of the place
abbrev pub or_kept_place : Option ℕ → Option model.EventPlace → Option model.EventPlace
or_kept_place None old = old
or_kept_place (Some n) None = Some (plain_place n)
or_kept_place (Some n) (Some p) = Some (record p { place = n })

abbrev pub with_fields : List ℕ → Option Date → Option ℕ → model.Event → model.Event
with_fields value date place e = record e {
  value = or_kept_text value e.value;
  date = or_kept_date date e.date;
  place = or_kept_place place e.place;
}

-- ---- places
abbrev pub place_within : List ℕ → Option ℕ → model.Place
place_within t parent = record { name = t; parent = parent; carried = [] }

-- ---- repositories, sources and citations
abbrev pub plain_repo : List ℕ → model.Repo
plain_repo t = record { name = Some t; carried = [] }

-- where a source is kept
abbrev pub plain_holdings : Option ℕ → Option (List ℕ) → List model.Holding
plain_holdings None call_number = []
plain_holdings (Some n) call_number = record { repo = n; call_number = call_number; carried = [] } ∷ []

abbrev pub plain_source : List ℕ → Option (List ℕ) → Option (List ℕ) → Option ℕ → Option (List ℕ) → model.Source
plain_source title author publisher repo call_number = record {
  title = Some title;
  author = author;
  publisher = publisher;
  holdings = plain_holdings repo call_number;
  carried = [];
}

-- a call number is given, and no repository
abbrev pub lacks_repo : Option ℕ → Option (List ℕ) → Bool
lacks_repo None (Some t) = true
lacks_repo _ _ = false

-- the source of these words: a call number without repository is refused
abbrev pub given_source : List ℕ → List ℕ → List ℕ → Option ℕ → List ℕ → Result model.Source RefusalKind
given_source title author publisher repo call_number =
    and_then (text_in title) (λ t.
    and_then (maybe_text_in author) (λ a.
    and_then (maybe_text_in publisher) (λ p.
    and_then (maybe_text_in call_number) (λ n.
    and_then (need (not (lacks_repo repo n)) BadText) (λ _.
    Ok (plain_source t a p repo n))))))

abbrev pub plain_citation : ℕ → ℕ → Option (List ℕ) → Option Quality → model.Citation
plain_citation owner source page quality = record {
  owner = owner;
  source = source;
  page = page;
  quality = quality;
  carried = [];
}

-- ---- register entries
-- the entry that a row gives of a source; its mentions are of no person yet
abbrev pub entry_of : ℕ → EntryRow → Result model.Entry RefusalKind
entry_of source e =
    and_then (text_in e.page) (λ p.
    and_then (text_in e.text) (λ t.
    and_then (each date_in e.date) (λ d.
    and_then (mentions_in e.kind e.mentions) (λ ms.
    Ok (record {
      source = source;
      kind = e.kind;
      page = p;
      item = e.item;
      date = d;
      place = e.place;
      text = t;
      mentions = ms;
    })))))

-- a mention of that place, from 1, is there
abbrev pub has_mention : ℕ → model.Entry → Bool
has_mention k e = nat_le 1 k && nat_le k (length e.mentions)

-- the first of these mentions has that link, or none
abbrev pub linked : Option model.Link → List model.Mention → List model.Mention
linked link [] = []
linked link (m ∷ ms) = record m { link = link } ∷ ms

-- the mention of that place has it
abbrev pub with_link : ℕ → Option model.Link → model.Entry → model.Entry
with_link k link e = record e { mentions = take (k - 1) e.mentions ++ linked link (drop (k - 1) e.mentions) }

-- ---- the commands
abbrev pub new_person : Content → List ℕ → Option Sex → RowStep
new_person c name sex =
    and_then (text_in name) (λ t.
    creates c (kind.Person (plain_person t sex)))

abbrev pub add_name : Content → ℕ → List ℕ → RowStep
add_name c n name =
    and_then (text_in name) (λ t.
    and_then (person_at c n) (λ p.
    replaces c n (kind.Person (with_name t p))))

abbrev pub set_sex : Content → ℕ → Sex → RowStep
set_sex c n sex =
    and_then (person_at c n) (λ p.
    replaces c n (kind.Person (record p { sex = Some sex })))

abbrev pub new_family : Content → Option ℕ → Option ℕ → RowStep
new_family c husband wife =
    and_then (passed (each (person_at c) husband)) (λ _.
    and_then (passed (each (person_at c) wife)) (λ _.
    and_then (need (not (is_same husband wife)) SamePerson) (λ _.
    creates c (kind.Family (record { partners = plain_partners husband wife; children = []; carried = [] })))))

abbrev pub add_child : Content → ℕ → ℕ → RowStep
add_child c n person =
    and_then (family_at c n) (λ f.
    and_then (passed (person_at c person)) (λ _.
    and_then (need (not (is_partner person f || is_child person f)) AlreadyInFamily) (λ _.
    replaces c n (kind.Family (with_child person f)))))

abbrev pub new_event : Content → ℕ → List ℕ → List ℕ → Option GivenDate → Option ℕ → RowStep
new_event c owner tag value date place =
    and_then (text_in tag) (λ t.
    and_then (text_in value) (λ v.
    and_then (each date_in date) (λ d.
    and_then (event_tag c owner place t) (λ tag.
    creates c (kind.Event (record {
      owner = owner;
      tag = tag;
      value = v;
      date = d;
      place = option_map plain_place place;
      participants = [];
      carried = [];
    }))))))

abbrev pub amend_event : Content → ℕ → List ℕ → Option GivenDate → Option ℕ → RowStep
amend_event c n value date place =
    and_then (text_in value) (λ v.
    and_then (each date_in date) (λ d.
    and_then (event_at c n) (λ e.
    and_then (passed (each (said_place_at c) place)) (λ _.
    replaces c n (kind.Event (with_fields v d place e))))))

abbrev pub add_participant : Content → ℕ → ℕ → List ℕ → RowStep
add_participant c n person role =
    and_then (text_in role) (λ r.
    and_then (event_at c n) (λ e.
    and_then (passed (person_at c person)) (λ _.
    replaces c n (kind.Event (with_participant person r e)))))

abbrev pub new_place : Content → List ℕ → Option ℕ → RowStep
new_place c name parent =
    and_then (place_name_in name) (λ t.
    and_then (passed (each (demanded_at c demand.Place) parent)) (λ _.
    and_then (path_fits c t parent) (λ _.
    creates c (kind.Place (place_within t parent)))))

abbrev pub new_repo : Content → List ℕ → RowStep
new_repo c name =
    and_then (text_in name) (λ t.
    creates c (kind.Repo (plain_repo t)))

abbrev pub new_source : Content → List ℕ → List ℕ → List ℕ → Option ℕ → List ℕ → RowStep
new_source c title author publisher repo call_number =
    and_then (given_source title author publisher repo call_number) (λ s.
    and_then (passed (each (demanded_at c demand.Repo) repo)) (λ _.
    creates c (kind.Source s)))

abbrev pub new_citation : Content → ℕ → ℕ → List ℕ → Option Quality → RowStep
new_citation c owner source page quality =
    and_then (maybe_text_in page) (λ p.
    and_then (demanded_at c demand.Cited owner) (λ _.
    and_then (demanded_at c demand.Source source) (λ _.
    creates c (kind.Citation (plain_citation owner source p quality)))))

-- the words are looked at first, and the roles of mentions and the key after source and place
abbrev pub new_entry : Content → ℕ → EntryRow → RowStep
new_entry c source row =
    and_then (texts_fit row) (λ _.
    and_then (demanded_at c demand.Source source) (λ _.
    and_then (passed (each (said_place_at c) row.place)) (λ _.
    and_then (entry_of source row) (λ e.
    and_then (key_is_free c.records source e.kind e.page e.item) (λ _.
    creates c (kind.Entry e))))))

-- the entry of a number, with another link of a mention, or none
abbrev pub relinked : Content → ℕ → model.Entry → ℕ → Option model.Link → RowStep
relinked c n e k link =
    and_then (need (has_mention k e) NoSuchMention) (λ _.
    replaces c n (kind.Entry (with_link k link e)))

abbrev pub link_mention : Content → ℕ → ℕ → ℕ → List ℕ → RowStep
link_mention c n k person reason =
    and_then (reason_in reason) (λ t.
    and_then (entry_at c n) (λ e.
    and_then (passed (person_at c person)) (λ _.
    relinked c n e k (Some (record { person = person; reason = t })))))

abbrev pub unlink_mention : Content → ℕ → ℕ → RowStep
unlink_mention c n k =
    and_then (entry_at c n) (λ e.
    relinked c n e k None)

-- one that only names itself can be removed
abbrev pub remove_record : Content → ℕ → RowStep
remove_record c n =
    and_then (record_at c n) (λ _.
    and_then (need (not (is_named c n)) StillNamed) (λ _.
    removes c n))

abbrev pub row_step : Content → RowCommand → RowStep
row_step c (row_command.Person name sex) = new_person c name sex
row_step c (row_command.Name person name) = add_name c person name
row_step c (row_command.Sex person sex) = set_sex c person sex
row_step c (row_command.Family husband wife) = new_family c husband wife
row_step c (row_command.Child family person) = add_child c family person
row_step c (row_command.Event owner tag value date place) = new_event c owner tag value date place
row_step c (row_command.Amend event value date place) = amend_event c event value date place
row_step c (row_command.Participant event person role) = add_participant c event person role
row_step c (row_command.Place name parent) = new_place c name parent
row_step c (row_command.Repo name) = new_repo c name
row_step c (row_command.Source title author publisher repo call_number) =
    new_source c title author publisher repo call_number
row_step c (row_command.Citation owner source page quality) = new_citation c owner source page quality
row_step c (row_command.Entry source entry) = new_entry c source entry
row_step c (row_command.Link entry mention person reason) = link_mention c entry mention person reason
row_step c (row_command.Unlink entry mention) = unlink_mention c entry mention
row_step c (row_command.Merge keep gone) = merge_step c keep gone
row_step c (row_command.Undo slip) = undo_step c slip
row_step c (row_command.Remove number) = remove_record c number
row_step c (row_command.Partner family partnership person) = partner c family partnership person
row_step c (row_command.Unpartner family person) = unpartner c family person
row_step c (row_command.Unchild family person) = unchild c family person
row_step c (row_command.Unparticipant event place) = unparticipant c event place
row_step c (row_command.Correct number given) = correct c number given

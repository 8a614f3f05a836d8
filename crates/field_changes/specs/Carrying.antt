-- Carried lines that would be read as a field of their record, since the record has not the field: what the tables of
-- `record_shapes` take (The GEDCOM Standard Release 5.5.1, chapter 2).
use Rattle.std.specs.Prelude.{ℕ, ◌&&◌, ◌||◌, not, Bool, false, codes}
use Rattle.std.specs.List.{list_any}
use Rattle.stored_lines.specs.Tree.{Tree}
use Rattle.stored_lines.specs.Line.{Line}
use Rattle.record_fields.specs.Words.{quality_of, sex_of}
use Rattle.record_kinds.specs.Model as model
use Rattle.record_kinds.specs.declared.record.Record.{Record}
use Rattle.record_kinds.specs.declared.record.Record.TheVariants as kind
use Rattle.record_shapes.specs.Fields.{is_place_text}
use Rattle.record_shapes.specs.Forms.{is_bare, is_some, is_text, tagged, text_of}

-- ---- lines
abbrev pub is_sex : Tree Line → Bool
is_sex t = tagged (codes "SEX") t && (is_bare t && is_some (sex_of (text_of t)))

abbrev pub is_date : Tree Line → Bool
is_date t = tagged (codes "DATE") t && is_bare t

abbrev pub is_place : Tree Line → Bool
is_place t = tagged (codes "PLAC") t && (is_text t && is_place_text (text_of t))

abbrev pub is_author : Tree Line → Bool
is_author t = tagged (codes "AUTH") t && is_bare t

abbrev pub is_publisher : Tree Line → Bool
is_publisher t = tagged (codes "PUBL") t && is_bare t

abbrev pub is_call_number : Tree Line → Bool
is_call_number t = tagged (codes "CALN") t && is_bare t

abbrev pub is_page : Tree Line → Bool
is_page t = tagged (codes "PAGE") t && is_bare t

abbrev pub is_quality : Tree Line → Bool
is_quality t = tagged (codes "QUAY") t && (is_bare t && is_some (quality_of (text_of t)))

-- ---- records
abbrev pub event_still_carries : model.Event → Bool
event_still_carries e =
    (not (is_some e.date) && list_any is_date e.carried) || (not (is_some e.place) && list_any is_place e.carried)

abbrev pub holding_still_carries : model.Holding → Bool
holding_still_carries h = not (is_some h.call_number) && list_any is_call_number h.carried

abbrev pub source_still_carries : model.Source → Bool
source_still_carries s =
    (not (is_some s.author) && list_any is_author s.carried)
    || ((not (is_some s.publisher) && list_any is_publisher s.carried) || list_any holding_still_carries s.holdings)

abbrev pub citation_still_carries : model.Citation → Bool
citation_still_carries c =
    (not (is_some c.page) && list_any is_page c.carried)
    || (not (is_some c.quality) && list_any is_quality c.carried)

-- of a field that a correction can take away; what stays of a place, a repository and an entry has no such line
abbrev pub still_carried : Record → Bool
still_carried (kind.Person p) = not (is_some p.sex) && list_any is_sex p.carried
still_carried (kind.Event e) = event_still_carries e
still_carried (kind.Source s) = source_still_carries s
still_carried (kind.Citation c) = citation_still_carries c
still_carried _ = false

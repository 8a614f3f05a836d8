-- Lines are those of an entry, with their numbers changed and without.
use Rattle.std.proofs.Common.{◌≡◌, ℕ, suc, List, [], ◌∷◌, ◌++◌, true, refl, sym, ap, ◌∙◌}
use Rattle.std.specs.Prelude.{Option, Some, None, option_map, map, length, codes, decimal, nat_le, bytes_eq, ◌&&◌}
use Rattle.std.specs.List.{list_all}
use Rattle.std.specs.Option.{unwrap_or}
use Rattle.stored_lines.specs.Tree.{Tree, Forest, node, none, more, forest_of, label, children, relabel, relabel_all}
use Rattle.stored_lines.specs.Line.{Line, Lines}
use Rattle.stored_lines.specs.declared.carried.Value.{Value}
use Rattle.stored_lines.specs.declared.carried.Value.TheVariants as value
use Rattle.record_fields.specs.Dated.{date_text}
use Rattle.record_fields.specs.Words.{entry_kind_word, role_word}
use Rattle.record_fields.specs.declared.date.Date.{Date}
use Rattle.record_fields.specs.declared.entry_words.EntryKind.{EntryKind}
use Rattle.record_kinds.specs.Model as model
use Rattle.record_shapes.specs.Forms.{Known}
use Rattle.record_shapes.specs.Roles.{is_role_of}
use Rattle.record_shapes.specs.Shapes.{
  entry_lines,
  entry_place_lines,
  link_lines,
  mention_line,
  pointer_line,
  text_line,
  text_lines,
}
use Rattle.record_shapes.specs.Entries.{around, entry_of, is_entry, is_said, names_person}
use Rattle.archive_state.specs.Merging.{value_with, line_with, lines_with, link_with, mention_with, entry_with}
use Rattle.archive_state.proofs.Untaken.{through}
use Rattle.record_shapes.proofs.EntryLines.{of_lines, none_of_number, is_of}

-- ---- what is an entry

module _ (f : ℕ → ℕ) where
  -- ---- what lines were before their numbers were changed
  record CameFrom (ts : Lines) (first : Tree Line) (rest : Lines) : Type 0 where
    t : Tree Line
    us : Lines
    whole : t ∷ us ≡ ts
    of_first : relabel (line_with f) t ≡ first
    of_rest : lines_with f us ≡ rest

  cons_from : (ts : Lines) (first : Tree Line) (rest : Lines) → lines_with f ts ≡ first ∷ rest → CameFrom ts first rest
  cons_from [] first rest e = absurd cc
  cons_from (t ∷ us) first rest e =
      let a : relabel (line_with f) t ≡ first = cc in
      let b : lines_with f us ≡ rest = cc in
      record { t = t; us = us; whole = refl; of_first = a; of_rest = b }

  record Grew (g : Forest Line) (first : Tree Line) (rest : Forest Line) : Type 0 where
    t : Tree Line
    h : Forest Line
    whole : more t h ≡ g
    of_first : relabel (line_with f) t ≡ first
    of_rest : relabel_all (line_with f) h ≡ rest

  more_from : (g : Forest Line) (first : Tree Line) (rest : Forest Line) → relabel_all (line_with f) g ≡ more first rest
      → Grew g first rest
  more_from none first rest e = absurd cc
  more_from (more t h) first rest e =
      let a : relabel (line_with f) t ≡ first = cc in
      let b : relabel_all (line_with f) h ≡ rest = cc in
      record { t = t; h = h; whole = refl; of_first = a; of_rest = b }

  none_from : (g : Forest Line) → relabel_all (line_with f) g ≡ none → none ≡ g
  none_from none e = refl
  none_from (more t h) e = absurd cc

  text_value : (v : Value) (t : List ℕ) → value_with f v ≡ value.Text t → value.Text t ≡ v
  text_value (value.Text s) t e = sym e
  text_value (value.Ref n) t e = absurd cc

  number_value : (v : Value) (n : ℕ) → value_with f v ≡ value.Ref n → (k : ℕ) × (f k ≡ n) × (value.Ref k ≡ v)
  number_value (value.Text s) n e = absurd cc
  number_value (value.Ref k) n e = let a : f k ≡ n = cc in (k, a, refl)

  -- a line of a text, and what was below it
  text_from : (t : Tree Line) (tag text : List ℕ) (g : Forest Line) → relabel (line_with f) t
      ≡ node (record { tag = tag; value = value.Text text }) g
      → (h : Forest Line) × (relabel_all (line_with f) h ≡ g)
      × (node (record { tag = tag; value = value.Text text }) h ≡ t)
  text_from (node l h) tag text g e =
      let of_tag : l.tag ≡ tag = ap (λ (x : Tree Line). (label x).tag) e in
      let of_value : value.Text text ≡ l.value = text_value l.value text (ap (λ (x : Tree Line). (label x).value) e) in
      (h, ap children e, λ i. node (record { tag = sym of_tag i; value = of_value i }) h)

  -- a line of a pointer
  number_from : (t : Tree Line) (tag : List ℕ) (n : ℕ) (g : Forest Line) → relabel (line_with f) t
      ≡ node (record { tag = tag; value = value.Ref n }) g
      → (k : ℕ) × (f k ≡ n) × ((h : Forest Line) × (relabel_all (line_with f) h ≡ g)
      × (node (record { tag = tag; value = value.Ref k }) h ≡ t))
  number_from (node l h) tag n g e =
      let of_tag : l.tag ≡ tag = ap (λ (x : Tree Line). (label x).tag) e in
      let of_value = number_value l.value n (ap (λ (x : Tree Line). (label x).value) e) in
      (of_value.0, of_value.1, (h, ap children e, λ i. node (record { tag = sym of_tag i; value = of_value.2 i }) h))

  -- the same without lines below
  bare_text : (t : Tree Line) (tag text : List ℕ) → relabel (line_with f) t ≡ text_line tag text
      → text_line tag text ≡ t
  bare_text t tag text e =
      let x = text_from t tag text none e in
      ap (λ h. node (record { tag = tag; value = value.Text text }) h) (none_from x.0 x.1) ∙ x.2

  bare_number : (t : Tree Line) (tag : List ℕ) (n : ℕ) → relabel (line_with f) t ≡ pointer_line tag n []
      → (k : ℕ) × (f k ≡ n) × (pointer_line tag k [] ≡ t)
  bare_number t tag n e =
      let x = number_from t tag n none e in
      let y = x.2 in
      (x.0, x.1, ap (λ h. node (record { tag = tag; value = value.Ref x.0 }) h) (none_from y.0 y.1) ∙ y.2)

  -- ---- mentions
  link_from : (o : Option model.Link) (g : Forest Line) → relabel_all (line_with f) g ≡ forest_of (link_lines o)
      → (p : Option model.Link) × (option_map (link_with f) p ≡ o) × (forest_of (link_lines p) ≡ g)
  link_from None g e = (None, refl, none_from g e)
  link_from (Some l) g e =
      let x = more_from g (pointer_line (codes "_LINK") l.person (text_line (codes "_WHY") l.reason ∷ [])) none e in
      let y = number_from x.t (codes "_LINK") l.person (more (text_line (codes "_WHY") l.reason) none) x.of_first in
      let below = y.2 in
      let z = more_from below.0 (text_line (codes "_WHY") l.reason) none below.1 in
      let why : text_line (codes "_WHY") l.reason ≡ z.t = bare_text z.t (codes "_WHY") l.reason z.of_first in
      let under : more (text_line (codes "_WHY") l.reason) none
      ≡ below.0 = (λ i. more (why i) (none_from z.h z.of_rest i)) ∙ z.whole in
      let line : pointer_line (codes "_LINK") y.0 (text_line (codes "_WHY") l.reason ∷ []) ≡ x.t = ap
      (λ h. node (record { tag = codes "_LINK"; value = value.Ref y.0 }) h) under ∙ below.2 in (
        Some (record { person = y.0; reason = l.reason }),
        λ i. Some (record { person = y.1 i; reason = l.reason }),
        (λ i. more (line i) (none_from x.h x.of_rest i)) ∙ x.whole,
      )

  mention_from : (m : model.Mention) (t : Tree Line) → relabel (line_with f) t ≡ mention_line m
      → (n : model.Mention) × (mention_with f n ≡ m) × (mention_line n ≡ t)
  mention_from m t e =
      let x = text_from t (codes "_MENT") m.name
      (more (text_line (codes "_ROLE") (role_word m.role)) (forest_of (link_lines m.link))) e in
      let y = more_from x.0 (text_line (codes "_ROLE") (role_word m.role)) (forest_of (link_lines m.link)) x.1 in
      let said : text_line (codes "_ROLE") (role_word m.role) ≡ y.t = bare_text y.t (codes "_ROLE")
      (role_word m.role) y.of_first in
      let link = link_from m.link y.h y.of_rest in (
        record { role = m.role; name = m.name; link = link.0 },
        λ i. record { role = m.role; name = m.name; link = link.1 i },
        ap (λ h. node (record { tag = codes "_MENT"; value = value.Text m.name }) h)
            ((λ i. more (said i) (link.2 i)) ∙ y.whole) ∙ x.2,
      )

  mentions_from : (ms : List model.Mention) (ts : Lines) → lines_with f ts ≡ map mention_line ms
      → (ns : List model.Mention) × (map (mention_with f) ns ≡ ms) × (map mention_line ns ≡ ts)
  mentions_from [] [] e = ([], refl, refl)
  mentions_from [] (t ∷ ts) e = absurd cc
  mentions_from (m ∷ ms) ts e =
      let x = cons_from ts (mention_line m) (map mention_line ms) e in
      let one = mention_from m x.t x.of_first in
      let all = mentions_from ms x.us x.of_rest in
      (one.0 ∷ all.0, λ i. one.1 i ∷ all.1 i, (λ i. one.2 i ∷ all.2 i) ∙ x.whole)

  -- ---- the lines of an entry
  module _ (known : Known) where
    abbrev Text : List ℕ → List model.Mention → Lines
    Text text ms = text_line (codes "TEXT") text ∷ map mention_line ms

    text_rest : (text : List ℕ) (ms : List model.Mention) (ts : Lines) → lines_with f ts ≡ Text text ms
        → (ns : List model.Mention) × (map (mention_with f) ns ≡ ms) × (Text text ns ≡ ts)
    text_rest text ms ts e =
        let x = cons_from ts (text_line (codes "TEXT") text) (map mention_line ms) e in
        let all = mentions_from ms x.us x.of_rest in
        (all.0, all.1, (λ i. bare_text x.t (codes "TEXT") text x.of_first i ∷ all.2 i) ∙ x.whole)

    -- the place and what stands after it
    record PlaceRest (place : Option ℕ) (text : List ℕ) (ms : List model.Mention) (ts : Lines) : Type 0 where
      q : Option ℕ
      ns : List model.Mention
      placed : option_map f q ≡ place
      mentioned : map (mention_with f) ns ≡ ms
      whole : entry_place_lines (around (through f known)) q ++ Text text ns ≡ ts

    place_rest : (place : Option ℕ) (text : List ℕ) (ms : List model.Mention) (ts : Lines)
        → lines_with f ts ≡ entry_place_lines (around known) place ++ Text text ms → PlaceRest place text ms ts
    place_rest None text ms ts e = let rest = text_rest text ms ts e in
        record { q = None; ns = rest.0; placed = refl; mentioned = rest.1; whole = rest.2 }
    place_rest (Some n) text ms ts e =
        let path : List ℕ = unwrap_or (known.path n) [] in
        let x = cons_from ts (node (record { tag = codes "PLAC"; value = value.Text path })
        (more (pointer_line (codes "_LOC") n []) none)) (Text text ms) e in
        let y = text_from x.t (codes "PLAC") path (more (pointer_line (codes "_LOC") n []) none) x.of_first in
        let z = more_from y.0 (pointer_line (codes "_LOC") n []) none y.1 in
        let loc = bare_number z.t (codes "_LOC") n z.of_first in
        let under : more (pointer_line (codes "_LOC") loc.0 []) none
        ≡ y.0 = (λ i. more (loc.2 i) (none_from z.h z.of_rest i)) ∙ z.whole in
        let line : node (record { tag = codes "PLAC"; value = value.Text (unwrap_or (known.path (f loc.0)) []) })
        (more (pointer_line (codes "_LOC") loc.0 []) none) ≡ x.t =
        (λ i. node (record { tag = codes "PLAC"; value = value.Text (unwrap_or (known.path (loc.1 i)) []) }) (under i))
        ∙ y.2 in
        let rest = text_rest text ms x.us x.of_rest in
        record {
          q = Some loc.0;
          ns = rest.0;
          placed = ap Some loc.1;
          mentioned = rest.1;
          whole = (λ i. line i ∷ rest.2 i) ∙ x.whole;
        }

    abbrev Dated : Option Date → Lines → Lines
    Dated d ts = text_lines (codes "DATE") (option_map date_text d) ++ ts

    -- the date before them
    record DateRest (d : Option Date) (place : Option ℕ) (text : List ℕ) (ms : List model.Mention)
        (ts : Lines) : Type 0 where
      q : Option ℕ
      ns : List model.Mention
      placed : option_map f q ≡ place
      mentioned : map (mention_with f) ns ≡ ms
      whole : Dated d (entry_place_lines (around (through f known)) q ++ Text text ns) ≡ ts

    date_rest : (d : Option Date) (place : Option ℕ) (text : List ℕ) (ms : List model.Mention) (ts : Lines)
        → lines_with f ts ≡ Dated d (entry_place_lines (around known) place ++ Text text ms)
        → DateRest d place text ms ts
    date_rest None place text ms ts e = let rest = place_rest place text ms ts e in
        record { q = rest.q; ns = rest.ns; placed = rest.placed; mentioned = rest.mentioned; whole = rest.whole }
    date_rest (Some d) place text ms ts e =
        let x = cons_from ts (text_line (codes "DATE") (date_text d))
        (entry_place_lines (around known) place ++ Text text ms) e in
        let rest = place_rest place text ms x.us x.of_rest in
        record {
          q = rest.q;
          ns = rest.ns;
          placed = rest.placed;
          mentioned = rest.mentioned;
          whole = (λ i. bare_text x.t (codes "DATE") (date_text d) x.of_first i ∷ rest.whole i) ∙ x.whole;
        }

    -- the entry whose lines they were
    record WasOf (e : model.Entry) (ts : Lines) : Type 0 where
      old : model.Entry
      same : entry_with f old ≡ e
      whole : entry_lines (around (through f known)) old ≡ ts

    lines_from : (e : model.Entry) (ts : Lines) → lines_with f ts ≡ entry_lines (around known) e → WasOf e ts
    lines_from e ts is =
        let rest_a : Lines = Dated e.date (entry_place_lines (around known) e.place ++ Text e.text e.mentions) in
        let rest_b : Lines = text_line (codes "_ITEM") (decimal e.item.number) ∷ rest_a in
        let rest_c : Lines = text_line (codes "PAGE") e.page ∷ rest_b in
        let a = cons_from ts (pointer_line (codes "SOUR") e.source []) rest_c is in
        let source = bare_number a.t (codes "SOUR") e.source a.of_first in
        let b = cons_from a.us (text_line (codes "PAGE") e.page) rest_b a.of_rest in
        let c = cons_from b.us (text_line (codes "_ITEM") (decimal e.item.number)) rest_a b.of_rest in
        let rest = date_rest e.date e.place e.text e.mentions c.us c.of_rest in
        let behind_c : text_line (codes "_ITEM") (decimal e.item.number) ∷ Dated e.date
        (entry_place_lines (around (through f known)) rest.q ++ Text e.text rest.ns) ≡ b.us =
        (λ i. bare_text c.t (codes "_ITEM") (decimal e.item.number) c.of_first i ∷ rest.whole i) ∙ c.whole in
        let behind_b : text_line (codes "PAGE") e.page
        ∷ (text_line (codes "_ITEM") (decimal e.item.number) ∷ Dated e.date
        (entry_place_lines (around (through f known)) rest.q ++ Text e.text rest.ns)) ≡ a.us =
        (λ i. bare_text b.t (codes "PAGE") e.page b.of_first i ∷ behind_c i) ∙ b.whole in
        record {
          old = record {
            source = source.0;
            kind = e.kind;
            page = e.page;
            item = e.item;
            date = e.date;
            place = rest.q;
            text = e.text;
            mentions = rest.ns;
          };
          same = λ i. record {
            source = source.1 i;
            kind = e.kind;
            page = e.page;
            item = e.item;
            date = e.date;
            place = rest.placed i;
            text = e.text;
            mentions = rest.mentioned i;
          };
          whole = (λ i. source.2 i ∷ behind_b i) ∙ a.whole;
        }

    -- ---- the rules on it
    said_with : (o : Option ℕ) → is_said known (option_map f o) ≡ is_said (through f known) o
    said_with None = refl
    said_with (Some n) = refl

    length_with : (ms : List model.Mention) → length (map (mention_with f) ms) ≡ length ms
    length_with [] = refl
    length_with (m ∷ ms) = ap suc (length_with ms)

    person_with : (o : Option model.Link) → names_person known (option_map (link_with f) o) ≡ names_person
        (through f known) o
    person_with None = refl
    person_with (Some l) = refl

    mentions_with : (what : EntryKind) (ms : List model.Mention)
        → list_all (λ (m : model.Mention). is_role_of what m.role && names_person known m.link)
        (map (mention_with f) ms)
        ≡ list_all (λ (m : model.Mention). is_role_of what m.role && names_person (through f known) m.link) ms
    mentions_with what [] = refl
    mentions_with what (m ∷ ms) = λ i. (is_role_of what m.role && person_with m.link i) && mentions_with what ms i

    entry_before : (e : model.Entry) → is_entry known (entry_with f e) ≡ is_entry (through f known) e
    entry_before e = λ i. bytes_eq (known.tag (f e.source)) (codes "SOUR") && (said_with e.place i
        && (nat_le 1 (length_with e.mentions i) &&
        (nat_le (length_with e.mentions i) 100 && mentions_with e.kind e.mentions i)))

    was_entry : (word : List ℕ) (ts : Lines) (e : model.Entry) → entry_of known (value.Text word) (lines_with f ts)
        ≡ Some e → (old : model.Entry) × (entry_of (through f known) (value.Text word) ts ≡ Some old)
    was_entry word ts e is =
        let new = is_of known word (lines_with f ts) e is in
        let was = lines_from new.e ts new.lines in
        let keeps : is_entry (through f known) was.old ≡ true = sym (entry_before was.old)
        ∙ ap (is_entry known) was.same ∙ new.rules in (
          was.old,
          of_lines (through f known) was.old word ts keeps
              (ap (λ (x : model.Entry). entry_kind_word x.kind) was.same ∙ new.called) was.whole,
        )

    -- ---- and the other way round
    mention_renamed : (m : model.Mention) → relabel (line_with f) (mention_line m) ≡ mention_line (mention_with f m)
    mention_renamed m = by m.link
      where
        by : (l : Option model.Link) → relabel (line_with f)
            (mention_line (record { role = m.role; name = m.name; link = l })) ≡ mention_line
            (mention_with f (record { role = m.role; name = m.name; link = l }))
        by None = refl
        by (Some l) = refl

    mentions_renamed : (ms : List model.Mention) → lines_with f (map mention_line ms) ≡ map mention_line
        (map (mention_with f) ms)
    mentions_renamed [] = refl
    mentions_renamed (m ∷ ms) = λ i. mention_renamed m i ∷ mentions_renamed ms i

    text_renamed : (text : List ℕ) (ms : List model.Mention) → lines_with f (Text text ms) ≡ Text text
        (map (mention_with f) ms)
    text_renamed text ms = λ i. text_line (codes "TEXT") text ∷ mentions_renamed ms i

    place_renamed : (place : Option ℕ) (text : List ℕ) (ms : List model.Mention)
        → lines_with f (entry_place_lines (around (through f known)) place ++ Text text ms) ≡ entry_place_lines
        (around known) (option_map f place) ++ Text text (map (mention_with f) ms)
    place_renamed None text ms = text_renamed text ms
    place_renamed (Some n) text ms =
        ap (λ ts. node (record { tag = codes "PLAC"; value = value.Text (unwrap_or (known.path (f n)) []) })
        (more (pointer_line (codes "_LOC") (f n) []) none) ∷ ts) (text_renamed text ms)

    date_renamed : (d : Option Date) (place : Option ℕ) (text : List ℕ) (ms : List model.Mention)
        → lines_with f (Dated d (entry_place_lines (around (through f known)) place ++ Text text ms))
        ≡ Dated d (entry_place_lines (around known) (option_map f place) ++ Text text (map (mention_with f) ms))
    date_renamed None place text ms = place_renamed place text ms
    date_renamed (Some d) place text ms = ap (λ ts. text_line (codes "DATE") (date_text d) ∷ ts)
        (place_renamed place text ms)

    lines_renamed : (e : model.Entry) → lines_with f (entry_lines (around (through f known)) e)
        ≡ entry_lines (around known) (entry_with f e)
    lines_renamed e = ap (λ ts. pointer_line (codes "SOUR") (f e.source) []
        ∷ (text_line (codes "PAGE") e.page ∷ (text_line (codes "_ITEM") (decimal e.item.number) ∷ ts)))
        (date_renamed e.date e.place e.text e.mentions)

    is_entry_then : (word : List ℕ) (ts : Lines) (e : model.Entry) → entry_of (through f known) (value.Text word) ts
        ≡ Some e → (new : model.Entry) × (entry_of known (value.Text word) (lines_with f ts) ≡ Some new)
    is_entry_then word ts e is =
        let old = is_of (through f known) word ts e is in (
          entry_with f old.e,
          of_lines known (entry_with f old.e) word (lines_with f ts)
              (entry_before old.e ∙ old.rules) old.called
              (sym (lines_renamed old.e) ∙ ap (lines_with f) (sym old.lines)),
        )

    -- ---- what is none
    none_with : (word : List ℕ) (ts : Lines) → entry_of (through f known) (value.Text word) ts ≡ None
        → (o : Option model.Entry) → entry_of known (value.Text word) (lines_with f ts) ≡ o → o ≡ None
    none_with word ts before None e = refl
    none_with word ts before (Some x) e = let was = was_entry word ts x e in
        let both : None ≡ Some was.0 = sym before ∙ was.1 in absurd cc

    none_back : (word : List ℕ) (ts : Lines) → entry_of known (value.Text word) (lines_with f ts) ≡ None
        → (o : Option model.Entry) → entry_of (through f known) (value.Text word) ts ≡ o → o ≡ None
    none_back word ts after None e = refl
    none_back word ts after (Some x) e = let new = is_entry_then word ts x e in
        let both : None ≡ Some new.0 = sym after ∙ new.1 in absurd cc

    pub no_entry_with : (v : Value) (ts : Lines) → entry_of (through f known) v ts ≡ None
        → entry_of known (value_with f v) (lines_with f ts) ≡ None
    no_entry_with (value.Ref n) ts before = none_of_number known (f n) (lines_with f ts)
    no_entry_with (value.Text word) ts before = none_with word ts before
        (entry_of known (value.Text word) (lines_with f ts)) refl

    pub no_entry_back : (v : Value) (ts : Lines) → entry_of known (value_with f v) (lines_with f ts) ≡ None
        → entry_of (through f known) v ts ≡ None
    no_entry_back (value.Ref n) ts after = none_of_number (through f known) n ts
    no_entry_back (value.Text word) ts after = none_back word ts after
        (entry_of (through f known) (value.Text word) ts) refl

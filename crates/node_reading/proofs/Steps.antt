-- A part of a record that is read with one line more.
use Rattle.std.specs.Prelude.{◌≡◌, ◌&&◌, ◌||◌, Bool, true, false, [], ◌∷◌, ◌++◌, codes, map, refl}
use Rattle.std.proofs.Common.{sym, ◌∙◌}
use Rattle.stored_lines.specs.Tree.{Tree}
use Rattle.stored_lines.specs.Line.{Line, Lines}
use Rattle.record_kinds.specs.Model as model
use Rattle.record_fields.specs.Words.{quality_of}
use Rattle.record_shapes.specs.declared.field.Field.{Field}
use Rattle.record_shapes.specs.Forms.{Known, is_bare, is_some, names_a, tagged, text_of, value_of}
use Rattle.record_shapes.specs.Fields.{
  a_holding,
  a_page,
  a_publisher,
  a_quality,
  a_title,
  an_author,
  carried,
  citation_field,
  is_same,
  row,
  source_field,
}
use Rattle.record_shapes.specs.Picking.{is_left}
use Rattle.record_shapes.specs.Reading.{holding_from, read_by}
use Rattle.node_reading.specs.Partly.{citation_with, source_with, unless}
use Rattle.node_reading.proofs.Picked.{all_past, is_first, left_kept, missing_more, missing_one, row_is, told_same}

citation_fields : (t : Tree Line) → is_left (a_page ∷ a_quality ∷ []) (citation_field t) ≡ true
citation_fields t =
    row_is (is_left (a_page ∷ a_quality ∷ [])) (tagged (codes "PAGE") t && is_bare t) a_page
    (row (tagged (codes "QUAY") t && (is_bare t && is_some (quality_of (text_of t)))) a_quality carried) refl
    (row_is (is_left (a_page ∷ a_quality ∷ []))
    (tagged (codes "QUAY") t && (is_bare t && is_some (quality_of (text_of t))))
    a_quality carried refl refl)

pub citation_carried : (c : model.Citation) (t : Tree Line) → is_first (citation_field t) a_page c.page ≡ false
    → is_first (citation_field t) a_quality c.quality ≡ false → (ts : Lines)
    → citation_with (record {
      owner = c.owner;
      source = c.source;
      page = c.page;
      quality = c.quality;
      carried = c.carried ++ t ∷ [];
    }) ts ≡ citation_with c (t ∷ ts)
citation_carried c t h k ts = λ i. record {
  owner = c.owner;
  source = c.source;
  page = told_same citation_field (λ o. o) a_page c.page t ts h i;
  quality = told_same citation_field (read_by quality_of) a_quality c.quality t ts k i;
  carried = left_kept citation_field c.carried (a_page ∷ a_quality ∷ [])
      (unless c.page a_page ++ unless c.quality a_quality)
      t ts (citation_fields t)
      (missing_more (citation_field t) a_page c.page (unless c.quality a_quality) h
      (missing_one (citation_field t) a_quality c.quality k)) i;
}

-- ---- sources
abbrev is_of_source : Field → Bool
is_of_source x = is_left (a_title ∷ an_author ∷ a_publisher ∷ []) x || is_same x a_holding

source_fields : (known : Known) (t : Tree Line) → is_of_source (source_field known t) ≡ true
source_fields known t =
    let holding : Bool = tagged (codes "REPO") t && names_a (codes "REPO") known (value_of t) in
    let publisher : Bool = tagged (codes "PUBL") t && is_bare t in
    let author : Bool = tagged (codes "AUTH") t && is_bare t in
    row_is is_of_source (tagged (codes "TITL") t && is_bare t) a_title
    (row author an_author (row publisher a_publisher (row holding a_holding carried))) refl
    (row_is is_of_source author an_author (row publisher a_publisher (row holding a_holding carried)) refl
    (row_is is_of_source publisher a_publisher (row holding a_holding carried) refl
    (row_is is_of_source holding a_holding carried refl refl)))

or_left : (a b : Bool) → (a || b) ≡ true → b ≡ false → a ≡ true
or_left true b e n = refl
or_left false b e n = absurd (let wrong : true ≡ false = sym e ∙ n in cc)

pub source_carried : (known : Known) (s : model.Source) (t : Tree Line)
    → is_first (source_field known t) a_title s.title ≡ false
    → is_first (source_field known t) an_author s.author ≡ false
    → is_first (source_field known t) a_publisher s.publisher ≡ false
    → is_same (source_field known t) a_holding ≡ false → (ts : Lines)
    → source_with known (record {
      title = s.title;
      author = s.author;
      publisher = s.publisher;
      holdings = s.holdings;
      carried = s.carried ++ t ∷ [];
    }) ts ≡ source_with known s (t ∷ ts)
source_carried known s t h k l n ts =
    let field : Tree Line → Field = source_field known in λ i. record {
      title = told_same field (λ o. o) a_title s.title t ts h i;
      author = told_same field (λ o. o) an_author s.author t ts k i;
      publisher = told_same field (λ o. o) a_publisher s.publisher t ts l i;
      holdings = s.holdings ++ map holding_from (all_past field a_holding t ts n i);
      carried = left_kept field s.carried (a_title ∷ an_author ∷ a_publisher ∷ [])
          (unless s.title a_title ++ (unless s.author an_author ++ unless s.publisher a_publisher)) t ts
          (or_left (is_left (a_title ∷ an_author ∷ a_publisher ∷ []) (field t)) (is_same (field t) a_holding)
          (source_fields known t) n)
          (missing_more (field t) a_title s.title (unless s.author an_author ++ unless s.publisher a_publisher) h
          (missing_more (field t) an_author s.author (unless s.publisher a_publisher) k
          (missing_one (field t) a_publisher s.publisher l))) i;
    }

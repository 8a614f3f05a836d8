-- Parts of records, and the persons' sides of memberships, have such tags and texts, and room.
use Rattle.std.specs.Prelude.{
  ℕ,
  ◌≡◌,
  ◌==◌,
  true,
  false,
  cond,
  List,
  [],
  ◌∷◌,
  ◌++◌,
  map,
  codes,
  Option,
  Some,
  None,
  refl,
}
use Rattle.std.specs.List.{filter, flat_map}
use Rattle.std.proofs.Common.{arith}
use Rattle.stored_lines.specs.declared.carried.Value.TheVariants as value
use Rattle.record_kinds.specs.Model as model
use Rattle.record_fields.specs.Words.{role_word}
use Rattle.record_fields.specs.declared.words.Partnership.{Partnership}
use Rattle.record_fields.specs.declared.words.Partnership.TheVariants as partnership
use Rattle.record_text.specs.Text.{IsText}
use Rattle.record_shapes.specs.Levels.{AreWithin}
use Rattle.record_shapes.specs.Lists.{EachOf}
use Rattle.record_shapes.specs.Shapes.{
  Side,
  child_line,
  holding_line,
  link_lines,
  mention_line,
  name_line,
  partner_line,
  partner_tag,
  side_line,
  text_line,
  text_lines,
}
use Rattle.archive_state.specs.Texts.{mention_texts, reason_texts, there}
use Rattle.round_trip.proofs.Fitting.{
  AllFit,
  Fits,
  IsGood,
  fits_line,
  fits_more,
  fits_pointer,
  fits_text,
  fits_texts,
  fits_within,
  good_tag,
  is_good_tag,
}
use Rattle.round_trip.proofs.Plain.{role_text}
use Rattle.record_shapes.proofs.Each.{each_back, each_both, each_front, each_parts}

pub holdings_fit : (hs : List model.Holding) → EachOf IsText (flat_map (λ (h : model.Holding). there h.call_number) hs)
    → EachOf IsGood (flat_map (λ (h : model.Holding). h.carried) hs)
    → EachOf (λ (h : model.Holding). AreWithin 97 h.carried) hs → AllFit 98 (map holding_line hs)
holdings_fit [] t g w = tt
holdings_fit (h ∷ hs) t g w =
    let a = each_parts IsText (there h.call_number) (flat_map (λ (x : model.Holding). there x.call_number) hs) t in
    let b = each_parts IsGood h.carried (flat_map (λ (x : model.Holding). x.carried) hs) g in (
      fits_pointer 97 98 (codes "REPO") h.repo (text_lines (codes "CALN") h.call_number ++ h.carried) refl refl
          (each_both (Fits 97) (text_lines (codes "CALN") h.call_number) h.carried
          (fits_texts 97 (codes "CALN") h.call_number (omega arith) refl a.0) (fits_within 97 h.carried w.0 b.0)),
      holdings_fit hs a.1 b.1 w.1,
    )

pub names_fit : (ns : List model.Name) → EachOf IsText (map (λ (n : model.Name). n.text) ns)
    → EachOf IsGood (flat_map (λ (n : model.Name). n.carried) ns)
    → EachOf (λ (n : model.Name). AreWithin 97 n.carried) ns → AllFit 98 (map name_line ns)
names_fit [] t g w = tt
names_fit (n ∷ ns) t g w =
    let b = each_parts IsGood n.carried (flat_map (λ (x : model.Name). x.carried) ns) g in (
      fits_line 97 98 (codes "NAME") (value.Text n.text) n.carried refl (good_tag (codes "NAME") refl) t.0
          (fits_within 97 n.carried w.0 b.0),
      names_fit ns t.1 b.1 w.1,
    )

partner_tag_good : (q : Partnership) → is_good_tag (partner_tag q) ≡ true
partner_tag_good partnership.Husband = refl
partner_tag_good partnership.Wife = refl

pub partners_fit : (ps : List model.Partner)
    → EachOf IsGood (flat_map (λ (p : model.Partner). p.carried ++ p.carried_by_person) ps)
    → EachOf (λ (p : model.Partner). AreWithin 97 p.carried × AreWithin 97 p.carried_by_person) ps
    → AllFit 98 (map partner_line ps)
partners_fit [] g w = tt
partners_fit (p ∷ ps) g w =
    let b = each_parts IsGood (p.carried ++ p.carried_by_person)
    (flat_map (λ (x : model.Partner). x.carried ++ x.carried_by_person) ps) g in (
      fits_pointer 97 98 (partner_tag p.partnership) p.person p.carried refl (partner_tag_good p.partnership)
          (fits_within 97 p.carried w.0.0 (each_front IsGood p.carried p.carried_by_person b.0)),
      partners_fit ps b.1 w.1,
    )

pub children_fit : (cs : List model.Child)
    → EachOf IsGood (flat_map (λ (p : model.Child). p.carried ++ p.carried_by_person) cs)
    → EachOf (λ (p : model.Child). AreWithin 97 p.carried × AreWithin 97 p.carried_by_person) cs
    → AllFit 98 (map child_line cs)
children_fit [] g w = tt
children_fit (p ∷ cs) g w =
    let b = each_parts IsGood (p.carried ++ p.carried_by_person)
    (flat_map (λ (x : model.Child). x.carried ++ x.carried_by_person) cs) g in (
      fits_pointer 97 98 (codes "CHIL") p.person p.carried refl refl
          (fits_within 97 p.carried w.0.0 (each_front IsGood p.carried p.carried_by_person b.0)),
      children_fit cs b.1 w.1,
    )

-- ---- the persons' sides of memberships
abbrev pub SideFits : Side → Type 0
SideFits s = AllFit 97 s.carried

pub sides_fit : (tag : List ℕ) (ss : List Side) → is_good_tag tag ≡ true → EachOf SideFits ss
    → AllFit 98 (map (side_line tag) ss)
sides_fit tag [] t h = tt
sides_fit tag (s ∷ ss) t h = (fits_pointer 97 98 tag s.family s.carried refl t h.0, sides_fit tag ss t h.1)

pub children_sides : (n k : ℕ) (cs : List model.Child)
    → EachOf IsGood (flat_map (λ (p : model.Child). p.carried ++ p.carried_by_person) cs)
    → EachOf (λ (p : model.Child). AreWithin 97 p.carried × AreWithin 97 p.carried_by_person) cs
    → EachOf SideFits (map
    (λ (p : model.Child). (let s : Side = record { family = k; carried = p.carried_by_person } in s))
    (filter (λ (p : model.Child). p.person == n) cs))
children_sides n k [] g w = tt
children_sides n k (p ∷ cs) g w =
    let b = each_parts IsGood (p.carried ++ p.carried_by_person)
    (flat_map (λ (x : model.Child). x.carried ++ x.carried_by_person) cs) g in
    let rest = filter (λ (x : model.Child). x.person == n) cs in
    elim (p.person == n)
    as (λ z. EachOf SideFits
    (map (λ (x : model.Child). (let s : Side = record { family = k; carried = x.carried_by_person } in s))
    (cond z (p ∷ rest) rest))) [
      | true ↦ (
        fits_within 97 p.carried_by_person w.0.1 (each_back IsGood p.carried p.carried_by_person b.0),
        children_sides n k cs b.1 w.1,
      )
      | false ↦ children_sides n k cs b.1 w.1
    ]

pub partners_sides : (n k : ℕ) (ps : List model.Partner)
    → EachOf IsGood (flat_map (λ (p : model.Partner). p.carried ++ p.carried_by_person) ps)
    → EachOf (λ (p : model.Partner). AreWithin 97 p.carried × AreWithin 97 p.carried_by_person) ps
    → EachOf SideFits (map
    (λ (p : model.Partner). (let s : Side = record { family = k; carried = p.carried_by_person } in s))
    (filter (λ (p : model.Partner). p.person == n) ps))
partners_sides n k [] g w = tt
partners_sides n k (p ∷ ps) g w =
    let b = each_parts IsGood (p.carried ++ p.carried_by_person)
    (flat_map (λ (x : model.Partner). x.carried ++ x.carried_by_person) ps) g in
    let rest = filter (λ (x : model.Partner). x.person == n) ps in
    elim (p.person == n)
    as (λ z. EachOf SideFits
    (map (λ (x : model.Partner). (let s : Side = record { family = k; carried = x.carried_by_person } in s))
    (cond z (p ∷ rest) rest))) [
      | true ↦ (
        fits_within 97 p.carried_by_person w.0.1 (each_back IsGood p.carried p.carried_by_person b.0),
        partners_sides n k ps b.1 w.1,
      )
      | false ↦ partners_sides n k ps b.1 w.1
    ]

-- ---- register entries
link_fits : (o : Option model.Link) → EachOf IsText (reason_texts o) → AllFit 2 (link_lines o)
link_fits None h = tt
link_fits (Some l) h = (
  fits_pointer 1 2 (codes "_LINK") l.person (text_line (codes "_WHY") l.reason ∷ []) refl refl
      (fits_text 1 (codes "_WHY") l.reason (omega arith) refl h.0, tt),
  tt,
)

pub mentions_fit : (ms : List model.Mention) → EachOf IsText (flat_map mention_texts ms)
    → AllFit 98 (map mention_line ms)
mentions_fit [] h = tt
mentions_fit (x ∷ ms) h =
    let b = each_parts IsText (mention_texts x) (flat_map mention_texts ms) h in (
      fits_line 97 98 (codes "_MENT") (value.Text x.name)
          (text_line (codes "_ROLE") (role_word x.role) ∷ link_lines x.link) refl (good_tag
          (codes "_MENT") refl) b.0.0 (
            fits_text 97 (codes "_ROLE") (role_word x.role) (omega arith) refl (role_text x.role),
            fits_more 2 97 (link_lines x.link) (omega arith) (link_fits x.link b.0.1),
          ),
      mentions_fit ms b.1,
    )

-- An import of any forest into a sound archive leaves it sound.
use Rattle.std.proofs.Common.{◌≡◌, ℕ, ◌<◌, ◌≤◌, List, length, refl, sym, ap, ◌∙◌, subst, inl, inr, arith}
use Rattle.std.specs.Prelude.{Some, None, Ok}
use Rattle.std.specs.FinMap.{get}
use Rattle.stored_lines.specs.Line.{Lines}
use Rattle.record_kinds.specs.declared.record.Record.{Record}
use Rattle.record_kinds.specs.declared.record.Record.TheVariants as kind
use Rattle.archive_state.specs.Links.{a_place}
use Rattle.record_shapes.specs.Lists.{EachOf}
use Rattle.archive_state.specs.Changes.{Batch}
use Rattle.archive_state.specs.Content.{Content, Records}
use Rattle.archive_state.specs.Sound.{IsSound}
use Rattle.archive_state.specs.declared.changes.Numbered.{Numbered}
use Rattle.archive_state.proofs.Changing.{cases_of, more_keeps}
use Rattle.archive_state.proofs.Keeping.{stands_as}
use Rattle.archive_state.proofs.Known.{path_known}
use Rattle.gedcom_tree.specs.Forest.{Item}
use Rattle.gedcom_tree.specs.Text.{IsForest}
use Rattle.import_definitions.specs.Made.{batch, made}
use Rattle.import_definitions.specs.Numbers.{Drawing, Places, finished}
use Rattle.imports.specs.Imported.{ImportsStaySound, StandsAfter, imported, numbers}
use Rattle.imports.specs.Read.{IsNode, PointsWithin, rows}
use Rattle.imports.proofs.Drawn.{drawing_by, made_is, numbers_are_new, places_by}
use Rattle.imports.proofs.Filed.{files_have_nodes}
use Rattle.imports.proofs.Said.{path_stands}
use Rattle.imports.proofs.Rooted.{There}
use Rattle.imports.proofs.SoundStanding.{ends, new_holds, records_stand}
use Rattle.imports.proofs.New.{IsNew, all_new, old_and_new, two_new}
use Rattle.record_shapes.proofs.Each.{each_mapped, each_under}

-- ---- the whole
whole : (c : Content) (file : List Item) → IsSound c → IsForest file
    → made c file ≡ Ok (batch (places_by c file) (drawing_by c file))
    → IsSound (imported c (batch (places_by c file) (drawing_by c file)))
whole c file sound forest e =
    let rs : Lines = rows file in
    let w : Places = places_by c file in
    let d : Drawing = drawing_by c file in
    let b : Batch = batch w d in
    let after : Content = imported c b in
    let A : Records = after.records in
    let stands : StandsAfter c b = records_stand c file b sound e in
    let is = made_is c file b e in
    let count = numbers_are_new c file b e in
    let zero_none : get A 0 ≡ None = elim (cases_of A 0) as (λ _. get A 0 ≡ None) [
      | inr gone ↦ gone
      | inl (r, at) ↦ elim (cases_of c.records 0) as (λ _. get A 0 ≡ None) [
        | inl (q, was) ↦
            let low : 0 < 0 = (sound.rules.numbered 0 q was).0 in absurd (omega arith)
        | inr none_was ↦
            let low : c.next ≤ 0 = (stands.new 0 r none_was at).0 in
            let begun_is : 0 < c.next = sound.begun in absurd (omega arith)
      ]
    ] in
    let all : EachOf (There A w d) d.drawn = each_under (λ (p : Numbered). get A p.number ≡ Some p.«record»)
    (finished w d) d.drawn stands.batch in
    let nodes : EachOf (λ t. IsNode t × PointsWithin (length rs) t) rs = files_have_nodes file forest in
    let New : Numbered → Type 0 = IsNew c sound A w rs stands.still (λ q n x. x) (λ q k x. x) all zero_none nodes in
    let news : EachOf New b.records = each_mapped New (finished w d) d.drawn
    (all_new c sound A w rs stands.still (λ q n x. x) (λ q k x. x) all zero_none nodes) in
    let new_is : (n : ℕ) (r : Record) → get c.records n ≡ None → get A n ≡ Some r
    → New (record { number = n; «record» = r }) = λ n r gone at.
    new_holds New b.records c.records c.next b.next n r count.0 news gone at in
    more_keeps c after sound (record {
      later = ends (numbers b) c.next b.next count.0;
      bounded = count.1;
      still = stands.still;
      slips = refl;
      new = λ n r gone at. ((new_is n r gone at).keeps, (new_is n r gone at).low);
      paths = λ n path gone has.
          let there = stands_as a_place (get A n) (path_stands A n path ((path_known A n path).0 has)) in
          (new_is n there.0 gone there.1).limits path ((path_known A n path).0 has);
      keys = λ n k x gone at (y, there, (source, kinds, page, item)).
          let one = (new_is n (kind.Entry x) gone at).entry x refl in
          elim (cases_of c.records k) as (λ _. n ≡ k) [
            | inl (q, was) ↦
                let both : Some q ≡ Some (kind.Entry y) = sym (stands.still k q was) ∙ there in
                absurd (old_and_new c sound A w rs stands.still (λ q n x. x)
                (λ q k x. x) all zero_none nodes is.0 n k x y one
                (was ∙ both) source)
            | inr none_was ↦ two_new c sound A w rs stands.still (λ q n x. x)
                (λ q k x. x) all zero_none nodes is.0 n k x y one
                ((new_is k (kind.Entry y) none_was there).entry y refl) source kinds page item
          ];
    })

pub imports_stay_sound : ImportsStaySound
imports_stay_sound c file b sound forest e =
    let is = (made_is c file b e).1 in
    subst (λ (x : Batch). IsSound (imported c x)) (sym is.whole) (whole c file sound forest (e ∙ ap Ok is.whole))

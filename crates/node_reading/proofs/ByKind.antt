-- What a line of level 0 is read as, by its kind.
use Rattle.std.specs.Prelude.{
  ℕ,
  ◌≡◌,
  Bool,
  true,
  false,
  List,
  codes,
  bytes_eq,
  if◌then◌else◌,
  Result,
  Ok,
  Err,
  IfOk,
  refl,
}
use Rattle.std.proofs.Common.{ap, sym, ◌∙◌}
use Rattle.stored_lines.specs.Tree.{Tree, node, forest_of, list_of}
use Rattle.stored_lines.specs.Line.{Line, Lines}
use Rattle.stored_lines.specs.declared.carried.Value.{Value}
use Rattle.stored_lines.proofs.Back.{list_of_forest_of}
use Rattle.record_shapes.specs.Forms.{Known}
use Rattle.record_shapes.specs.Reading as reading
use Rattle.node_reading.specs.declared.drafts.Draft.{Draft}
use Rattle.node_reading.specs.declared.kinds.NodeKind.{NodeKind}
use Rattle.node_reading.specs.declared.kinds.NodeKind.TheVariants as node_kind
use Rattle.node_reading.specs.Trees.{
  draft_tree,
  family_tree,
  kind_named,
  other_tree,
  person_tree,
  place_tree,
  repo_tree,
  source_tree,
  tree_by,
}

-- a choice of a kind is a choice of what is read
module _ (earlier known : Known) (tag : List ℕ) (v : Value) (ts : Lines) where
  abbrev by : NodeKind → Tree reading.Draft
  by k = tree_by earlier known k tag v ts

  choice : (b : Bool) (k l : NodeKind) → by (if b then k else l) ≡ (if b then by k else by l)
  choice true k l = refl
  choice false k l = refl

  by_tag : by (kind_named tag) ≡ (if bytes_eq tag (codes "_LOC") then place_tree earlier ts
      else (if bytes_eq tag (codes "REPO") then repo_tree ts
      else (if bytes_eq tag (codes "SOUR") then source_tree known ts
      else (if bytes_eq tag (codes "INDI") then person_tree known ts
      else (if bytes_eq tag (codes "FAM") then family_tree known ts else other_tree known tag v ts)))))
  by_tag =
      let loc : Bool = bytes_eq tag (codes "_LOC") in
      let repo : Bool = bytes_eq tag (codes "REPO") in
      let sour : Bool = bytes_eq tag (codes "SOUR") in
      let indi : Bool = bytes_eq tag (codes "INDI") in
      let fam : Bool = bytes_eq tag (codes "FAM") in
      let last : NodeKind = if fam then node_kind.Family else node_kind.Other in
      let fourth : NodeKind = if indi then node_kind.Person else last in
      let third : NodeKind = if sour then node_kind.Source else fourth in
      let second : NodeKind = if repo then node_kind.Repo else third in
      choice loc node_kind.Place second
      ∙ ap (λ x. if loc then place_tree earlier ts else x) (choice repo node_kind.Repo third
      ∙ ap (λ x. if repo then repo_tree ts else x) (choice sour node_kind.Source fourth
      ∙ ap (λ x. if sour then source_tree known ts else x) (choice indi node_kind.Person last
      ∙ ap (λ x. if indi then person_tree known ts else x) (choice fam node_kind.Family node_kind.Other))))

pub draft_is : (earlier known : Known) (t : Tree Line) (l : Line) (ts : Lines) (k : NodeKind)
    → node l (forest_of ts) ≡ t → k ≡ kind_named l.tag
    → tree_by earlier known k l.tag l.value ts ≡ reading.draft_of earlier known t
draft_is earlier known t l ts k is named =
    ap (λ x. tree_by earlier known x l.tag l.value ts) named
    ∙ ap (λ us. tree_by earlier known (kind_named l.tag) l.tag l.value us) (sym (list_of_forest_of ts))
    ∙ by_tag earlier known l.tag l.value (list_of (forest_of ts))
    ∙ ap (reading.draft_of earlier known) is

pub ok_as : {E : Type 0} (r : Result Draft E) {x : Tree reading.Draft} (y : Tree reading.Draft)
    → IfOk r (λ d. draft_tree d ≡ x) → x ≡ y → IfOk r (λ d. draft_tree d ≡ y)
ok_as (Ok d) y h e = h ∙ e
ok_as (Err x) y h e = tt

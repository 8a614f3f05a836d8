-- A draft that is a family was read from the node of a family.
use Rattle.std.proofs.Common.{◌≡◌, ℕ, Bool, true, false, List, refl, sym, ap, ◌∙◌, cond}
use Rattle.std.specs.Prelude.{Option, Some, None, [], bytes_eq, codes, option_map}
use Rattle.std.specs.List.{flat_map, slice_get}
use Rattle.std.specs.Option.{unwrap_or}
use Rattle.stored_lines.specs.Tree.{Tree, node, none, forest_of, list_of}
use Rattle.stored_lines.specs.Line.{Line, Lines}
use Rattle.stored_lines.specs.declared.carried.Value.{Value}
use Rattle.record_kinds.specs.Model as model
use Rattle.record_kinds.specs.declared.record.Record.TheVariants as kind
use Rattle.record_shapes.specs.Entries.{below_on}
use Rattle.record_shapes.specs.Fields.{family_field, person_field}
use Rattle.record_shapes.specs.Forms.{Known, tag_of}
use Rattle.record_shapes.specs.Reading.{
  Draft,
  draft_if,
  draft_of,
  entry_or_other,
  family_from,
  person_from,
  place_from,
  read,
  repo_from,
  source_from,
}
use Rattle.import_definitions.specs.Positions.{known}
use Rattle.file_records.specs.Drafts.{ReadsFamily}
use Rattle.list_laws.proofs.Outcomes.{some_is}

-- the family that a draft is
abbrev family_in : Tree Draft → Option model.Family
family_in (node (read (kind.Family f) path) owned) = Some f
family_in _ = None

entry_no_family : (tag : List ℕ) (v : Value) (ts : Lines) (o : Option model.Entry)
    → family_in (node (read (entry_or_other tag v ts o) None) none) ≡ None
entry_no_family tag v ts None = refl
entry_no_family tag v ts (Some e) = refl

none_some : {A B : Type 0} (x : A) → ◌≡◌ {A = Option A} None (Some x) → B
none_some x e = absurd cc

module _ (earlier k : Known) (l : Line) (ts : Lines) (entry : Option model.Entry) where
  by_tag : (a b c d e : Bool) (f : model.Family)
      → family_in (cond a (node (read (kind.Place (place_from earlier ts)) None) none)
      (cond b (node (read (kind.Repo (repo_from ts)) None) none)
      (cond c (node (read (kind.Source (source_from k ts)) None) none)
      (cond d (node (read (kind.Person (person_from k ts)) None)
      (forest_of (flat_map (λ t. draft_if k (person_field k t) t) ts)))
      (cond e (node (read (kind.Family (family_from k ts)) None)
      (forest_of (flat_map (λ t. draft_if k (family_field k t) t) ts)))
      (node (read (entry_or_other l.tag l.value ts entry) None) none)))))) ≡ Some f
      → (e ≡ true) × (f ≡ family_from k ts)
  by_tag true b c d e f h = none_some f h
  by_tag false true c d e f h = none_some f h
  by_tag false false true d e f h = none_some f h
  by_tag false false false true e f h = none_some f h
  by_tag false false false false true f h = (refl, sym (some_is (family_from k ts) f h))
  by_tag false false false false false f h =
      none_some f (sym (entry_no_family l.tag l.value ts entry) ∙ h)

-- of a line at a position
pub family_read : (rs : Lines) (earlier : Known) (k : ℕ) (r : Tree Line) → slice_get rs k ≡ Some r
    → (t : Tree Draft) → t ≡ draft_of earlier (known rs) r → ReadsFamily rs k t
family_read rs earlier k (node l f) at t is = λ g owned e.
    let both = by_tag earlier (known rs) l (list_of f) _ (bytes_eq l.tag (codes "_LOC"))
    (bytes_eq l.tag (codes "REPO")) (bytes_eq l.tag (codes "SOUR")) (bytes_eq l.tag (codes "INDI"))
    (bytes_eq l.tag (codes "FAM")) g (sym (ap family_in is) ∙ ap family_in e) in (
      ap (λ o. bytes_eq (unwrap_or (option_map tag_of o) []) (codes "FAM")) at ∙ both.0,
      both.1 ∙ ap (λ o. family_from (known rs) (below_on o)) (sym at),
    )

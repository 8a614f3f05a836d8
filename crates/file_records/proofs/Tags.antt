-- The tag at a position, of the nodes of a file and of the lines that they are.
use Rattle.std.proofs.Common.{◌≡◌, ℕ, List, [], refl, sym, ap, ◌∙◌}
use Rattle.std.specs.Prelude.{bytes_eq, map, Option, Some, None, option_map}
use Rattle.std.specs.List.{slice_get}
use Rattle.std.specs.Option.{unwrap_or}
use Rattle.std.proofs.lemmas.Option.{slice_get-map}
use Rattle.stored_lines.specs.Tree.{Tree, node, label}
use Rattle.stored_lines.specs.Line.{Line}
use Rattle.record_shapes.specs.Forms.{tag_of}
use Rattle.import_definitions.specs.Kinds.{kind_named}
use Rattle.import_definitions.specs.Nodes.{FileNode}
use Rattle.import_definitions.specs.Lines.{lined_root, lined_roots, place_in, roots, unlined}
use Rattle.import_definitions.specs.declared.kinds.RootKind.{RootKind}
use Rattle.field_rows.specs.Named.{named_tag}
use Rattle.field_rows.specs.declared.known.Named.{Named}
use Rattle.field_rows.specs.declared.known.Named.TheVariants as named
use Rattle.import_definitions.specs.Positions.{tag_at}
use Rattle.file_records.specs.KnownViews.{is_kind_at}
use Rattle.file_records.proofs.KindTags.{kind_is}

-- the tag of a node, where there is one
abbrev pub tag_in : Option FileNode → List ℕ
tag_in None = []
tag_in (Some t) = (label t).tag

root_tag : (place : List ℕ → Option ℕ) (o : Option FileNode)
    → unwrap_or (option_map tag_of (option_map unlined (option_map (lined_root place) o))) [] ≡ tag_in o
root_tag place None = refl
root_tag place (Some (node l f)) = refl

pub tag_at_root : (ks : List FileNode) (k : ℕ) → tag_at (roots ks) k ≡ tag_in (slice_get ks k)
unfolding roots
tag_at_root ks k =
    ap (λ (o : Option (Tree Line)). unwrap_or (option_map tag_of o) []) (slice_get-map unlined (lined_roots ks) k
    ∙ ap (option_map unlined) (slice_get-map (lined_root (place_in ks)) ks k))
    ∙ root_tag (place_in ks) (slice_get ks k)

kind_told : (n : Named) (o : Option FileNode)
    → is_kind_at n (option_map (λ (t : FileNode). kind_named (label t).tag) o) ≡ bytes_eq (tag_in o) (named_tag n)
kind_told named.Repo None = refl
kind_told named.Source None = refl
kind_told named.Person None = refl
kind_told named.Family None = refl
kind_told n (Some t) = kind_is n (label t).tag

-- the kinds of nodes tell which are records of a kind
pub is_kind_there : (n : Named) (ks : List FileNode) (kinds : List RootKind) (k : ℕ)
    → kinds ≡ map (λ (t : FileNode). kind_named (label t).tag) ks
    → is_kind_at n (slice_get kinds k) ≡ bytes_eq (tag_at (roots ks) k) (named_tag n)
is_kind_there n ks kinds k e =
    ap (λ (all : List RootKind). is_kind_at n (slice_get all k)) e
    ∙ ap (is_kind_at n) (slice_get-map (λ (t : FileNode). kind_named (label t).tag) ks k)
    ∙ kind_told n (slice_get ks k) ∙ ap (λ tag. bytes_eq tag (named_tag n)) (sym (tag_at_root ks k))

-- Of an export no node is left out, no value is dropped, and no pointer names nothing.
use Rattle.std.specs.Prelude.{
  ℕ,
  ◌≡◌,
  Bool,
  true,
  false,
  cond,
  List,
  [],
  ◌∷◌,
  ◌++◌,
  map,
  Option,
  None,
  option_map,
  is_some,
  refl,
}
use Rattle.std.proofs.Common.{ap, sym, ◌∙◌, subst}
use Rattle.stored_lines.specs.Tree.{Tree, Forest, node, none, more, children, label, relabel_all}
use Rattle.stored_lines.specs.Line.{Line}
use Rattle.stored_lines.specs.declared.carried.Value.{Value}
use Rattle.stored_lines.specs.declared.carried.Value.TheVariants as value
use Rattle.receipts.specs.declared.report.ReportLine.{ReportLine}
use Rattle.record_kinds.specs.declared.record.Record.TheVariants as kind
use Rattle.archive_state.specs.Links.{Link, forest_links, line_links, value_links}
use Rattle.record_shapes.specs.Lists.{EachOf}
use Rattle.archive_state.specs.Content.{Content, Records}
use Rattle.archive_state.specs.Sound.{IsSound}
use Rattle.archive_state.specs.Sound as sound
use Rattle.gedcom_tree.specs.Forest.{Item}
use Rattle.gedcom_tree.specs.Text.{IsSame}
use Rattle.import_definitions.specs.Kinds.{is_other, kind_named}
use Rattle.import_definitions.specs.Nodes.{FileLine, FileNode}
use Rattle.import_definitions.specs.Roots.{candidates, is_kept, kept}
use Rattle.import_definitions.specs.Lines.{place_in, resolve}
use Rattle.import_definitions.specs.Reports.{dangles, dangling, dropped, is_empty, said_of_root, said_of_roots}
use Rattle.node_writing.specs.Nodes.{mark_of, named, named_value}
use Rattle.import_definitions.specs.Report.{said_of_lines}
use Rattle.gedcom_export.specs.Forest.{exported}
use Rattle.gedcom_export.specs.Names.{name_of}
use Rattle.gedcom_export.specs.Order.{Numbered}
use Rattle.round_trip.proofs.Found.{N, candidates_are, each_kept, kept_are, ns, other_kind, place_is}
use Rattle.round_trip.proofs.Nodes.{lines_of}
use Rattle.round_trip.proofs.Ordered.{order, order_stands, StandsAt0}
use Rattle.round_trip.proofs.Owning.{node_fine}
use Rattle.round_trip.proofs.Regrown.{clear, cleared, filed, in_file, kept_same, position_clear}
use Rattle.round_trip.proofs.Inverse.{flat_none}
use Rattle.record_shapes.proofs.Each.{each_more, each_zip, each_mapped, each_parts, each_under}
use Rattle.list_laws.proofs.Booleans.{true_not_false}

-- ---- the numbers of lines are not looked at
none_either : (a b : Bool) (r q : ReportLine) → cond a [] (cond b [] (r ∷ [])) ≡ []
    → cond a [] (cond b [] (q ∷ [])) ≡ []
none_either true b r q e = refl
none_either false true r q e = refl
none_either false false r q e = absurd cc

first_none : (a b : Bool) (r : ReportLine) → a ≡ true → cond a [] (cond b [] (r ∷ [])) ≡ []
first_none true b r e = refl
first_none false b r e = absurd cc

dropped_clear : (t : FileNode) → dropped (label (cleared t)) ≡ [] → dropped (label t) ≡ []
dropped_clear (node x f) e = none_either (is_other (kind_named x.tag)) (is_empty x.value) _ _ e

-- each pointer names a node
abbrev pub AllNamed : (List ℕ → Option ℕ) → Forest FileLine → Type 0
AllNamed place none = Unit {0}
AllNamed place (more (node l f) ts) = (is_some (resolve place l.value) ≡ true) × AllNamed place f × AllNamed place ts

named_clear : (place : List ℕ → Option ℕ) (f : Forest FileLine) → AllNamed place (relabel_all clear f)
    → AllNamed place f
named_clear place none h = tt
named_clear place (more (node l f) ts) h = (h.0, named_clear place f h.1, named_clear place ts h.2)

none_dangle : (place : List ℕ → Option ℕ) (f : Forest FileLine) → AllNamed place f → dangling place f ≡ []
none_dangle place none h = refl
none_dangle place (more (node l f) ts) h =
    (λ i. cond (h.0 i) (dangling place f) (dangles l ∷ []) ++ dangling place ts)
    ∙ (λ i. none_dangle place f h.1 i ++ none_dangle place ts h.2 i)

named_of_cleared : (place : List ℕ → Option ℕ) (t : FileNode) → AllNamed place (children (cleared t))
    → AllNamed place (children t)
named_of_cleared place (node x f) h = named_clear place f h

module _ (c : Content) (is : IsSound c) where
  abbrev m : Records
  m = c.records

  abbrev S : Link → Type 0
  S = sound.Stands m

  -- ---- values of nodes
  no_value : (e : Numbered) → StandsAt0 m e → dropped (label (N c is e)) ≡ []
  no_value (k, kind.Other x) st = first_none (is_other (kind_named x.tag)) (is_empty (named_value (name_of m) x.value))
      _ (other_kind c is k x st.0)
  no_value (k, kind.Event x) st = absurd (true_not_false (sym st.1))
  no_value (k, kind.Citation x) st = absurd (true_not_false (sym st.1))
  no_value (k, kind.Place x) st = refl
  no_value (k, kind.Repo x) st = refl
  no_value (k, kind.Source x) st = refl
  no_value (k, kind.Person x) st = refl
  no_value (k, kind.Family x) st = refl
  no_value (k, kind.Entry x) st = refl

  -- ---- pointers of lines
  value_named : (v : Value) → EachOf S (value_links v)
      → is_some (resolve (place_in (ns c is)) (named_value (name_of m) v)) ≡ true
  value_named (value.Text t) h = refl
  value_named (value.Ref n) h = ap (λ o. is_some (option_map value.Ref o)) (place_is c is n h.0)

  lines_named : (f : Forest Line) → EachOf S (forest_links f)
      → AllNamed (place_in (ns c is)) (relabel_all in_file (relabel_all (mark_of (name_of m) None) f))
  lines_named none h = tt
  lines_named (more (node l f) ts) h =
      let both : EachOf S (line_links (node l f)) × EachOf S (forest_links ts) =
      each_parts S (line_links (node l f)) (forest_links ts) h in
      let inner : EachOf S (value_links l.value) × EachOf S (forest_links f) =
      each_parts S (value_links l.value) (forest_links f) both.0 in
      (value_named l.value inner.0, lines_named f inner.1, lines_named ts both.1)

  node_named : (own : List ℕ) (t : Tree Line) → EachOf S (forest_links (children t))
      → AllNamed (place_in (ns c is)) (children (filed (named (name_of m) own t)))
  node_named own (node l f) h = lines_named f h

  -- ---- of a file with the forest of the export
  module _ (society : List ℕ) (f : List Item) (e : IsSame f (exported m society)) where
    all_kept : EachOf (λ t. is_kept (candidates f) t ≡ true) (candidates f)
    all_kept = each_more (λ t. is_kept (map cleared (candidates f)) (cleared t) ≡ true)
        (λ t. is_kept (candidates f) t ≡ true) (λ t h. sym (kept_same (candidates f) t) ∙ h) (candidates f)
        (each_under (λ t. is_kept (map cleared (candidates f)) t ≡ true) cleared (candidates f)
        (subst (λ us. EachOf (λ t. is_kept us t ≡ true) us) (sym (candidates_are c is society f e)) (each_kept c is)))

    none_dropped : EachOf (λ t. dropped (label t) ≡ []) (candidates f)
    none_dropped = each_more (λ t. dropped (label (cleared t)) ≡ []) (λ t. dropped (label t) ≡ []) dropped_clear
        (candidates f)
        (each_under (λ t. dropped (label t) ≡ []) cleared (candidates f)
        (subst (EachOf (λ t. dropped (label t) ≡ [])) (sym (candidates_are c is society f e))
        (each_mapped (λ t. dropped (label t) ≡ []) (N c is) (order m)
        (each_more (StandsAt0 m) (λ x. dropped (label (N c is x)) ≡ []) no_value (order m) (order_stands m)))))

    pub no_roots_said : said_of_roots (candidates f) ≡ []
    no_roots_said = flat_none (said_of_root (candidates f)) (candidates f)
        (each_zip (λ t. is_kept (candidates f) t ≡ true) (λ t. dropped (label t) ≡ [])
        (λ t. said_of_root (candidates f) t ≡ [])
        (λ t k d. ap (λ b. cond b (dropped (label t)) (dangles (label t) ∷ [])) k ∙ d) (candidates f) all_kept
        none_dropped)

    abbrev ks : List FileNode
    ks = kept (candidates f)

    all_named : EachOf (λ t. AllNamed (place_in ks) (children t)) ks
    all_named = each_more (λ t. AllNamed (place_in (map cleared ks)) (children (cleared t)))
        (λ t. AllNamed (place_in ks) (children t))
        (λ t h. named_of_cleared (place_in ks) t
        (subst (λ (place : List ℕ → Option ℕ). AllNamed place (children (cleared t)))
        (λ i name. position_clear name 0 ks i) h)) ks
        (each_under (λ t. AllNamed (place_in (map cleared ks)) (children t)) cleared ks
        (subst (λ us. EachOf (λ t. AllNamed (place_in us) (children t)) us) (sym (kept_are c is society f e))
        (each_mapped (λ t. AllNamed (place_in (ns c is)) (children t)) (N c is) (order m)
        (each_more (StandsAt0 m) (λ x. AllNamed (place_in (ns c is)) (children (N c is x)))
        (λ x st. node_named (name_of m x.0) (lines_of m x) (node_fine c is x st)) (order m) (order_stands m)))))

    pub no_lines_said : said_of_lines ks ≡ []
    no_lines_said = flat_none (λ (t : FileNode). dangling (place_in ks) (children t)) ks
        (each_more (λ t. AllNamed (place_in ks) (children t)) (λ t. dangling (place_in ks) (children t) ≡ [])
        (λ t h. none_dangle (place_in ks) (children t) h) ks all_named)

-- What holds of each carried line of a record, and of each child of a family, after a merge.
use Rattle.std.proofs.Common.{ℕ, List, [], ◌∷◌, ◌++◌, sym, subst}
use Rattle.std.specs.Prelude.{◌==◌}
use Rattle.std.specs.List.{flat_map}
use Rattle.std.proofs.lemmas.Grind.{flat_map-append}
use Rattle.stored_lines.specs.Tree.{Tree}
use Rattle.stored_lines.specs.Line.{Line, Lines}
use Rattle.record_kinds.specs.Model as model
use Rattle.record_kinds.specs.declared.record.Record.{Record}
use Rattle.record_kinds.specs.declared.record.Record.TheVariants as kind
use Rattle.archive_state.specs.Carried.{carried}
use Rattle.record_shapes.specs.Lists.{EachOf}
use Rattle.archive_state.specs.Merging.{
  once_in,
  once_child,
  child_of_all,
  others,
  joined_child,
  joined_person,
  second_sex,
}
use Rattle.record_shapes.proofs.Each.{each_of_flat, each_flat, each_both, each_front, each_back}
use Rattle.merging.proofs.Once.{chosen}

-- ---- children joined
module _ (Q : model.Child → Type 0) (into : (c d : model.Child) → Q c → Q d → Q (joined_child c d)) where
  all_into : (n : ℕ) (c : model.Child) (ds : List model.Child) → Q c → EachOf Q ds → Q (child_of_all n c ds)
      × EachOf Q (others n ds)
  all_into n c [] h k = (h, tt)
  all_into n c (d ∷ ds) h k = (
    chosen Q (d.person == n) (child_of_all n (joined_child c d) ds) (child_of_all n c ds)
        (λ e. (all_into n (joined_child c d) ds (into c d h k.0) k.1).0) (λ e. (all_into n c ds h k.1).0),
    chosen (EachOf Q) (d.person == n) (others n ds) (d ∷ others n ds) (λ e. (all_into n c ds h k.1).1)
        (λ e. (k.0, (all_into n c ds h k.1).1)),
  )

  pub children_into : (n : ℕ) (cs : List model.Child) → EachOf Q cs → EachOf Q (once_child n cs)
  children_into n [] h = tt
  children_into n (c ∷ cs) h = chosen (EachOf Q) (c.person == n) (child_of_all n c cs ∷ others n cs)
      (c ∷ once_child n cs)
      (λ e. all_into n c cs h.0 h.1) (λ e. (h.0, children_into n cs h.1))

-- ---- carried lines of which something holds
module _ (OfLine : Tree Line → Type 0) where
  abbrev OfChild : model.Child → Type 0
  OfChild c = EachOf OfLine (c.carried ++ c.carried_by_person)

  child_into : (c d : model.Child) → OfChild c → OfChild d → OfChild (joined_child c d)
  child_into c d h k =
      each_both OfLine (c.carried ++ d.carried) (c.carried_by_person ++ d.carried_by_person)
      (each_both OfLine c.carried d.carried (each_front OfLine c.carried c.carried_by_person h)
      (each_front OfLine d.carried d.carried_by_person k))
      (each_both OfLine c.carried_by_person d.carried_by_person (each_back OfLine c.carried c.carried_by_person h)
      (each_back OfLine d.carried d.carried_by_person k))

  family_lines : (n : ℕ) (x : model.Family) → EachOf OfLine (carried (kind.Family x))
      → EachOf OfLine (carried (once_in n (kind.Family x)))
  family_lines n x h =
      let of_partner : model.Partner → Lines = λ p. p.carried ++ p.carried_by_person in
      let of_child : model.Child → Lines = λ c. c.carried ++ c.carried_by_person in
      let rest : EachOf OfLine (flat_map of_child x.children ++ x.carried) = each_back OfLine
      (flat_map of_partner x.partners) (flat_map of_child x.children ++ x.carried) h in
      each_both OfLine (flat_map of_partner x.partners) (flat_map of_child (once_child n x.children) ++ x.carried)
      (each_front OfLine (flat_map of_partner x.partners) (flat_map of_child x.children ++ x.carried) h)
      (each_both OfLine (flat_map of_child (once_child n x.children)) x.carried
      (each_flat OfLine of_child (once_child n x.children)
      (children_into OfChild child_into n x.children
      (each_of_flat OfLine of_child x.children (each_front OfLine (flat_map of_child x.children) x.carried rest))))
      (each_back OfLine (flat_map of_child x.children) x.carried rest))

  pub lines_once : (n : ℕ) (r : Record) → EachOf OfLine (carried r) → EachOf OfLine (carried (once_in n r))
  lines_once n (kind.Family x) h = family_lines n x h
  lines_once n (kind.Place x) h = h
  lines_once n (kind.Repo x) h = h
  lines_once n (kind.Source x) h = h
  lines_once n (kind.Person x) h = h
  lines_once n (kind.Citation x) h = h
  lines_once n (kind.Event x) h = h
  lines_once n (kind.Entry x) h = h
  lines_once n (kind.Other x) h = h

  -- those of two persons and of the second sex
  pub lines_joined : (k g : model.Person) → EachOf OfLine (carried (kind.Person k))
      → EachOf OfLine (carried (kind.Person g)) → EachOf OfLine (second_sex k.sex g.sex)
      → EachOf OfLine (carried (kind.Person (joined_person k g)))
  lines_joined k g a b sex =
      let of_name : model.Name → Lines = λ n. n.carried in
      each_both OfLine (flat_map of_name (k.names ++ g.names)) (k.carried ++ (g.carried ++ second_sex k.sex g.sex))
      (subst (EachOf OfLine) (sym (flat_map-append of_name k.names g.names))
      (each_both OfLine (flat_map of_name k.names) (flat_map of_name g.names)
      (each_front OfLine (flat_map of_name k.names) k.carried a)
      (each_front OfLine (flat_map of_name g.names) g.carried b)))
      (each_both OfLine k.carried (g.carried ++ second_sex k.sex g.sex)
      (each_back OfLine (flat_map of_name k.names) k.carried a)
      (each_both OfLine g.carried (second_sex k.sex g.sex)
      (each_back OfLine (flat_map of_name g.names) g.carried b) sex))
